-- The laws of a remark, of any float and any number of steps, as specs/Told states them; they are proved in floats, where the place is. Assumes nothing.
use Rattle.floats.proofs.Exact as exact
use Rattle.floats.proofs.Remarks as remark
use Rattle.remarks.specs.Told.{OnlyWhole, WholeIsOn, NeverLower, TellsHalf, TellsAlone, ZeroIsOn, HalfIsBelow}

pub only_whole : OnlyWhole
only_whole = remark.on_whole

pub whole_is_on : WholeIsOn
whole_is_on = exact.whole_on

pub never_lower : NeverLower
never_lower = remark.remark_order

pub tells_half : TellsHalf
tells_half = remark.lies

pub tells_alone : TellsAlone
tells_alone = remark.told

pub zero_is_on : ZeroIsOn
zero_is_on = exact.zero_on

pub half_is_below : HalfIsBelow
half_is_below = exact.half_below
