-- `whole::scaled` meets its contract: each step of its code is a step of Offset. Assumes nothing.
use mir.Syntax.{w64}
use mir.ValLaws.{to_z_pos}
use Rattle.whole.specs.Arith.{scaled}
use Rattle.whole.proofs.Words.{word_as}
use Rattle.whole.proofs.Offset.{dividend_is, quotient_fits, floor_fits, floor_is}
use Rattle.whole.proofs.scaled.Goals as goal

pub returns : goal.returns
unfolding scaled
returns c =
    rw (dividend_is c.args.h c.args.x c.ranges.h c.ranges.x c.requires, to_z_pos w64 _ (quotient_fits c.args.h c.args.x c.ranges.h c.ranges.x c.requires))
    (word_as (floor_is c.args.h c.args.x c.ranges.h c.ranges.x c.requires) (floor_fits c.args.h c.args.x c.ranges.h c.ranges.x c.requires))
