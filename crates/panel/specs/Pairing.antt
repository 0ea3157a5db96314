-- What the panel works with on the way to a needle, for the contracts of its inner functions: two sides, each worked out beside the other.
use Rattle.std.specs.Prelude.{Bool, true, false, cond, ℤ, pos, ◌-ℤ◌, Result, Ok, Err}
use Rattle.std.specs.Int.Signed.{lt_z}
use Rattle.refusals.specs.declared.Refusal.{Refusal}
use Rattle.sea.specs.declared.Sounding.{Sounding}
use Rattle.sea.specs.Water.{sounding_of}
use Rattle.readings.specs.declared.Taken.{Taken}
use Rattle.readings.specs.Check.{Checked}
use Rattle.channels.specs.declared.Stop.{Stop}
use Rattle.channels.specs.declared.Comparison.{Comparison}
use Rattle.channels.specs.Answer.{Channel, Needle}
use Rattle.panel.specs.declared.Side.{Side}

-- the pressure of what was put on the grid; a refused one has none, and 0 is never the greater
abbrev pub pressure_of : Checked → ℤ
pressure_of (Ok t) = t.at.pi
pressure_of (Err r) = pos 0

-- the greater of two
unfoldable pub common_of : Checked → Checked → ℤ
common_of a b = cond (lt_z (pressure_of a) (pressure_of b)) (pressure_of b) (pressure_of a)

-- a side: what its channel shows, and its density under the common pressure
abbrev pub side_of : Taken → Result Sounding Refusal → Result Side Refusal
side_of t (Ok s) = Ok (record { accepted = record { at = t.at; water = s.water; remarks = t.remarks }; under = s.under })
side_of t (Err r) = Err r

unfoldable pub beside_of : Checked → Checked → Result Side Refusal
beside_of (Ok t) other = side_of t (sounding_of t.at.sigma t.at.tau t.at.pi (common_of (Ok t) other))
beside_of (Err r) other = Err r

-- its channel
abbrev pub channel_beside : Result Side Refusal → Channel
channel_beside (Ok s) = Ok s.accepted
channel_beside (Err r) = Err r

-- the needle between two sides
abbrev pub needle_between : Result Side Refusal → Result Side Refusal → Bool → Needle
needle_between (Err r) c f = Err (Stop.Left r)
needle_between (Ok l) (Err r) f = Err (Stop.Right r)
needle_between (Ok l) (Ok r) true = Err Stop.SameProbe
needle_between (Ok l) (Ok r) false = Ok (pos r.under -ℤ pos l.under)

-- both sides and their needle (`compared` of proofs/Pairing: of two entries it is their comparison)
abbrev pub compared_from : Result Side Refusal → Result Side Refusal → Bool → Comparison
compared_from l r f = record { left = channel_beside l; right = channel_beside r; needle = needle_between l r f }
