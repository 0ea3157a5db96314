-- SPEC, "Refusal numbers and their order" and "The recipe in whole numbers": a channel from what stands in it, the needle from two channels and their
-- probes' numbers.
use Rattle.std.specs.Prelude.{ℕ, Bool, true, false, max, cond, eqb, pos, ◌-ℤ◌, Result, Ok, Err}
use Rattle.whole.specs.Arith.{plus}
use Rattle.refusals.specs.declared.Refusal.{Refusal}
use Rattle.refusals.specs.Number.{refusal_of}
use Rattle.readings.specs.declared.Point.{Point}
use Rattle.readings.specs.declared.Remarks.{Remarks}
use Rattle.readings.specs.Check.{Checked, checked_of}
use Rattle.waters.specs.declared.Water.{Water}
use Rattle.sea.specs.Recipe.{shown_at}
use Rattle.sea.specs.Water.{water_of}
use Rattle.readings.specs.Entry.{Entry}
use Rattle.channels.specs.Answer.{Channel, channel_at, Needle}
use Rattle.channels.specs.declared.Stop.{Stop}
use Rattle.channels.specs.declared.Comparison.{Comparison}

-- ---- a channel
-- the water at a point of the grid; the remarks go with it as they are
abbrev pub filled : Point → Remarks → Result Water Refusal → Channel
filled p m (Ok a) = channel_at p a.density a.bulk m
filled p m (Err r) = Err r

unfoldable pub watered_of : Point → Remarks → Channel
watered_of p m = filled p m (water_of p.sigma p.tau p.pi)

-- what becomes of what stands in a channel: a report's grid numbers and remarks, or the first of its checks that fails; or why its record gave none. The
-- probe's number makes no difference
abbrev pub entered : Entry → Checked
entered (Ok a) = checked_of a.report
entered (Err u) = Err (refusal_of u)

-- a reading that passes its checks is worked out at its point of the grid, at its own pressure
abbrev pub checked_channel : Checked → Channel
checked_channel (Ok a) = watered_of a.at a.remarks
checked_channel (Err r) = Err r

-- each channel depends on what stands in it alone
unfoldable pub channel_of : Entry → Channel
channel_of e = checked_channel (entered e)

-- ---- the probes
-- the number of a reading's probe; where there is no reading there is none, and 0 stands for that
abbrev pub probe_of : Entry → ℕ
probe_of (Ok a) = a.probe
probe_of (Err u) = 0

-- whether two have the same number, other than 0: one probe on both sides
abbrev pub shared_of : Entry → Entry → Bool
shared_of l r = cond (eqb (probe_of l) 0) false (eqb (probe_of l) (probe_of r))

-- ---- the needle: both waters under the greater of their two grid pressures, the shown density of the right's there minus that of the left's
-- there; refused exactly if a channel is, by 100 plus the left's number if the left is refused, otherwise by 200 plus the right's; or if both are accepted
-- and share a probe's number other than 0, by 32 (`stop_number`)

-- the pressure that two points have in common: the greater
abbrev pub common : Point → Point → ℕ
common p q = max (plus p.pi) (plus q.pi)

-- the shown density of a point's water under a pressure, whatever its own is
abbrev pub shown_under : ℕ → Point → ℕ
shown_under π p = shown_at (plus p.sigma) p.tau π

abbrev pub needle_of : Channel → Channel → Bool → Needle
needle_of (Err r) c f = Err (Stop.Left r)
needle_of (Ok a) (Err r) f = Err (Stop.Right r)
needle_of (Ok a) (Ok b) true = Err Stop.SameProbe
needle_of (Ok a) (Ok b) false = Ok (pos (shown_under (common a.at b.at) b.at) -ℤ pos (shown_under (common a.at b.at) a.at))

-- ---- a comparison: left and right, each from what stands in it, and their needle
unfoldable pub comparison_of : Entry → Entry → Comparison
comparison_of l r = record { left = channel_of l; right = channel_of r; needle = needle_of (channel_of l) (channel_of r) (shared_of l r) }
