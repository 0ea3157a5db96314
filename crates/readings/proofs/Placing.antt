-- What the code of the checks 3, 4 and 5 rests on: the first place that is outside decides, and a pressure of 0 has its place, and is on it.
-- Assumes nothing.
use mathlib.Core.Path.{◌≡◌, refl}
use mathlib.Core.Bool.{false, and-true}
use Rattle.std.specs.Prelude.{Option, Some, None, Ok, Err}
use Rattle.refusals.specs.declared.Refusal.{Refusal}
use Prim.Native.Nat.{◌^◌, ◌<◌}
use lib.Dec.{lit<}
use lib.IntN.{pos, nat_abs}
use lib.Ieee.{fin}
use Rattle.floats.specs.Grid.{inside, grid_no, remark_of, place_of}
use Rattle.floats.specs.declared.Remark.TheVariants.{On}
use Rattle.floats.specs.declared.Place.{Place}
use Rattle.readings.specs.Check.{coldest, salinities, temperatures, pressures, deep_of, surface_of, given_of, all_finite, finite_of, level_of, level_for, first_outside, placed_for, in_order, checked_for}
use Rattle.readings.specs.declared.Purpose.{Purpose}
use Rattle.readings.specs.declared.Reading.{Reading}
use Rattle.readings.specs.declared.Report.{Report}
use Rattle.readings.specs.declared.Level.{Level}

-- checks 3 and 4 by the places found
pub by_level : (w : Purpose) (r : Reading) {s t : Option Place} → place_of salinities r.salinity ≡ s → place_of (temperatures w) r.temperature ≡ t → level_of s t ≡ level_for w r
unfolding level_for
by_level w r a b = cc

-- and check 5 after them
stopped : (s t p : Option Place) {x : Refusal} → level_of s t ≡ Err x → first_outside s t p ≡ Err x
stopped None t p e = cc
stopped (Some σ) None p e = cc
stopped (Some σ) (Some τ) p e = cc

passed : (s t p : Option Place) {l : Level} → level_of s t ≡ Ok l → first_outside (Some l.sigma) (Some l.tau) p ≡ first_outside s t p
passed None t p e = cc
passed (Some σ) None p e = cc
passed (Some σ) (Some τ) p {l} e = let q : l ≡ record { sigma = σ; tau = τ } = cc in rw q refl

pub level_stops : (w : Purpose) (r : Reading) {x : Refusal} → level_for w r ≡ Err x → placed_for w r ≡ Err x
unfolding level_for placed_for
level_stops w r e = stopped _ _ _ e

pub level_passes : (w : Purpose) (r : Reading) {l : Level} {p : Option Place} → level_for w r ≡ Ok l → place_of pressures r.pressure ≡ p → first_outside (Some l.sigma) (Some l.tau) p ≡ placed_for w r
unfolding level_for placed_for
level_passes w r e f = rw (← f) (passed _ _ _ e)

-- ---- checks 1 and 2: of a report and of the reading in it
pub same_finite : (report : Report) (r : Reading) → given_of report ≡ Some r → finite_of r ≡ all_finite report
same_finite (Report.Deep s t p) r e = let q : r ≡ deep_of s t p = cc in rw q refl
same_finite (Report.Surface s t) r e = let q : r ≡ surface_of s t = cc in rw (q, and-true) refl
same_finite Report.Missing r e = cc

pub of_given : (w : Purpose) (report : Report) {r : Reading} → given_of report ≡ Some r → in_order w (Some r) (finite_of r) ≡ checked_for w report
unfolding checked_for
of_given w report {r} e = rw (same_finite report r e, e) refl

pub of_missing : (w : Purpose) (report : Report) → given_of report ≡ None → Err Refusal.Missing ≡ checked_for w report
unfolding checked_for
of_missing w report e = rw e refl

-- the cold end of any purpose is far inside what `Range::place` asks of a low end
pub cold_small : (w : Purpose) → nat_abs (coldest w) < 2 ^ 23
cold_small Purpose.Density = lit< tt
cold_small Purpose.Carbon = lit< tt

pub surface_place : place_of pressures (fin false 0 (pos 0)) ≡ Some (record { number = pos 0; remark = On })
unfolding place_of inside grid_no remark_of
surface_place = refl
