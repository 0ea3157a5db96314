-- SPEC, "A reading" and the rows 1 to 5 of "Refusal numbers and their order": what becomes of a report.
use Rattle.std.specs.Prelude.{Bool, true, false, ◌&&◌, ℤ, pos, Float, Option, Some, None, Result, Ok, Err}
use Rattle.std.specs.Float.{fin}
use Rattle.whole.specs.Arith.{neg}
use Rattle.refusals.specs.declared.Refusal.{Refusal}
use Rattle.floats.specs.Grid.{range, finite, place_of}
use Rattle.floats.specs.declared.grid.Range.{Range}
use Rattle.floats.specs.declared.Place.{Place}
use Rattle.readings.specs.declared.Purpose.{Purpose}
use Rattle.readings.specs.declared.Report.{Report}
use Rattle.readings.specs.declared.Reading.{Reading}
use Rattle.readings.specs.declared.Point.{Point}
use Rattle.readings.specs.declared.Remarks.{Remarks}
use Rattle.readings.specs.declared.Taken.{Taken}
use Rattle.readings.specs.declared.Level.{Level}

-- what becomes of a report: its grid numbers and their remarks, or a refusal
abbrev pub Checked : Type 0
Checked = Result Taken Refusal

abbrev pub taken_at : Point → Remarks → Checked
taken_at p m = Ok (record { at = p; remarks = m })

-- the table: 0 to 42 and -2 to 40 on a grid of 0.001, 0 to 1,000 on a grid of 0.01; for carbon dioxide 0 to 40 in place of -2 to 40
abbrev pub salinities : Range
salinities = range (pos 0) (pos 42_000) 1000

abbrev pub coldest : Purpose → ℤ
coldest Purpose.Density = neg 2_000
coldest Purpose.Carbon = pos 0

abbrev pub temperatures : Purpose → Range
temperatures w = range (coldest w) (pos 40_000) 1000

abbrev pub pressures : Range
pressures = range (pos 0) (pos 100_000) 100

-- a reading of these floats
abbrev pub deep_of : Float → Float → Float → Reading
deep_of s t p = record { salinity = s; temperature = t; pressure = p }

-- at the surface the pressure is taken as 0, which is on its grid point
abbrev pub surface_of : Float → Float → Reading
surface_of s t = deep_of s t (fin false 0 (pos 0))

-- 1: the reading that a report has, unless it is missing
abbrev pub given_of : Report → Option Reading
given_of (Report.Deep s t p) = Some (deep_of s t p)
given_of (Report.Surface s t) = Some (surface_of s t)
given_of Report.Missing = None

-- 2: whether none of its floats is a NaN or an infinity
abbrev pub all_finite : Report → Bool
all_finite (Report.Deep s t p) = finite s && (finite t && finite p)
all_finite (Report.Surface s t) = finite s && finite t
all_finite Report.Missing = true

-- the same of a reading's three floats: at the surface the third is 0, so that it is the same answer
abbrev pub finite_of : Reading → Bool
finite_of r = finite r.salinity && (finite r.temperature && finite r.pressure)

-- a reading from the places of its floats
abbrev pub put_together : Place → Place → Place → Taken
put_together σ τ π =
    record { at = record { sigma = σ.number; tau = τ.number; pi = π.number }; remarks = record { salinity = σ.remark; temperature = τ.remark; pressure = π.remark } }

-- 3, 4, 5: salinity, temperature, pressure outside its range, in this order
abbrev pub first_outside : Option Place → Option Place → Option Place → Checked
first_outside None t p = Err Refusal.Salinity
first_outside (Some σ) None p = Err Refusal.Temperature
first_outside (Some σ) (Some τ) None = Err Refusal.Pressure
first_outside (Some σ) (Some τ) (Some π) = Ok (put_together σ τ π)

-- the first two of them alone
abbrev pub level_of : Option Place → Option Place → Result Level Refusal
level_of None t = Err Refusal.Salinity
level_of (Some σ) None = Err Refusal.Temperature
level_of (Some σ) (Some τ) = Ok (record { sigma = σ; tau = τ })

unfoldable pub level_for : Purpose → Reading → Result Level Refusal
level_for w r = level_of (place_of salinities r.salinity) (place_of (temperatures w) r.temperature)

-- where the reading's floats stand
unfoldable pub placed_for : Purpose → Reading → Checked
placed_for w r =
    first_outside (place_of salinities r.salinity) (place_of (temperatures w) r.temperature) (place_of pressures r.pressure)

-- 1, then 2, then 3, 4, 5
abbrev pub in_order : Purpose → Option Reading → Bool → Checked
in_order w None f = Err Refusal.Missing
in_order w (Some r) false = Err Refusal.NotFinite
in_order w (Some r) true = placed_for w r

-- what becomes of a report: the first refusal that applies, or the grid numbers and their remarks
unfoldable pub checked_for : Purpose → Report → Checked
checked_for w report = in_order w (given_of report) (all_finite report)

-- for its density
abbrev pub checked_of : Report → Checked
checked_of = checked_for Purpose.Density
