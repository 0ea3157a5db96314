-- What an answer says of its report, in the laws' words: a point on SPEC's grid, or the refusal's reason. Assumes nothing.
use mathlib.Core.Path.{◌≡◌}
use Rattle.std.specs.Prelude.{Some, Err}
use mathlib.Core.Bool.{true, false}
use lib.IntN.{pos}
use lib.Signed.{◌≤ℤ◌}
use Rattle.refusals.specs.declared.Refusal.{Refusal}
use Rattle.floats.specs.Grid.{inside, grid_no, remark_of}
use Rattle.readings.specs.Check.{Checked, taken_at, coldest, salinities, temperatures, pressures, given_of, all_finite}
use Rattle.readings.specs.declared.Purpose.{Purpose}
use Rattle.readings.specs.declared.Report.{Report}
use Rattle.readings.specs.declared.Reading.{Reading}
use Rattle.readings.specs.declared.Point.{Point}
use Rattle.readings.specs.declared.Remarks.{Remarks}

-- σ, τ and π lie within the table
pub record Lying (w : Purpose) (p : Point) : Type 0 where
  pub sigma_low : pos 0 ≤ℤ p.sigma
  pub sigma_high : p.sigma ≤ℤ pos 42_000
  pub tau_low : coldest w ≤ℤ p.tau
  pub tau_high : p.tau ≤ℤ pos 40_000
  pub pi_low : pos 0 ≤ℤ p.pi
  pub pi_high : p.pi ≤ℤ pos 100_000

abbrev pub OnGrid : Point → Type 0
OnGrid = Lying Purpose.Density

-- p has the grid numbers of a reading's floats
pub record Gridded (r : Reading) (p : Point) : Type 0 where
  pub sigma_is : p.sigma ≡ grid_no 1000 r.salinity
  pub tau_is : p.tau ≡ grid_no 1000 r.temperature
  pub pi_is : p.pi ≡ grid_no 100 r.pressure

-- m has the remarks of a reading's floats
pub record Remarked (r : Reading) (m : Remarks) : Type 0 where
  pub of_salinity : m.salinity ≡ remark_of 1000 r.salinity
  pub of_temperature : m.temperature ≡ remark_of 1000 r.temperature
  pub of_pressure : m.pressure ≡ remark_of 100 r.pressure

-- the report has the reading r, and its floats are finite
pub record Usable (report : Report) (r : Reading) : Type 0 where
  pub given : given_of report ≡ Some r
  pub finite : all_finite report ≡ true

-- each refusal's reason: its own check fails, and the checks before it do not
pub data Reason (w : Purpose) : Report → Refusal → Type 0 where
  missing : Reason w Report.Missing Refusal.Missing
  not_finite : {report : Report} (r : Reading) → given_of report ≡ Some r → all_finite report ≡ false → Reason w report Refusal.NotFinite
  salinity : {report : Report} (r : Reading) → Usable report r → inside salinities r.salinity ≡ false → Reason w report Refusal.Salinity
  temperature : {report : Report} (r : Reading) → Usable report r → inside salinities r.salinity ≡ true
      → inside (temperatures w) r.temperature ≡ false → Reason w report Refusal.Temperature
  pressure : {report : Report} (r : Reading) → Usable report r → inside salinities r.salinity ≡ true
      → inside (temperatures w) r.temperature ≡ true → inside pressures r.pressure ≡ false → Reason w report Refusal.Pressure

-- every answer is one of these two
pub data Answered (w : Purpose) (report : Report) : Checked → Type 0 where
  taken : {p : Point} {m : Remarks} (r : Reading) → Usable report r → Gridded r p → Remarked r m → Lying w p → Answered w report (taken_at p m)
  refused : {x : Refusal} → Reason w report x → Answered w report (Err x)
