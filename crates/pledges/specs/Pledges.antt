-- Demand 3 of what the panel's calls return: of a channel that `panel::answer` gives for what stands in it, and of the needle that `panel::paired`
-- gives. Proved in proofs/Pledges, and in proofs/Calls once more from the contracts of these calls.
use Rattle.std.specs.Prelude.{ℕ, ◌≤◌, ◌<◌, ◌≡◌, ℤ, pos, ◌≤ℤ◌, Some, Ok}
use Rattle.whole.specs.Arith.{neg, plus}
use Rattle.whole.specs.Fraction.{Frac, over, ◌≤F◌, ◌⊖◌}
use Rattle.floats.specs.Grid.{AtMost, Same}
use Rattle.readings.specs.declared.Report.{Report}
use Rattle.readings.specs.declared.Reading.{Reading}
use Rattle.readings.specs.declared.Point.{Point}
use Rattle.readings.specs.declared.Remarks.{Remarks}
use Rattle.readings.specs.Check.{given_of}
use Rattle.readings.specs.Entry.{Entry, message}
use Rattle.channels.specs.Answer.{channel_at}
use Rattle.panel.specs.Panel.{channel_of, common, shared_of, needle_of}
use Rattle.promises.specs.Formula.{density_f}
use Rattle.promises.specs.Promises.{Rooted, Within, Close}

-- the formula's density of a point's water under a pressure, with x in place of √v; and at its own
abbrev pub formula_under : ℕ → Point → Frac → Frac
formula_under π p x = density_f (plus p.sigma) x p.tau π

abbrev pub formula_at : Point → Frac → Frac
formula_at p x = formula_under (plus p.pi) p x

-- 1. a density that the panel shows is within 0.0006 kg/m³ of the formula's
abbrev pub AnswerWithin : Type 0
AnswerWithin = (e : Entry) (p : Point) (d k : ℕ) (m : Remarks) (x : Frac) → channel_at p d k m ≡ channel_of e → Rooted (plus p.sigma) x → Close d (formula_at p x)

-- 2. a bulk modulus that it gives is above the pressure
abbrev pub AnswerStiffer : Type 0
AnswerStiffer = (e : Entry) (p : Point) (d k : ℕ) (m : Remarks) → channel_at p d k m ≡ channel_of e → plus p.pi < k

-- the panel shows the density d for a reading, whichever kind of report it came in and whatever its probe's number
pub record Shows (x : Reading) (d : ℕ) : Type 0 where
  pub probe : ℕ
  pub report : Report
  pub reading_is : given_of report ≡ Some x
  pub point : Point
  pub bulk : ℕ
  pub remarks : Remarks
  pub channel_is : channel_at point d bulk remarks ≡ channel_of (message probe report)

-- 3. at the same temperature and pressure saltier water never shows lighter: of the probes' own floats, before any rounding
abbrev pub SaltierReading : Type 0
SaltierReading =
    (x y : Reading) (d c : ℕ) → Shows x d → Shows y c →
    Same x.temperature y.temperature → Same x.pressure y.pressure → AtMost x.salinity y.salinity → d ≤ c

-- 4. at the same salinity and temperature deeper water never shows lighter, likewise
abbrev pub DeeperReading : Type 0
DeeperReading =
    (x y : Reading) (d c : ℕ) → Shows x d → Shows y c →
    Same x.salinity y.salinity → Same x.temperature y.temperature → AtMost x.pressure y.pressure → d ≤ c

-- what the two sides of a needle were, with a fraction in place of √v for each, and the needle between them, which has a value
pub record Sides (p q : Point) (x y : Frac) (z : ℤ) : Type 0 where
  pub left : Entry
  pub right : Entry
  pub left_density : ℕ
  pub left_bulk : ℕ
  pub left_remarks : Remarks
  pub right_density : ℕ
  pub right_bulk : ℕ
  pub right_remarks : Remarks
  pub left_is : channel_at p left_density left_bulk left_remarks ≡ channel_of left
  pub right_is : channel_at q right_density right_bulk right_remarks ≡ channel_of right
  pub left_root : Rooted (plus p.sigma) x
  pub right_root : Rooted (plus q.sigma) y
  pub needle_is : Ok z ≡ needle_of (channel_of left) (channel_of right) (shared_of left right)

-- 5. a needle of 2 or more, either way, never names as heavier a water that the formula, with both under the greater of their pressures, makes equal
-- or lighter
abbrev pub NeedleToRight : Type 0
NeedleToRight = (p q : Point) (x y : Frac) (z : ℤ) → Sides p q x y z → pos 2 ≤ℤ z → ¬ (formula_under (common p q) q y ≤F formula_under (common p q) p x)

abbrev pub NeedleToLeft : Type 0
NeedleToLeft = (p q : Point) (x y : Frac) (z : ℤ) → Sides p q x y z → z ≤ℤ neg 2 → ¬ (formula_under (common p q) p x ≤F formula_under (common p q) q y)

-- 6. a needle is within 0.0012 kg/m³ of the formula's difference there
abbrev pub NeedleNear : Type 0
NeedleNear = (p q : Point) (x y : Frac) (z : ℤ) → Sides p q x y z → Within (over 12 10_000) z (formula_under (common p q) q y ⊖ formula_under (common p q) p x)
