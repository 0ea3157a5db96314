-- Demand 3: what is promised of the shown densities and of the needle, in SPEC's words and numbers. Proved in proofs/Promises.
use Rattle.std.specs.Prelude.{ℕ, ◌+◌, ◌≤◌, ◌<◌, max, ℤ, pos, ◌-ℤ◌, ◌≤ℤ◌}
use Rattle.whole.specs.Arith.{neg}
use Rattle.whole.specs.Fraction.{Frac, over, units, ◌≤F◌, ◌⊕◌, ◌⊖◌}
use Rattle.sea.specs.Recipe.{root_at, shown_at, modulus_at}
use Rattle.promises.specs.Formula.{density_f}

-- ---- the words
-- grid numbers of the grid table
pub record OnGrid (σ : ℕ) (τ : ℤ) (π : ℕ) : Type 0 where
  pub salt : σ ≤ 42_000
  pub cold : neg 2_000 ≤ℤ τ
  pub warm : τ ≤ℤ pos 40_000
  pub deep : π ≤ 100_000

-- x is a fraction from w/100,000 to (w + 1)/100,000, w the root. (The true √v lies there too: `root_below_√v` and `root_above_√v` of proofs/Grid.)
pub record Rooted (σ : ℕ) (x : Frac) : Type 0 where
  pub fraction : 0 < x.den
  pub low : over (root_at σ) 100_000 ≤F x
  pub high : x ≤F over (root_at σ + 1) 100_000

-- n thousandths are within e of f
pub record Within (e : Frac) (n : ℤ) (f : Frac) : Type 0 where
  pub upper : f ≤F units 1_000 n ⊕ e
  pub lower : units 1_000 n ≤F f ⊕ e

-- n thousandths are within 0.0006 of f
abbrev pub Close : ℕ → Frac → Type 0
Close n f = Within (over 6 10_000) (pos n) f

-- a water: grid numbers, with a fraction in place of √v
pub record Sample : Type 0 where
  pub σ : ℕ
  pub τ : ℤ
  pub π : ℕ
  pub x : Frac
  pub on_grid : OnGrid σ τ π
  pub rooted : Rooted σ x

-- its density under a pressure, whatever its own is: by the formula, and the shown one
abbrev pub formula : Sample → ℕ → Frac
formula s π = density_f s.σ s.x s.τ π

abbrev pub panel : Sample → ℕ → ℕ
panel s π = shown_at s.σ s.τ π

-- the pressure that two waters have in common: the greater of their own
abbrev pub in_common : Sample → Sample → ℕ
in_common left right = max left.π right.π

-- shown density of the right minus that of the left, both under the pressure that they have in common
abbrev pub needle : Sample → Sample → ℤ
needle left right = pos (panel right (in_common left right)) -ℤ pos (panel left (in_common left right))

-- ---- the promises
-- 1. the shown density is within 0.0006 kg/m³ of the formula's
abbrev pub ShownWithin : Type 0
ShownWithin = (σ : ℕ) (τ : ℤ) (π : ℕ) (x : Frac) → OnGrid σ τ π → Rooted σ x → Close (shown_at σ τ π) (density_f σ x τ π)

-- 2. the bulk modulus, in hundredths of a bar, is above the pressure
abbrev pub StifferThanPressure : Type 0
StifferThanPressure = (σ : ℕ) (τ : ℤ) (π : ℕ) → OnGrid σ τ π → π < modulus_at σ τ π

-- 3. more salt never shows a lower density
abbrev pub Saltier : Type 0
Saltier = (σ σ' : ℕ) (τ : ℤ) (π : ℕ) → OnGrid σ τ π → OnGrid σ' τ π → σ ≤ σ' → shown_at σ τ π ≤ shown_at σ' τ π

-- 4. more pressure never shows a lower density
abbrev pub Deeper : Type 0
Deeper = (σ : ℕ) (τ : ℤ) (π π' : ℕ) → OnGrid σ τ π → OnGrid σ τ π' → π ≤ π' → shown_at σ τ π ≤ shown_at σ τ π'

-- 5. a needle of 2 or more, either way, never names as heavier a water that the formula, with both under the pressure in common, makes equal or
-- lighter
abbrev pub RightHeavier : Type 0
RightHeavier = (left right : Sample) → pos 2 ≤ℤ needle left right → ¬ (formula right (in_common left right) ≤F formula left (in_common left right))

abbrev pub LeftHeavier : Type 0
LeftHeavier = (left right : Sample) → needle left right ≤ℤ neg 2 → ¬ (formula left (in_common left right) ≤F formula right (in_common left right))

-- 6. the needle is within 0.0012 kg/m³ of the formula's difference there
abbrev pub NeedleWithin : Type 0
NeedleWithin = (left right : Sample) → Within (over 12 10_000) (needle left right) (formula right (in_common left right) ⊖ formula left (in_common left right))
