-- Equation (30) of the handbook of CO2 measurements in exact fractions, and how near the panel's ln K0 is promised to be. Proved in proofs/Promises; of what is answered
-- in proofs/Calls, there also from the contract of `carbon::answer`.
use Rattle.std.specs.Prelude.{ℕ, zero, suc, ◌+◌, ◌^◌, ◌≤◌, ◌<◌, ◌≡◌, ℤ, pos, ◌-ℤ◌, Some, Ok}
use Rattle.whole.specs.Arith.{neg, plus, minus}
use Rattle.whole.specs.Fraction.{Frac, over, units, ◌≤F◌, ◌⊕◌, ◌⊖◌, ◌⊗◌}
use Rattle.floats.specs.Grid.{grid_no}
use Rattle.readings.specs.declared.Report.{Report}
use Rattle.readings.specs.declared.Reading.{Reading}
use Rattle.readings.specs.Entry.{message}
use Rattle.readings.specs.Check.{given_of}
use Rattle.carbon.specs.Weiss.{ln_terms, rest_terms, kelvin, ln_k0}
use Rattle.carbon.specs.Carbon.{solubility_of}

-- p/d + p·z/(d + 2) + p·z²/(d + 4) and on, k terms
unfoldable pub terms_f : Frac → ℕ → ℕ → Frac → Frac
terms_f z zero d p = over 0 1
terms_f z (suc k) d p = over 1 d ⊗ p ⊕ terms_f z k (d + 2) (z ⊗ p)

-- x + x³/3 + x⁵/5 and on, k terms
unfoldable pub odd_f : Frac → ℕ → Frac
odd_f x k = terms_f (x ⊗ x) k 1 x

-- T/100 and (T − 300)/(T + 300); n is T in 0.001 K
abbrev pub hundreds : ℕ → Frac
hundreds n = over n 100_000

unfoldable pub beside_f : ℕ → Frac
beside_f n = units (n + 300_000) (pos n -ℤ pos 300_000)

-- ln(T/100), with j terms for ln 3 and k for the rest
unfoldable pub ln_f : ℕ → ℕ → ℕ → Frac
ln_f j k n = over 2 1 ⊗ odd_f (over 1 2) j ⊕ over 2 1 ⊗ odd_f (beside_f n) k

-- what S is multiplied by: 0.023517 − 0.023656·(T/100) + 0.0047036·(T/100)²
unfoldable pub salt_f : ℕ → Frac
salt_f n = units (10 ^ 6) (pos 23517) ⊕ hundreds n ⊗ (units (10 ^ 6) (neg 23656) ⊕ hundreds n ⊗ units (10 ^ 7) (pos 47036))

-- the right side of equation (30); 100/T is 100,000/n, S is σ/1,000
unfoldable pub equation30 : ℕ → ℕ → ℕ → ℕ → Frac
equation30 j k σ n =
    over 93_4517 (10 ^ 4) ⊗ over 100_000 n ⊖ over 60_2409 (10 ^ 4) ⊕ over 23_3585 (10 ^ 4) ⊗ ln_f j k n ⊕ over σ 1_000 ⊗ salt_f n

-- ---- the promise
-- grid salinity and temperature in 0.001 K, of salinity 0 to 42 and 0 to 40 °C
pub record Mild (σ n : ℕ) : Type 0 where
  pub salt : σ ≤ 42_000
  pub cold : 273_150 ≤ n
  pub warm : n ≤ 313_150

-- z millionths are within e of f, a fraction whose lower number is above 0
pub record LnWithin (e : Frac) (z : ℤ) (f : Frac) : Type 0 where
  pub fraction : 0 < f.den
  pub upper : f ≤F units 1_000_000 z ⊕ e
  pub lower : units 1_000_000 z ≤F f ⊕ e

-- for all numbers of terms from the definition's own on, ln K0 is within e of the equation
abbrev pub CarbonWithin : Frac → Type 0
CarbonWithin e = (j k σ n : ℕ) → ln_terms ≤ j → rest_terms ≤ k → Mild σ n → LnWithin e (ln_k0 σ n) (equation30 j k σ n)

-- SPEC's 2 millionths
abbrev pub WithinTwo : Type 0
WithinTwo = CarbonWithin (over 2 1_000_000)

-- what the definition keeps: half a millionth of rounding, and less than a tenth of that for all else
abbrev pub WithinKept : Type 0
WithinKept = CarbonWithin (over 540 1_000_000_000)

-- what a value z for the reading r says: its salinity and temperature on the grid are not below 0, and z is within e of the equation there
pub record Held (e : Frac) (j k : ℕ) (r : Reading) (z : ℤ) : Type 0 where
  pub salinity_low : minus (grid_no 1000 r.salinity) ≡ 0
  pub temperature_low : minus (grid_no 1000 r.temperature) ≡ 0
  pub near : LnWithin e z (equation30 j k (plus (grid_no 1000 r.salinity)) (kelvin (grid_no 1000 r.temperature)))

-- of what is answered
abbrev pub HeldWithin : Frac → Type 0
HeldWithin e =
    (probe : ℕ) (report : Report) (r : Reading) (z : ℤ) (j k : ℕ) → given_of report ≡ Some r → Ok z ≡ solubility_of (message probe report) → ln_terms ≤ j → rest_terms ≤ k →
    Held e j k r z
