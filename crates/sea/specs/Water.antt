-- The answer of a call on grid numbers: SPEC refuses those outside the grid table by 3, 4 and 5, in this order, with noughts.
use Rattle.std.specs.Prelude.{ℕ, Bool, true, false, cond, ℤ, pos, Result, Ok, Err}
use Rattle.std.specs.Int.Signed.{le_z}
use Rattle.whole.specs.Arith.{neg, plus}
use Rattle.refusals.specs.declared.Refusal.{Refusal}
use Rattle.refusals.specs.declared.Refusal.TheVariants.{Salinity, Temperature, Pressure}
use Rattle.waters.specs.declared.Water.{Water}
use Rattle.waters.specs.Numbers.{known}
use Rattle.sea.specs.declared.Sounding.{Sounding}
use Rattle.sea.specs.Recipe.{shown_at, modulus_at}

-- z is from lo to hi, ends included
unfoldable pub range_of : ℤ → ℤ → ℤ → Bool
range_of lo hi z = cond (le_z lo z) (le_z z hi) false

-- the first that applies is the answer
abbrev pub unless : Bool → Refusal → Result Water Refusal → Result Water Refusal
unless true r x = x
unless false r x = Err r

-- the grid table: σ 0 to 42,000, τ -2,000 to 40,000, π 0 to 100,000
unfoldable pub water_of : ℤ → ℤ → ℤ → Result Water Refusal
water_of σ τ π =
    unless (range_of (pos 0) (pos 42_000) σ) Salinity
    (unless (range_of (neg 2_000) (pos 40_000) τ) Temperature
    (unless (range_of (pos 0) (pos 100_000) π) Pressure
    (known (shown_at (plus σ) τ (plus π)) (modulus_at (plus σ) τ (plus π)))))

-- the same, and the shown density of the same water under another pressure, which is refused by 5 as its own is
abbrev pub sounding : ℕ → ℕ → ℕ → Sounding
sounding d k u = record { water = record { density = d; bulk = k }; under = u }

abbrev pub sounded : Result Water Refusal → Result Water Refusal → Result Sounding Refusal
sounded (Ok w) (Ok v) = Ok (sounding w.density w.bulk v.density)
sounded (Ok w) (Err r) = Err r
sounded (Err r) w = Err r

unfoldable pub sounding_of : ℤ → ℤ → ℤ → ℤ → Result Sounding Refusal
sounding_of σ τ π π' = sounded (water_of σ τ π) (water_of σ τ π')
