-- SPEC, "Ice is not sea water": the freezing point of sea water by the formula of UNESCO Technical Papers in Marine Science 44, used over all readings. S is
-- the practical salinity and p the pressure in decibars:
--
--     −0.0575·S + 1.710523·10⁻³·√S³ − 2.154996·10⁻⁴·S² − 7.53·10⁻⁴·p
--
-- in whole numbers, on the common scale: v is salinity/100, q is bar/1,000, w stands for √v. Freezing points are in units of 10⁻⁹ °C; digits as printed.
-- (How near they are to the formula: `near-published` of promises/proofs/Ice.)
use Rattle.std.specs.Prelude.{ℕ, Bool, ℤ, pos, ◌+ℤ◌, ◌*ℤ◌}
use Rattle.std.specs.Int.Signed.{lt_z}
use Rattle.whole.specs.Arith.{scaled, root_at}
use Rattle.whole.specs.Decimal.{◌/10^◌, -◌/10^◌}

-- scaled(v; -5.75 + scaled(w; 1.710523) + scaled(v; -2.154996)): what the salt makes
unfoldable pub salt_ice : ℕ → ℕ → ℤ
salt_ice σ w = scaled (- 5_75 /10^ 2 +ℤ scaled (1_710523 /10^ 6) (pos w) +ℤ scaled (- 2_154996 /10^ 6) (pos σ)) (pos σ)

-- scaled(q; -7.53): what the pressure makes
unfoldable pub deep_ice : ℕ → ℤ
deep_ice π = scaled (- 7_53 /10^ 2) (pos π)

-- the freezing point at the grid numbers σ and π
unfoldable pub ice_at : ℕ → ℕ → ℤ
ice_at σ π = salt_ice σ (root_at σ) +ℤ deep_ice π

-- a grid temperature in units of 10⁻⁹ °C
abbrev pub warmth : ℤ → ℤ
warmth τ = τ *ℤ pos 1_000_000

-- a water colder than its freezing point is frozen; at the freezing point exactly it is liquid
unfoldable pub frozen_of : ℕ → ℤ → ℕ → Bool
frozen_of σ τ π = lt_z (warmth τ) (ice_at σ π)
