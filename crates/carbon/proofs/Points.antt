-- ln K0 in numbers: points of the grid as one list, and one theorem over it, which is computed; then the logarithm, the row and the sum in 10⁻¹¹ at
-- odd readings: what is rounded otherwise there would hardly show in millionths. Assumes nothing.
use Prim.Native.Nat.{ℕ}
use mathlib.Core.Path.{◌≡◌, refl}
use mathlib.Core.List.{List, [], ◌∷◌, map}
use lib.IntN.{pos}
use Rattle.whole.specs.Arith.{neg, scaled, row_value}
use Rattle.carbon.specs.Weiss.{terms, odd, ln3, ln_t, by_cold, by_log, salts, by_salt, fine, ln_k0, kelvin}

-- σ, τ and what ln K0 is, without its minus
pub record Point : Type 0 where
  pub σ : ℕ
  pub τ : ℕ
  pub size : ℕ

abbrev at : ℕ → ℕ → ℕ → Point
at σ τ size = record { σ = σ; τ = τ; size = size }

unfoldable pub points : List Point
points =
    -- the handbook's −3.5617
    at 35_000 25_000 3_561_652
    -- the corners
    ∷ at 0 0 2_556_496
    ∷ at 42_000 0 2_808_722
    ∷ at 0 40_000 3_734_417
    ∷ at 42_000 40_000 3_920_767
    -- SPEC's two waters, at 5 °C
    ∷ at 0 5_000 2_747_789
    ∷ at 35_000 5_000 2_953_995
    -- 300 K, where the series is nought, and the steps beside it
    ∷ at 35_000 26_849 3_607_525
    ∷ at 35_000 26_850 3_607_549
    ∷ at 35_000 26_851 3_607_574
    -- with 15 terms for ln 3 ln K0 is 1 lower at these
    ∷ at 32_817 18_325 3_370_325
    ∷ at 8_887 13_458 3_089_748
    -- and with 3 for the rest 1 higher at these
    ∷ at 9_305 1_747 2_680_537
    ∷ at 27_464 952 2_758_440
    -- halves, which go upward
    ∷ at 26_297 34_419 3_737_770
    ∷ at 31_142 13_870 3_228_216
    ∷ []

pub points_hold : map (λ (p : Point). ln_k0 p.σ (kelvin (pos p.τ))) points ≡ map (λ (p : Point). neg p.size) points
unfolding points terms odd ln3 ln_t by_cold by_log salts scaled row_value by_salt fine ln_k0
points_hold = refl

pub logarithms :
    (ln_t 277_863 ≡ 102_195_800_034) × ((ln_t 309_877 ≡ 113_100_525_838) × ((ln_t 276_154 ≡ 101_578_849_504) × (ln_t 311_913 ≡ 113_755_411_656)))
unfolding terms odd ln3 ln_t
logarithms = (refl, (refl, (refl, refl)))

pub rows : (row_value salts (pos 277_863) ≡ neg 58_987_884_738) × (row_value salts (pos 309_877) ≡ neg 46_217_696_576)
unfolding salts scaled row_value
rows = (refl, refl)

pub sums : (fine 35_017 277_863 ≡ neg 294_375_831_274) × (fine 12_345 309_877 ≡ neg 372_169_395_379)
unfolding terms odd ln3 ln_t by_cold by_log salts scaled row_value by_salt fine
sums = (refl, refl)
