-- Freezing points in numbers, and waters on either side of them: one list and one theorem each, by computation. What the formula and the code would have to
-- get wrong together is held to literals here. The numbers were worked out by another program, from UNESCO's decimals. Assumes nothing.
use Prim.Native.Nat.{ℕ}
use mathlib.Core.Path.{◌≡◌, refl}
use mathlib.Core.Bool.{Bool, true, false}
use mathlib.Core.List.{List, [], ◌∷◌, map}
use lib.IntN.{ℤ, pos}
use Rattle.whole.specs.Arith.{neg, scaled, root_from, root_of, root_at}
use Rattle.freezing.specs.Ice.{salt_ice, deep_ice, ice_at, frozen_of}

-- σ, π, the freezing point in 10⁻⁹ °C
pub record Point : Type 0 where
  pub salt : ℕ
  pub deep : ℕ
  pub ice : ℤ

abbrev at : ℕ → ℕ → ℤ → Point
at σ π z = record { salt = σ; deep = π; ice = z }

unfoldable pub points : List Point
points =
    -- UNESCO's check value: salinity 40 at 50 bar, printed as -2.588567
    at 40_000 5_000 (neg 2_588_571_252)
    -- the surface: fresh, 0.001, 5, 10, 20, 35, 42
    ∷ at 0 0 (pos 0) ∷ at 1 0 (neg 57_447) ∷ at 5_000 0 (neg 273_763_843) ∷ at 10_000 0 (neg 542_459_802)
    ∷ at 20_000 0 (neg 1_083_207_242) ∷ at 35_000 0 (neg 1_922_306_118) ∷ at 42_000 0 (neg 2_329_555_066)
    -- fresh water at 0.01, 1 and 1,000 bar, and salt water at the ends of the grid
    ∷ at 0 1 (neg 75_300) ∷ at 0 100 (neg 7_530_000) ∷ at 0 100_000 (neg 7_530_000_000) ∷ at 35_000 100_000 (neg 9_452_306_118) ∷ at 42_000 100_000 (neg 9_859_555_066)
    -- where the product by the root, rounded up, makes one more, and so does the inner product by the salinity, rounded towards nought; at 0.001, above, the outer
    -- one would
    ∷ at 473 0 (neg 26_689_312)
    ∷ []

pub points_hold : map (λ (p : Point). ice_at p.salt p.deep) points ≡ map (λ (p : Point). p.ice) points
unfolding points ice_at salt_ice deep_ice scaled root_from root_of root_at
points_hold = refl

-- ---- σ, τ, π, and whether it is frozen
pub record Water : Type 0 where
  pub salt : ℕ
  pub warm : ℤ
  pub deep : ℕ
  pub frozen : Bool

abbrev water : ℕ → ℤ → ℕ → Bool → Water
water σ τ π b = record { salt = σ; warm = τ; deep = π; frozen = b }

unfoldable pub waters : List Water
waters =
    -- freezing points that are whole thousandths: at the point a water is liquid, 0.001 °C below it frozen
    water 0 (pos 0) 0 false ∷ water 0 (neg 1) 0 true ∷ water 19 (neg 48) 623 false ∷ water 19 (neg 49) 623 true
    ∷ water 35_634 (neg 1_961) 30 false ∷ water 35_634 (neg 1_962) 30 true
    -- the same water less than 0.01 bar higher up, and a little fresher
    ∷ water 35_634 (neg 1_961) 29 true ∷ water 35_633 (neg 1_961) 30 true
    -- salinity 35 at the surface, and at 10 and 11 bar: -1.922, -1.997 and -2.005
    ∷ water 35_000 (neg 1_922) 0 false ∷ water 35_000 (neg 1_923) 0 true ∷ water 35_000 (neg 1_997) 1_000 false ∷ water 35_000 (neg 1_998) 1_000 true
    ∷ water 35_000 (neg 2_000) 1_100 false
    -- the coldest readings: fresh, and of salinity 42
    ∷ water 0 (neg 2_000) 0 true ∷ water 42_000 (neg 2_000) 0 false
    ∷ []

pub waters_hold : map (λ (x : Water). frozen_of x.salt x.warm x.deep) waters ≡ map (λ (x : Water). x.frozen) waters
unfolding waters frozen_of ice_at salt_ice deep_ice scaled root_from root_of root_at
waters_hold = refl
