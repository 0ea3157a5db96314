-- The proved set of SPEC, "Check points": eight densities, the bulk modulus at (0, 5, 0) and three roots, as one list
-- of things to work out with what each must be, and one theorem over it, which is computed. Then D, K0, A, B and K in 10⁻⁹ at two odd readings,
-- where every product that is rounded at all leaves a rest: a product rounded otherwise would hardly show in a density. Assumes nothing.
use Prim.Native.Nat.{ℕ}
use mathlib.Core.Path.{◌≡◌, refl}
use mathlib.Core.Bool.{Bool, true, cond, false}
use mathlib.Core.List.{List, [], ◌∷◌}
use lib.Dec.{T, eqb}
use lib.IntN.{pos}
use Rattle.whole.specs.Arith.{neg, scaled, row_value, root_from, root_of}
use Rattle.sea.specs.Table.{Dw, Ds, Dr, Dss, Kw, Ks, Kr, Aw, As, Ar, Bw, Bs}
use Rattle.sea.specs.Recipe.{rows_at, root_at, surface, K0, A, B, bulk, hundredths, mass, net, gain, density, shown, bulk_of, shown_of, shown_at, modulus_at, parcel_of, parcel_at}

pub data Point : Type 0 where
  -- the shown density at σ, τ, π
  shows : ℕ → ℕ → ℕ → ℕ → Point
  -- the bulk modulus at σ, τ, π
  stiff : ℕ → ℕ → ℕ → ℕ → Point
  -- the root at σ
  rooted : ℕ → ℕ → Point

unfoldable pub points : List Point
points =
    shows 0 5_000 0 999_967
    ∷ shows 0 5_000 100_000 1_044_128
    ∷ shows 0 25_000 0 997_048
    ∷ shows 0 25_000 100_000 1_037_902
    ∷ shows 35_000 5_000 0 1_027_675
    ∷ shows 35_000 5_000 100_000 1_069_489
    ∷ shows 35_000 25_000 0 1_023_343
    ∷ shows 35_000 25_000 100_000 1_062_538
    ∷ stiff 0 5_000 0 2_033_780
    ∷ rooted 0 0
    ∷ rooted 1 316
    ∷ rooted 42_000 64_807
    ∷ []

unfoldable pub holds : Point → Bool
holds (shows σ τ π n) = eqb (shown_at σ (pos τ) π) n
holds (stiff σ τ π n) = eqb (modulus_at σ (pos τ) π) n
holds (rooted σ n) = eqb (root_at σ) n

unfoldable pub all : List Point → Bool
all [] = true
all (p ∷ ps) = cond (holds p) (all ps) false

pub check_points : T (all points)
unfolding points holds all scaled row_value root_from root_of Dw Ds Dr Dss Kw Ks Kr Aw As Ar Bw Bs rows_at root_at surface K0 A B bulk hundredths mass net gain density shown bulk_of shown_of shown_at modulus_at
check_points = tt

pub parcels :
    (parcel_at 37_097 (neg 331) ≡ record { d = pos 1_029_819_588_404; k0 = pos 21_655_249_034_041; a = pos 3_367_468_246_140; b = pos 50_018_970_693 })
    × (parcel_at 37_688 (pos 37_041) ≡ record { d = pos 1_021_150_228_228; k0 = pos 24_211_482_458_077; a = pos 3_454_865_619_843; b = neg 30_247_556_568 })
unfolding parcel_at parcel_of scaled row_value root_from root_of Dw Ds Dr Dss Kw Ks Kr Aw As Ar Bw Bs rows_at root_at surface K0 A B
parcels = (refl, refl)

pub moduli :
    (bulk_of (rows_at (neg 331)) 37_097 60_907 11_142 ≡ pos 22_031_073_302_355) × (bulk_of (rows_at (pos 37_041)) 37_688 61_390 99_541 ≡ pos 27_620_519_723_467)
unfolding scaled row_value Dw Ds Dr Dss Kw Ks Kr Aw As Ar Bw Bs rows_at K0 A B bulk bulk_of
moduli = (refl, refl)
