-- The published coefficients on one common scale, as SPEC prints them: u is °C/100, v is salinity/100, q is bar/1,000; lowest
-- power of u first. Each stands by its printed digits, with _ for the point, and the count of those after the point. Sources: Millero and
-- Poisson (1981) for the D rows, Millero, Chen, Bradshaw and Schleicher (1980), printed in UNESCO Technical Papers in Marine Science 38
-- and 44, for the K, A and B rows.
use Rattle.std.specs.Prelude.{ℕ, ◌*◌, ◌-◌, ◌^◌, List, [], ◌∷◌, ℤ, pos}
use Rattle.whole.specs.Arith.{neg}

infix 70 ◌/10^◌ -◌/10^◌
-- a printed decimal, exactly, in units of 10⁻⁹: 65.36332 is 65_36332 /10^ 5
abbrev pub ◌/10^◌ : ℕ → ℕ → ℤ
digits /10^ places = pos (digits * 10 ^ (9 - places))

abbrev pub -◌/10^◌ : ℕ → ℕ → ℤ
- digits /10^ places = neg (digits * 10 ^ (9 - places))

-- ---- surface density, kg/m³: of water, by v, by v·√v, by v²
unfoldable pub Dw : List ℤ
Dw = 999_842594 /10^ 6 ∷ 6_793952 /10^ 6 ∷ - 90_95290 /10^ 5 ∷ 100_1685 /10^ 4 ∷ - 112_0083 /10^ 4 ∷ 65_36332 /10^ 5 ∷ []

unfoldable pub Ds : List ℤ
Ds = 82_4493 /10^ 4 ∷ - 40_899 /10^ 3 ∷ 76_438 /10^ 3 ∷ - 82_467 /10^ 3 ∷ 53_875 /10^ 3 ∷ []

unfoldable pub Dr : List ℤ
Dr = - 5_72466 /10^ 5 ∷ 10_227 /10^ 3 ∷ - 16_546 /10^ 3 ∷ []

unfoldable pub Dss : List ℤ
Dss = 4_8314 /10^ 4 ∷ []

-- ---- bulk modulus, bar, at no pressure: of water, by v, by v·√v
unfoldable pub Kw : List ℤ
Kw = 19652_21 /10^ 2 ∷ 14842_06 /10^ 2 ∷ - 23271_05 /10^ 2 ∷ 13604_77 /10^ 2 ∷ - 5155_288 /10^ 3 ∷ []

unfoldable pub Ks : List ℤ
Ks = 5467_46 /10^ 2 ∷ - 6034_59 /10^ 2 ∷ 10998_7 /10^ 1 ∷ - 6167_0 /10^ 1 ∷ []

unfoldable pub Kr : List ℤ
Kr = 79_44 /10^ 2 ∷ 1648_3 /10^ 1 ∷ - 5300_9 /10^ 1 ∷ []

-- ---- by q: of water, by v, by v·√v
unfoldable pub Aw : List ℤ
Aw = 3239_908 /10^ 3 ∷ 143_713 /10^ 3 ∷ 1160_92 /10^ 2 ∷ - 577_905 /10^ 3 ∷ []

unfoldable pub As : List ℤ
As = 228_38 /10^ 2 ∷ - 109_81 /10^ 2 ∷ - 1607_8 /10^ 1 ∷ []

unfoldable pub Ar : List ℤ
Ar = 191_075 /10^ 3 ∷ []

-- ---- by q²: of water, by v
unfoldable pub Bw : List ℤ
Bw = 85_0935 /10^ 4 ∷ - 612_293 /10^ 3 ∷ 527_87 /10^ 2 ∷ []

unfoldable pub Bs : List ℤ
Bs = - 99_348 /10^ 3 ∷ 208_16 /10^ 2 ∷ 916_97 /10^ 2 ∷ []

-- the table of tables
unfoldable pub table : List (List ℤ)
table = Dw ∷ Ds ∷ Dr ∷ Dss ∷ Kw ∷ Ks ∷ Kr ∷ Aw ∷ As ∷ Ar ∷ Bw ∷ Bs ∷ []
