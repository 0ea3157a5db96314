-- The range cut into cells, each of them tested: 11 of temperature, 5 of salinity, 3 of pressure. Assumes nothing.
use Prim.Native.Nat.{ℕ, ◌+◌, ◌*◌, ◌-◌, ◌/◌, max, ◌≤◌}
use mathlib.Core.Bool.{Bool, cond, false}
use mathlib.Core.List.{List, [], ◌∷◌}
use native.Mathlib.Omega.{arith}
use native.Mathlib.Decide.{dec_le}
use lib.Dec.{T, leb}
use lib.IntN.{pos, ◌-ℤ◌}
use Rattle.whole.specs.Arith.{root_from, root_of}
use Rattle.whole.specs.Order.{Box}
use Rattle.whole.proofs.Interval.{◌⊞◌, only, both}
use Rattle.sea.specs.Table.{Dw, Ds, Dr, Dss, Kw, Ks, Kr, Aw, As, Ar, Bw, Bs}
use Rattle.sea.specs.Recipe.{root_at}
use Rattle.drift.proofs.Boxes.{flip, times, ◌⊠◌}
use Rattle.drift.proofs.Slopes.{◌⊹◌, ◌⊹-◌, ◌⊛◌, still, moving, along, within, inverted, steepest}
use Rattle.drift.proofs.Course.{surface_c, salted_c, bulk_c, pressure_c, gained_c}
use Rattle.drift.proofs.Cell.{leg, leg_of, held}

-- a step around the grid numbers from l − o to h − o, in 10⁻⁹
unfoldable pub around : ℕ → ℕ → ℕ → Box
around o l h = record { lo = pos (10_000 * l) -ℤ pos (10_000 * (o + 1)); hi = pos (10_000 * (h + 1)) -ℤ pos (10_000 * o) }

-- `far` around the roots from wl to wh + 1
unfoldable pub around_root : ℕ → ℕ → ℕ → Box
around_root wl wh far = record { lo = pos (10_000 * wl) -ℤ pos (100 * far); hi = pos (10_000 * (wh + 1) + 100 * far) }

-- how far a root from wl up can be, by the laws of proofs/Root
unfoldable pub far_from : ℕ → ℕ
far_from wl = cond (leb wl 200) 22_361 (2_500_000 / wl + 1)

-- ---- a test of each interval between cuts
unfoldable pub between : (ℕ → ℕ → Bool) → ℕ → ℕ → List ℕ → Bool
between f a b [] = f a b
between f a b (c ∷ cs) = cond (f a b) (between f b c cs) false

abbrev pub end : ℕ → List ℕ → ℕ
end b [] = b
end b (c ∷ cs) = end c cs

-- the interval that n lies in
pub record Found (f : ℕ → ℕ → Bool) (n : ℕ) : Type 0 where
  pub from : ℕ
  pub to : ℕ
  pub test : T (f from to)
  pub low : from ≤ n
  pub high : n ≤ to

pub found : (f : ℕ → ℕ → Bool) (n a b : ℕ) (cs : List ℕ) → T (between f a b cs) → a ≤ n → n ≤ end b cs → Found f n
unfolding between
found f n a b [] h l u = record { from = a; to = b; test = h; low = l; high = u }
found f n a b (c ∷ cs) h l u = go (dec_le n b) (λ k. found f n b c cs (both (f a b) (between f b c cs) h).1 k u)
  where
    go : Dec (n ≤ b) → (b ≤ n → Found f n) → Found f n
    go (yes k) next = record { from = a; to = b; test = (both (f a b) (between f b c cs) h).0; low = l; high = k }
    go (no k) next = next (omega arith)

-- ---- the cuts after the first cell: of pressure, of salinity, and of temperature, which is counted from −2 °C
abbrev pub depths : List ℕ
depths = 72_000 ∷ 100_000 ∷ []

abbrev pub salts : List ℕ
salts = 4_000 ∷ 18_000 ∷ 30_000 ∷ 42_000 ∷ []

abbrev pub warmths : List ℕ
warmths = 8_000 ∷ 13_000 ∷ 18_000 ∷ 23_000 ∷ 27_500 ∷ 31_500 ∷ 35_000 ∷ 38_000 ∷ 40_500 ∷ 42_000 ∷ []

unfoldable pub at_depth : ℕ → ℕ → ℕ → ℕ → ℕ → ℕ → ℕ → ℕ → ℕ → Bool
at_depth sl sh wl wh far tl th πl πh = held (around 0 sl sh) (around_root wl wh far) (around 2_000 tl th) (around 0 πl πh) far

unfoldable pub at_root : ℕ → ℕ → ℕ → ℕ → ℕ → ℕ → ℕ → Bool
at_root sl sh wl wh far tl th = cond (leb 500_000_001 (far * max far (200 * wl - far))) (between (at_depth sl sh wl wh far tl th) 0 40_000 depths) false

unfoldable pub at_salt : ℕ → ℕ → ℕ → ℕ → Bool
at_salt tl th sl sh = cond (leb sh 42_000) (at_root sl sh (root_at sl) (root_at sh) (far_from (root_at sl)) tl th) false

unfoldable pub at_warmth : ℕ → ℕ → Bool
at_warmth tl th = between (at_salt tl th) 0 200 salts

pub all_held : T (between at_warmth 0 3_500 warmths)
unfolding root_from root_of root_at ◌⊞◌ only Dw Ds Dr Dss Kw Ks Kr Aw As Ar Bw Bs flip times ◌⊠◌ ◌⊹◌ ◌⊹-◌ ◌⊛◌ still moving along within inverted steepest surface_c salted_c bulk_c pressure_c gained_c leg leg_of held around around_root far_from between at_depth at_root at_salt at_warmth
all_held = tt
