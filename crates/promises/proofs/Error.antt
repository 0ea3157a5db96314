-- D and K against the formula's, in 10⁻⁹: D is within 25,225 and K within 4,095,065, for every fraction in place of √v and for
-- row values, whoever works them out, that are from 12 below the exact rows to 6 above. Assumes nothing.
use Prim.Native.Nat.{ℕ, ◌+◌, ◌*◌, ◌≤◌}
use mathlib.Core.List.{List}
use native.Mathlib.Omega.{arith}
use lib.IntN.{ℤ, pos, ◌+ℤ◌}
use Rattle.whole.specs.Arith.{plus, minus, scaled, row_value}
use Rattle.whole.specs.Fraction.{Frac, ◌⊕◌, ◌⊗◌}
use Rattle.whole.proofs.Interval.{Between}
use Rattle.whole.proofs.Near.{Near, near_wider, near_add, near_scale, near_grid, near_row}
use Rattle.sea.specs.declared.Rows.{Rows}
use Rattle.sea.specs.Table.{Dw, Ds, Dr, Dss, Kw, Ks, Kr, Aw, As, Ar, Bw, Bs}
use Rattle.sea.specs.Recipe.{rows_at, surface, K0, A, B, bulk, bulk_of}
use Rattle.sea.specs.Sizes.{Sizes, box_dr, box_kr, box_ar}
use Rattle.promises.specs.Formula.{exact, grid, surface_f, salted_f, b_f, bulk_f}

-- a row's value z against the exact row f
abbrev pub Row : Frac → ℤ → Type 0
Row f z = Near 1_000_000_000 f z 6 12

pub record Nears (r : Rows) (τ : ℤ) : Type 0 where
  pub Dw : Row (exact Dw (grid τ)) r.Dw
  pub Ds : Row (exact Ds (grid τ)) r.Ds
  pub Dr : Row (exact Dr (grid τ)) r.Dr
  pub Dss : Row (exact Dss (grid τ)) r.Dss
  pub Kw : Row (exact Kw (grid τ)) r.Kw
  pub Ks : Row (exact Ks (grid τ)) r.Ks
  pub Kr : Row (exact Kr (grid τ)) r.Kr
  pub Aw : Row (exact Aw (grid τ)) r.Aw
  pub As : Row (exact As (grid τ)) r.As
  pub Ar : Row (exact Ar (grid τ)) r.Ar
  pub Bw : Row (exact Bw (grid τ)) r.Bw
  pub Bs : Row (exact Bs (grid τ)) r.Bs

pub nears : (τ : ℤ) → Between 2_000 40_000 τ → Nears (rows_at τ) τ
unfolding rows_at
nears τ h =
    record {
      Dw = at Dw;
      Ds = at Ds;
      Dr = at Dr;
      Dss = at Dss;
      Kw = at Kw;
      Ks = at Ks;
      Kr = at Kr;
      Aw = at Aw;
      As = at As;
      Ar = at Ar;
      Bw = at Bw;
      Bs = at Bs;
    }
  where
    at : (row : List ℤ) → Row (exact row (grid τ)) (row_value row τ)
    at row = near_wider 6 12 (omega arith) (omega arith) (near_row 1_000_000_000 row τ (omega arith) h)

module _ (τ : ℤ) (σ w : ℕ) (hσ : σ ≤ 42_000) (hw : w ≤ 64_807) (x : Frac) (v : Near 100_000 x (pos w) 0 1) where
  -- salt + √v·root, for a root row of size under 100,000·m
  near_root : {f g : Frac} {s z : ℤ} (m : ℕ) → Row f s → Row g z → plus z + 12 ≤ minus z + 100_000 * m → minus z + 6 ≤ plus z + 100_000 * m →
      Near 1_000_000_000 (f ⊕ x ⊗ g) (s +ℤ scaled z (pos w)) (6 + (m + 4)) (12 + (m + 9))
  near_root m a b up down = near_add a (near_scale (100_000 * m) (m + 4) (m + 9) v b up down (omega arith) (omega arith))

  -- water + v·(salt + √v·root)
  near_salted : {e f g : Frac} {c s z : ℤ} (m n : ℕ) → Row e c → Row f s → Row g z →
      plus z + 12 ≤ minus z + 100_000 * m → minus z + 6 ≤ plus z + 100_000 * m → 42_000 * (m + 21) + 100_000 ≤ 100_000 * n →
      Near 1_000_000_000 (e ⊕ grid (pos σ) ⊗ (f ⊕ x ⊗ g)) (c +ℤ scaled (s +ℤ scaled z (pos w)) (pos σ)) (6 + n) (12 + n)
  near_salted m n a b c up down h = near_add a (near_grid σ 42_000 n n hσ (omega arith) (omega arith) (near_root m b c up down))

  module _ (r : Rows) (z : Sizes r) (e : Nears r τ) where
    pub near_d : Near 1_000_000_000 (surface_f (grid (pos σ)) x (grid τ)) (surface r σ w) 25_212 25_225
    unfolding surface_f surface box_dr
    near_d =
        let i = z.Dr in
        near_add e.Dw (near_grid σ 42_000 25_206 25_213 hσ (omega arith) (omega arith)
        (near_add (near_root 60_000 e.Ds e.Dr (omega arith) (omega arith)) (near_grid σ 42_000 3 7 hσ (omega arith) (omega arith) e.Dss)))

    near_k0 : Near 1_000_000_000 (salted_f Kw Ks Kr (grid (pos σ)) x (grid τ)) (K0 r σ w) 3_288_616 3_288_622
    unfolding salted_f K0 box_kr
    near_k0 = let i = z.Kr in near_salted 7_830_000 3_288_610 e.Kw e.Ks e.Kr (omega arith) (omega arith) (omega arith)

    near_a : Near 1_000_000_000 (salted_f Aw As Ar (grid (pos σ)) x (grid τ)) (A r σ w) 806_416 806_422
    unfolding salted_f A box_ar
    near_a = let i = z.Ar in near_salted 1_920_000 806_410 e.Aw e.As e.Ar (omega arith) (omega arith) (omega arith)

    near_b : Near 1_000_000_000 (b_f (grid (pos σ)) (grid τ)) (B r σ) 9 19
    unfolding b_f B
    near_b = near_add e.Bw (near_grid σ 42_000 3 7 hσ (omega arith) (omega arith) e.Bs)

    pub near_k : (π : ℕ) → π ≤ 100_000 → Near 1_000_000_000 (bulk_f (grid (pos σ)) x (grid τ) (grid (pos π))) (bulk_of r σ w π) 4_095_041 4_095_065
    unfolding bulk_f bulk_of bulk
    near_k π h =
        near_add near_k0 (near_grid π 100_000 806_425 806_443 h (omega arith) (omega arith)
        (near_add near_a (near_grid π 100_000 9 20 h (omega arith) (omega arith) near_b)))
