-- What a reading on the grid hands to the laws: the root, the rows' boxes, the numbers' ranges, and how near its shown density
-- is to the formula's. Assumes nothing.
use Prim.Native.Nat.{ℕ, ◌+◌, ◌*◌, ◌≤◌, ◌<◌}
use native.Mathlib.Omega.{arith}
use lib.IntN.{ℤ, pos}
use Rattle.whole.specs.Fraction.{Frac, over, ◌≤F◌, ◌⊗◌}
use Rattle.whole.proofs.Interval.{Between}
use Rattle.whole.proofs.Near.{Near, to_≤F, of_≤F}
use Rattle.whole.proofs.Roots.{Root, root_is}
use Rattle.sea.specs.Recipe.{rows_at, root_at, surface, bulk_of, density, shown_at}
use Rattle.sea.specs.Sizes.{Sizes, Ranges}
use Rattle.sea.proofs.Sizes.{between, sizes, root_small, ranges}
use Rattle.promises.specs.Formula.{density_f}
use Rattle.promises.specs.Promises.{OnGrid, Rooted, Sample, formula, panel}
use Rattle.promises.proofs.Error.{nears}
use Rattle.promises.proofs.Close.{density_near, shown_near}

-- ---- the root
module _ (σ : ℕ) (h : σ ≤ 42_000) where
  pub root : Root (root_at σ) (σ * 100_000)
  unfolding root_at
  root = root_is (σ * 100_000) (omega arith)

  pub root_high : root_at σ ≤ 64_807
  root_high = root_small σ (root_at σ) h root

  -- √v lies between the two ends, by their squares
  pub root_below_√v : over (root_at σ) 100_000 ⊗ over (root_at σ) 100_000 ≤F over σ 100_000
  unfolding ◌⊗◌
  root_below_√v = to_≤F _ (over σ 100_000) (omega (arith, root.low))

  pub root_above_√v : over σ 100_000 ≤F over (root_at σ + 1) 100_000 ⊗ over (root_at σ + 1) 100_000
  unfolding ◌⊗◌
  root_above_√v = to_≤F (over σ 100_000) _ (omega (arith, root.high))

-- there is a fraction to put in place of √v
pub rooted : (σ : ℕ) → Rooted σ (over (root_at σ) 100_000)
rooted σ = record { fraction = omega arith; low = to_≤F _ _ (omega arith); high = to_≤F _ _ (omega arith) }

-- and every fraction from w/100,000 to (w + 1)/100,000 is one
pub rooted_every : (σ : ℕ) (x : Frac) → 0 < x.den → over (root_at σ) 100_000 ≤F x → x ≤F over (root_at σ + 1) 100_000 → Rooted σ x
rooted_every σ x a l h = record { fraction = a; low = l; high = h }

-- each is the root or up to 1 more, in 10⁻⁵
pub rooted_near : (σ : ℕ) (x : Frac) → Rooted σ x → Near 100_000 x (pos (root_at σ)) 0 1
rooted_near σ x v = record { above = v.fraction; low = omega (arith, of_≤F _ x v.low); high = omega (arith, of_≤F x _ v.high) }

-- ---- the reading
module _ {σ : ℕ} {τ : ℤ} {π : ℕ} (g : OnGrid σ τ π) where
  pub warmth : Between 2_000 40_000 τ
  warmth = between 2_000 40_000 τ g.cold g.warm

  pub rows_lie : Sizes (rows_at τ)
  rows_lie = sizes τ warmth

  pub numbers_lie : Ranges (surface (rows_at τ) σ (root_at σ)) (bulk_of (rows_at τ) σ (root_at σ) π) π
  numbers_lie = ranges (rows_at τ) rows_lie σ (root_at σ) g.salt (root_high σ g.salt) π g.deep

  -- before rounding to 0.001, in 10⁻⁶
  pub density_at_near : (x : Frac) → Rooted σ x → Near 1_000_000 (density_f σ x τ π) (pos (density (surface (rows_at τ) σ (root_at σ)) (bulk_of (rows_at τ) σ (root_at σ) π) π)) 40 42
  density_at_near x v =
      density_near (rows_at τ) rows_lie τ (nears τ warmth) σ (root_at σ) π g.salt (root_high σ g.salt) g.deep x (rooted_near σ x v)

  pub shown_at_near : (x : Frac) → Rooted σ x → Near 10_000 (density_f σ x τ π) (pos (10 * shown_at σ τ π)) 6 6
  unfolding shown_at
  shown_at_near x v = shown_near (rows_at τ) rows_lie τ (nears τ warmth) σ (root_at σ) π g.salt (root_high σ g.salt) g.deep x (rooted_near σ x v)

-- a water under any pressure of the grid
pub panel_near : (s : Sample) (π : ℕ) → π ≤ 100_000 → Near 10_000 (formula s π) (pos (10 * panel s π)) 6 6
panel_near s π h = let g = s.on_grid in shown_at_near (record { salt = g.salt; cold = g.cold; warm = g.warm; deep = h }) s.x s.rooted
