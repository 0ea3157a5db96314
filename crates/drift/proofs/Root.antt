-- The root as sent beside the root on the grid: within `far`, in 10⁻⁷, of a fraction that the grid's root leaves open. Assumes nothing.
use Prim.Native.Nat.{ℕ, ◌+◌, ◌*◌, ◌-◌, ◌/◌, max, ◌≤◌, ◌<◌}
use mathlib.Core.Path.{◌≡◌, refl, ap}
use native.Mathlib.Omega.{arith}
use native.Mathlib.Decide.{dec_le}
use native.Mathlib.Nat.{mul-le-mul, mul-le-mul_right, mul-le-mul_left, le_of_mul-le-mul_right, div-mul-le_self, lt-div-mul-add}
use lib.IntN.{ℤ, pos, negsuc}
use Rattle.whole.specs.Arith.{plus, minus, root_of}
use Rattle.whole.specs.Fraction.{Frac, over, ◌≤F◌, ◌⊗◌}
use Rattle.whole.proofs.Near.{Near, to_≤F, of_≤F}
use Rattle.whole.proofs.Roots.{Root, root_is}
use Rattle.sea.specs.Recipe.{root_at}
use Rattle.promises.specs.Promises.{Rooted}
use Rattle.promises.proofs.Grid as grid
use Rattle.drift.specs.Drift.{RootOf}
use Rattle.drift.proofs.Slopes.{Apart}

-- ---- the naturals: w is the grid's root in 10⁻⁵ and at least wl, n is the root as sent in 10⁻⁷, and half a step is 500,000,000 of 10⁻¹⁴
abbrev pub Far : ℕ → ℕ → Type 0
Far wl far = 500_000_000 < far * max far (200 * wl - far)

module _ (w wl n far : ℕ) (least : wl ≤ w) (enough : Far wl far) where
  up_far : n * n ≤ 100 * (w + 1) * (100 * (w + 1)) + 500_000_000 → n + 1 ≤ 100 * (w + 1) + far
  up_far h = go (dec_le (n + 1) (100 * (w + 1) + far))
    where
      go : Dec (n + 1 ≤ 100 * (w + 1) + far) → n + 1 ≤ 100 * (w + 1) + far
      go (yes k) = k
      go (no k) =
          let l : 100 * (w + 1) + far ≤ n = omega arith in
          let m : max far (200 * wl - far) ≤ far + 200 * (w + 1) = omega arith in
          omega (arith, mul-le-mul l l, mul-le-mul_left far m)

  down_far : 100 * w * (100 * w) ≤ (n + 1) * (n + 1) + 500_000_000 → 100 * w ≤ n + far
  down_far h = go (dec_le (100 * w) (n + far))
    where
      -- i·(2·A + i) is no less for a larger i, A + i being 100·w
      steeper : (A j : ℕ) → A + (far + j) ≡ 100 * w → far * max far (200 * wl - far) ≤ (far + j) * (2 * A + (far + j))
      steeper A j e = by (dec_le (200 * wl - far) far)
        where
          by : Dec (200 * wl - far ≤ far) → far * max far (200 * wl - far) ≤ (far + j) * (2 * A + (far + j))
          by (yes k) = let m : max far (200 * wl - far) ≤ far = omega arith in omega (arith, mul-le-mul_left far m)
          by (no k) = let m : max far (200 * wl - far) ≤ 2 * A + (far + 2 * j) = omega arith in omega (arith, mul-le-mul_left far m)

      go : Dec (100 * w ≤ n + far) → 100 * w ≤ n + far
      go (yes k) = k
      go (no k) =
          let j = 100 * w - (n + 1 + far) in
          let e : n + 1 + (far + j) ≡ 100 * w = omega arith in
          omega (arith, steeper (n + 1) j e, ap (λ m. m * m) e)

-- ---- the fractions
not_below : (z : ℤ) → minus z ≤ plus z → minus z ≡ 0
not_below (pos n) h = refl
not_below (negsuc n) h = omega arith

-- a fraction in the grid's place of √v, and x beside it
pub record Root√ (σ : ℕ) (x : Frac) (far : ℕ) : Type 0 where
  pub on_grid : Frac
  pub rooted : Rooted σ on_grid
  pub apart : Apart 10_000_000 far on_grid x

-- v, from 100·σ − 50 to 100·σ + 50 in 10⁻⁷, and the root n of it
module _ {v x : Frac} (σ wl far : ℕ) (r : Root (root_at σ) (σ * 100_000)) (least : wl ≤ root_at σ) (enough : Far wl far) (near : Near 10_000_000 v (pos (100 * σ)) 50 50) (s : RootOf v x) where
  abbrev n : ℕ
  n = s.w

  abbrev w : ℕ
  w = root_at σ

  square_high : n * n ≤ 1_000_000_000 * σ + 500_000_000
  unfolding ◌⊗◌
  square_high = le_of_mul-le-mul_right {k = v.den} (omega (arith, of_≤F (over n 10_000_000 ⊗ over n 10_000_000) v s.below, near.high)) near.above

  square_low : 1_000_000_000 * σ ≤ (n + 1) * (n + 1) + 500_000_000
  unfolding ◌⊗◌
  square_low = le_of_mul-le-mul_right {k = v.den} (omega (arith, of_≤F v (over (n + 1) 10_000_000 ⊗ over (n + 1) 10_000_000) s.above, near.low)) near.above

  -- an end m of what the grid's root leaves open, where x is no further from it
  end : (m : ℕ) → Rooted σ (over m 100_000) → 10_000_000 * plus x.num ≤ (100 * m + far) * x.den + 10_000_000 * minus x.num →
      100 * m * x.den + 10_000_000 * minus x.num ≤ 10_000_000 * plus x.num + far * x.den → Root√ σ x far
  end m rooted h l = record { on_grid = over m 100_000; rooted = rooted; apart = record { up = omega (arith, h); down = omega (arith, l) } }

  pub root_beside : Root√ σ x far
  root_beside = go (dec_le (100 * w * x.den + 10_000_000 * minus x.num) (10_000_000 * plus x.num)) (dec_le (10_000_000 * plus x.num) (100 * (w + 1) * x.den + 10_000_000 * minus x.num))
    where
      go : Dec (100 * w * x.den + 10_000_000 * minus x.num ≤ 10_000_000 * plus x.num) → Dec (10_000_000 * plus x.num ≤ 100 * (w + 1) * x.den + 10_000_000 * minus x.num) → Root√ σ x far
      go (yes a) (yes b) =
          let rooted = grid.rooted_every σ x s.fraction (to_≤F (over w 100_000) x (omega arith)) (to_≤F x (over (w + 1) 100_000) (omega arith)) in
          record { on_grid = x; rooted = rooted; apart = record { up = omega arith; down = omega arith } }
      go (yes a) (no b) =
          let f = up_far w wl n far least enough (omega (arith, square_high, r.high)) in
          end (w + 1) (grid.rooted_every σ (over (w + 1) 100_000) (omega arith) (to_≤F _ _ (omega arith)) (to_≤F _ _ (omega arith))) (omega (arith, of_≤F x (over (n + 1) 10_000_000) s.high, mul-le-mul_right x.den f)) (omega arith)
      go (no a) b =
          let f = down_far w wl n far least enough (omega (arith, square_low, r.low)) in
          end w (grid.rooted σ) (omega arith) (omega (arith, of_≤F (over n 10_000_000) x s.low, mul-le-mul_right x.den f))

-- ---- every fraction from 0 to 1 has one to put in place of its root
pub root_there : (v : Frac) → 0 < v.den → over 0 1 ≤F v → v ≤F over 1 1 → RootOf v (over (root_of (100_000_000_000_000 * plus v.num / v.den)) 10_000_000)
unfolding ◌⊗◌
root_there v v0 low high =
    let z = not_below v.num (omega (arith, of_≤F (over 0 1) v low)) in
    let D = v.den in
    let n = 100_000_000_000_000 * plus v.num in
    let N = n / D in
    let a : N * D ≤ n = div-mul-le_self n D in
    let b : n < N * D + D = lt-div-mul-add v0 in
    let top : n ≤ 100_000_000_000_000 * D = omega (arith, of_≤F v (over 1 1) high, z) in
    let small : N ≤ 100_000_000_000_000 = le_of_mul-le-mul_right {k = D} (omega arith) v0 in
    let r = root_is N (omega arith) in
    let w = root_of N in
    record {
      w = w;
      below = to_≤F (over w 10_000_000 ⊗ over w 10_000_000) v (omega (arith, mul-le-mul_right D r.low, a, z));
      above = to_≤F v (over (w + 1) 10_000_000 ⊗ over (w + 1) 10_000_000) (omega (arith, mul-le-mul_right D r.high, b, z));
      fraction = omega arith;
      low = to_≤F _ _ (omega arith);
      high = to_≤F _ _ (omega arith);
    }

-- and every fraction between the two ends is one
pub root_every : (v x : Frac) (w : ℕ) → over w 10_000_000 ⊗ over w 10_000_000 ≤F v → v ≤F over (w + 1) 10_000_000 ⊗ over (w + 1) 10_000_000 → 0 < x.den →
    over w 10_000_000 ≤F x → x ≤F over (w + 1) 10_000_000 → RootOf v x
root_every v x w b a f l h = record { w = w; below = b; above = a; fraction = f; low = l; high = h }
