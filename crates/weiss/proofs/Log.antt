-- ln(T/100) in whole numbers against the exact one, from 0 to 40 °C and in units of 10⁻¹¹: at most 140 too low, most of it what ln 3 may be too
-- low by, and 24 too high. Assumes nothing.
use Prim.Native.Nat.{ℕ, ◌+◌, ◌*◌, ◌-◌, ◌/◌, ◌^◌, ◌≤◌, ◌<◌}
use mathlib.Core.Path.{◌≡◌, refl, ap, subst}
use mathlib.Core.Bool.{Bool, true, false, not, cond}
use native.Mathlib.Omega.{arith}
use lib.Dec.{T, ltb, ltb→lt, nltb→le}
use lib.IntN.{pos, ◌+ℤ◌, ◌-ℤ◌}
use Rattle.whole.specs.Arith.{neg}
use Rattle.whole.specs.Fraction.{Frac, over, units, ◌⊗◌}
use Rattle.whole.proofs.Ints.{sub_is, neg_plus, neg_minus, same}
use Rattle.whole.proofs.Near.{Near, near_wider, near_add, near_floor}
use Rattle.carbon.specs.Weiss.{terms, odd, ln3, ln_t}
use Rattle.weiss.specs.Equation.{odd_f, beside_f, ln_f}
use Rattle.weiss.proofs.Series.{err, series, series_small}
use Rattle.weiss.proofs.Mirror.{neg_f, near_neg, product, odd_odd}

-- twice a series, exactly
twice : {f : Frac} {o e : ℕ} → Near (10 ^ 11) f (pos o) 0 e → Near (10 ^ 11) (over 2 1 ⊗ f) (pos (2 * o)) 0 (2 * e)
twice {f} {o} {e} n =
    let is : o * 2 / 1 ≡ 2 * o = omega arith in
    subst (λ q. Near (10 ^ 11) (over 2 1 ⊗ f) (pos q) 0 (2 * e)) is (near_floor 2 1 2 1 0 (2 * e) (omega arith) (omega arith) refl (omega arith) (omega arith) n)

-- ---- ln 3
ln3_near : (j : ℕ) → 16 ≤ j → Near (10 ^ 11) (over 2 1 ⊗ odd_f (over 1 2) j) (pos ln3) 0 116
unfolding ln3 err
ln3_near j h = twice (series 2 1 2 (omega arith) (omega arith) (omega arith) 16 j h)

ln3_large : 100_000_000_000 ≤ ln3
unfolding ln3 odd terms
ln3_large = omega arith

-- ---- the rest: X is |T − 300|, in 0.001 K
abbrev rest : ℕ → ℕ → ℕ
rest X n = 2 * odd X (n + 300_000) 4

module _ (X n : ℕ) (small : 21 * X ≤ n + 300_000) where
  rest_small : rest X n ≤ 100_000_000_000
  rest_small = omega (arith, series_small 21 X (n + 300_000) (omega arith) (omega arith) small 4)

  rest_near : (k : ℕ) → 4 ≤ k → Near (10 ^ 11) (over 2 1 ⊗ odd_f (over X (n + 300_000)) k) (pos (rest X n)) 0 24
  unfolding err
  rest_near k h = twice (series 21 X (n + 300_000) (omega arith) (omega arith) small 4 k h)

beside_warm : (n : ℕ) → 300_000 ≤ n → beside_f n ≡ over (n - 300_000) (n + 300_000)
unfolding beside_f units
beside_warm n h =
    let X = n - 300_000 in
    ap (λ z. record { num = z; den = n + 300_000 }) (same (pos n -ℤ pos 300_000) (pos X) (omega (arith, sub_is (pos n) (pos 300_000))))

beside_cold : (n : ℕ) → n < 300_000 → beside_f n ≡ neg_f (over (300_000 - n) (n + 300_000))
unfolding beside_f units neg_f
beside_cold n h =
    let X = 300_000 - n in
    ap (λ z. record { num = z; den = n + 300_000 })
    (same (pos n -ℤ pos 300_000) (neg X) (omega (arith, sub_is (pos n) (pos 300_000), neg_plus (pos X), neg_minus (pos X))))

-- ---- both
module _ (j k n : ℕ) (hj : 16 ≤ j) (hk : 4 ≤ k) (cold : 273_150 ≤ n) (warm : n ≤ 313_150) where
  near_warm : 300_000 ≤ n → Near (10 ^ 11) (ln_f j k n) (pos (ln3 + rest (n - 300_000) n)) 24 140
  unfolding ln_f
  near_warm h = rw (beside_warm n h) (near_wider 24 140 (omega arith) (omega arith) (near_add (ln3_near j hj) (rest_near (n - 300_000) n (omega arith) k hk)))

  near_cold : n < 300_000 → Near (10 ^ 11) (ln_f j k n) (pos (ln3 - rest (300_000 - n) n)) 24 140
  unfolding ln_f
  near_cold h =
      let X = 300_000 - n in
      let o = rest X n in
      let is : pos ln3 +ℤ neg o ≡ pos (ln3 - o) = same (pos ln3 -ℤ pos o) (pos (ln3 - o)) (omega (arith, sub_is (pos ln3) (pos o), ln3_large, rest_small X n (omega arith))) in
      rw (beside_cold n h, odd_odd, product, ← is) (near_wider 24 140 (omega arith) (omega arith) (near_add (ln3_near j hj) (near_neg (rest_near X n (omega arith) k hk))))

  pub ln_t_near : Near (10 ^ 11) (ln_f j k n) (pos (ln_t n)) 24 140
  unfolding ln_t
  ln_t_near = go (ltb n 300_000) (ltb→lt n 300_000) (nltb→le n 300_000)
    where
      go : (t : Bool) → (T t → n < 300_000) → (T (not t) → 300_000 ≤ n) → Near (10 ^ 11) (ln_f j k n) (pos (cond t (ln3 - rest (300_000 - n) n) (ln3 + rest (n - 300_000) n))) 24 140
      go true f g = near_cold (f tt)
      go false f g = near_warm (g tt)
