-- The sum and its rounding, as the code has them: no number leaves its word, the sum is the definition's, and the scaled product by 1 rounds it.
-- Assumes nothing.
use Prim.Native.Nat.{ℕ, ◌+◌, ◌≤◌, ◌<◌}
use mathlib.Core.Path.{◌≡◌, ap, sym, ◌∙◌, subst}
use native.Mathlib.Omega.{arith}
use lib.IntN.{ℤ, pos, nat_abs, ◌+ℤ◌, ◌-ℤ◌, ◌*ℤ◌}
use Rattle.whole.specs.Arith.{neg, floor_div, scaled}
use Rattle.whole.proofs.Ints.{size_is, add_is, sub_is, mul_plus, mul_minus, floor_size, same}
use Rattle.carbon.specs.Weiss.{by_cold, by_log, by_salt, fine, ln_k0}
use Rattle.carbon.proofs.Series.{by_cold_small, by_log_small}
use Rattle.carbon.proofs.Salt.{row_is, salt_small}

-- the scaled product by 1 is the quotient
times_one : (z : ℤ) → z *ℤ pos 1 ≡ z
times_one z = same (z *ℤ pos 1) z (omega (arith, mul_plus z (pos 1), mul_minus z (pos 1)))

pub quotient : (z : ℤ) → scaled z (pos 1) ≡ floor_div z 100_000
unfolding scaled
quotient z = ap (λ (w : ℤ). floor_div w 100_000) (times_one z)

abbrev pub warmth : ℕ → ℕ
warmth n = by_cold n + by_log n + 50_000

abbrev pub warmed : ℕ → ℕ → ℤ
warmed σ n = pos (warmth n) +ℤ by_salt σ n

abbrev pub total : ℕ → ℕ → ℤ
total σ n = warmed σ n -ℤ pos 6_024_090_000_000

pub warmth_small : (n : ℕ) → (273_150 ≤ n) × (n ≤ 313_150) → warmth n ≤ 8_000_000_050_000
warmth_small n t = omega (arith, by_cold_small n t, by_log_small n t)

module _ (σ n : ℕ) (salty : σ ≤ 42_000) (t : (273_150 ≤ n) × (n ≤ 313_150)) where
  pub by_salt_small : nat_abs (by_salt σ n) ≤ 700_000_000_000
  unfolding by_salt
  by_salt_small = subst (λ (z : ℤ). nat_abs (scaled z (pos σ)) ≤ 700_000_000_000) (row_is (pos n)) (salt_small (pos n) t.1 (pos σ) salty)

  pub warmed_small : nat_abs (warmed σ n) ≤ 9_000_000_000_000
  warmed_small =
      let s = add_is (pos (warmth n)) (by_salt σ n) in
      omega (arith, size_is (warmed σ n), s.plus_small, s.minus_small, size_is (by_salt σ n), warmth_small n t, by_salt_small)

  pub total_small : nat_abs (total σ n) ≤ 20_000_000_000_000
  total_small =
      let s = add_is (warmed σ n) (neg 6_024_090_000_000) in
      omega (arith, size_is (total σ n), s.plus_small, s.minus_small, size_is (warmed σ n), warmed_small)

  total_is : total σ n ≡ fine σ n +ℤ pos 50_000
  unfolding fine
  total_is =
      let a = neg 6_024_090_000_000 +ℤ pos (by_cold n) in
      let b = a +ℤ pos (by_log n) in
      let c = b +ℤ by_salt σ n in
      same (total σ n) (c +ℤ pos 50_000) (
      omega (
        arith,
        sub_is (warmed σ n) (pos 6_024_090_000_000),
        (add_is (pos (warmth n)) (by_salt σ n)).is,
        (add_is (neg 6_024_090_000_000) (pos (by_cold n))).is,
        (add_is a (pos (by_log n))).is,
        (add_is b (by_salt σ n)).is,
        (add_is c (pos 50_000)).is,
      )
      )

  pub rounded : scaled (total σ n) (pos 1) ≡ ln_k0 σ n
  unfolding ln_k0
  rounded = quotient (total σ n) ∙ ap (λ (z : ℤ). floor_div z 100_000) total_is

  -- the answer has nine digits at most
  pub ln_k0_small : nat_abs (ln_k0 σ n) < 1_000_000_000
  ln_k0_small =
      let e = quotient (total σ n) in
      let h : nat_abs (floor_div (total σ n) 100_000) < 1_000_000_000 = omega (arith, floor_size (total σ n), total_small) in
      subst (λ (z : ℤ). nat_abs z < 1_000_000_000) (sym e ∙ rounded) h
