-- ln K0 before it is rounded to millionths, against equation (30), in units of 10⁻¹¹: at most 3,277 too low and 561 too high, nearly all of it
-- 23.3585 times the logarithm's. Assumes nothing.
use Prim.Native.Nat.{ℕ, ◌*◌, ◌^◌, ◌≤◌, ◌<◌}
use mathlib.Core.Path.{◌≡◌, refl, ap}
use native.Mathlib.Omega.{arith}
use native.Mathlib.Nat.{mul_comm}
use lib.IntN.{ℤ, pos, +ℤ_comm}
use Rattle.whole.specs.Arith.{neg, plus, minus, scaled, row_value}
use Rattle.whole.specs.Fraction.{over, units, ◌⊗◌}
use Rattle.whole.proofs.Row.{row_one}
use Rattle.whole.proofs.Near.{Near, near_units, near_add, near_sub, near_floor, near_grid}
use Rattle.carbon.specs.Weiss.{ln_t, by_cold, by_log, salts, by_salt, fine}
use Rattle.weiss.specs.Equation.{ln_f, salt_f, equation30, Mild}
use Rattle.weiss.proofs.Log.{ln_t_near}

-- a printed number, in units m times as fine
exact : (w m : ℕ) (z r : ℤ) → 0 < w → plus r ≡ m * plus z → minus r ≡ m * minus z → Near (m * w) (units w z) r 0 0
unfolding units
exact w m z r h p q = let e = ap (◌* w) p in let f = ap (◌* w) q in record { above = h; low = omega arith; high = omega arith }

module _ (σ n : ℕ) (g : Mild σ n) where
  cold_near : Near (10 ^ 11) (over 93_4517 (10 ^ 4) ⊗ over 100_000 n) (pos (by_cold n)) 0 1
  unfolding by_cold units
  cold_near =
      near_floor 93_4517 (10 ^ 4) (93_4517 * 10 ^ 7) n 0 1 (omega arith) (omega (arith, g.cold)) (omega arith) (omega arith) (omega arith)
      (near_units n (pos 100_000) (omega (arith, g.cold)))

  log_near : (j k : ℕ) → 16 ≤ j → 4 ≤ k → Near (10 ^ 11) (over 23_3585 (10 ^ 4) ⊗ ln_f j k n) (pos (by_log n)) 561 3_272
  unfolding by_log
  log_near j k hj hk =
      rw (mul_comm 23_3585 (ln_t n)) (near_floor 23_3585 (10 ^ 4) 23_3585 (10 ^ 4) 561 3_272 (omega arith) (omega arith) refl (omega arith) (omega arith) (ln_t_near j k n hj hk g.cold g.warm))

  row_near : Near (10 ^ 13) (salt_f n) (row_value salts (pos n)) 0 5
  unfolding salt_f salts units row_value
  row_near =
      near_add (exact (10 ^ 6) (10 ^ 7) (pos 23517) (pos (23517 * 10 ^ 7)) (omega arith) refl refl)
      (near_grid n 313_150 0 5 g.warm (omega arith) (omega arith)
      (near_add (exact (10 ^ 6) (10 ^ 7) (neg 23656) (neg (23656 * 10 ^ 7)) (omega arith) refl refl)
      (near_grid {a = 0} {b = 0} n 313_150 0 1 g.warm (omega arith) (omega arith)
      (rw row_one (exact (10 ^ 7) (10 ^ 6) (pos 47036) (pos (47036 * 10 ^ 6)) (omega arith) refl refl)))))

  salt_near : Near (10 ^ 11) (over σ 1_000 ⊗ salt_f n) (by_salt σ n) 0 4
  unfolding by_salt scaled
  salt_near = near_floor σ 1_000 σ 100_000 0 4 (omega arith) (omega arith) (omega arith) (omega arith) (omega (arith, g.salt)) row_near

  pub fine_near : (j k : ℕ) → 16 ≤ j → 4 ≤ k → Near (10 ^ 11) (equation30 j k σ n) (fine σ n) 561 3_277
  unfolding equation30 fine units
  fine_near j k hj hk =
      rw (+ℤ_comm (neg (60_2409 * 10 ^ 7)) (pos (by_cold n)))
      (near_add (near_add (near_sub cold_near (exact (10 ^ 4) (10 ^ 7) (pos 60_2409) (pos (60_2409 * 10 ^ 7)) (omega arith) refl refl)) (log_near j k hj hk)) salt_near)
