-- How far a whole number can rise: through sums and scaled products; and one law that makes a step into any number of steps. Assumes nothing.
use Prim.Native.Nat.{ℕ, zero, suc, ◌+◌, ◌*◌, ◌-◌, ◌≤◌, ◌<◌}
use native.Mathlib.Omega.{arith}
use mathlib.Core.Path.{◌≡◌, subst}
use native.Mathlib.Nat.{mul-le-mul_right, mul-le-mul_left, le_refl, le_trans, add-zero, add-suc}
use lib.IntN.{ℤ, pos, ◌+ℤ◌}
use Rattle.whole.specs.Arith.{plus, minus, scaled}
use Rattle.whole.proofs.Ints.{add_is, scaled_n}

-- from a to b is at most z
pub record Rise (a b z : ℤ) : Type 0 where
  pub most : plus b + minus a + minus z ≤ plus a + minus b + plus z

pub rise_none : (a : ℤ) → Rise a a (pos 0)
rise_none a = record { most = omega arith }

pub rise_under : {c d y : ℤ} (a : ℤ) → Rise c d y → Rise (a +ℤ c) (a +ℤ d) y
rise_under {c} {d} a h = record { most = omega (arith, (add_is a c).is, (add_is a d).is, h.most) }

pub rise_add : {a b c d z y : ℤ} → Rise a b z → Rise c d y → Rise (a +ℤ c) (b +ℤ d) (z +ℤ y)
rise_add {a} {b} {c} {d} {z} {y} h k = record { most = omega (arith, (add_is a c).is, (add_is b d).is, (add_is z y).is) }

-- the scaled product of a by x, and that of b by y: the floors take nothing from a whole bound
pub rise_scaled : (a b : ℤ) (x y : ℕ) (z : ℤ) → plus b * y + minus a * x + 100_000 * minus z ≤ plus a * x + minus b * y + 100_000 * plus z → Rise (scaled a (pos x)) (scaled b (pos y)) z
rise_scaled a b x y z h = record { most = omega (arith, (scaled_n a x).high, (scaled_n b y).low) }

-- by one number of at most 1: no more than its factor
pub rise_by : {a b : ℤ} {X : ℕ} (x : ℕ) → x ≤ 100_000 → Rise a b (pos X) → Rise (scaled a (pos x)) (scaled b (pos x)) (pos X)
rise_by {a} {b} {X} x h k = rise_scaled a b x x (pos X) (omega (arith, mul-le-mul_right x k.most, mul-le-mul_left X h))

-- ---- what does not fall from one number to the next does not fall at all
module _ (f : ℕ → ℕ) (top : ℕ) (step : (n : ℕ) → n < top → f n ≤ f (suc n)) where
  climb : (n j : ℕ) → n + j ≤ top → f n ≤ f (n + j)
  climb n zero h = rw add-zero (le_refl (f n))
  climb n (suc j) h = rw add-suc (le_trans (climb n j (omega arith)) (step (n + j) (omega arith)))

  pub rising : (n m : ℕ) → n ≤ m → m ≤ top → f n ≤ f m
  rising n m h k = let e : n + (m - n) ≡ m = omega arith in subst (λ i. f n ≤ f i) e (climb n (m - n) (omega arith))
