-- The needle against the formula's difference. "Within e/10,000 of n/1,000" is "near 10·n, in 10⁻⁴"; two such errors make one of 2·e, and a
-- needle of n, which is 10·n there, names the heavier water where it is more. Assumes nothing.
use Prim.Native.Nat.{ℕ, ◌+◌, ◌*◌, ◌≤◌, ◌<◌}
use mathlib.Core.Path.{◌≡◌, ap}
use native.Mathlib.Omega.{arith}
use native.Mathlib.Nat.{mul-le-mul_right, mul-le-mul_left}
use lib.IntN.{ℤ, pos, ◌-ℤ◌}
use Rattle.whole.specs.Arith.{plus, minus}
use Rattle.whole.specs.Fraction.{Frac, over, units, ◌≤F◌, ◌⊕◌, ◌⊖◌}
use Rattle.whole.proofs.Ints.{sub_is}
use Rattle.whole.proofs.Near.{Near, near_sub, sum_is, difference_is, to_≤F, of_≤F}
use Rattle.promises.specs.Promises.{Within}

-- for r = 10·n, and an error of a below and b above
pub to_within : {e : ℕ} {n : ℤ} {f : Frac} {r : ℤ} {a b : ℕ} → plus r + 10 * minus n ≡ minus r + 10 * plus n → a ≤ e → b ≤ e → Near 10_000 f r a b → Within (over e 10_000) n f
unfolding units ◌⊕◌
to_within {e} {n} {f} is low high h =
    let t = ap (◌* f.den) is in
    let s = ap (◌* f.den) (sum_is (units 1_000 n) (over e 10_000)) in
    record {
      upper = to_≤F f (units 1_000 n ⊕ over e 10_000) (omega (arith, s, t, h.high, mul-le-mul_right f.den high));
      lower = to_≤F (units 1_000 n) (f ⊕ over e 10_000) (omega (arith, sum_is f (over e 10_000), t, h.low, mul-le-mul_right f.den low));
    }

-- a difference above its error is a difference
above : {u : ℕ} {r : ℤ} {b : ℕ} (f g : Frac) (a : ℕ) → Near u (f ⊖ g) r a b → minus r + a < plus r → ¬ (f ≤F g)
above {u} f g a n h le =
    let e : plus (f ⊖ g).num ≤ minus (f ⊖ g).num = omega (arith, of_≤F f g le, difference_is f g) in
    omega (arith, n.low, n.above, mul-le-mul_left u e, mul-le-mul_right (f ⊖ g).den h)

-- ---- two waters, of shown densities l and r and the formula's f and g, each within e of its own, in 10⁻⁴
module _ (l r e : ℕ) {f g : Frac} (nl : Near 10_000 f (pos (10 * l)) e e) (nr : Near 10_000 g (pos (10 * r)) e e) where
  pub difference_within : {d : ℕ} → e + e ≤ d → Within (over d 10_000) (pos r -ℤ pos l) (g ⊖ f)
  difference_within h = to_within (omega (arith, sub_is (pos (10 * r)) (pos (10 * l)), sub_is (pos r) (pos l))) h h (near_sub nr nl)

  pub heavier : (n : ℕ) → l + n ≤ r → e + e < 10 * n → ¬ (g ≤F f)
  heavier n h k = above g f (e + e) (near_sub nr nl) (omega (arith, sub_is (pos (10 * r)) (pos (10 * l))))
