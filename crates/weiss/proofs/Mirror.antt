-- The odd series is odd: in −x it is the one in x with the other sign, so an error below is one above. Below 300 K, x is below 0. Assumes nothing.
use Prim.Native.Nat.{ℕ, zero, suc, ◌+◌, ◌*◌}
use mathlib.Core.Path.{◌≡◌, refl, ap}
use native.Mathlib.Omega.{arith}
use lib.IntN.{ℤ, neg_ℤ, ◌*ℤ◌, neg_ℤ-neg_ℤ, neg_ℤ-+ℤ, *ℤ_comm}
use Rattle.whole.specs.Fraction.{Frac, over, ◌⊕◌, ◌⊗◌}
use Rattle.whole.proofs.Ints.{neg_plus, neg_minus, mul_plus, mul_minus, same}
use Rattle.whole.proofs.Near.{Near}
use Rattle.weiss.specs.Equation.{terms_f, odd_f}

-- −f
unfoldable pub neg_f : Frac → Frac
neg_f f = record { num = neg_ℤ f.num; den = f.den }

pub near_neg : {u : ℕ} {f : Frac} {r : ℤ} {a b : ℕ} → Near u f r a b → Near u (neg_f f) (neg_ℤ r) b a
unfolding neg_f
near_neg {u} {f} {r} n =
    record {
      above = n.above;
      low = rw (neg_plus r, neg_minus r, neg_plus f.num, neg_minus f.num) (omega (arith, n.high));
      high = rw (neg_plus r, neg_minus r, neg_plus f.num, neg_minus f.num) (omega (arith, n.low));
    }

-- ---- a sign moves out of products and sums
left : (a b : ℤ) → neg_ℤ a *ℤ b ≡ neg_ℤ (a *ℤ b)
left a b =
    let p = rw (neg_plus a, neg_minus a) at (mul_plus (neg_ℤ a) b) in
    let m = rw (neg_plus a, neg_minus a) at (mul_minus (neg_ℤ a) b) in
    same (neg_ℤ a *ℤ b) (neg_ℤ (a *ℤ b)) (omega (arith, mul_plus a b, mul_minus a b, neg_plus (a *ℤ b), neg_minus (a *ℤ b)))

right : (a b : ℤ) → a *ℤ neg_ℤ b ≡ neg_ℤ (a *ℤ b)
right a b = rw (*ℤ_comm a (neg_ℤ b), left b a, *ℤ_comm b a) refl

pub product : (f g : Frac) → f ⊗ neg_f g ≡ neg_f (f ⊗ g)
unfolding neg_f ◌⊗◌
product f g = ap (λ z. record { num = z; den = f.den * g.den }) (right f.num g.num)

square : (x : Frac) → neg_f x ⊗ neg_f x ≡ x ⊗ x
unfolding neg_f ◌⊗◌
square x = let z = x.num in ap (λ y. record { num = y; den = x.den * x.den }) (rw (left z (neg_ℤ z), right z z, neg_ℤ-neg_ℤ) refl)

sum : (f g : Frac) → neg_f f ⊕ neg_f g ≡ neg_f (f ⊕ g)
unfolding neg_f ◌⊕◌
sum f g = ap (λ z. record { num = z; den = f.den * g.den }) (rw (left f.num, left g.num, neg_ℤ-+ℤ) refl)

-- ---- so out of the series
terms_odd : (z : Frac) (k d : ℕ) (p : Frac) → terms_f z k d (neg_f p) ≡ neg_f (terms_f z k d p)
unfolding terms_f
terms_odd z zero d p = unfold neg_f in refl
terms_odd z (suc k) d p = rw (product z p, terms_odd z k (d + 2) (z ⊗ p), product (over 1 d) p, sum) refl

pub odd_odd : (x : Frac) (k : ℕ) → odd_f (neg_f x) k ≡ neg_f (odd_f x k)
unfolding odd_f
odd_odd x k = rw square (terms_odd (x ⊗ x) k 1 x)
