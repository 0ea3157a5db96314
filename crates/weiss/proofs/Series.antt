-- The odd series in whole numbers, k terms, against the exact one with as many terms or more, for x = X/Y up to 1/E: each power and each term is
-- rounded down and at most 2 units of 10⁻¹¹ too low, and all the terms that are left out are at most twice the next power. Assumes nothing.
use Prim.Native.Nat.{ℕ, zero, suc, ◌+◌, ◌*◌, ◌/◌, ◌%◌, ◌^◌, ◌≤◌, ◌<◌}
use mathlib.Core.Path.{◌≡◌, ap, subst}
use native.Mathlib.Omega.{arith}
use native.Mathlib.Nat.{mul-le-mul, mul-le-mul_right, mul-le-mul_left, mul-pos, mul-one, one-mul, div-add-mod, mod-lt, div-le_self, le-div_iff_mul-le, le_of_mul-le-mul_right}
use lib.IntN.{pos}
use Rattle.whole.specs.Fraction.{Frac, over, ◌⊗◌}
use Rattle.whole.proofs.Ints.{mul_plus, mul_minus}
use Rattle.whole.proofs.Near.{Near, near_wider, near_add, near_floor}
use Rattle.carbon.specs.Weiss.{terms, odd}
use Rattle.weiss.specs.Equation.{terms_f, odd_f}

-- ---- what is left out
-- f is from 0 to e/u
abbrev AtMost : ℕ → Frac → ℕ → Type 0
AtMost u f e = Near u f (pos 0) 0 e

-- so its product by c/d, which is up to 1/k, is from 0 to e/(k·u)
part : {u e : ℕ} {f : Frac} (k c d : ℕ) → 0 < d → k * c ≤ d → AtMost u f e → AtMost (k * u) (over c d ⊗ f) e
unfolding ◌⊗◌
part {u} {e} {f} k c d h small n =
    let p = ap (k * u *◌) (mul_plus (pos c) f.num) in
    let m = ap (k * u *◌) (mul_minus (pos c) f.num) in
    record {
      above = mul-pos h n.above;
      low = omega (arith, p, m, mul-le-mul_right (k * c) n.low);
      high = omega (arith, p, m, mul-le-mul_right (k * c) n.high, mul-le-mul_right (e * f.den) small);
    }

halved : {u e : ℕ} {f : Frac} → AtMost (2 * u) f (2 * e) → AtMost u f e
halved n = record { above = n.above; low = omega (arith, n.low); high = omega (arith, n.high) }

-- ---- the terms in z = a/b, which is up to 1/D
-- the error of k terms where the first power is at most P
unfoldable pub err : ℕ → ℕ → ℕ → ℕ
err D zero P = 2 * (P + 2)
err D (suc k) P = 2 + err D k (P / D)

module _ (D a b : ℕ) (two : 2 ≤ D) (above : 0 < b) (small : D * a ≤ b) where
  half : 2 * a ≤ b
  half = omega (arith, mul-le-mul_right a two)

  -- m terms, for any m, are at most twice the first power
  tail : (m d u e : ℕ) (p : Frac) → 0 < d → AtMost u p e → AtMost u (terms_f (over a b) m d p) (2 * e)
  unfolding terms_f
  tail zero d u e p h n = record { above = omega arith; low = omega arith; high = omega arith }
  tail (suc m) d u e p h n =
      near_wider 0 (2 * e) (omega arith) (omega arith)
      (near_add (rw one-mul at (part 1 1 d h (omega arith) n))
      (halved (tail m (d + 2) (2 * u) e (over a b ⊗ p) (omega arith) (part 2 a b above half n))))

  -- how large the next power may be
  smaller : (r P : ℕ) → r ≤ P → r * a / b ≤ P / D
  smaller r P h = (le-div_iff_mul-le {k = D} (omega arith)).1 (le_of_mul-le-mul_right {k = b} (bound (r * a / b) (r * a % b) (div-add-mod (r * a) b)) above)
    where
      bound : (q c : ℕ) → b * q + c ≡ r * a → q * D * b ≤ P * b
      bound q c e = omega (arith, ap (D *◌) e, mul-le-mul_left r small, mul-le-mul_right b h)

  -- k terms in whole numbers against n exact ones
  near_terms : (k n d r P : ℕ) (p : Frac) → k ≤ n → 0 < d → r ≤ P → Near (10 ^ 11) p (pos r) 0 2 →
      Near (10 ^ 11) (terms_f (over a b) n d p) (pos (terms a b k d r)) 0 (err D k P)
  unfolding terms err terms_f
  near_terms zero n d r P p h hd l e =
      tail n d (10 ^ 11) (P + 2) p hd (record { above = e.above; low = omega (arith, e.low); high = omega (arith, e.high, mul-le-mul_right p.den l) })
  near_terms (suc k) zero d r P p h hd l e = absurd (omega arith)
  near_terms (suc k) (suc n) d r P p h hd l e =
      near_add (subst (λ q. Near (10 ^ 11) (over 1 d ⊗ p) (pos (q / d)) 0 2) (mul-one r) (near_floor 1 d 1 d 0 2 hd hd (omega arith) (omega arith) (omega arith) e))
      (near_terms k n (d + 2) (r * a / b) (P / D) (over a b ⊗ p) (omega arith) (omega arith) (smaller r P l)
      (near_floor a b a b 0 2 above above (omega arith) (omega arith) (omega (arith, half)) e))

  -- no term is larger than the first power
  terms_small : (k d r P : ℕ) → r ≤ P → terms a b k d r ≤ k * P
  unfolding terms
  terms_small zero d r P h = omega arith
  terms_small (suc k) d r P h = omega (arith, terms_small k (d + 2) (r * a / b) P (omega (arith, smaller r P h, div-le_self P D)), div-le_self r d)

-- ---- the series in X/Y
module _ (E X Y : ℕ) (two : 2 ≤ E) (above : 0 < Y) (small : E * X ≤ Y) where
  d_large : 2 ≤ E * E
  d_large = omega (arith, mul-le-mul two two)

  square : E * E * (X * X) ≤ Y * Y
  square = omega (arith, mul-le-mul small small)

  first_small : 10 ^ 11 * X / Y ≤ 10 ^ 11 / E
  first_small = smaller E X Y two above small (10 ^ 11) (10 ^ 11) (omega arith)

  first : Near (10 ^ 11) (over X Y) (pos (10 ^ 11 * X / Y)) 0 2
  first =
      let q = div-add-mod (10 ^ 11 * X) Y in
      let r = mod-lt (10 ^ 11 * X) above in
      record { above = above; low = omega arith; high = omega arith }

  pub series : (k n : ℕ) → k ≤ n → Near (10 ^ 11) (odd_f (over X Y) n) (pos (odd X Y k)) 0 (err (E * E) k (10 ^ 11 / E))
  unfolding odd_f odd ◌⊗◌
  series k n h =
      near_terms (E * E) (X * X) (Y * Y) d_large (mul-pos above above) square k n 1 (10 ^ 11 * X / Y) (10 ^ 11 / E) (over X Y) h (omega arith) first_small first

  pub series_small : (k : ℕ) → odd X Y k ≤ k * (10 ^ 11 / E)
  unfolding odd
  series_small k = terms_small (E * E) (X * X) (Y * Y) d_large (mul-pos above above) square k 1 (10 ^ 11 * X / Y) (10 ^ 11 / E) first_small
