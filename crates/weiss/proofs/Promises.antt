-- The promises of specs/Equation: half a unit of rounding to millionths is added to the error of proofs/Sum, and what is within an error is within any
-- wider one. Assumes nothing.
use Prim.Native.Nat.{ℕ, zero, suc, ◌+◌, ◌*◌, ◌^◌, ◌≤◌, ◌<◌}
use mathlib.Core.Path.{◌≡◌, refl, ap}
use native.Mathlib.Omega.{arith}
use native.Mathlib.Nat.{mul-le-mul_right, mul-pos, le_of_mul-le-mul_right}
use lib.IntN.{ℤ, pos, ◌+ℤ◌}
use Rattle.whole.specs.Arith.{neg, plus, minus, floor_div, scaled, row_value}
use Rattle.whole.specs.Fraction.{Frac, over, units, ◌≤F◌, ◌⊕◌, ◌⊖◌, ◌⊗◌}
use Rattle.whole.proofs.Ints.{add_is, floored}
use Rattle.whole.proofs.Near.{Near, sum_is, to_≤F, of_≤F}
use Rattle.carbon.specs.Weiss.{terms, odd, ln3, ln_t, by_cold, by_log, salts, by_salt, fine, ln_k0}
use Rattle.weiss.specs.Equation.{terms_f, odd_f, beside_f, ln_f, salt_f, equation30, LnWithin, CarbonWithin, WithinTwo, WithinKept}
use Rattle.weiss.proofs.Sum.{fine_near}

-- ---- from 10⁻¹¹ to millionths
-- the error is e, in 10⁻⁹
rounded : {f : Frac} {r : ℤ} {a b e : ℕ} → a + 50_000 ≤ 100 * e → b + 49_999 ≤ 100 * e → Near (10 ^ 11) f r a b →
    LnWithin (over e 1_000_000_000) (floor_div (r +ℤ pos 50_000) 100_000) f
unfolding units ◌⊕◌
rounded {f} {r} {a} {b} {e} ha hb n =
    let z = floor_div (r +ℤ pos 50_000) 100_000 in
    let i = f.den in
    let q = floored (r +ℤ pos 50_000) 100_000 (omega arith) in
    let y = (add_is r (pos 50_000)).is in
    let low : 100_000 * plus z + minus r ≤ plus r + 100_000 * minus z + 50_000 = omega (arith, q.low) in
    let high : plus r + 100_000 * minus z ≤ 100_000 * plus z + minus r + 49_999 = omega (arith, q.high) in
    let s = ap (◌* i) (sum_is (units 1_000_000 z) (over e 1_000_000_000)) in
    record {
      fraction = n.above;
      upper = to_≤F f (units 1_000_000 z ⊕ over e 1_000_000_000) (omega (arith, s, n.high, mul-le-mul_right i high, mul-le-mul_right i hb));
      lower =
          to_≤F (units 1_000_000 z) (f ⊕ over e 1_000_000_000)
          (omega (arith, sum_is f (over e 1_000_000_000), n.low, mul-le-mul_right i low, mul-le-mul_right i ha));
    }

pub within_kept : WithinKept
unfolding ln_k0
within_kept j k σ n hj hk g = rounded (omega arith) (omega arith) (fine_near σ n g j k (omega arith) (omega arith))

-- ---- any wider error
add_wider : (f g : Frac) (c d c' d' : ℕ) → 0 < d → c * d' ≤ c' * d → f ≤F g ⊕ over c d → f ≤F g ⊕ over c' d'
unfolding ◌⊕◌
add_wider f g c d c' d' above wide h =
    let x = g ⊕ over c d in
    let y = g ⊕ over c' d' in
    let F = f.den in
    let G = g.den in
    let k = F * d' in
    let l = F * d in
    let i = G * d * d' in
    to_≤F f y (le_of_mul-le-mul_right {k = d}
    (omega (
      arith,
      linear (plus f.num * i) (minus f.num * i) (plus x.num * k) (minus x.num * k) (plus y.num * l) (minus y.num * l) (plus g.num * (d * k)) (minus g.num * (d * k))
          (c * G * k) (c' * G * l) (omega (arith, mul-le-mul_right d' (of_≤F f x h))) (omega (arith, ap (◌* k) (sum_is g (over c d))))
          (omega (arith, ap (◌* l) (sum_is g (over c' d')))) (omega (arith, mul-le-mul_right (G * F) wide)),
    ))
    above)
  where
    linear : (A B P M Q N S T C E : ℕ) → A + M ≤ P + B → P + T ≡ M + (S + C) → Q + T ≡ N + (S + E) → C ≤ E → A + N ≤ Q + B
    linear A B P M Q N S T C E h s t w = omega arith

pub wider : {c d c' d' : ℕ} → 0 < d → c * d' ≤ c' * d → CarbonWithin (over c d) → CarbonWithin (over c' d')
wider {c} {d} {c'} {d'} above wide w j k σ n hj hk g =
    let l = w j k σ n hj hk g in
    record { fraction = l.fraction; upper = add_wider _ _ c d c' d' above wide l.upper; lower = add_wider _ _ c d c' d' above wide l.lower }

pub within_two : WithinTwo
within_two = wider (omega arith) (omega arith) within_kept

-- ---- what the words say
-- within is within on both sides
pub ln_both : (e : Frac) (z : ℤ) (f : Frac) → LnWithin e z f → (f ≤F units 1_000_000 z ⊕ e) × (units 1_000_000 z ≤F f ⊕ e)
ln_both e z f w = (w.upper, w.lower)

-- the equation is a fraction, with any numbers of terms
module _ (z : Frac) (hz : 0 < z.den) where
  terms_fraction : (k d : ℕ) (p : Frac) → 0 < d → 0 < p.den → 0 < (terms_f z k d p).den
  unfolding terms_f ◌⊕◌ ◌⊗◌
  terms_fraction zero d p hd hp = omega arith
  terms_fraction (suc k) d p hd hp = mul-pos (mul-pos hd hp) (terms_fraction k (d + 2) (z ⊗ p) (omega arith) (mul-pos hz hp))

odd_fraction : (x : Frac) (k : ℕ) → 0 < x.den → 0 < (odd_f x k).den
unfolding odd_f ◌⊗◌
odd_fraction x k h = terms_fraction (x ⊗ x) (mul-pos h h) k 1 x (omega arith) h

pub fraction : (j k σ n : ℕ) → 0 < n → 0 < (equation30 j k σ n).den
unfolding equation30 ln_f salt_f beside_f units ◌⊕◌ ◌⊖◌ ◌⊗◌
fraction j k σ n h =
    let l = mul-pos (mul-pos one (odd_fraction (over 1 2) j (omega arith))) (mul-pos one (odd_fraction (beside_f n) k (omega arith))) in
    mul-pos (mul-pos (mul-pos (mul-pos (omega arith) h) (omega arith)) (mul-pos (omega arith) l)) (omega arith)
  where
    one : 0 < 1
    one = omega arith

-- the handbook's water of salinity 35 at 25 °C, for which it prints −3.5617
pub handbook : ln_k0 35_000 298_150 ≡ neg 3_561_652
unfolding ln_k0 fine by_cold by_log by_salt salts scaled row_value ln_t ln3 odd terms
handbook = refl

pub handbook_within : (j k : ℕ) → 16 ≤ j → 4 ≤ k → LnWithin (over 2 1_000_000) (neg 3_561_652) (equation30 j k 35_000 298_150)
handbook_within j k hj hk = rw handbook at (within_two j k 35_000 298_150 hj hk (record { salt = omega arith; cold = omega arith; warm = omega arith }))
