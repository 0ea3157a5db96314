-- How far a fraction is from a whole number of units, of which u make 1: sums, differences, products rounded down, scaled products
-- and rows of any length. All rests on one law for the sum, one for the product by c/d and one for the scaled product, each said of
-- naturals and used for both sides of an error and both signs. Assumes nothing.
use Prim.Native.Nat.{ℕ, zero, suc, ◌+◌, ◌*◌, ◌-◌, ◌≤◌, ◌<◌}
use mathlib.Core.Path.{◌≡◌, refl, sym, ap}
use mathlib.Core.List.{List, [], ◌∷◌}
use native.Mathlib.Omega.{arith}
use native.Mathlib.Nat.{mul-le-mul_right, mul-le-mul_left, mul-pos, le_of_mul-le-mul_right}
use lib.IntN.{ℤ, pos, negsuc, ◌+ℤ◌, ◌-ℤ◌, ◌*ℤ◌}
use Rattle.whole.specs.Arith.{plus, minus, floor_div, scaled, row_value}
use Rattle.whole.specs.Fraction.{Frac, over, units, ◌≤F◌, ◌⊕◌, ◌⊖◌, ◌⊗◌, row_f}
use Rattle.whole.proofs.Ints.{no_minus, to_≤ℤ, of_≤ℤ, add_is, sub_is, mul_plus, mul_minus, floored, scaled_is, scaled_n}
use Rattle.whole.proofs.Interval.{Between}

-- r − a ≤ u·f ≤ r + b
pub record Near (u : ℕ) (f : Frac) (r : ℤ) (a b : ℕ) : Type 0 where
  pub above : 0 < f.den
  pub low : plus r * f.den + u * minus f.num ≤ u * plus f.num + minus r * f.den + a * f.den
  pub high : u * plus f.num + minus r * f.den ≤ plus r * f.den + u * minus f.num + b * f.den

pub near_units : (u : ℕ) (c : ℤ) → 0 < u → Near u (units u c) c 0 0
unfolding units
near_units u c h = record { above = h; low = omega arith; high = omega arith }

pub near_wider : {u : ℕ} {f : Frac} {r : ℤ} {a b : ℕ} (c d : ℕ) → a ≤ c → b ≤ d → Near u f r a b → Near u f r c d
near_wider {u} {f} c d h k n =
    record { above = n.above; low = omega (arith, n.low, mul-le-mul_right f.den h); high = omega (arith, n.high, mul-le-mul_right f.den k) }

-- the upper side, as the lower one of −f
turned : {u : ℕ} {f : Frac} {r : ℤ} {a b : ℕ} → Near u f r a b → minus r * f.den + u * plus f.num ≤ u * minus f.num + plus r * f.den + b * f.den
turned n = omega (arith, n.high)

-- ---- the upper number of a sum and of a difference, by its parts
pub times_is : (z : ℤ) (d : ℕ) → (plus (z *ℤ pos d) ≡ plus z * d) × (minus (z *ℤ pos d) ≡ minus z * d)
times_is z d = (omega (arith, mul_plus z (pos d)), omega (arith, mul_minus z (pos d)))

module _ (f g : Frac) where
  pub sum_is : plus (f ⊕ g).num + (minus f.num * g.den + minus g.num * f.den) ≡ minus (f ⊕ g).num + (plus f.num * g.den + plus g.num * f.den)
  unfolding ◌⊕◌
  sum_is = omega (arith, (add_is (f.num *ℤ pos g.den) (g.num *ℤ pos f.den)).is, times_is f.num g.den, times_is g.num f.den)

  pub difference_is : plus (f ⊖ g).num + (minus f.num * g.den + plus g.num * f.den) ≡ minus (f ⊖ g).num + (plus f.num * g.den + minus g.num * f.den)
  unfolding ◌⊖◌
  difference_is = omega (arith, sub_is (f.num *ℤ pos g.den) (g.num *ℤ pos f.den), times_is f.num g.den, times_is g.num f.den)

-- ---- sums and differences
-- u·(A − B)/g is at least R − T − a, and u·(C − D)/h at least S − W − c, so their sum u·(P − M)/(g·h) is at least (Q − N) − (a + c)
sum_side : (u P M A B g C D h R T S W Q N a c : ℕ) → P + (B * h + D * g) ≡ M + (A * h + C * g) → Q + (T + W) ≡ N + (R + S) →
    R * g + u * B ≤ u * A + T * g + a * g → S * h + u * D ≤ u * C + W * h + c * h → Q * (g * h) + u * M ≤ u * P + N * (g * h) + (a + c) * (g * h)
sum_side u P M A B g C D h R T S W Q N a c e d x y =
    let k = g * h in
    omega (
      arith,
      linear (u * P) (u * M) (u * (A * h)) (u * (B * h)) (u * (C * g)) (u * (D * g)) (Q * k) (N * k) (R * k) (T * k) (S * k) (W * k) (a * k) (c * k)
          (omega (arith, ap (u *◌) e)) (omega (arith, ap (◌* k) d)) (omega (arith, mul-le-mul_right h x)) (omega (arith, mul-le-mul_right g y)),
    )
  where
    linear : (P M A B C D Q N R T S W a c : ℕ) → P + (B + D) ≡ M + (A + C) → Q + (T + W) ≡ N + (R + S) → R + B ≤ A + T + a → S + D ≤ C + W + c → Q + M ≤ P + N + (a + c)
    linear P M A B C D Q N R T S W a c e d x y = omega arith

module _ {u : ℕ} {f g : Frac} {r s : ℤ} {a b c d : ℕ} (n : Near u f r a b) (m : Near u g s c d) where
  pub near_add : Near u (f ⊕ g) (r +ℤ s) (a + c) (b + d)
  unfolding ◌⊕◌
  near_add =
      let e = sum_is f g in
      let k = (add_is r s).is in
      record {
        above = mul-pos n.above m.above;
        low = sum_side u _ _ (plus f.num) _ _ (plus g.num) _ _ (plus r) _ (plus s) _ _ _ a c e k n.low m.low;
        high = omega (arith, sum_side u _ _ (minus f.num) _ _ (minus g.num) _ _ (minus r) _ (minus s) _ _ _ b d (sym e) (sym k) (turned n) (turned m));
      }

  pub near_sub : Near u (f ⊖ g) (r -ℤ s) (a + d) (b + c)
  unfolding ◌⊖◌
  near_sub =
      let e = difference_is f g in
      let k = sub_is r s in
      record {
        above = mul-pos n.above m.above;
        low = sum_side u _ _ (plus f.num) _ _ (minus g.num) _ _ (plus r) _ (minus s) _ _ _ a d e k n.low (turned m);
        high = omega (arith, sum_side u _ _ (minus f.num) _ _ (plus g.num) _ _ (minus r) _ (plus s) _ _ _ b c (sym e) (sym k) (turned n) m.low);
      }

-- ---- a fraction times c/d, rounded down
-- v·(A − B)/g is at least R − T − a, m·(Q − N) is at most (R − T)·x + e, and u·c/d is v·x/m: so (u·c/d)·(A − B)/g is at least Q − N − a'
floor_side : (u v c d x m A B g R T Q N a a' e : ℕ) → 0 < m → u * c * m ≡ v * x * d → R * g + v * B ≤ v * A + T * g + a * g → m * Q + T * x ≤ R * x + m * N + e →
    a * x + e ≤ m * a' → Q * (d * g) + u * (c * B) ≤ u * (c * A) + N * (d * g) + a' * (d * g)
floor_side u v c d x m A B g R T Q N a a' e h is n s w =
    let k = d * g in
    le_of_mul-le-mul_right {k = m}
    (omega (
      arith,
      linear (m * Q * k) (m * N * k) (R * x * k) (T * x * k) (a * x * k) (e * k) (m * a' * k) (v * x * d * A) (v * x * d * B) (omega (arith, mul-le-mul_right (x * d) n))
          (omega (arith, mul-le-mul_right k s)) (omega (arith, mul-le-mul_right k w)),
      ap (◌* A) is,
      ap (◌* B) is,
    ))
    h
  where
    linear : (Q N R T a e a' A B : ℕ) → R + B ≤ A + T + a → Q + T ≤ R + N + e → a + e ≤ a' → Q + B ≤ A + N + a'
    linear Q N R T a e a' A B n s w = omega arith

-- v·f is near r, and u·c/d is v·x/m: so u·(c/d)·f is near r·x/m, rounded down; for m = 1 nothing is rounded
pub near_floor : {u v : ℕ} {f : Frac} {r : ℤ} {a b : ℕ} (c d x m a' b' : ℕ) → 0 < d → 0 < m → u * c * m ≡ v * x * d → a * x ≤ m * a' → b * x + m ≤ m * b' + 1 →
    Near v f r a b → Near u (over c d ⊗ f) (floor_div (r *ℤ pos x) m) a' b'
unfolding ◌⊗◌
near_floor {u} {v} {f} {r} {a} {b} c d x m a' b' hd hm is ha hb n =
    let A = plus f.num in
    let B = minus f.num in
    let q = floor_div (r *ℤ pos x) m in
    let p : u * plus (pos c *ℤ f.num) ≡ u * (c * A) = omega (arith, ap (u *◌) (mul_plus (pos c) f.num)) in
    let l : u * minus (pos c *ℤ f.num) ≡ u * (c * B) = omega (arith, ap (u *◌) (mul_minus (pos c) f.num)) in
    let s = floored (r *ℤ pos x) m hm in
    let i = times_is r x in
    let low = floor_side u v c d x m A B f.den (plus r) (minus r) (plus q) (minus q) a a' 0 hm is n.low (omega (arith, s.low, i)) (omega arith) in
    let high = floor_side u v c d x m B A f.den (minus r) (plus r) (minus q) (plus q) b b' (m - 1) hm is (turned n) (omega (arith, s.high, i)) (omega arith) in
    record { above = mul-pos hd n.above; low = omega (arith, low, p, l); high = omega (arith, high, p, l) }

-- ---- scaled products
-- (A − B)/g is at least R − T − a and at least −M, x/y is from k to k + d in 10⁻⁵, and q − p is (R − T)·k/100,000 or at most
-- c/100,000 more: the product of the two fractions is at least q − p − a'
product_side : (A B g R T q p k d M x y a a' c : ℕ) → k * y ≤ x * 100_000 → x * 100_000 ≤ (k + d) * y → R * g + B ≤ A + T * g + a * g → T + a ≤ R + M →
    100_000 * q + T * k ≤ R * k + 100_000 * p + c → a * k + d * M + c ≤ 100_000 * a' → q * (y * g) + x * B ≤ x * A + p * (y * g) + a' * (y * g)
product_side A B g R T q p k d M x y a a' c lo hi n m s h =
    let e = x * 100_000 - k * y in
    let split : x * 100_000 ≡ k * y + e = omega arith in
    last (y * g) (R * k) (T * k) (a * k) (d * M) (x * A) (x * B)
    (together (R * k * (y * g)) (T * k * (y * g) + a * k * (y * g)) (d * M * (y * g)) e split exact (rest e (omega arith))) s h
  where
    -- the product by k
    exact : R * k * (y * g) + B * (k * y) ≤ A * (k * y) + (T * k * (y * g) + a * k * (y * g))
    exact = omega (arith, mul-le-mul_right (k * y) n)

    -- the product by what x/y is above k
    rest : (e : ℕ) → e ≤ d * y → B * e ≤ A * e + d * M * (y * g)
    rest e small =
        let f : B ≤ A + M * g = omega (arith, mul-le-mul_right g m) in
        omega (arith, mul-le-mul_right e f, mul-le-mul_left (M * g) small)

    together : (X Y Z e : ℕ) → x * 100_000 ≡ k * y + e → X + B * (k * y) ≤ A * (k * y) + Y → B * e ≤ A * e + Z → X + 100_000 * (x * B) ≤ 100_000 * (x * A) + Y + Z
    together X Y Z e split f h = omega (arith, ap (◌* A) split, ap (◌* B) split)

    last : (u Rk Tk ak dM xA xB : ℕ) → Rk * u + 100_000 * xB ≤ 100_000 * xA + (Tk * u + ak * u) + dM * u →
        100_000 * q + Tk ≤ Rk + 100_000 * p + c → ak + dM + c ≤ 100_000 * a' → q * u + xB ≤ xA + p * u + a' * u
    last u Rk Tk ak dM xA xB f s h = omega (arith, mul-le-mul_right u s, mul-le-mul_right u h)

-- a fraction from k upwards is not negative
not_negative : (z : ℤ) (k y : ℕ) → k * y + 100_000 * minus z ≤ 100_000 * plus z → minus z ≡ 0
not_negative (pos n) k y h = refl
not_negative (negsuc n) k y h = omega arith

-- the product of a fraction from k to k + d in 10⁻⁵ and one of size at most M
pub near_scale : {u : ℕ} {x f : Frac} {r : ℤ} {a b k d : ℕ} (M a' b' : ℕ) → Near 100_000 x (pos k) 0 d → Near u f r a b →
    plus r + b ≤ minus r + M → minus r + a ≤ plus r + M → a * k + d * M ≤ 100_000 * a' → 100_000 + b * k + d * M ≤ 100_000 * b' →
    Near u (x ⊗ f) (scaled r (pos k)) a' b'
unfolding ◌⊗◌
near_scale {u} {x} {f} {r} {a} {b} {k} {d} M a' b' v n Mu Ml ha hb =
    let X = plus x.num in
    let A = plus f.num in
    let B = minus f.num in
    let z : minus x.num ≡ 0 = not_negative x.num k x.den (omega (arith, v.low)) in
    let p : u * plus (x.num *ℤ f.num) ≡ X * (u * A) = omega (arith, ap (u *◌) (mul_plus x.num f.num), ap (◌* (u * B)) z) in
    let m : u * minus (x.num *ℤ f.num) ≡ X * (u * B) = omega (arith, ap (u *◌) (mul_minus x.num f.num), ap (◌* (u * A)) z) in
    let s = scaled_n r k in
    let q = scaled r (pos k) in
    let lo : k * x.den ≤ X * 100_000 = omega (arith, v.low) in
    let hi : X * 100_000 ≤ (k + d) * x.den = omega (arith, v.high) in
    let sl : 100_000 * plus q + minus r * k ≤ plus r * k + 100_000 * minus q + 0 = omega (arith, s.low) in
    let sh : 100_000 * minus q + plus r * k ≤ minus r * k + 100_000 * plus q + 100_000 = omega (arith, s.high) in
    let nh = turned n in
    let low = product_side (u * A) (u * B) f.den (plus r) (minus r) (plus q) (minus q) k d M X x.den a a' 0 lo hi n.low Ml sl (omega arith) in
    let high = product_side (u * B) (u * A) f.den (minus r) (plus r) (minus q) (plus q) k d M X x.den b b' 100_000 lo hi nh Mu sh (omega arith) in
    record { above = mul-pos v.above n.above; low = omega (arith, low, p, m); high = omega (arith, high, p, m) }

-- the product by a grid number up to X, which is exact
pub near_grid : {u : ℕ} {f : Frac} {r : ℤ} {a b : ℕ} (k X a' b' : ℕ) → k ≤ X → a * X ≤ 100_000 * a' → 100_000 + b * X ≤ 100_000 * b' → Near u f r a b →
    Near u (units 100_000 (pos k) ⊗ f) (scaled r (pos k)) a' b'
unfolding units scaled
near_grid {u} {f} {r} {a} {b} k X a' b' h ha hb n =
    near_floor k 100_000 k 100_000 a' b' (omega arith) (omega arith) refl (omega (arith, mul-le-mul_left a h)) (omega (arith, mul-le-mul_left b h)) n

-- ---- rows
-- the scaled product by a temperature of the grid keeps an error from 1 below to 2 above
pub near_step : {u : ℕ} {f : Frac} {r : ℤ} (t : ℤ) → Between 2_000 40_000 t → Near u f r 1 2 → Near u (units 100_000 t ⊗ f) (scaled r t) 1 2
unfolding units ◌⊗◌
near_step (pos t) h n = near_grid t 40_000 1 2 h.up (omega arith) (omega arith) n
near_step {u} {f} {r} (negsuc t) h n =
    let k = suc t in
    let A = plus f.num in
    let B = minus f.num in
    let p : u * plus (negsuc t *ℤ f.num) ≡ k * (u * B) = omega (arith, ap (u *◌) (mul_plus (negsuc t) f.num)) in
    let m : u * minus (negsuc t *ℤ f.num) ≡ k * (u * A) = omega (arith, ap (u *◌) (mul_minus (negsuc t) f.num)) in
    let s = scaled_is r (negsuc t) in
    let q = scaled r (negsuc t) in
    let sl : 100_000 * plus q + plus r * k ≤ minus r * k + 100_000 * minus q + 0 = omega (arith, s.low) in
    let sh : 100_000 * minus q + minus r * k ≤ plus r * k + 100_000 * plus q + 100_000 = omega (arith, s.high) in
    let nh = turned n in
    let small = h.down in
    let lo : k * 100_000 ≤ k * 100_000 = omega arith in
    let hi : k * 100_000 ≤ (k + 0) * 100_000 = omega arith in
    let low = product_side (u * B) (u * A) f.den (minus r) (plus r) (plus q) (minus q) k 0 (plus r + 2) k 100_000 2 1 0 lo hi nh (omega arith) sl (omega arith) in
    let high = product_side (u * A) (u * B) f.den (plus r) (minus r) (minus q) (plus q) k 0 (minus r + 1) k 100_000 1 2 100_000 lo hi n.low (omega arith) sh (omega arith) in
    record { above = mul-pos (omega arith) n.above; low = omega (arith, low, p, m); high = omega (arith, high, p, m) }

-- a row of any length: the exact row is from 1 below its value to 2 above
pub near_row : (u : ℕ) (cs : List ℤ) (t : ℤ) → 0 < u → Between 2_000 40_000 t → Near u (row_f u cs (units 100_000 t)) (row_value cs t) 1 2
unfolding row_f row_value
near_row u [] t h w = near_wider 1 2 (omega arith) (omega arith) (near_units u (pos 0) h)
near_row u (c ∷ cs) t h w = near_add (near_units u c h) (near_step t w (near_row u cs t h w))

-- ---- numbers above 0
pub record NearN (u : ℕ) (f : Frac) (r a b : ℕ) : Type 0 where
  pub above : 0 < f.den
  pub positive : 0 < plus f.num
  pub low : r * f.den ≤ u * plus f.num + a * f.den
  pub high : u * plus f.num ≤ r * f.den + b * f.den

pub near_nat : {u : ℕ} {f : Frac} {r : ℤ} {a b : ℕ} → a < plus r → Near u f r a b → NearN u f (plus r) a b
near_nat {u} {f} {r} {a} {b} h n =
    let z : minus r * f.den ≡ 0 * f.den = ap (◌* f.den) (no_minus r (omega arith)) in
    let p : 0 < plus f.num = factor (plus f.num) (omega (arith, n.low, n.above, mul-le-mul_right f.den h)) in
    let e : u * minus f.num ≡ u * 0 = ap (u *◌) (no_minus f.num p) in
    record { above = n.above; positive = p; low = omega (arith, n.low); high = omega (arith, n.high) }
  where
    factor : (A : ℕ) → 0 < u * A → 0 < A
    factor zero h = omega arith
    factor (suc A) h = omega arith

-- ---- two fractions compared, said of naturals
abbrev pub Across : Frac → Frac → Type 0
Across a b = plus a.num * b.den + minus b.num * a.den ≤ plus b.num * a.den + minus a.num * b.den

module _ (a b : Frac) where
  pub to_≤F : Across a b → a ≤F b
  unfolding ◌≤F◌
  to_≤F h = to_≤ℤ (a.num *ℤ pos b.den) (b.num *ℤ pos a.den) (omega (arith, times_is a.num b.den, times_is b.num a.den))

  pub of_≤F : a ≤F b → Across a b
  unfolding ◌≤F◌
  of_≤F h = omega (arith, of_≤ℤ (a.num *ℤ pos b.den) (b.num *ℤ pos a.den) h, times_is a.num b.den, times_is b.num a.den)
