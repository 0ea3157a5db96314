-- Where a number lies: between two multiples of another, in 10⁻⁹. It is given by its parts, what is above 0 and what is below; so are the boxes of
-- sums and of products of either sign, each end by one law of naturals. Assumes nothing.
use Prim.Native.Nat.{ℕ, ◌+◌, ◌*◌, ◌/◌, ◌≤◌}
use mathlib.Core.Path.{◌≡◌, refl, ap, subst}
use native.Mathlib.Omega.{arith}
use native.Mathlib.Nat.{mul-le-mul_right, mul-le-mul_left}
use lib.IntN.{ℤ, pos, negsuc, neg_ℤ, ◌-ℤ◌}
use Rattle.whole.specs.Arith.{plus, minus}
use Rattle.whole.specs.Order.{Box}
use Rattle.whole.proofs.Ints.{neg_plus, neg_minus, add_is, sub_is}
use Rattle.whole.proofs.Interval.{◌⊞◌}

infixl 7 ◌⊠◌
-- u·(P − N) is at least (p − n)·m
abbrev AtLeast : ℕ → ℕ → ℕ → ℕ → ℕ → ℕ → Type 0
AtLeast u m p n P N = p * m + u * N ≤ u * P + n * m

-- u·(P − N) is from lo·m to hi·m
pub record Lies (u m : ℕ) (b : Box) (P N : ℕ) : Type 0 where
  pub low : AtLeast u m (plus b.lo) (minus b.lo) P N
  pub high : AtLeast u m (minus b.hi) (plus b.hi) N P

-- ---- boxes
unfoldable pub flip : Box → Box
flip b = record { lo = neg_ℤ b.hi; hi = neg_ℤ b.lo }

-- the box of products by a number from kl to kh
unfoldable pub times : ℕ → ℕ → Box → Box
times kl kh b =
    record {
      lo = pos (plus b.lo * kl / 1_000_000_000) -ℤ pos ((minus b.lo * kh + 999_999_999) / 1_000_000_000);
      hi = pos ((plus b.hi * kh + 999_999_999) / 1_000_000_000) -ℤ pos (minus b.hi * kl / 1_000_000_000);
    }

-- the box of products: by what is above 0 of the first, and by what is below
unfoldable pub ◌⊠◌ : Box → Box → Box
b ⊠ c = times (plus b.lo) (plus b.hi) c ⊞ times (minus b.hi) (minus b.lo) (flip c)

-- ---- the laws
module _ {u m : ℕ} {b : Box} {P N : ℕ} (h : Lies u m b P N) where
  pub lies_in : {n : ℕ} → m ≡ n → Lies u n b P N
  lies_in e = subst (λ k. Lies u k b P N) e h

  -- the same difference, by other parts
  pub lies_as : {n Q R : ℕ} → m ≡ n → P + R ≡ N + Q → Lies u n b Q R
  lies_as e f =
      let g = lies_in e in
      record { low = omega (arith, g.low, ap (u *◌) f); high = omega (arith, g.high, ap (u *◌) f) }

  pub lies_add : {c : Box} {Q R : ℕ} → Lies u m c Q R → Lies u m (b ⊞ c) (P + Q) (N + R)
  unfolding ◌⊞◌
  lies_add {c} k =
      record {
        low = omega (arith, h.low, k.low, ap (◌* m) (add_is b.lo c.lo).is);
        high = omega (arith, h.high, k.high, ap (◌* m) (add_is b.hi c.hi).is);
      }

  pub lies_turn : Lies u m (flip b) N P
  unfolding flip
  lies_turn =
      record {
        low = omega (arith, h.high, ap (◌* m) (neg_plus b.hi), ap (◌* m) (neg_minus b.hi));
        high = omega (arith, h.low, ap (◌* m) (neg_plus b.lo), ap (◌* m) (neg_minus b.lo));
      }

  pub lies_by : (k : ℕ) → Lies u (m * k) b (P * k) (N * k)
  lies_by k = record { low = omega (arith, mul-le-mul_right k h.low); high = omega (arith, mul-le-mul_right k h.high) }

-- m·j for m·k, where k is from kl to kh in 10⁻⁹ of j: one end, q being p·kl and r being n·kh in 10⁻⁹
scale_end : (u m k j kl kh p n q r P N : ℕ) → kl * j ≤ 1_000_000_000 * k → 1_000_000_000 * k ≤ kh * j →
    1_000_000_000 * q ≤ p * kl → n * kh ≤ 1_000_000_000 * r → AtLeast u (m * k) p n P N → AtLeast u (m * j) q r P N
scale_end u m k j kl kh p n q r P N l h hq hr a =
    linear (p * m * k) (n * m * k) (u * P) (u * N) (p * kl * (m * j)) (n * kh * (m * j)) (q * (m * j)) (r * (m * j))
    (omega (arith, a)) (omega (arith, mul-le-mul_left (p * m) l)) (omega (arith, mul-le-mul_left (n * m) h))
    (omega (arith, mul-le-mul_right (m * j) hq)) (omega (arith, mul-le-mul_right (m * j) hr))
  where
    linear : (a b P N c d q r : ℕ) → a + N ≤ P + b → c ≤ 1_000_000_000 * a → 1_000_000_000 * b ≤ d → 1_000_000_000 * q ≤ c → d ≤ 1_000_000_000 * r → q + N ≤ P + r
    linear a b P N c d q r h x y z w = omega arith

pub lies_for : {u : ℕ} {b : Box} {P N : ℕ} (m k j kl kh : ℕ) → Lies u (m * k) b P N → kl * j ≤ 1_000_000_000 * k → 1_000_000_000 * k ≤ kh * j → Lies u (m * j) (times kl kh b) P N
unfolding times
lies_for {u} {b} {P} {N} m k j kl kh h l t =
    let p = plus b.lo in
    let n = minus b.lo in
    let p' = plus b.hi in
    let n' = minus b.hi in
    let low = scale_end u m k j kl kh p n (p * kl / 1_000_000_000) ((n * kh + 999_999_999) / 1_000_000_000) P N l t (omega arith) (omega arith) h.low in
    let high = scale_end u m k j kl kh n' p' (n' * kl / 1_000_000_000) ((p' * kh + 999_999_999) / 1_000_000_000) N P l t (omega arith) (omega arith) h.high in
    record {
      low = omega (arith, low, ap (◌* (m * j)) (sub_is (pos (p * kl / 1_000_000_000)) (pos ((n * kh + 999_999_999) / 1_000_000_000))));
      high = omega (arith, high, ap (◌* (m * j)) (sub_is (pos ((p' * kh + 999_999_999) / 1_000_000_000)) (pos (n' * kl / 1_000_000_000))));
    }

-- the parts of a whole number, one of which is 0: each is between its own ends
module _ (u m : ℕ) where
  pub least_parts : (l z : ℤ) → AtLeast u m (plus l) (minus l) (plus z) (minus z) → (plus l * m ≤ u * plus z) × (u * minus z ≤ minus l * m)
  least_parts (pos l) (pos z) h = (omega arith, omega arith)
  least_parts (pos l) (negsuc z) h = (omega arith, omega arith)
  least_parts (negsuc l) (pos z) h = (omega arith, omega arith)
  least_parts (negsuc l) (negsuc z) h = (omega arith, omega arith)

  pub most_parts : (l z : ℤ) → AtLeast u m (minus l) (plus l) (minus z) (plus z) → (u * plus z ≤ plus l * m) × (minus l * m ≤ u * minus z)
  most_parts (pos l) (pos z) h = (omega arith, omega arith)
  most_parts (pos l) (negsuc z) h = (omega arith, omega arith)
  most_parts (negsuc l) (pos z) h = (omega arith, omega arith)
  most_parts (negsuc l) (negsuc z) h = (omega arith, omega arith)

-- the product of a whole number, in 10⁻⁹ of m, and a difference
pub lies_mul : {u m n : ℕ} {b c : Box} {P N : ℕ} (z : ℤ) → Lies 1_000_000_000 m b (plus z) (minus z) → Lies u n c P N → Lies u (n * m) (b ⊠ c) (plus z * P + minus z * N) (plus z * N + minus z * P)
unfolding ◌⊠◌
lies_mul {u} {m} {n} {b} {c} {P} {N} z h k =
    let l = least_parts 1_000_000_000 m b.lo z h.low in
    let t = most_parts 1_000_000_000 m b.hi z h.high in
    lies_as
    (lies_add (lies_for n (plus z) m (plus b.lo) (plus b.hi) (lies_by k (plus z)) l.0 t.0)
    (lies_for n (minus z) m (minus b.hi) (minus b.lo) (lies_by (lies_turn k) (minus z)) t.1 l.1)) refl (omega arith)
