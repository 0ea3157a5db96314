-- Where a row's value lies while its argument runs over an interval: a box that is computed from the row alone, for a row of any
-- length; and the boxes of sums and of scaled products. Assumes nothing.
use Prim.Native.Nat.{ℕ, ◌+◌, ◌*◌, ◌/◌, max, ◌≤◌}
use mathlib.Core.Bool.{Bool, true, false, cond}
use mathlib.Core.List.{List, [], ◌∷◌}
use native.Mathlib.Omega.{arith}
use native.Mathlib.Nat.{mul-le-mul}
use lib.Dec.{T, leb, leb→le}
use lib.IntN.{ℤ, pos, negsuc, neg_ℤ, nat_abs, ◌+ℤ◌}
use Rattle.whole.specs.Arith.{plus, minus, scaled, row_value}
use Rattle.whole.specs.Order.{Box, In}
use Rattle.whole.proofs.Ints.{neg_plus, neg_minus, scaled_is, below_minus, above_plus, trans, add_mono}

infixl 6 ◌⊞◌
-- t is from −n to p
pub record Between (n p : ℕ) (t : ℤ) : Type 0 where
  pub down : minus t ≤ n
  pub up : plus t ≤ p

-- how far below and above 0 the scaled product is, of a number from l to u by one from −n to p
unfoldable pub reach_down : ℕ → ℕ → Box → ℕ
reach_down n p b = (max (minus b.lo * p) (plus b.hi * n) + 99_999) / 100_000

unfoldable pub reach_up : ℕ → ℕ → Box → ℕ
reach_up n p b = max (plus b.hi * p) (minus b.lo * n) / 100_000

-- the box of scaled products by numbers from −n to p
unfoldable pub by : ℕ → ℕ → Box → Box
by n p b = record { lo = neg_ℤ (pos (reach_down n p b)); hi = pos (reach_up n p b) }

pub in_scaled : {n p : ℕ} {b : Box} {z : ℤ} → In b z → (t : ℤ) → Between n p t → In (by n p b) (scaled z t)
unfolding by reach_down reach_up
in_scaled {n} {p} {b} {z} i (pos t) w =
    let d = pos (reach_down n p b) in
    record {
      above = omega (arith, scaled_is z (pos t), neg_plus d, neg_minus d, mul-le-mul (below_minus b.lo z i.above) w.up);
      below = omega (arith, scaled_is z (pos t), mul-le-mul (above_plus z b.hi i.below) w.up);
    }
in_scaled {n} {p} {b} {z} i (negsuc t) w =
    let d = pos (reach_down n p b) in
    record {
      above = omega (arith, scaled_is z (negsuc t), neg_plus d, neg_minus d, mul-le-mul (above_plus z b.hi i.below) w.down);
      below = omega (arith, scaled_is z (negsuc t), mul-le-mul (below_minus b.lo z i.above) w.down);
    }

-- the box of sums
unfoldable pub ◌⊞◌ : Box → Box → Box
a ⊞ b = record { lo = a.lo +ℤ b.lo; hi = a.hi +ℤ b.hi }

pub in_add : {a b : Box} {x y : ℤ} → In a x → In b y → In (a ⊞ b) (x +ℤ y)
unfolding ◌⊞◌
in_add {a} {b} {x} {y} h k =
    record { above = add_mono a.lo b.lo x y h.above k.above; below = add_mono x y a.hi b.hi h.below k.below }

-- the one number z
unfoldable pub only : ℤ → Box
only z = record { lo = z; hi = z }

pub in_only : (z : ℤ) → In (only z) z
unfolding only
in_only z = record { above = omega arith; below = omega arith }

-- a row's box, over arguments from −n to p
unfoldable pub enclose : ℕ → ℕ → List ℤ → Box
enclose n p [] = only (pos 0)
enclose n p (c ∷ cs) = only c ⊞ by n p (enclose n p cs)

pub enclosed : (n p : ℕ) (cs : List ℤ) (t : ℤ) → Between n p t → In (enclose n p cs) (row_value cs t)
unfolding enclose row_value
enclosed n p [] t w = in_only (pos 0)
enclosed n p (c ∷ cs) t w = in_add (in_only c) (in_scaled (enclosed n p cs t w) t w)

-- ---- a box within another, as a test that can be computed
unfoldable pub within : Box → Box → Bool
within a b = cond (leb (plus b.lo + minus a.lo) (plus a.lo + minus b.lo)) (leb (plus a.hi + minus b.hi) (plus b.hi + minus a.hi)) false

pub both : (a b : Bool) → T (cond a b false) → T a × T b
both true b h = (tt, h)
both false b h = absurd h

pub in_wider : (a b : Box) {z : ℤ} → T (within a b) → In a z → In b z
unfolding within
in_wider a b {z} h i =
    let p = both (leb (plus b.lo + minus a.lo) (plus a.lo + minus b.lo)) (leb (plus a.hi + minus b.hi) (plus b.hi + minus a.hi)) h in
    record {
      above = trans b.lo a.lo z (leb→le (plus b.lo + minus a.lo) (plus a.lo + minus b.lo) p.0) i.above;
      below = trans z a.hi b.hi i.below (leb→le (plus a.hi + minus b.hi) (plus b.hi + minus a.hi) p.1);
    }

-- the numbers of size at most m
unfoldable pub upto : ℕ → Box
upto m = record { lo = neg_ℤ (pos m); hi = pos m }

pub in_size : (m : ℕ) (z : ℤ) → In (upto m) z → nat_abs z ≤ m
unfolding upto
in_size m (pos n) i = omega (arith, i.below)
in_size m (negsuc n) i = omega (arith, i.above, neg_plus (pos m), neg_minus (pos m))
