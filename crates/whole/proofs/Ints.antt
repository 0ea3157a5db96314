-- ℤ as omega reads it: z is plus z − minus z, an order or an equation of whole numbers is one of these naturals, and the
-- sum, the product, the difference, the quotient rounded down and the scaled product are each given by such facts. Assumes nothing.
use Prim.Native.Nat.{ℕ, zero, suc, ◌+◌, ◌*◌, ◌-◌, ◌/◌, ◌≤◌, ◌<◌}
use mathlib.Core.Path.{◌≡◌, refl, ap}
use mathlib.Core.Bool.{Bool, true, false, not, cond}
use native.Mathlib.Omega.{arith}
use native.Mathlib.Nat.{div-add-mod, mod-lt}
use lib.Dec.{T, ltb, ltb→lt, lt→ltb, nltb→le, le→leb, leb→le, nleb→lt}
use lib.IntN.{ℤ, pos, negsuc, neg_ℤ, nat_abs, sub_ℕ, ◌+ℤ◌, ◌-ℤ◌, ◌*ℤ◌}
use lib.Signed.{◌≤ℤ◌, ◌<ℤ◌, le_z, le_z_yes, lt_z_yes}
use Rattle.whole.specs.Arith.{plus, minus, floor_div, scaled}
use Rattle.whole.specs.Order.{◌≼◌}

pub size_is : (z : ℤ) → nat_abs z ≡ plus z + minus z
size_is (pos n) = omega arith
size_is (negsuc n) = omega arith

-- one of the two is 0
pub no_minus : (z : ℤ) → 0 < plus z → minus z ≡ 0
no_minus (pos n) h = refl
no_minus (negsuc n) h = omega arith

pub pos_plus : (z : ℤ) → minus z ≡ 0 → z ≡ pos (plus z)
pos_plus (pos n) h = refl
pos_plus (negsuc n) h = absurd (never n h)
  where
    never : (n : ℕ) → suc n ≡ 0 → ⊥
    never n h = omega arith

-- ---- negation, sum, difference, product
pub neg_plus : (z : ℤ) → plus (neg_ℤ z) ≡ minus z
neg_plus (pos zero) = refl
neg_plus (pos (suc n)) = refl
neg_plus (negsuc n) = refl

pub neg_minus : (z : ℤ) → minus (neg_ℤ z) ≡ plus z
neg_minus (pos zero) = refl
neg_minus (pos (suc n)) = refl
neg_minus (negsuc n) = refl

-- the parts of a difference of naturals: they make it, and are no larger than its terms
pub record Parts (a b : ℕ) (z : ℤ) : Type 0 where
  pub is : plus z + b ≡ minus z + a
  pub plus_small : plus z ≤ a
  pub minus_small : minus z ≤ b

parts : (a b : ℕ) → Parts a b (sub_ℕ a b)
parts a b = go (ltb a b) (ltb→lt a b) (nltb→le a b)
  where
    go : (t : Bool) → (T t → a < b) → (T (not t) → b ≤ a) → Parts a b (cond t (negsuc (b - suc a)) (pos (a - b)))
    go true f g = let h = f tt in record { is = omega arith; plus_small = omega arith; minus_small = omega arith }
    go false f g = let h = g tt in record { is = omega arith; plus_small = omega arith; minus_small = omega arith }

pub add_is : (a b : ℤ) → Parts (plus a + plus b) (minus a + minus b) (a +ℤ b)
add_is (pos a) (pos b) = record { is = omega arith; plus_small = omega arith; minus_small = omega arith }
add_is (pos a) (negsuc b) = let p = parts a (suc b) in record { is = omega (arith, p.is); plus_small = omega (arith, p.plus_small); minus_small = omega (arith, p.minus_small) }
add_is (negsuc a) (pos b) = let p = parts b (suc a) in record { is = omega (arith, p.is); plus_small = omega (arith, p.plus_small); minus_small = omega (arith, p.minus_small) }
add_is (negsuc a) (negsuc b) = record { is = omega arith; plus_small = omega arith; minus_small = omega arith }

pub sub_is : (a b : ℤ) → plus (a -ℤ b) + (minus a + plus b) ≡ minus (a -ℤ b) + (plus a + minus b)
sub_is a b = omega (arith, (add_is a (neg_ℤ b)).is, neg_plus b, neg_minus b)

pub mul_plus : (a b : ℤ) → plus (a *ℤ b) ≡ plus a * plus b + minus a * minus b
mul_plus (pos a) (pos b) = omega arith
mul_plus (pos a) (negsuc b) = omega (arith, neg_plus (pos (a * suc b)))
mul_plus (negsuc a) (pos b) = omega (arith, neg_plus (pos (suc a * b)))
mul_plus (negsuc a) (negsuc b) = omega arith

pub mul_minus : (a b : ℤ) → minus (a *ℤ b) ≡ plus a * minus b + minus a * plus b
mul_minus (pos a) (pos b) = omega arith
mul_minus (pos a) (negsuc b) = omega (arith, neg_minus (pos (a * suc b)))
mul_minus (negsuc a) (pos b) = omega (arith, neg_minus (pos (suc a * b)))
mul_minus (negsuc a) (negsuc b) = omega arith

pub mul_size : (a b : ℤ) → nat_abs (a *ℤ b) ≡ nat_abs a * nat_abs b
mul_size (pos a) (pos b) = refl
mul_size (pos a) (negsuc b) = omega (arith, size_is (neg_ℤ (pos (a * suc b))), neg_plus (pos (a * suc b)), neg_minus (pos (a * suc b)))
mul_size (negsuc a) (pos b) = omega (arith, size_is (neg_ℤ (pos (suc a * b))), neg_plus (pos (suc a * b)), neg_minus (pos (suc a * b)))
mul_size (negsuc a) (negsuc b) = refl

-- ---- division rounded down: m times the quotient is at most z, and m times one more is above z
pub record Floored (z : ℤ) (m : ℕ) (q : ℤ) : Type 0 where
  pub low : m * plus q + minus z ≤ plus z + m * minus q
  pub high : plus z + m * minus q < m * plus q + minus z + m

pub floored : (z : ℤ) (m : ℕ) → 0 < m → Floored z m (floor_div z m)
floored (pos n) m h = record { low = omega (arith, div-add-mod n m); high = omega (arith, div-add-mod n m, mod-lt n h) }
floored (negsuc n) m h = record { low = omega (arith, div-add-mod n m, mod-lt n h); high = omega (arith, div-add-mod n m) }

-- the quotient is no larger than the number
pub floor_size : (z : ℤ) → nat_abs (floor_div z 100_000) ≤ nat_abs z / 100_000 + 1
floor_size (pos n) = omega arith
floor_size (negsuc n) = omega arith

-- ---- the scaled product q of h by x: 100,000·q ≤ h·x < 100,000·q + 100,000
pub record Scaled (h x q : ℤ) : Type 0 where
  pub low : 100_000 * plus q + (plus h * minus x + minus h * plus x) ≤ plus h * plus x + minus h * minus x + 100_000 * minus q
  pub high : plus h * plus x + minus h * minus x + 100_000 * minus q < 100_000 * plus q + (plus h * minus x + minus h * plus x) + 100_000

pub scaled_is : (h x : ℤ) → Scaled h x (scaled h x)
unfolding scaled
scaled_is h x =
    let f = floored (h *ℤ x) 100_000 (omega arith) in
    record { low = omega (arith, f.low, mul_plus h x, mul_minus h x); high = omega (arith, f.high, mul_plus h x, mul_minus h x) }

-- the same by a natural
pub record ScaledN (h : ℤ) (x : ℕ) (q : ℤ) : Type 0 where
  pub low : 100_000 * plus q + minus h * x ≤ plus h * x + 100_000 * minus q
  pub high : plus h * x + 100_000 * minus q < 100_000 * plus q + minus h * x + 100_000

pub scaled_n : (h : ℤ) (x : ℕ) → ScaledN h x (scaled h (pos x))
scaled_n h x = let f = scaled_is h (pos x) in record { low = omega (arith, f.low); high = omega (arith, f.high) }

-- ---- order and equality
pub below_minus : (l z : ℤ) → l ≼ z → minus z ≤ minus l
below_minus l (pos n) h = omega arith
below_minus (pos m) (negsuc n) h = omega arith
below_minus (negsuc m) (negsuc n) h = omega arith

pub above_plus : (z u : ℤ) → z ≼ u → plus z ≤ plus u
above_plus (negsuc n) u h = omega arith
above_plus (pos n) (pos m) h = omega arith
above_plus (pos n) (negsuc m) h = omega arith

pub trans : (a b c : ℤ) → a ≼ b → b ≼ c → a ≼ c
trans a b c h k = omega arith

pub add_mono : (a b c d : ℤ) → a ≼ c → b ≼ d → a +ℤ b ≼ c +ℤ d
add_mono a b c d h k = omega (arith, (add_is a b).is, (add_is c d).is)

pub to_≤ℤ : (a b : ℤ) → a ≼ b → a ≤ℤ b
to_≤ℤ (pos a) (pos b) h = le_z_yes (le→leb a b (omega arith))
to_≤ℤ (pos a) (negsuc b) h = absurd (none a b h)
  where
    none : (a b : ℕ) → a + suc b ≤ 0 + 0 → ⊥
    none a b h = omega arith
to_≤ℤ (negsuc a) (pos b) h = le_z_yes tt
to_≤ℤ (negsuc a) (negsuc b) h = le_z_yes (le→leb b a (omega arith))

pub of_≤ℤ : (a b : ℤ) → a ≤ℤ b → a ≼ b
of_≤ℤ (pos a) (pos b) h = omega (arith, leb→le a b h.le)
of_≤ℤ (pos a) (negsuc b) h = absurd h.le
of_≤ℤ (negsuc a) (pos b) h = omega arith
of_≤ℤ (negsuc a) (negsuc b) h = omega (arith, leb→le b a h.le)

pub to_<ℤ : (a b : ℤ) → plus a + minus b < plus b + minus a → a <ℤ b
to_<ℤ (pos a) (pos b) h = lt_z_yes (lt→ltb a b (omega arith))
to_<ℤ (pos a) (negsuc b) h = absurd (none a b h)
  where
    none : (a b : ℕ) → a + suc b < 0 + 0 → ⊥
    none a b h = omega arith
to_<ℤ (negsuc a) (pos b) h = lt_z_yes tt
to_<ℤ (negsuc a) (negsuc b) h = lt_z_yes (lt→ltb b a (omega arith))

pub of_<ℤ : (a b : ℤ) → a <ℤ b → plus a + minus b < plus b + minus a
of_<ℤ (pos a) (pos b) h = omega (arith, ltb→lt a b h.lt)
of_<ℤ (pos a) (negsuc b) h = absurd h.lt
of_<ℤ (negsuc a) (pos b) h = omega arith
of_<ℤ (negsuc a) (negsuc b) h = omega (arith, ltb→lt b a h.lt)

-- what a test of the order leaves where it fails
pub more : (a b : ℤ) → T (not (le_z a b)) → b <ℤ a
more (pos a) (pos b) t = lt_z_yes (lt→ltb b a (nleb→lt a b t))
more (pos a) (negsuc b) t = lt_z_yes tt
more (negsuc a) (pos b) t = absurd t
more (negsuc a) (negsuc b) t = lt_z_yes (lt→ltb a b (nleb→lt b a t))

-- an equation of whole numbers is one of naturals
pub same : (a b : ℤ) → plus a + minus b ≡ plus b + minus a → a ≡ b
same (pos a) (pos b) h = ap pos (omega arith)
same (pos a) (negsuc b) h = absurd (none a b h)
  where
    none : (a b : ℕ) → a + suc b ≡ 0 + 0 → ⊥
    none a b h = omega arith
same (negsuc a) (pos b) h = absurd (none a b h)
  where
    none : (a b : ℕ) → 0 + 0 ≡ b + suc a → ⊥
    none a b h = omega arith
same (negsuc a) (negsuc b) h = ap negsuc (omega arith)
