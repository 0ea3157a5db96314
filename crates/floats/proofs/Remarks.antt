-- What a remark says: with the grid number it tells within which half step the exact value lies, and no other pair of the two tells so. "On" is
-- exactly if the value times the steps is a whole number; of floats with one grid number the greater never has the lower remark. Assumes nothing.
use Prim.Native.Nat.{ℕ, ◌+◌, ◌*◌, ◌≤◌, ◌<◌}
use mathlib.Core.Path.{◌≡◌, refl, sym, ap, ◌∙◌, subst}
use mathlib.Core.Bool.{Bool, true, false, cond}
use native.Mathlib.Nat.{mul-le-mul_left}
use native.Mathlib.Omega.{arith}
use native.Mathlib.Decide.{dec_le}
use lib.IntN.{ℤ, pos, ◌+ℤ◌, ◌*ℤ◌}
use lib.Signed.{le_z, le_z_yes}
use lib.Dec.{T, lit≤}
use lib.Ieee.{Float, binary32, of_bits}
use Rattle.whole.specs.Arith.{plus, minus}
use Rattle.whole.specs.Order.{◌≼◌}
use Rattle.whole.proofs.Ints.{add_is, mul_plus, mul_minus, to_≤ℤ, of_≤ℤ, to_<ℤ, of_<ℤ, same}
use Rattle.floats.specs.Grid.{numer, denom, grid_no, seen_from, in_steps as steps, point_of as at, remark_of, remark_number, InHalf, AtMost}
use Rattle.floats.specs.declared.Remark.{Remark}
use Rattle.floats.specs.declared.Remark.TheVariants.{Below, On, Above}
use Rattle.floats.proofs.Floors.{across, under}
use Rattle.floats.proofs.Order.{denom_pos, low, high}

-- ---- in literals: 0.001 and -0.001 as their nearest floats have them, within 2⁻²⁴ of these points and on neither, of a product that is 1 where it is
-- rounded to a float; 0.0625 and -0.0625, which are halves; 35 and -0.125; the least floats
pub seen :
    (remark_of 1000 (of_bits binary32 0x3a83_126f) ≡ Above) × ((remark_of 1000 (of_bits binary32 0xba83_126f) ≡ Below)
    × ((remark_of 1000 (of_bits binary32 0x3d80_0000) ≡ Below) × ((remark_of 1000 (of_bits binary32 0xbd80_0000) ≡ Below)
    × ((remark_of 1000 (of_bits binary32 0x420c_0000) ≡ On) × ((remark_of 1000 (of_bits binary32 0xbe00_0000) ≡ On)
    × ((remark_of 100 (of_bits binary32 0x0000_0001) ≡ Above) × (remark_of 1000 (of_bits binary32 0x8000_0001) ≡ Below)))))))
unfolding remark_of grid_no of_bits
seen = (refl, (refl, (refl, (refl, (refl, (refl, (refl, refl)))))))

-- ---- tests and what they tell
le_true : (a b : ℤ) → a ≼ b → le_z a b ≡ true
le_true a b h = go (le_z a b) (to_≤ℤ a b h).le
  where
    go : (t : Bool) → T t → t ≡ true
    go true y = refl
    go false y = absurd y

of_true : (a b : ℤ) → le_z a b ≡ true → a ≼ b
of_true a b e = of_≤ℤ a b (le_z_yes (subst T (sym e) tt))

of_false : (a b : ℤ) → le_z a b ≡ false → plus b + minus a < plus a + minus b
of_false a b e = go (dec_le (plus a + minus b) (plus b + minus a))
  where
    go : Dec (plus a + minus b ≤ plus b + minus a) → plus b + minus a < plus a + minus b
    go (yes p) = absurd (subst T e (to_≤ℤ a b p).le)
    go (no p) = omega arith

le_false : (a b : ℤ) → plus b + minus a < plus a + minus b → le_z a b ≡ false
le_false a b h = go (le_z a b) refl
  where
    go : (t : Bool) → le_z a b ≡ t → t ≡ false
    go true e = absurd (omega (arith, of_true a b e))
    go false e = refl

module _ (k : ℕ) (x : Float) where
  -- the products as naturals
  steps_plus : plus (steps k x) ≡ plus (numer x) * k
  steps_plus = omega (arith, mul_plus (numer x) (pos k))

  steps_minus : minus (steps k x) ≡ minus (numer x) * k
  steps_minus = omega (arith, mul_minus (numer x) (pos k))

  at_plus : (g : ℤ) → plus (at g x) ≡ plus g * denom x
  at_plus g = omega (arith, mul_plus g (pos (denom x)))

  at_minus : (g : ℤ) → minus (at g x) ≡ minus g * denom x
  at_minus g = omega (arith, mul_minus g (pos (denom x)))

-- g lies at most half a step above the value, and less than half a step below it
record Near (k : ℕ) (x : Float) (g : ℤ) : Type 0 where
  not_more : 2 * plus (at g x) + 2 * minus (steps k x) ≤ 2 * plus (steps k x) + denom x + 2 * minus (at g x)
  less : 2 * plus (steps k x) + 2 * minus (at g x) < 2 * plus (at g x) + 2 * minus (steps k x) + denom x

number_near : (k : ℕ) (x : Float) → Near k x (grid_no k x)
number_near k x =
    let g = grid_no k x in
    record {
      not_more = omega (arith, low k x, steps_plus k x, steps_minus k x, at_plus k x g, at_minus k x g);
      less = omega (arith, high k x, steps_plus k x, steps_minus k x, at_plus k x g, at_minus k x g);
    }

-- so only one number is near
one_near : (k : ℕ) (x : Float) (g h : ℤ) → Near k x g → Near k x h → g ≡ h
one_near k x g h n m = same g h (omega (arith, below g h n m, below h g m n))
  where
    below : (g h : ℤ) → Near k x g → Near k x h → g ≼ h
    below g h n m =
        under (2 * denom x) (plus g + minus h) (plus h + minus g)
        (omega (arith, n.not_more, m.less, at_plus k x g, at_minus k x g, at_plus k x h, at_minus k x h))

-- ---- in which half step the value lies
pub twice_plus : (z : ℤ) → plus (pos 2 *ℤ z) ≡ 2 * plus z
twice_plus z = omega (arith, mul_plus (pos 2) z)

pub twice_minus : (z : ℤ) → minus (pos 2 *ℤ z) ≡ 2 * minus z
twice_minus z = omega (arith, mul_minus (pos 2) z)

pub half_more : (z : ℤ) (d : ℕ) → plus (pos 2 *ℤ z +ℤ pos d) + 2 * minus z ≡ minus (pos 2 *ℤ z +ℤ pos d) + (2 * plus z + d)
half_more z d = omega (arith, (add_is (pos 2 *ℤ z) (pos d)).is, twice_plus z, twice_minus z)

pub lies : (k : ℕ) (x : Float) → InHalf (remark_of k x) k (grid_no k x) x
unfolding remark_of InHalf
lies k x = go (le_z a v) (le_z v a) refl refl
  where
    g : ℤ
    g = grid_no k x

    a : ℤ
    a = at g x

    v : ℤ
    v = steps k x

    d : ℕ
    d = denom x

    go : (s t : Bool) → le_z a v ≡ s → le_z v a ≡ t → InHalf (cond s (cond t On Above) Below) k g x
    go true true e f = same v a (omega (arith, of_true a v e, of_true v a f))
    go true false e f = (
      to_<ℤ a v (of_false v a f),
      to_<ℤ (pos 2 *ℤ v) (pos 2 *ℤ a +ℤ pos d) (omega (arith, (number_near k x).less, twice_plus v, twice_minus v, half_more a d)),
    )
    go false t e f = (
      to_≤ℤ (pos 2 *ℤ a) (pos 2 *ℤ v +ℤ pos d) (omega (arith, (number_near k x).not_more, twice_plus a, twice_minus a, half_more v d)),
      to_<ℤ v a (of_false a v e),
    )

-- and no other number or remark says so
pub told : (m : Remark) (k : ℕ) (g : ℤ) (x : Float) → InHalf m k g x → (grid_no k x ≡ g) × (remark_of k x ≡ m)
unfolding remark_of InHalf
told m k g x h = let e = one_near k x (grid_no k x) g (number_near k x) (near m h) in (e, ap (λ (z : ℤ). seen_from (at z x) v) e ∙ seen m h)
  where
    a : ℤ
    a = at g x

    v : ℤ
    v = steps k x

    d : ℕ
    d = denom x

    near : (m : Remark) → InHalf m k g x → Near k x g
    near Below h =
        let l = of_≤ℤ (pos 2 *ℤ a) (pos 2 *ℤ v +ℤ pos d) h.0 in
        let u = of_<ℤ v a h.1 in
        record {
          not_more = omega (arith, l, twice_plus a, twice_minus a, half_more v d);
          less = omega (arith, u);
        }
    near On h = record {
      not_more = omega (arith, ap plus h, ap minus h);
      less = omega (arith, ap plus h, ap minus h, denom_pos x);
    }
    near Above h =
        let l = of_<ℤ a v h.0 in
        let u = of_<ℤ (pos 2 *ℤ v) (pos 2 *ℤ a +ℤ pos d) h.1 in
        record {
          not_more = omega (arith, l);
          less = omega (arith, u, twice_plus v, twice_minus v, half_more a d);
        }

    seen : (m : Remark) → InHalf m k g x → seen_from a v ≡ m
    seen Below h = rw (le_false a v (of_<ℤ v a h.1))
    seen On h = rw (le_true a v (omega (arith, ap plus h, ap minus h)), le_true v a (omega (arith, ap plus h, ap minus h)))
    seen Above h = let l = of_<ℤ a v h.0 in rw (le_true a v (omega (arith, l)), le_false v a l)

-- ---- on: only if the value times the steps is a whole number, which is then the grid number; and where it is (Exact)
pub on_whole : (k : ℕ) (x : Float) → remark_of k x ≡ On → steps k x ≡ at (grid_no k x) x
unfolding InHalf
on_whole k x e = subst (λ (m : Remark). InHalf m k (grid_no k x) x) e (lies k x)

-- ---- of two floats with one grid number the greater has no lower remark
module _ (k : ℕ) (x y : Float) (o : AtMost x y) (g : ℤ) where
  order : plus (numer x) * denom y + minus (numer y) * denom x ≤ plus (numer y) * denom x + minus (numer x) * denom y
  order = across (numer x) (numer y) (denom y) (denom x) (of_≤ℤ (numer x *ℤ pos (denom y)) (numer y *ℤ pos (denom x)) o)

  -- what the lower one reaches the greater reaches, and what the lower one passes the greater passes
  reaches : at g x ≼ steps k x → at g y ≼ steps k y
  reaches h =
      let l : plus g * denom x + minus (numer x) * k ≤ plus (numer x) * k + minus g * denom x = omega (arith, h, steps_plus k x, steps_minus k x, at_plus k x g, at_minus k x g) in
      go l (dec_le (plus g * denom y + minus (numer y) * k) (plus (numer y) * k + minus g * denom y))
    where
      go : plus g * denom x + minus (numer x) * k ≤ plus (numer x) * k + minus g * denom x
          → Dec (plus g * denom y + minus (numer y) * k ≤ plus (numer y) * k + minus g * denom y) → at g y ≼ steps k y
      go l (yes p) = omega (arith, p, steps_plus k y, steps_minus k y, at_plus k y g, at_minus k y g)
      go l (no p) =
          let f : plus (numer y) * k + minus g * denom y + 1 ≤ plus g * denom y + minus (numer y) * k = omega arith in
          absurd (omega (arith, mul-le-mul_left k order, mul-le-mul_left (denom y) l, mul-le-mul_left (denom x) f, denom_pos x))

  passes : plus (at g x) + minus (steps k x) < plus (steps k x) + minus (at g x) → plus (at g y) + minus (steps k y) < plus (steps k y) + minus (at g y)
  passes h =
      let l : plus g * denom x + minus (numer x) * k + 1 ≤ plus (numer x) * k + minus g * denom x = omega (arith, h, steps_plus k x, steps_minus k x, at_plus k x g, at_minus k x g) in
      go l (dec_le (plus (numer y) * k + minus g * denom y) (plus g * denom y + minus (numer y) * k))
    where
      go : plus g * denom x + minus (numer x) * k + 1 ≤ plus (numer x) * k + minus g * denom x
          → Dec (plus (numer y) * k + minus g * denom y ≤ plus g * denom y + minus (numer y) * k)
          → plus (at g y) + minus (steps k y) < plus (steps k y) + minus (at g y)
      go l (no p) = omega (arith, steps_plus k y, steps_minus k y, at_plus k y g, at_minus k y g)
      go l (yes f) = absurd (omega (arith, mul-le-mul_left k order, mul-le-mul_left (denom y) l, mul-le-mul_left (denom x) f, denom_pos y))

  ranks : (m n : Remark) → InHalf m k g x → InHalf n k g y → remark_number m ≤ remark_number n
  unfolding InHalf
  ranks Below Below h l = lit≤ tt
  ranks Below On h l = lit≤ tt
  ranks Below Above h l = lit≤ tt
  ranks On Below h l = absurd (omega (arith, reaches (omega (arith, ap plus h, ap minus h)), of_<ℤ (steps k y) (at g y) l.1))
  ranks On On h l = lit≤ tt
  ranks On Above h l = lit≤ tt
  ranks Above Below h l = absurd (omega (arith, passes (of_<ℤ (at g x) (steps k x) h.0), of_<ℤ (steps k y) (at g y) l.1))
  ranks Above On h l = absurd (omega (arith, passes (of_<ℤ (at g x) (steps k x) h.0), ap plus l, ap minus l))
  ranks Above Above h l = lit≤ tt

pub remark_order : (k : ℕ) (x y : Float) → AtMost x y → grid_no k x ≡ grid_no k y → remark_number (remark_of k x) ≤ remark_number (remark_of k y)
remark_order k x y o e = ranks k x y o (grid_no k y) (remark_of k x) (remark_of k y) (subst (λ (g : ℤ). InHalf (remark_of k x) k g x) e (lies k x)) (lies k y)
