-- What a pattern stands for: a float's value is its digits over a power of two, by the exponent's field, so `place` may work on
-- the pattern. From the field 150 on the value is beyond every end, and below 88 it is so small that the power does not matter. Assumes nothing.
use Prim.Native.Nat.{ℕ, zero, suc, ◌+◌, ◌-◌, ◌*◌, ◌/◌, ◌%◌, ◌^◌, ◌≤◌, ◌<◌}
use mathlib.Core.Path.{◌≡◌, refl, sym, ap, ◌∙◌}
use mathlib.Core.Bool.{Bool, true, false, cond}
use mathlib.Core.Logic.{◌⊎◌, inl, inr}
use native.Mathlib.Nat.{lt_of_lt_of_le, eq-or-lt_of_le, mul-le-mul, zero-mul}
use native.Mathlib.Omega.{arith}
use lib.IntN.{ℤ, pos, neg_ℤ, nat_abs, ◌*ℤ◌}
use borrow.Author.Tests.{ne_eqb}
use lib.Dec.{T, leb, eqb, eqb-suc-zero}
use lib.Pow.{pow_pos, pow-add, pow_mono}
use lib.Ieee.{Float, nan, inf, fin, binary32, up, down, fits, of_fields, of_bits, to_bits}
use lib.Ieee.Exact.{HasValue, odd_sign}
use lib.Ieee.Fits.{down_pos}
use lib.Ieee.Bits.{of_bits-to_bits}
use Rattle.whole.proofs.Ints.{mul_plus, mul_minus, mul_size, same}
use Rattle.std.specs.Prelude.{Option, None}
use Rattle.floats.specs.Grid.{range, signed, finite, numer, denom, inside, grid_no, remark_of, place_of}
use Rattle.floats.specs.Pattern.{digits_of, place_at}
use Rattle.floats.specs.declared.Place.{Place}
use Rattle.floats.proofs.Floors.{place_same, place_small, place_far}

-- ---- a float of the value ±a / c
signed_times : (s : Bool) (n d : ℕ) → signed s n *ℤ pos d ≡ signed s (n * d)
signed_times false n d = refl
signed_times true zero d = ap pos (zero-mul d) ∙ sym (ap (λ (z : ℕ). neg_ℤ (pos z)) (zero-mul d))
signed_times true (suc n) d = refl

-- the definition on the fraction
place_is : (lo hi : ℤ) (k : ℕ) (x : Float) → T (finite x) → place_of (range lo hi k) x ≡ place_at lo hi (numer x *ℤ pos k) (denom x)
unfolding place_of inside grid_no remark_of place_at
place_is lo hi k nan f = absurd f
place_is lo hi k (inf s) f = absurd f
place_is lo hi k (fin s m e) f = cc (twice (numer (fin s m e)))
  where
    twice : (z : ℤ) → z *ℤ pos (2 * k) ≡ pos 2 *ℤ (z *ℤ pos k)
    twice z =
        let w = z *ℤ pos k in
        same _ _ (omega (arith, mul_plus z (pos (2 * k)), mul_minus z (pos (2 * k)), mul_plus (pos 2) w, mul_minus (pos 2) w, mul_plus z (pos k), mul_minus z (pos k)))

place_value : (lo hi : ℤ) (k : ℕ) (x : Float) (s : Bool) (a c : ℕ) → 0 < c → HasValue x s a c → place_of (range lo hi k) x ≡ place_at lo hi (signed s a *ℤ pos k) c
place_value lo hi k nan s a c C v = absurd v
place_value lo hi k (inf t) s a c C v = absurd v
place_value lo hi k (fin t m e) s a c C v =
    place_is lo hi k (fin t m e) tt
    ∙ place_same lo hi (signed t (m * up e) *ℤ pos k) (signed s a *ℤ pos k) (down e) c (down_pos e) C
    (rw v.0 (simp signed_times (ap (signed s) (swap (m * up e) c k ∙ ap (λ (n : ℕ). n * k) v.1 ∙ swap a k (down e)))))
  where
    swap : (a b c : ℕ) → a * c * b ≡ a * b * c
    swap a b c = omega arith

-- ---- what the fields are read as
-- the digits t, with the leading one but at the field 0
abbrev digits : ℕ → ℕ → ℕ
digits e t = cond (eqb e 0) t (0x80_0000 + t)

field_value : (s : Bool) (e t : ℕ) → e < 255 → HasValue (of_fields binary32 s e t) s (digits e t * 2 ^ (e - 1)) (2 ^ 149)
unfolding of_fields
field_value s zero t h = odd_sign 24 s t 0 149
field_value s (suc e) t h = rw (ne_eqb (suc e) 255 (λ q. omega arith), eqb-suc-zero e, less e) (odd_sign 24 s (0x80_0000 + t) e 149)
  where
    less : (e : ℕ) → suc e - 1 ≡ e
    less e = omega arith

field_end : (lo hi : ℤ) (k : ℕ) (s : Bool) (t : ℕ) → None ≡ place_of (range lo hi k) (of_fields binary32 s 255 t)
unfolding of_fields place_of inside
field_end lo hi k s t = go (eqb t 0)
  where
    go : (b : Bool) → None ≡ place_of (range lo hi k) (cond b (inf s) nan)
    go true = refl
    go false = refl

digits_few : (e t : ℕ) → t < 0x80_0000 → digits e t < 2 ^ 24
digits_few e t h = go (eqb e 0)
  where
    go : (b : Bool) → cond b t (0x80_0000 + t) < 2 ^ 24
    go true = omega arith
    go false = omega arith

-- the exact value in k steps to 1, but for a power of two
abbrev value : ℕ → Bool → ℕ → ℕ → ℤ
value k s e t = signed s (digits e t) *ℤ pos k

size_signed : (s : Bool) (n : ℕ) → nat_abs (signed s n) ≡ n
size_signed false n = refl
size_signed true zero = refl
size_signed true (suc n) = refl

value_few : (k : ℕ) (s : Bool) (e t : ℕ) → t < 0x80_0000 → k ≤ 2 ^ 20 → nat_abs (value k s e t) < 2 ^ 44
value_few k s e t h l =
    rw (mul_size, size_signed)
    (let a : digits e t ≤ 0xff_ffff = omega (arith, digits_few e t h) in omega (arith, mul-le-mul a l))

-- ---- the place by the pattern's fields
module _ (lo hi : ℤ) (k : ℕ) (s : Bool) (e t : ℕ) where
  abbrev placed : Option Place
  placed = place_of (range lo hi k) (of_fields binary32 s e t)

  by_value : e < 255 → placed ≡ place_at lo hi (signed s (digits e t * 2 ^ (e - 1)) *ℤ pos k) (2 ^ 149)
  by_value h = place_value lo hi k (of_fields binary32 s e t) s (digits e t * 2 ^ (e - 1)) (2 ^ 149) (pow_pos 149) (field_value s e t h)

  far : 1 ≤ k → nat_abs lo < 2 ^ 23 → nat_abs hi < 2 ^ 23 → 150 ≤ e → e < 255 → None ≡ placed
  far K l h f g =
      place_far lo hi _ (2 ^ 149) (2 ^ 23) (pow_pos 149) l h
      (rw (mul_size, size_signed) (mul-le-mul (mul-le-mul lead (pow_mono many)) K)) ∙ sym (by_value g)
    where
      lead : 2 ^ 23 ≤ digits e t
      lead = rw (ne_eqb e 0 (λ q. omega arith)) (omega arith)

      many : 149 ≤ e - 1
      many = omega arith

  -- over the power of two that is left of 2 ^ 149
  near : e < 150 → placed ≡ place_at lo hi (value k s e t) (2 ^ (149 - (e - 1)))
  near h =
      by_value (omega arith)
      ∙ place_same lo hi _ (value k s e t) (2 ^ 149) (2 ^ (149 - (e - 1))) (pow_pos 149) (pow_pos (149 - (e - 1)))
      (simp signed_times (ap (signed s) (swap (digits e t) (2 ^ (e - 1)) (2 ^ (149 - (e - 1))) ∙ ap (λ (p : ℕ). digits e t * k * p) left)))
    where
      all : e - 1 + (149 - (e - 1)) ≡ 149
      all = omega arith

      left : 2 ^ (e - 1) * 2 ^ (149 - (e - 1)) ≡ 2 ^ 149
      left = sym (pow-add 2 (e - 1) (149 - (e - 1))) ∙ ap (λ (j : ℕ). 2 ^ j) all

      swap : (a b c : ℕ) → a * b * k * c ≡ a * k * (b * c)
      swap a b c = omega arith

  place_62 : t < 0x80_0000 → k ≤ 2 ^ 20 → e < 88 → placed ≡ place_at lo hi (value k s e t) (2 ^ 62)
  place_62 T K h =
      let some : 62 ≤ 149 - (e - 1) = omega arith in
      let small = value_few k s e t T K in
      near (omega arith)
      ∙ place_small lo hi (value k s e t) (2 ^ (149 - (e - 1))) (2 ^ 62) (lt_of_lt_of_le (omega arith) (pow_mono some)) (omega arith)

  place_field : 88 ≤ e → e < 150 → placed ≡ place_at lo hi (value k s e t) (2 ^ (150 - e))
  place_field l h = near h ∙ ap (λ (j : ℕ). place_at lo hi (value k s e t) (2 ^ j)) few
    where
      few : 149 - (e - 1) ≡ 150 - e
      few = omega arith

-- ---- of a float
abbrev pub field : ℕ → ℕ
field n = n % 0x8000_0000 / 0x80_0000

read : (n : ℕ) → of_fields binary32 (leb 0x8000_0000 n) (field n) (n % 0x80_0000) ≡ of_bits binary32 n
unfolding of_bits
read n = refl

module _ (lo hi : ℤ) (k : ℕ) (x : Float) (F : T (fits binary32 x)) where
  abbrev n : ℕ
  n = to_bits binary32 x

  own : (p : Option Place) → p ≡ place_of (range lo hi k) (of_fields binary32 (leb 0x8000_0000 n) (field n) (n % 0x80_0000)) → p ≡ place_of (range lo hi k) x
  own p h = h ∙ ap (place_of (range lo hi k)) (read n ∙ of_bits-to_bits binary32 x F)

  pub outside : 1 ≤ k → nat_abs lo < 2 ^ 23 → nat_abs hi < 2 ^ 23 → 150 ≤ field n → None ≡ place_of (range lo hi k) x
  outside K l h f = own None (go (field n) f (eq-or-lt_of_le last))
    where
      last : field n ≤ 255
      last = omega arith

      go : (e : ℕ) → 150 ≤ e → (e ≡ 255) ⊎ (e < 255) → None ≡ place_of (range lo hi k) (of_fields binary32 (leb 0x8000_0000 n) e (n % 0x80_0000))
      go e f (inl q) = rw q (field_end lo hi k (leb 0x8000_0000 n) (n % 0x80_0000))
      go e f (inr u) = far lo hi k (leb 0x8000_0000 n) e (n % 0x80_0000) K l h f u

  pub at_62 : k ≤ 2 ^ 20 → field n < 88 → place_at lo hi (digits_of n (field n) *ℤ pos k) (2 ^ 62) ≡ place_of (range lo hi k) x
  unfolding digits_of
  at_62 K h = own _ (sym (place_62 lo hi k (leb 0x8000_0000 n) (field n) (n % 0x80_0000) (omega arith) K h))

  pub at_field : 88 ≤ field n → field n < 150 → place_at lo hi (digits_of n (field n) *ℤ pos k) (2 ^ (150 - field n)) ≡ place_of (range lo hi k) x
  unfolding digits_of
  at_field l h = own _ (sym (place_field lo hi k (leb 0x8000_0000 n) (field n) (n % 0x80_0000) l h))

pub steps_few : (n e k : ℕ) → k ≤ 2 ^ 20 → nat_abs (digits_of n e *ℤ pos k) < 2 ^ 44
unfolding digits_of
steps_few n e k h = value_few k (leb 0x8000_0000 n) e (n % 0x80_0000) (omega arith) h
