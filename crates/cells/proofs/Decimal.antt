-- Numbers to a base without the bound in their definition: one digit below the base, else the digits of the quotient and one more.
-- Dividing lowers a number of two digits or more, so the number itself is bound enough. Decimals are to the base 10, words to 256.
-- Assumes nothing.
use Prim.Native.Nat.{ℕ, zero, suc, ◌+◌, ◌/◌, ◌%◌, ◌^◌, ◌≤◌, ◌<◌}
use mathlib.Core.Path.{◌≡◌, refl, ap, ◌∙◌}
use mathlib.Core.List.{List, [], ◌∷◌, ◌++◌}
use mathlib.Core.Bool.{Bool, true, false, cond}
use native.Mathlib.Omega.{arith}
use native.Mathlib.Nat.{zero-add, div-one, div-div-eq-div-mul}
use lib.ListN.{length, length-append}
use lib.Dec.{ltb}
use borrow.Author.Tests.{ltb-true, ltb-false, lt-ltb, le-ltb}
use Rattle.cells.specs.Cells.{spelled, decimal, word_text}

-- a base, by which a number that is no digit is lowered
module _ (base nought : ℕ) (lowers : (n : ℕ) → base ≤ n → n / base < n) where
  -- any two bounds above n give the same digits
  same_digits : (k j n : ℕ) → n < k → n < j → spelled base nought k n ≡ spelled base nought j n
  unfolding spelled
  same_digits zero j n h g = let z : ◌≡◌ {A = ℕ} 0 1 = omega arith in cc
  same_digits (suc k) zero n h g = let z : ◌≡◌ {A = ℕ} 0 1 = omega arith in cc
  same_digits (suc k) (suc j) n h g = go (ltb n base) refl (same_digits k j (n / base))
    where
      go :
          (b : Bool) →
          ltb n base ≡ b →
          (n / base < k → n / base < j → spelled base nought k (n / base) ≡ spelled base nought j (n / base)) →
          cond b ((nought + n) ∷ []) (spelled base nought k (n / base) ++ ((nought + n % base) ∷ []))
          ≡ cond b ((nought + n) ∷ []) (spelled base nought j (n / base) ++ ((nought + n % base) ∷ []))
      go true e ih = refl
      go false e ih =
          let t : n / base < n = lowers n (ltb-false n base e) in
          ap (λ (l : List ℕ). l ++ ((nought + n % base) ∷ [])) (ih (omega arith) (omega arith))

  small : (n : ℕ) → n < base → spelled base nought (suc n) n ≡ (nought + n) ∷ []
  unfolding spelled
  small n h = rw (lt-ltb _ _ h)

  large : (n : ℕ) → base ≤ n → spelled base nought (suc n) n ≡ spelled base nought (suc (n / base)) (n / base) ++ ((nought + n % base) ∷ [])
  unfolding spelled
  large n h =
      let t : n / base < n = lowers n h in
      rw (le-ltb _ _ h) (ap (λ (l : List ℕ). l ++ ((nought + n % base) ∷ [])) (same_digits n (suc (n / base)) (n / base) (omega arith) (omega arith)))

pub decimal_small : (n : ℕ) → n < 10 → decimal n ≡ (48 + n) ∷ []
unfolding decimal
decimal_small = small 10 48 λ n h. omega arith

pub decimal_large : (n : ℕ) → 10 ≤ n → decimal n ≡ decimal (n / 10) ++ ((48 + n % 10) ∷ [])
unfolding decimal
decimal_large = large 10 48 λ n h. omega arith

pub word_small : (w : ℕ) → w < 256 → word_text w ≡ w ∷ []
unfolding word_text
word_small w h = small 256 0 (λ n g. omega arith) w h ∙ ap (λ (x : ℕ). x ∷ []) (zero-add w)

pub word_large : (w : ℕ) → 256 ≤ w → word_text w ≡ word_text (w / 256) ++ ((w % 256) ∷ [])
unfolding word_text
word_large w h = large 256 0 (λ n g. omega arith) w h ∙ ap (λ (x : ℕ). word_text (w / 256) ++ (x ∷ [])) (zero-add (w % 256))

pub decimal_longer : (n : ℕ) → 10 ≤ n → length (decimal n) ≡ length (decimal (n / 10)) + 1
decimal_longer n h = ap length (decimal_large n h) ∙ length-append (decimal (n / 10)) ((48 + n % 10) ∷ [])

-- a number below 10 to the j + 1 has at most j + 1 digits
digits_width : (k j n : ℕ) → n < 10 ^ suc j → length (spelled 10 48 k n) ≤ suc j
unfolding spelled
digits_width zero j n h = omega arith
digits_width (suc k) zero n h = let e : n < 10 = omega arith in rw (lt-ltb _ _ e) (omega arith)
digits_width (suc k) (suc j) n h = go (ltb n 10) (digits_width k j (n / 10) (omega arith))
  where
    go :
        (b : Bool) →
        length (spelled 10 48 k (n / 10)) ≤ suc j →
        length (cond b ((48 + n) ∷ []) (spelled 10 48 k (n / 10) ++ ((48 + n % 10) ∷ []))) ≤ suc (suc j)
    go true g = omega arith
    go false g = rw length-append (omega arith)

pub decimal_width : (j n : ℕ) → n < 10 ^ suc j → length (decimal n) ≤ suc j
unfolding decimal
decimal_width j n h = digits_width (suc n) j n h

ten_pos : (j : ℕ) → 1 ≤ 10 ^ j
ten_pos zero = omega arith
ten_pos (suc j) = omega (arith, ten_pos j)

-- a number from 10 to the j on has j digits more than what is left of it without its last j
pub decimal_split : (j n : ℕ) → 10 ^ j ≤ n → length (decimal n) ≡ j + length (decimal (n / 10 ^ j))
decimal_split zero n h = rw div-one (omega arith)
decimal_split (suc j) n h =
    let e : n / 10 / 10 ^ j ≡ n / 10 ^ suc j = div-div-eq-div-mul n 10 (10 ^ j) ∙ ap (λ (k : ℕ). n / k) (omega arith) in
    let t : 10 ≤ n = omega (arith, ten_pos j) in
    omega (arith, decimal_longer n t, decimal_split j (n / 10) (omega arith), ap (λ (k : ℕ). length (decimal k)) e)

-- a number has a digit, and more than one where it is 10 or more
pub one_or_more : (n : ℕ) → 1 ≤ length (decimal n)
one_or_more n = go (ltb n 10) refl
  where
    go : (b : Bool) → ltb n 10 ≡ b → 1 ≤ length (decimal n)
    go true e = omega (arith, ap length (decimal_small n (ltb-true n 10 e)))
    go false e = omega (arith, decimal_longer n (ltb-false n 10 e))

pub one_digit : (n : ℕ) → length (decimal n) ≤ 1 → n < 10
one_digit n h = go (ltb n 10) refl
  where
    go : (b : Bool) → ltb n 10 ≡ b → n < 10
    go true e = ltb-true n 10 e
    go false e = absurd (omega (arith, h, decimal_longer n (ltb-false n 10 e), one_or_more (n / 10)))

pub more_digits : (n : ℕ) → 2 ≤ length (decimal n) → 10 ≤ n
more_digits n h = go (ltb n 10) refl
  where
    go : (b : Bool) → ltb n 10 ≡ b → 10 ≤ n
    go true e = absurd (omega (arith, h, ap length (decimal_small n (ltb-true n 10 e))))
    go false e = ltb-false n 10 e
