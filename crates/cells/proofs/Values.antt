-- What the texts say, for every number: digits and letters read back give their number; a number with k decimal places is its digits above
-- 10 to the k, a point, and k digits, which together make it; a minus is all that a negative number has more. Assumes nothing.
use Prim.Native.Nat.{ℕ, zero, suc, ◌+◌, ◌*◌, ◌-◌, ◌/◌, ◌%◌, ◌^◌, ◌≤◌, ◌<◌}
use mathlib.Core.Path.{◌≡◌, refl, ap, ◌∙◌}
use mathlib.Core.List.{List, [], ◌∷◌, ◌++◌, append_assoc}
use mathlib.Core.Bool.{Bool, true, false, cond}
use native.Mathlib.Omega.{arith}
use native.Mathlib.Nat.{div-one, div-add-mod', div-div-eq-div-mul, mul_assoc, mul-one}
use lib.ListN.{length, length-append}
use lib.IntN.{pos, negsuc}
use lib.Dec.{ltb}
use borrow.Author.Tests.{ltb-false}
use Rattle.cells.specs.declared.Cell.{Cell}
use Rattle.cells.specs.declared.Cell.TheVariants.{Fixed}
use Rattle.cells.specs.Cells.{spelled, decimal, word_text, pointed, cell_text, row_text}

-- digits read from the left
unfoldable pub value : (base nought : ℕ) → ℕ → List ℕ → ℕ
value base nought v [] = v
value base nought v (x ∷ xs) = value base nought (v * base + (x - nought)) xs

-- a base, by which a number that is no digit is lowered
module _ (base nought : ℕ) (lowers : (n : ℕ) → base ≤ n → n / base < n) where
  value_more : (v : ℕ) (xs : List ℕ) (x : ℕ) → value base nought v (xs ++ (x ∷ [])) ≡ value base nought v xs * base + (x - nought)
  unfolding value
  value_more v [] x = refl
  value_more v (y ∷ xs) x = value_more (v * base + (y - nought)) xs x

  digit : (d : ℕ) → nought + d - nought ≡ d
  digit d = omega arith

  value_back : (k n : ℕ) → n < k → value base nought 0 (spelled base nought k n) ≡ n
  unfolding spelled value
  value_back zero n h = let z : ◌≡◌ {A = ℕ} 0 1 = omega arith in cc
  value_back (suc k) n h = go (ltb n base) refl (value_back k (n / base))
    where
      go :
          (b : Bool) →
          ltb n base ≡ b →
          (n / base < k → value base nought 0 (spelled base nought k (n / base)) ≡ n / base) →
          value base nought 0 (cond b ((nought + n) ∷ []) (spelled base nought k (n / base) ++ ((nought + n % base) ∷ []))) ≡ n
      go true e ih = omega (arith, digit n)
      go false e ih =
          let t : n / base < n = lowers n (ltb-false n base e) in
          value_more 0 (spelled base nought k (n / base)) (nought + n % base)
          ∙ rw (ih (omega arith), digit (n % base)) (div-add-mod' n base)

pub decimal_back : (n : ℕ) → value 10 48 0 (decimal n) ≡ n
unfolding decimal
decimal_back n = value_back 10 48 (λ m h. omega arith) (suc n) n (omega arith)

pub word_back : (w : ℕ) → value 256 0 0 (word_text w) ≡ w
unfolding word_text
word_back w = value_back 256 0 (λ m h. omega arith) (suc w) w (omega arith)

-- the last k digits of n, noughts before them where n has no more
unfoldable pub last : ℕ → ℕ → List ℕ
last zero n = []
last (suc k) n = last k (n / 10) ++ ((48 + n % 10) ∷ [])

pub fixed_parts : (k n : ℕ) → pointed k n ≡ decimal (n / 10 ^ k) ++ (46 ∷ last k n)
unfolding pointed last
fixed_parts zero n = rw div-one
fixed_parts (suc k) n =
    let e : n / 10 / 10 ^ k ≡ n / 10 ^ suc k = div-div-eq-div-mul n 10 (10 ^ k) ∙ ap (λ (m : ℕ). n / m) (omega arith) in
    rw (fixed_parts k (n / 10), append_assoc, e)

pub last_long : (k n : ℕ) → length (last k n) ≡ k
unfolding last
last_long zero n = refl
last_long (suc k) n = omega (arith, length-append (last k (n / 10)) ((48 + n % 10) ∷ []), last_long k (n / 10))

-- the digits before the point count 10 to the k each, those after it one
pub fixed_back : (k n : ℕ) → n / 10 ^ k * 10 ^ k + value 10 48 0 (last k n) ≡ n
unfolding last value
fixed_back zero n = rw (div-one, mul-one) (omega arith)
fixed_back (suc k) n =
    let e : n / 10 / 10 ^ k ≡ n / 10 ^ suc k = div-div-eq-div-mul n 10 (10 ^ k) ∙ ap (λ (m : ℕ). n / m) (omega arith) in
    let f : 10 ^ suc k ≡ 10 ^ k * 10 = omega arith in
    let g : n / 10 ^ suc k * 10 ^ suc k ≡ n / 10 / 10 ^ k * 10 ^ k * 10 = rw (← e, f, ← mul_assoc) in
    tenfold (n / 10 / 10 ^ k * 10 ^ k) (value 10 48 0 (last k (n / 10))) (fixed_back k (n / 10)) g (value_more 10 48 (λ m h. omega arith) 0 (last k (n / 10)) (48 + n % 10))
  where
    tenfold : (a v : ℕ) {p w : ℕ} → a + v ≡ n / 10 → p ≡ a * 10 → w ≡ v * 10 + (48 + n % 10 - 48) → p + w ≡ n
    tenfold a v i g w = omega arith

-- a minus, and the number without it
pub minus_more : (k n : ℕ) → cell_text (Fixed k (negsuc n)) ≡ 45 ∷ cell_text (Fixed k (pos (suc n)))
unfolding cell_text
minus_more k n = refl

-- cells one after another, a separator between two and a line feed at the end
pub row_one : (separator : ℕ) (c : Cell) → row_text separator (c ∷ []) ≡ cell_text c ++ (10 ∷ [])
unfolding row_text
row_one separator c = refl

pub row_more : (separator : ℕ) (c d : Cell) (cs : List Cell) → row_text separator (c ∷ d ∷ cs) ≡ cell_text c ++ (separator ∷ row_text separator (d ∷ cs))
unfolding row_text
row_more separator c d cs = append_assoc (cell_text c) (separator ∷ []) (row_text separator (d ∷ cs))
