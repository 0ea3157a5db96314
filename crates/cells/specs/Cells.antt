-- The bytes of a row of cells, of which every printed line is made.
use Rattle.std.specs.Prelude.{ℕ, zero, suc, ◌+◌, ◌/◌, ◌%◌, ◌≡◌, List, [], ◌∷◌, ◌++◌, cond, length, take, drop, ℤ, pos, negsuc, ltb, Result, Ok, Err}
use Rattle.std.proofs.lemmas.List.Edits.{sets}
use Rattle.cells.specs.declared.Cell.{Cell}
use Rattle.cells.specs.declared.Cell.TheVariants.{Fixed, Refusal, Word}

-- the last k of n's digits to a base, or all of them where there are no more, the highest first; the digit 0 is the byte `nought`
unfoldable pub spelled : (base nought : ℕ) → ℕ → ℕ → List ℕ
spelled base nought zero n = []
spelled base nought (suc k) n =
    let more = spelled base nought k (n / base) in cond (ltb n base) ((nought + n) ∷ []) (more ++ ((nought + n % base) ∷ []))

-- n in plain decimals: it has at most n + 1 digits. (`decimal_small` and `decimal_large` of proofs/Decimal say so without a bound.)
unfoldable pub decimal : ℕ → List ℕ
decimal n = spelled 10 48 (suc n) n

-- the word of a number: its bytes, the highest first
unfoldable pub word_text : ℕ → List ℕ
word_text w = spelled 256 0 (suc w) w

-- decimals with a point (byte 46) k digits before their end: the last digit stands after a tenth with one place less
unfoldable pub pointed : ℕ → ℕ → List ℕ
pointed zero n = decimal n ++ (46 ∷ [])
pointed (suc k) n = pointed k (n / 10) ++ ((48 + n % 10) ∷ [])

-- with k decimal places, and no point where there are none
abbrev pub fixed_text : ℕ → ℕ → List ℕ
fixed_text zero n = decimal n
fixed_text (suc k) n = pointed (suc k) n

-- minus (byte 45) for negative; negsuc n is −(n + 1)
abbrev pub number_text : ℕ → ℤ → List ℕ
number_text k (pos n) = fixed_text k n
number_text k (negsuc n) = 45 ∷ fixed_text k (suc n)

-- a cell is a number with k decimal places from its whole number, R and a number, or a word; this one has no places
abbrev pub whole : ℤ → Cell
whole z = Fixed 0 z

-- an answer: its number with k decimal places, or R and the number of why there is none
abbrev pub answer_cell : {E : Type 0} → (E → ℕ) → ℕ → Result ℤ E → Cell
answer_cell numbered k (Ok z) = Fixed k z
answer_cell numbered k (Err e) = Refusal (numbered e)

-- what a cell shows; R is byte 82
unfoldable pub cell_text : Cell → List ℕ
cell_text (Fixed k z) = number_text k z
cell_text (Refusal n) = 82 ∷ decimal n
cell_text (Word w) = word_text w

-- the cells with a separator between them, and a line feed (byte 10) at the end
unfoldable pub row_text : ℕ → List Cell → List ℕ
row_text separator [] = 10 ∷ []
row_text separator (c ∷ []) = cell_text c ++ (10 ∷ [])
row_text separator (c ∷ (d ∷ cs)) = (cell_text c ++ (separator ∷ [])) ++ row_text separator (d ∷ cs)

-- a buffer into which k bytes of a text were written: the bytes past them keep their values
abbrev pub written : ℕ → List ℕ → List ℕ → List ℕ
written k text buf = take k text ++ drop k buf

-- for the contracts of the `put` functions: a text was put at a place, every other byte kept its value; r is the place past the text
pub record Put (text : List ℕ) (at : ℕ) (old new : List ℕ) (r : ℕ) : Type 0 where
  pub past : r ≡ at + length text
  pub stored : new ≡ sets old at text
