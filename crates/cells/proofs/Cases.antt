-- Cells whose text is known, in bytes: what the definitions are to say, in numbers. Assumes nothing.
use mathlib.Core.Path.{◌≡◌, refl}
use mathlib.Core.List.{[], ◌∷◌}
use lib.IntN.{pos, negsuc}
use Prim.Native.Nat.{ℕ}
use Rattle.std.specs.Prelude.{Ok, Err}
use Rattle.cells.specs.declared.Cell.TheVariants.{Fixed, Refusal, Word}
use Rattle.cells.specs.Cells.{spelled, decimal, word_text, pointed, whole, answer_cell, cell_text, row_text}

-- 0, 9, 10, 99999 and -1
pub plain_bytes :
    (cell_text (whole (pos 0)) ≡ 48 ∷ [])
    × ((cell_text (whole (pos 9)) ≡ 57 ∷ [])
    × ((cell_text (whole (pos 10)) ≡ 49 ∷ 48 ∷ [])
    × ((cell_text (whole (pos 99999)) ≡ 57 ∷ 57 ∷ 57 ∷ 57 ∷ 57 ∷ []) × (cell_text (whole (negsuc 0)) ≡ 45 ∷ 49 ∷ []))))
unfolding cell_text decimal spelled
plain_bytes = (refl, (refl, (refl, (refl, refl))))

-- 1027675 with three places is 1027.675, -62 is -0.062, 0 is 0.000; 100000 with two is 1000.00, 5 is 0.05
pub fixed_bytes :
    (cell_text (Fixed 3 (pos 1027675)) ≡ 49 ∷ 48 ∷ 50 ∷ 55 ∷ 46 ∷ 54 ∷ 55 ∷ 53 ∷ [])
    × ((cell_text (Fixed 3 (negsuc 61)) ≡ 45 ∷ 48 ∷ 46 ∷ 48 ∷ 54 ∷ 50 ∷ [])
    × ((cell_text (Fixed 3 (pos 0)) ≡ 48 ∷ 46 ∷ 48 ∷ 48 ∷ 48 ∷ [])
    × ((cell_text (Fixed 2 (pos 100000)) ≡ 49 ∷ 48 ∷ 48 ∷ 48 ∷ 46 ∷ 48 ∷ 48 ∷ []) × (cell_text (Fixed 2 (pos 5)) ≡ 48 ∷ 46 ∷ 48 ∷ 53 ∷ []))))
unfolding cell_text pointed decimal spelled
fixed_bytes = (refl, (refl, (refl, (refl, refl))))

-- many digits and places: 12345.6789, and the lowest number of 64 bits
pub wide_bytes :
    (cell_text (Fixed 4 (pos 123456789)) ≡ 49 ∷ 50 ∷ 51 ∷ 52 ∷ 53 ∷ 46 ∷ 54 ∷ 55 ∷ 56 ∷ 57 ∷ [])
    × (cell_text (whole (negsuc 9223372036854775807)) ≡ 45 ∷ 57 ∷ 50 ∷ 50 ∷ 51 ∷ 51 ∷ 55 ∷ 50 ∷ 48 ∷ 51 ∷ 54 ∷ 56 ∷ 53 ∷ 52 ∷ 55 ∷ 55 ∷ 53 ∷ 56 ∷ 48 ∷ 56 ∷ [])
unfolding cell_text pointed decimal spelled
wide_bytes = (refl, refl)

-- R105; the words "left" and "salinity"
pub other_bytes :
    (cell_text (Refusal 105) ≡ 82 ∷ 49 ∷ 48 ∷ 53 ∷ [])
    × ((cell_text (Word 0x6c656674) ≡ 108 ∷ 101 ∷ 102 ∷ 116 ∷ [])
    × (cell_text (Word 0x73616c696e697479) ≡ 115 ∷ 97 ∷ 108 ∷ 105 ∷ 110 ∷ 105 ∷ 116 ∷ 121 ∷ []))
unfolding cell_text word_text decimal spelled
other_bytes = (refl, (refl, refl))

-- answers: -62 with three places, and one that is refused by 5
pub answer_cells : (answer_cell {E = ℕ} (λ n. n) 3 (Ok (negsuc 61)) ≡ Fixed 3 (negsuc 61)) × (answer_cell (λ n. n) 3 (Err 5) ≡ Refusal 5)
answer_cells = (refl, refl)

-- rows of no cell, of one, of three with commas: "12,R3,-0.5"; of two with a bar: "1|2"
pub row_bytes :
    (row_text 44 [] ≡ 10 ∷ [])
    × ((row_text 44 (whole (pos 7) ∷ []) ≡ 55 ∷ 10 ∷ [])
    × ((row_text 44 (whole (pos 12) ∷ Refusal 3 ∷ Fixed 1 (negsuc 4) ∷ []) ≡ 49 ∷ 50 ∷ 44 ∷ 82 ∷ 51 ∷ 44 ∷ 45 ∷ 48 ∷ 46 ∷ 53 ∷ 10 ∷ [])
    × (row_text 124 (whole (pos 1) ∷ whole (pos 2) ∷ []) ≡ 49 ∷ 124 ∷ 50 ∷ 10 ∷ [])))
unfolding row_text cell_text pointed decimal spelled
row_bytes = (refl, (refl, (refl, refl)))

-- a cell of each kind: -62 with three places, R5, the word "left": "-0.062,R5,left"
pub kind_cells :
    row_text 44 (Fixed 3 (negsuc 61) ∷ Refusal 5 ∷ Word 0x6c656674 ∷ [])
    ≡ 45 ∷ 48 ∷ 46 ∷ 48 ∷ 54 ∷ 50 ∷ 44 ∷ 82 ∷ 53 ∷ 44 ∷ 108 ∷ 101 ∷ 102 ∷ 116 ∷ 10 ∷ []
unfolding row_text cell_text word_text pointed decimal spelled
kind_cells = refl
