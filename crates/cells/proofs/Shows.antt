-- What a cell shows, by its kind: the text of its number, or of its word. Assumes nothing.
use Prim.Native.Nat.{ℕ}
use mathlib.Core.Path.{◌≡◌, refl}
use lib.IntN.{ℤ}
use Rattle.cells.specs.declared.Cell.TheVariants.{Fixed, Word}
use Rattle.cells.specs.Cells.{number_text, word_text, cell_text}

pub number_text_lem : (k : ℕ) (z : ℤ) → number_text k z ≡ cell_text (Fixed k z)
unfolding cell_text
number_text_lem k z = refl

pub word_text_lem : (w : ℕ) → word_text w ≡ cell_text (Word w)
unfolding cell_text
word_text_lem w = refl
