-- How long a row is: a byte more than each cell's text. And how long the text of a cell is at most. Assumes nothing.
use Prim.Native.Nat.{ℕ, zero, suc, ◌+◌, ◌/◌, ◌%◌, ◌^◌, ◌≤◌, ◌<◌}
use mathlib.Core.Path.{◌≡◌, refl}
use mathlib.Core.List.{List, [], ◌∷◌, ◌++◌}
use native.Mathlib.Omega.{arith}
use native.Mathlib.Nat.{zero-add, suc-add}
use lib.ListN.{length, length-append}
use lib.IntN.{ℤ, pos, negsuc, nat_abs}
use Rattle.cells.specs.declared.Cell.{Cell}
use Rattle.cells.specs.Cells.{decimal, pointed, number_text, cell_text, row_text}
use Rattle.cells.proofs.Decimal.{decimal_width}
use Rattle.cells.proofs.Ends.{one_longer}

-- each cell's text, and a byte after it
unfoldable pub widths : List Cell → ℕ
widths [] = 0
widths (c ∷ cs) = length (cell_text c) + 1 + widths cs

pub row_width : (separator : ℕ) (c : Cell) (cs : List Cell) → length (row_text separator (c ∷ cs)) ≡ widths (c ∷ cs)
unfolding row_text widths
row_width separator c [] = omega (arith, one_longer {t = cell_text c} 10 refl)
row_width separator c (d ∷ cs) =
    omega (
      arith,
      length-append (cell_text c ++ (separator ∷ [])) (row_text separator (d ∷ cs)),
      one_longer {t = cell_text c} separator refl,
      row_width separator d cs,
    )

pointed_width : (k j n : ℕ) → n < 10 ^ (k + suc j) → length (pointed k n) ≤ k + suc j + 1
unfolding pointed
pointed_width zero j n h =
    let g : n < 10 ^ suc j = rw zero-add at h in omega (arith, one_longer {t = decimal n} 46 refl, decimal_width j n g)
pointed_width (suc k) j n h =
    let g : n < 10 ^ suc (k + suc j) = rw suc-add at h in
    omega (arith, length-append (pointed k (n / 10)) ((48 + n % 10) ∷ []), pointed_width k j (n / 10) (omega arith))

-- a number below 10 to the k + j + 1: its digits, the point, the sign
pub fixed_width : (k j : ℕ) (z : ℤ) → nat_abs z < 10 ^ (k + suc j) → length (number_text k z) ≤ k + suc j + 2
fixed_width zero j (pos n) h = let g : n < 10 ^ suc j = rw zero-add at h in omega (arith, decimal_width j n g)
fixed_width zero j (negsuc n) h = let g : suc n < 10 ^ suc j = rw zero-add at h in omega (arith, decimal_width j (suc n) g)
fixed_width (suc k) j (pos n) h = omega (arith, pointed_width (suc k) j n h)
fixed_width (suc k) j (negsuc n) h = omega (arith, pointed_width (suc k) j (suc n) h)
