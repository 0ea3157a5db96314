-- `cells::put_row` meets its contract: each turn of the loop puts a cell, the last cell ends the row (proofs/Rows). Assumes nothing.
use Prim.Native.Nat.{ℕ, ◌+◌, ◌-◌, ◌≤◌, ◌<◌}
use mathlib.Core.Path.{◌≡◌, ap, ◌∙◌}
use mathlib.Core.List.{List, [], ◌∷◌, ◌++◌}
use native.Mathlib.Omega.{arith}
use lib.IntN.{pos}
use lib.ListN.{length, get_or, take}
use Rattle.std.proofs.lemmas.List.{length-take-le, get_or-take}
use Rattle.cells.specs.declared.Cell.{Cell}
use Rattle.cells.specs.declared.Cell.TheVariants.{Fixed}
use Rattle.cells.specs.Cells.{cell_text}
use Rattle.cells.proofs.Rows.{left, row_longer, row_again, row_last, row_end, row_none}
use Rattle.cells.proofs.Stores.{put_one, put_same}
use Rattle.cells.proofs.put_row.Goals as goal

-- what the checker writes where a list has no cell
abbrev no_cell : Cell
no_cell = Fixed 0 (pos 0)

-- the cells before the last are one fewer, and each is a cell of the row
fewer : (cs : List Cell) (i : ℕ) → 1 ≤ length cs → i < length (take (length cs - 1) cs) → i + 1 < length cs
fewer cs i h g = omega (arith, length-take-le (length cs - 1) cs (omega arith))

turn :
    (cs : List Cell) (sep i : ℕ) (d : Cell) →
    i + 1 < length cs →
    cell_text (get_or (take (length cs - 1) cs) i d) ++ (sep ∷ []) ≡ cell_text (get_or cs i d) ++ (sep ∷ [])
turn cs sep i d h = ap (λ (c : Cell). cell_text c ++ (sep ∷ [])) (get_or-take (length cs - 1) cs i d (omega arith))

-- what the last cell is put for: the row that is left
at_end :
    (cs : List Cell) (sep i : ℕ) (d : Cell) →
    1 ≤ length cs →
    i ≤ length (take (length cs - 1) cs) →
    length (take (length cs - 1) cs) ≤ i →
    cell_text (get_or cs (length cs - 1) d) ++ (10 ∷ []) ≡ left cs sep i
at_end cs sep i d h u l =
    let e : length cs - 1 ≡ i = omega (arith, length-take-le (length cs - 1) cs (omega arith)) in
    ap (λ (j : ℕ). cell_text (get_or cs j d) ++ (10 ∷ [])) e ∙ row_last cs sep i d (omega arith)

pub bounds-buf-at : goal.bounds-buf-at
bounds-buf-at c = omega (arith, ap length (row_none c.args.cells.now c.args.separator c.in_default.len_below))

pub returns-in_default : goal.returns-in_default
returns-in_default c = put_same (row_none _ _ c.in_default.len_below) (put_one _ _ _)

pub put_cell-to-requires : goal.put_cell-to-requires
put_cell-to-requires c =
    let cs = c.args.cells.now in
    let h = fewer cs _ c.in-len1-up.len_at_least c.loop-cell-test.true in
    let k = c.loop-cell.invariant in
    omega (arith, ap length (turn cs c.args.separator _ no_cell h), row_longer cs c.args.separator _ no_cell h, k.room, k.long, c.requires)

pub loop-cell-preserved : goal.loop-cell-preserved
loop-cell-preserved c =
    let h = fewer _ _ c.in-len1-up.len_at_least c.loop-cell-test.true in
    row_again _ _ _ _ _ _ _ _ _ _ h c.loop-cell.invariant (put_same (turn _ _ _ _ h) c.put_cell-to.ensures)

pub put_cell-requires : goal.put_cell-requires
put_cell-requires c =
    let k = c.loop-cell.invariant in
    omega (
      arith,
      ap length (at_end _ c.args.separator _ no_cell c.in-len1-up.len_at_least c.loop-cell.auto.cell-index-end c.loop-cell-test.false),
      k.room,
      k.long,
      c.requires,
    )

pub returns : goal.returns
returns c =
    row_end _ _ _ _ _ _ _ _ _ c.loop-cell.invariant
    (put_same (at_end _ _ _ _ c.in-len1-up.len_at_least c.loop-cell.auto.cell-index-end c.loop-cell-test.false) c.put_cell.ensures)
