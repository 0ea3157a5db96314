-- `cells::put_row` meets its contract. The loop's invariant is `Row` (proofs/Rows). Assumes nothing.
use Rattle.cells.proofs.Rows.{Row}
use Rattle.cells.proofs.put_row.Given as goal

abbrev pub invariant-loop-cell : goal.invariant-loop-cell
invariant-loop-cell l = Row l.cells l.separator l.initial.buf l.at l.buf l.cell-index l.to
