-- `cells::put_pointed` calls itself with one place less. Assumes nothing.
use Rattle.cells.proofs.+put_pointed.Given as goal

abbrev pub decreases-put_pointed : goal.decreases-put_pointed
decreases-put_pointed l = l.k
