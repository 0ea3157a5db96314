-- `whole::searched` meets its contract: the loop goes from line to line of the paper, and the line without a trial bit has the root. The measure is
-- the trial bit. Assumes nothing.
use mathlib.Core.Path.{◌≡◌}
use Prim.Native.Nat.{ℕ, ◌<◌, ◌^◌}
use Rattle.whole.specs.Paper.{after}
use Rattle.whole.proofs.searched.Given as goal

abbrev pub invariant-loop-at : goal.invariant-loop-at
invariant-loop-at l = ((j : ℕ) × (l.at ≡ after j l.n)) × (l.n < 2 ^ 62)

abbrev pub decreases-loop-at : goal.decreases-loop-at
decreases-loop-at l = l.at.bit
