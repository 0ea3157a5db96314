-- `whole::trial_after` meets its contract: the loop goes from line to line of the paper, and a line without a trial bit stays as it is. Assumes nothing.
use mathlib.Core.Path.{◌≡◌}
use Prim.Native.Nat.{◌<◌, ◌^◌}
use Rattle.whole.specs.Paper.{after}
use Rattle.whole.proofs.trial_after.Given as goal

abbrev pub invariant-loop : goal.invariant-loop
invariant-loop l = (l.at ≡ after l.counter l.n) × (l.n < 2 ^ 62)
