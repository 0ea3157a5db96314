-- `whole::row_value` meets its contract. The invariant: h is the value of the coefficients from the last one that was taken on. Assumes nothing.
use mathlib.Core.Path.{◌≡◌}
use Prim.Native.Nat.{◌-◌}
use lib.ListN.{length, drop}
use Rattle.whole.specs.Arith.{row_value}
use Rattle.whole.proofs.row_value.Given as goal

abbrev pub invariant-loop-c : goal.invariant-loop-c
invariant-loop-c l = l.h ≡ row_value (drop (6 - length l.yielded) l.fn.row) l.t
