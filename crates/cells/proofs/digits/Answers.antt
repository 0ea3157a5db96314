-- `cells::digits` meets its contract: the search finds the first power above the number, which tells its digits (proofs/Powers). Assumes nothing.
use Prim.Native.Nat.{ℕ}
use native.Mathlib.Omega.{arith}
use lib.Dec.{ltb}
use Rattle.std.proofs.Common.{rules, tests}
use Rattle.std.proofs.lemmas.Iterator.{YieldsList-from_slice}
use Rattle.std.proofs.lemmas.Iterator.Search.{position_from_yields_List}
use Rattle.cells.specs.declared.TheConstants.{POWERS}
use Rattle.cells.proofs.Powers.{digits_tell}
use Rattle.cells.proofs.digits.Goals as goal

pub returns : goal.returns
returns c =
    let found =
    position_from_yields_List {all = POWERS} (λ (x : ℕ). ltb c.args.n x) _ _ _ c.position.ensures.ran (YieldsList-from_slice _ cc)
    (λ x b q k. search (rules, tests)) in
    let tells = digits_tell c.args.n (omega arith) in
    search (rules, tests)
