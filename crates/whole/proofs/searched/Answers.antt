-- `whole::searched` meets its contract: the loop goes from line to line of the paper, and the line without a trial bit has the root. The measure is
-- the trial bit. Assumes nothing.
use mathlib.Core.Path.{◌≡◌, sym, ap, ◌∙◌}
use Prim.Native.Nat.{suc, ◌<◌}
use native.Mathlib.Omega.{arith}
use Rattle.whole.specs.declared.Trial.{Trial}
use Rattle.whole.specs.Paper.{tried, after}
use Rattle.whole.proofs.Lines.{sum_small, lower, after_next, ended_rooted}
use Rattle.whole.proofs.searched.Goals as goal

pub loop-at-init : goal.loop-at-init
unfolding after
loop-at-init c = ((0, c.first-at.ensures), c.requires)

pub tried-at-requires : goal.tried-at-requires
tried-at-requires c =
    let i = c.loop-at.invariant in
    rw i.0.1 (sum_small _ i.0.0 (omega arith))

pub loop-at-smaller : goal.loop-at-smaller
loop-at-smaller c =
    let some : 0 < c.loop-at.at.bit = omega (arith, c.loop-at-test.true) in
    rw c.tried-at.ensures (lower _ some)

pub loop-at-preserved : goal.loop-at-preserved
loop-at-preserved c =
    let i = c.loop-at.invariant in
    let some : 0 < c.loop-at.at.bit = omega (arith, c.loop-at-test.true) in
    ((suc i.0.0, c.tried-at.ensures ∙ ap tried i.0.1 ∙ sym (after_next _ i.0.0 (rw i.0.1 at some))), i.1)

pub returns : goal.returns
returns c =
    let i = c.loop-at.invariant in
    let z : c.loop-at.at.bit ≡ 0 = omega (arith, c.loop-at-test.false) in
    ap (λ (t : Trial). t.root) i.0.1 ∙ ended_rooted _ i.0.0 (omega arith) (rw i.0.1 at z)
