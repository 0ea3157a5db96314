-- `whole::trial_after` meets its contract: the loop goes from line to line of the paper, and a line without a trial bit stays as it is. Assumes nothing.
use mathlib.Core.Path.{sym, ap, ◌∙◌}
use Prim.Native.Nat.{◌<◌}
use native.Mathlib.Omega.{arith}
use native.Mathlib.Numerals.{add-one}
use Rattle.whole.specs.Paper.{tried, after}
use Rattle.whole.proofs.Lines.{sum_small, after_next, after_ended}
use Rattle.whole.proofs.trial_after.Goals as goal

pub loop-init : goal.loop-init
unfolding after
loop-init c = (c.first-at.ensures, c.requires)

pub returns-then-at-eq0 : goal.returns-then-at-eq0
returns-then-at-eq0 c =
    let i = c.loop.invariant in
    i.0 ∙ sym (after_ended _ _ _ (rw i.0 at c.if-at-eq0.true) (omega arith))

pub tried-at-requires : goal.tried-at-requires
tried-at-requires c =
    let i = c.loop.invariant in
    rw i.0 (sum_small _ _ (omega arith))

pub loop-preserved : goal.loop-preserved
loop-preserved c =
    let i = c.loop.invariant in
    let some : 0 < c.loop.at.bit = omega (arith, c.if-at-eq0.false) in
    (c.tried-at.ensures ∙ ap tried i.0 ∙ (sym (after_next _ _ (rw i.0 at some)) ∙ rw add-one), i.1)
