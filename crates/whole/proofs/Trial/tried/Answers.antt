-- `whole::Trial::tried` meets its contract: its test is the definition's. Assumes nothing.
use borrow.Author.Tests.{le-leb, lt-leb}
use Rattle.whole.specs.Paper.{tried}
use Rattle.whole.proofs.Trial.tried.Goals as goal

pub returns-then-self-sum : goal.returns-then-self-sum
unfolding tried
returns-then-self-sum c = simp (lt-leb _ _ c.if-self-sum.true)

pub returns-else-self-sum : goal.returns-else-self-sum
unfolding tried
returns-else-self-sum c = simp (le-leb _ _ c.if-self-sum.false)
