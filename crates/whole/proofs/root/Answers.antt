-- `whole::root` meets its contract: the root on paper is the root. Assumes nothing.
use mathlib.Core.Path.{◌∙◌}
use native.Mathlib.Omega.{arith}
use Rattle.whole.proofs.Lines.{rooted_is}
use Rattle.whole.proofs.root.Goals as goal

pub returns : goal.returns
returns c = c.searched.ensures ∙ rooted_is _ (omega (arith, c.requires))
