-- `whole::root_at` meets its contract: a salinity's grid number is a natural, and its product by 100,000 is far from the words' end. Assumes nothing.
use mathlib.Core.Path.{◌≡◌, ap, ◌∙◌}
use Prim.Native.Nat.{ℕ, ◌*◌}
use native.Mathlib.Omega.{arith}
use lib.IntN.{pos}
use mir.Syntax.{w64}
use mir.ValLaws.{to_z-of_z}
use Rattle.whole.specs.Arith.{plus, root_of, root_at}
use Rattle.whole.proofs.Words.{given}
use Rattle.whole.proofs.Naturals.{natural}
use Rattle.whole.proofs.Roots.{root_at_most}
use Rattle.whole.proofs.root_at.Goals.{After-root-w, After-unsigned}
use Rattle.whole.proofs.root_at.Goals as goal

σ_is : (c : After-unsigned) → c.unsigned.result ≡ plus c.args.sigma
σ_is c = let b = c.before in c.unsigned.ensures ∙ ap plus (to_z-of_z w64 b.args.sigma b.ranges.sigma)

w_is : (c : After-root-w) → c.root-w.result ≡ root_at (plus c.args.sigma)
unfolding root_at
w_is c = c.root-w.ensures ∙ ap (λ (n : ℕ). root_of (n * 100_000)) (σ_is c.before)

pub signed-requires : goal.signed-requires
signed-requires c = let b = c.before.before in omega (arith, w_is c, root_at_most (plus b.args.sigma) (natural b.requires).most)

pub returns : goal.returns
returns c = given c.signed.type_inv (c.signed.ensures ∙ ap pos (w_is c.before))
