-- `sea::salted` meets its contract: two steps, the inner one first. Assumes nothing.
use mathlib.Core.Path.{◌≡◌, ◌∙◌}
use native.Mathlib.Omega.{arith}
use lib.IntN.{◌+ℤ◌}
use mir.Syntax.{w64}
use mir.ValLaws.{to_z-of_z}
use Rattle.whole.specs.Arith.{scaled}
use Rattle.whole.proofs.Words.{word, given, size_as, step_as}
use Rattle.sea.proofs.Grid.{natural_same}
use Rattle.sea.proofs.salted.Goals.{After-step}
use Rattle.sea.proofs.salted.Goals as goal

inner : (c : After-step) → let a = c.args in word c.step.result ≡ a.y +ℤ scaled a.z a.w.number
inner c =
    given c.step.type_inv (c.step.ensures ∙ step_as (to_z-of_z w64 c.args.y c.ranges.y) (to_z-of_z w64 c.args.z c.ranges.z) (natural_same (omega arith) c.args.w.in_range))

pub step-requires-2 : goal.step-requires-2
step-requires-2 c =
    record { c_small = size_as (to_z-of_z w64 c.args.x c.ranges.x) c.requires.base; h_small = size_as (inner (goal.at.step-requires-2 c).After-step) c.requires.inner; x_small = size_as (natural_same (omega arith) c.args.sigma.in_range) c.requires.by_σ }

pub returns : goal.returns
returns c =
    given c.step-2.type_inv (c.step-2.ensures ∙ step_as (to_z-of_z w64 c.args.x c.ranges.x) (inner (goal.at.returns c).After-step) (natural_same (omega arith) c.args.sigma.in_range))
