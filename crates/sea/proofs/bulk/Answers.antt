-- `sea::bulk` meets its contract: two steps, each small by what it asks for. Assumes nothing.
use mathlib.Core.Path.{◌≡◌, ap, ◌∙◌}
use native.Mathlib.Omega.{arith}
use lib.IntN.{ℤ, ◌+ℤ◌}
use Rattle.whole.specs.Arith.{scaled}
use Rattle.whole.proofs.Words.{word, given, step_as}
use Rattle.sea.specs.Recipe.{bulk}
use Rattle.sea.proofs.Grid.{small_word, natural}
use Rattle.sea.proofs.bulk.Goals as goal

pub returns : goal.returns
unfolding bulk
returns c =
    let x = c.args.x in
    let π = c.args.pi.number in
    let π_is : word π ≡ π = small_word π (omega (arith, (natural c.args.pi.in_range).size)) in
    let inner : word c.step.result ≡ x.a +ℤ scaled x.b π =
    given c.step.type_inv (c.step.ensures ∙ step_as (small_word x.a c.requires.a) (small_word x.b c.requires.b) π_is) in
    given c.step-2.type_inv
    (c.step-2.ensures ∙ step_as (small_word x.k0 c.requires.k0) inner π_is
    ∙ ap (λ (p : ℤ). x.k0 +ℤ scaled (x.a +ℤ scaled x.b p) p) c.requires.whole)
