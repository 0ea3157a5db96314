-- `whole::step` meets its contract: numbers of the sizes asked for stay within a word. Assumes nothing.
use mathlib.Core.Path.{◌≡◌}
use lib.IntN.{◌+ℤ◌}
use mir.Syntax.{w64}
use mir.ValLaws.{to_z-of_z}
use Rattle.whole.specs.Arith.{scaled}
use Rattle.whole.proofs.Words.{word, word_as, fits_as, step_fits}
use Rattle.whole.proofs.step.Goals.{After-scaled}
use Rattle.whole.proofs.step.Goals as goal

sum : (c : After-scaled) → word c.args.c +ℤ word c.scaled.result ≡ c.args.c +ℤ scaled c.args.h c.args.x
sum c =
    let s = c.before in
    rw (to_z-of_z w64 s.args.c s.ranges.c, to_z-of_z w64 c.scaled.result (record { sfits = c.scaled.type_inv }), c.scaled.ensures, to_z-of_z w64 s.args.h s.ranges.h, to_z-of_z w64 s.args.x s.ranges.x)

pub overflow_add-result : goal.overflow_add-result
overflow_add-result c = let s = c.before in fits_as (sum c) (step_fits s.args.c s.args.h s.args.x s.requires.c_small s.requires.h_small s.requires.x_small)

pub returns : goal.returns
returns c = let s = c.before in word_as (sum c) (step_fits s.args.c s.args.h s.args.x s.requires.c_small s.requires.h_small s.requires.x_small)
