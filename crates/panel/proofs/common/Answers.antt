-- `panel::common` meets its contract: of two pressures it gives the greater. Assumes nothing.
use mathlib.Core.Path.{refl, ◌∙◌}
use Rattle.whole.proofs.Words.{given}
use Rattle.panel.specs.Pairing.{common_of}
use Rattle.panel.proofs.common.Goals as goal

pub returns : goal.returns
unfolding common_of
returns c = given c.max.type_inv (c.max.ensures.value ∙ rw (given c.pressure.type_inv c.pressure.ensures, given c.pressure-2.type_inv c.pressure-2.ensures) refl)
