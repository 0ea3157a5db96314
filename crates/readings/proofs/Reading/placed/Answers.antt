-- `Reading::placed` meets its contract: what checks 3 and 4 find, and check 5 after them. Assumes nothing.
use mathlib.Core.Path.{sym, ap, ◌∙◌}
use Rattle.std.specs.Prelude.{Ok}
use Rattle.refusals.proofs.Handed.{handed_on}
use Rattle.readings.specs.declared.Purpose.{Purpose}
use Rattle.readings.proofs.Placing.{level_stops, level_passes}
use Rattle.readings.proofs.Reading.placed.Goals as goal

pub returns-in_err-sigma : goal.returns-in_err-sigma
returns-in_err-sigma c =
    handed_on c.from_residual.ensures ∙ sym (level_stops Purpose.Density c.args.self (sym c.level.ensures ∙ c.in_err-sigma.was))

pub returns-in_default : goal.returns-in_default
returns-in_default c = level_passes Purpose.Density c.args.self (sym c.level.ensures ∙ c.in_ok-sigma.was) (sym c.place.ensures ∙ c.in_default.is)

pub returns : goal.returns
returns c = ap Ok c.put_together.ensures ∙ level_passes Purpose.Density c.args.self (sym c.level.ensures ∙ c.in_ok-sigma.was) (sym c.place.ensures ∙ c.in-Some.is)
