-- `check` meets its contract: a report without a reading is a missing one, and that of a reading's floats decides the rest. Assumes nothing.
use mathlib.Core.Path.{sym, ◌∙◌}
use Rattle.readings.specs.declared.Purpose.{Purpose}
use Rattle.readings.proofs.Placing.{of_given, of_missing}
use Rattle.readings.proofs.check.Goals as goal

pub returns-in_default : goal.returns-in_default
returns-in_default c = of_missing Purpose.Density c.args.report (sym c.reading.ensures ∙ c.in_default.is)

pub returns : goal.returns
returns c = c.checked.ensures ∙ of_given Purpose.Density c.args.report (sym c.reading.ensures ∙ c.in-Some.is)
