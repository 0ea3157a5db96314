-- `check_surface` meets its contract: checks 2, 3 and 4 of the surface reading, and a pressure of 0 has its place. Assumes nothing.
use mathlib.Core.Path.{◌≡◌, sym, ap, ◌∙◌}
use Rattle.std.specs.Prelude.{Some, Ok}
use Rattle.refusals.proofs.Handed.{handed_on}
use Rattle.floats.specs.Grid.{place_of}
use Rattle.readings.specs.declared.Report.{Report}
use Rattle.readings.specs.declared.Reading.{Reading}
use Rattle.readings.specs.Check.{pressures, placed_for, in_order, checked_for}
use Rattle.readings.proofs.Placing.{level_stops, level_passes, surface_place, of_given}
use Rattle.readings.proofs.check_surface.Goals.{After-finite, In-true}
use Rattle.readings.proofs.check_surface.Goals as goal

-- what check 2 finds leads to the report's answer
by_finite : (c : After-finite) → in_order c.args.purpose (Some c.surface-reading.result) c.finite.result ≡ checked_for c.args.purpose (Report.Surface c.args.salinity c.args.temperature)
by_finite c = ap (in_order c.args.purpose (Some c.surface-reading.result)) c.finite.ensures ∙ of_given c.args.purpose (Report.Surface c.args.salinity c.args.temperature) (ap Some (sym c.surface-reading.ensures))

passed : (c : In-true) → placed_for c.args.purpose c.surface-reading.result ≡ checked_for c.args.purpose (Report.Surface c.args.salinity c.args.temperature)
passed c = ap (in_order c.args.purpose (Some c.surface-reading.result)) (sym c.in-true.is) ∙ by_finite c.before

pub returns-in_default : goal.returns-in_default
returns-in_default c =
    ap (in_order c.args.purpose (Some c.surface-reading.result)) c.in_default.ensures ∙ of_given c.args.purpose (Report.Surface c.args.salinity c.args.temperature) (ap Some (sym c.surface-reading.ensures))

pub returns-in_err-sigma : goal.returns-in_err-sigma
returns-in_err-sigma c =
    handed_on c.from_residual.ensures ∙ sym (level_stops c.args.purpose c.surface-reading.result (sym c.level.ensures ∙ c.in_err-sigma.was)) ∙ passed (goal.at.returns-in_err-sigma c).In-true

pub returns : goal.returns
returns c =
    let nought = ap (λ (r : Reading). place_of pressures r.pressure) c.surface-reading.ensures ∙ surface_place in
    ap Ok c.put_together.ensures ∙ level_passes c.args.purpose c.surface-reading.result (sym c.level.ensures ∙ c.in_ok-sigma.was) nought ∙ passed (goal.at.returns c).In-true
