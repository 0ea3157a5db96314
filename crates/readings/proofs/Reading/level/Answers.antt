-- `Reading::level` meets its contract: each answer is what `level_for` computes to once the places found are put in. Assumes nothing.
use mathlib.Core.Path.{◌≡◌, refl, sym, ap, ◌∙◌}
use lib.IntN.{ℤ, pos}
use mir.Syntax.{w32}
use mir.Val.{to_z, of_z}
use mir.ValLaws.{to_z-of_z}
use Rattle.std.specs.Prelude.{Option}
use Rattle.floats.specs.Grid.{range, place_of}
use Rattle.floats.specs.declared.Place.{Place}
use Rattle.readings.specs.Check.{temperatures}
use Rattle.readings.proofs.Placing.{by_level}
use Rattle.readings.proofs.Reading.level.Goals.{After-coldest}
use Rattle.readings.proofs.Reading.level.Goals as goal

-- the place found, on the range of the purpose
tau_placed : (c : After-coldest) {x : Option Place} → x ≡ place_of (range (to_z w32 (of_z w32 c.coldest.result)) (pos 40_000) 1000) c.args.self.temperature
    → place_of (temperatures c.args.purpose) c.args.self.temperature ≡ x
tau_placed c e =
    let cold = to_z-of_z w32 c.coldest.result (record { sfits = c.coldest.type_inv }) ∙ c.coldest.ensures in
    ap (λ (z : ℤ). place_of (range z (pos 40_000) 1000) c.args.self.temperature) (sym cold) ∙ sym e

pub returns-in_default : goal.returns-in_default
returns-in_default c = by_level c.args.purpose c.args.self (sym c.place.ensures ∙ c.in_default.is) refl

pub returns-in_default-place : goal.returns-in_default-place
returns-in_default-place c =
    by_level c.args.purpose c.args.self (sym c.place.ensures ∙ c.in-Some.is) (tau_placed (goal.at.returns-in_default-place c).After-coldest c.place-2.ensures ∙ c.in_default-place.is)

pub returns : goal.returns
returns c = by_level c.args.purpose c.args.self (sym c.place.ensures ∙ c.in-Some.is) (tau_placed (goal.at.returns c).After-coldest c.place-2.ensures ∙ c.in-Some-place.is)
