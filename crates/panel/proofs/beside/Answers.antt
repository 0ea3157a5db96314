-- `panel::beside` meets its contract: the water of a point, at its own pressure and under the greater of the two. Assumes nothing.
use borrow.Author.Rules.{rules}
use mathlib.Core.Path.{◌≡◌, refl, sym, ap, ◌∙◌}
use mir.Syntax.{w64}
use mir.ValLaws.{to_z-of_z}
use Rattle.std.specs.Prelude.{Result, Ok}
use Rattle.refusals.specs.declared.Refusal.{Refusal}
use Rattle.refusals.proofs.Handed.{handed_on}
use Rattle.sea.specs.declared.Sounding.{Sounding}
use Rattle.readings.specs.declared.Taken.{Taken}
use Rattle.whole.proofs.Words.{given}
use Rattle.sea.specs.Water.{sounding_of}
use Rattle.readings.specs.Check.{Checked}
use Rattle.panel.specs.Pairing.{common_of, side_of, beside_of}
use Rattle.panel.proofs.beside.Goals.{After-sounding_at}
use Rattle.panel.proofs.beside.Goals as goal

-- (That a found number fits its word has only names that may change: the search finds it.)
sounding_is : (c : After-sounding_at) → let t = c.in_ok-taken.taken in c.sounding_at.result ≡ sounding_of t.at.sigma t.at.tau t.at.pi (common_of c.args.one c.args.other)
sounding_is c =
    let t = c.in_ok-taken.taken in
    c.sounding_at.ensures ∙ rw (to_z-of_z w64 t.at.sigma (search rules), to_z-of_z w64 t.at.tau (search rules), to_z-of_z w64 t.at.pi (search rules), given c.common.type_inv c.common.ensures) refl

-- the side of a reading that was taken
by_taken : {one : Checked} (other : Checked) {t : Taken} {found : Result Sounding Refusal} → one ≡ Ok t → found ≡ sounding_of t.at.sigma t.at.tau t.at.pi (common_of one other) → side_of t found ≡ beside_of one other
unfolding beside_of
by_taken other e f = rw (f, e) refl

pub returns-in_err-taken : goal.returns-in_err-taken
unfolding beside_of
returns-in_err-taken c =
    handed_on c.from_residual.ensures ∙ sym (ap (λ (x : Checked). beside_of x c.args.other) c.in_err-taken.was)

pub returns-in_err-found : goal.returns-in_err-found
returns-in_err-found c =
    handed_on c.from_residual-in_err-found.ensures ∙ ap (side_of c.in_ok-taken.taken) (sym c.in_err-found.was) ∙ by_taken c.args.other c.in_ok-taken.was (sounding_is (goal.at.returns-in_err-found c).After-sounding_at)

pub returns : goal.returns
returns c = ap (side_of c.in_ok-taken.taken) (sym c.in_ok-found.was) ∙ by_taken c.args.other c.in_ok-taken.was (sounding_is (goal.at.returns c).After-sounding_at)
