-- `carbon::answer` meets its contract: each way out is the definition's case, and a report that passes the checks lies where the formula is used.
-- Assumes nothing.
use mathlib.Core.Path.{◌≡◌, refl, ap, ap₂, sym, ◌∙◌}
use borrow.Author.Rules.{rules}
use lib.IntN.{ℤ}
use lib.Ieee.{Float}
use mir.Syntax.{w64}
use mir.ValLaws.{to_z-of_z}
use Rattle.std.specs.Prelude.{Ok, Err}
use Rattle.whole.specs.Arith.{plus}
use Rattle.whole.proofs.Words.{word, given}
use Rattle.refusals.proofs.Handed.{handed_on}
use Rattle.refusals.specs.declared.Refusal.{Refusal}
use Rattle.readings.specs.declared.Report.{Report}
use Rattle.readings.specs.declared.Message.{Message}
use Rattle.readings.specs.declared.Purpose.{Purpose}
use Rattle.readings.specs.Check.{checked_for}
use Rattle.carbon.specs.Weiss.{kelvin, ln_k0}
use Rattle.carbon.specs.Carbon.{unpressed, dissolved, solubility_of}
use Rattle.carbon.proofs.Answers.{taken_mild}
use Rattle.carbon.proofs.answer.Goals.{After-check_surface, In_ok-taken}
use Rattle.carbon.proofs.answer.Goals as goal

pub returns-in_err-message : goal.returns-in_err-message
unfolding solubility_of
returns-in_err-message c =
    handed_on c.from_residual.ensures ∙ sym (ap solubility_of c.in_err-message.was)

-- without its pressure a report is one at the surface or missing, so that what is not at the surface is missing
missing : (m : Message) → ((s t : Float) → unpressed m.report ≡ Report.Surface s t → ⊥) → Err Refusal.Missing ≡ solubility_of (Ok m)
unfolding solubility_of checked_for
missing m h = go m.report h
  where
    go : (report : Report) → ((s t : Float) → unpressed report ≡ Report.Surface s t → ⊥) → Err Refusal.Missing ≡ dissolved (checked_for Purpose.Carbon (unpressed report))
    go (Report.Deep s t p) h = absurd (h s t refl)
    go (Report.Surface s t) h = absurd (h s t refl)
    go Report.Missing h = refl

pub returns-in_default : goal.returns-in_default
returns-in_default c =
    missing c.in_ok-message.message (λ s t e. c.in_default.not-Surface s t (c.unpressed.ensures ∙ e)) ∙ sym (ap solubility_of c.in_ok-message.was)

-- what the check of the report without its pressure found
checked_is : (c : After-check_surface) → c.check_surface.result ≡ checked_for Purpose.Carbon (unpressed c.in_ok-message.message.report)
checked_is c = c.check_surface.ensures ∙ ap (checked_for Purpose.Carbon) (sym c.in-Surface.is ∙ c.unpressed.ensures)

answer_is : (c : After-check_surface) → dissolved c.check_surface.result ≡ solubility_of c.args.entry
unfolding solubility_of
answer_is c = ap dissolved (checked_is c) ∙ sym (ap solubility_of c.in_ok-message.was)

pub returns-in_err-taken : goal.returns-in_err-taken
returns-in_err-taken c =
    handed_on c.from_residual-in_err-taken.ensures ∙ sym (ap dissolved c.in_err-taken.was) ∙ answer_is (goal.at.returns-in_err-taken c).After-check_surface

-- the grid numbers, as they are handed on
-- (That a found number fits its word has only names that may change: the search finds it.)
sigma_is : (c : In_ok-taken) → word c.in_ok-taken.taken.at.sigma ≡ c.in_ok-taken.taken.at.sigma
sigma_is c = to_z-of_z w64 _ (search rules)

tau_is : (c : In_ok-taken) → word c.in_ok-taken.taken.at.tau ≡ c.in_ok-taken.taken.at.tau
tau_is c = to_z-of_z w64 _ (search rules)

pub ln_k0-requires : goal.ln_k0-requires
ln_k0-requires c =
    let on = goal.at.ln_k0-requires c in
    let t = c.in_ok-taken.taken in
    let mild = taken_mild (unpressed c.in_ok-message.message.report) t.at t.remarks (sym (checked_is on.After-check_surface) ∙ c.in_ok-taken.was) in
    rw (sigma_is on.In_ok-taken, tau_is on.In_ok-taken) record { sigma_whole = mild.0; sigma_most = mild.1.0; tau_whole = mild.1.1.0; tau_most = mild.1.1.1 }

pub returns : goal.returns
returns c =
    let on = goal.at.returns c in
    let found = given c.ln_k0.type_inv c.ln_k0.ensures ∙ ap₂ (λ (a b : ℤ). ln_k0 (plus a) (kelvin b)) (sigma_is on.In_ok-taken) (tau_is on.In_ok-taken) in
    ap Ok found ∙ sym (ap dissolved c.in_ok-taken.was) ∙ answer_is on.After-check_surface
