-- One answer: two answers that a contract allows are equal. `Learnt` is the contract itself, as the checker reads it off the source, so that a
-- dropped clause breaks these laws. Assumes nothing.
use mathlib.Core.Path.{◌≡◌, sym, ◌∙◌}
use contract.Lifetimes
use Rattle.whole.proofs.scaled.Reads as scaled
use Rattle.whole.proofs.step.Reads as step
use Rattle.whole.proofs.row_value.Reads as row-value
use Rattle.whole.proofs.Trial.first.Reads as first
use Rattle.whole.proofs.Trial.tried.Reads as tried
use Rattle.whole.proofs.trial_after.Reads as trial-after
use Rattle.whole.proofs.searched.Reads as searched
use Rattle.whole.proofs.root.Reads as root
use Rattle.whole.proofs.unsigned.Reads as unsigned
use Rattle.whole.proofs.signed.Reads as signed
use Rattle.whole.proofs.root_at.Reads as root_at_lem

pub one_scaled : (κs : Lifetimes.Lfts 0) (a : _) (r r' : _) (s s' : _) → scaled.Learnt κs a r s → scaled.Learnt κs a r' s' → r ≡ r'
one_scaled κs a r r' s s' e f = e ∙ sym f

pub one_step : (κs : Lifetimes.Lfts 0) (a : _) (r r' : _) (s s' : _) → step.Learnt κs a r s → step.Learnt κs a r' s' → r ≡ r'
one_step κs a r r' s s' e f = e ∙ sym f

pub one_row_value : (κs : Lifetimes.Lfts 0) (a : _) (r r' : _) (s s' : _) → row-value.Learnt κs a r s → row-value.Learnt κs a r' s' → r ≡ r'
one_row_value κs a r r' s s' e f = e ∙ sym f

pub one_first : (κs : Lifetimes.Lfts 0) (a : _) (r r' : _) (s s' : _) → first.Learnt κs a r s → first.Learnt κs a r' s' → r ≡ r'
one_first κs a r r' s s' e f = e ∙ sym f

pub one_tried : (κs : Lifetimes.Lfts 0) (a : _) (r r' : _) (s s' : _) → tried.Learnt κs a r s → tried.Learnt κs a r' s' → r ≡ r'
one_tried κs a r r' s s' e f = e ∙ sym f

pub one_trial_after : (κs : Lifetimes.Lfts 0) (a : _) (r r' : _) (s s' : _) → trial-after.Learnt κs a r s → trial-after.Learnt κs a r' s' → r ≡ r'
one_trial_after κs a r r' s s' e f = e ∙ sym f

pub one_searched : (κs : Lifetimes.Lfts 0) (a : _) (r r' : _) (s s' : _) → searched.Learnt κs a r s → searched.Learnt κs a r' s' → r ≡ r'
one_searched κs a r r' s s' e f = e ∙ sym f

pub one_root : (κs : Lifetimes.Lfts 0) (a : _) (r r' : _) (s s' : _) → root.Learnt κs a r s → root.Learnt κs a r' s' → r ≡ r'
one_root κs a r r' s s' e f = e ∙ sym f

pub one_unsigned : (κs : Lifetimes.Lfts 0) (a : _) (r r' : _) (s s' : _) → unsigned.Learnt κs a r s → unsigned.Learnt κs a r' s' → r ≡ r'
one_unsigned κs a r r' s s' e f = e ∙ sym f

pub one_signed : (κs : Lifetimes.Lfts 0) (a : _) (r r' : _) (s s' : _) → signed.Learnt κs a r s → signed.Learnt κs a r' s' → r ≡ r'
one_signed κs a r r' s s' e f = e ∙ sym f

pub one_root_at : (κs : Lifetimes.Lfts 0) (a : _) (r r' : _) (s s' : _) → root_at_lem.Learnt κs a r s → root_at_lem.Learnt κs a r' s' → r ≡ r'
one_root_at κs a r r' s s' e f = e ∙ sym f
