-- One answer: two answers that a contract allows are equal. `Learnt` is the contract itself, as the checker reads it off the source, so that a
-- dropped clause breaks these laws. Assumes nothing.
use mathlib.Core.Path.{◌≡◌, sym, ◌∙◌}
use contract.Lifetimes
use Rattle.floats.proofs.Remark.number.Reads as number
use Rattle.floats.proofs.grid.is_finite.Reads as is_finite
use Rattle.floats.proofs.grid.Range.place.Reads as place
use Rattle.floats.proofs.recorder.Reads as recorder
use Rattle.floats.proofs.float_of.Reads as float_of

pub one_number : (κs : Lifetimes.Lfts 0) (a : _) (r r' : _) (s s' : _) → number.Learnt κs a r s → number.Learnt κs a r' s' → r ≡ r'
one_number κs a r r' s s' e f = e ∙ sym f

pub one_is_finite : (κs : Lifetimes.Lfts 0) (a : _) (r r' : _) (s s' : _) → is_finite.Learnt κs a r s → is_finite.Learnt κs a r' s' → r ≡ r'
one_is_finite κs a r r' s s' e f = e ∙ sym f

pub one_place : (κs : Lifetimes.Lfts 0) (a : _) (r r' : _) (s s' : _) → place.Learnt κs a r s → place.Learnt κs a r' s' → r ≡ r'
one_place κs a r r' s s' e f = e ∙ sym f

pub one_recorder : (κs : Lifetimes.Lfts 0) (a : _) (r r' : _) (s s' : _) → recorder.Learnt κs a r s → recorder.Learnt κs a r' s' → r ≡ r'
one_recorder κs a r r' s s' e f = e ∙ sym f

pub one_float_of : (κs : Lifetimes.Lfts 0) (a : _) (r r' : _) (s s' : _) → float_of.Learnt κs a r s → float_of.Learnt κs a r' s' → r ≡ r'
one_float_of κs a r r' s s' e f = e ∙ sym f

-- ---- nothing is asked of the caller: `Asked` is what a contract requires
pub free_number : (κs : Lifetimes.Lfts 0) (a : _) → number.Asked κs a
free_number κs a = tt

pub free_is_finite : (κs : Lifetimes.Lfts 0) (a : _) → is_finite.Asked κs a
free_is_finite κs a = tt

pub free_recorder : (κs : Lifetimes.Lfts 0) (a : _) → recorder.Asked κs a
free_recorder κs a = tt

pub free_float_of : (κs : Lifetimes.Lfts 0) (a : _) → float_of.Asked κs a
free_float_of κs a = tt
