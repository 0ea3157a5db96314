-- One answer: two answers that a contract allows are equal. `Learnt` is the contract itself, as the checker reads it off the source, so that a
-- dropped clause breaks these laws. Assumes nothing.
use mathlib.Core.Path.{◌≡◌, sym, ◌∙◌}
use contract.Lifetimes
use Rattle.carbon.proofs.answer.Reads as answer

pub one_answer : (κs : Lifetimes.Lfts 0) (a : _) (r r' : _) (s s' : _) → answer.Learnt κs a r s → answer.Learnt κs a r' s' → r ≡ r'
one_answer κs a r r' s s' e f = e ∙ sym f

-- ---- nothing is asked of the caller: `Asked` is what a contract requires
pub free_answer : (κs : Lifetimes.Lfts 0) (a : _) → answer.Asked κs a
free_answer κs a = tt
