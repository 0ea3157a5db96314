-- One answer: two answers that a contract allows are equal. `Learnt` is the contract itself, as the checker reads it off the source, so that a
-- dropped clause breaks these laws. Assumes nothing.
use mathlib.Core.Path.{◌≡◌, sym, ◌∙◌}
use contract.Lifetimes
use Rattle.roots.proofs.search_at.Reads as search-at

pub one_search_at : (κs : Lifetimes.Lfts 0) (a : _) (r r' : _) (s s' : _) → search-at.Learnt κs a r s → search-at.Learnt κs a r' s' → r ≡ r'
one_search_at κs a r r' s s' e f = e ∙ sym f

-- ---- nothing is asked of the caller: `Asked` is what a contract requires
pub free_search_at : (κs : Lifetimes.Lfts 0) (a : _) → search-at.Asked κs a
free_search_at κs a = tt
