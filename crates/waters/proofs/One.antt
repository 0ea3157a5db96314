-- One answer: two answers that a contract allows are equal. `Learnt` is the contract itself, as the checker reads it off the source, so that a
-- dropped clause breaks these laws. Assumes nothing.
use mathlib.Core.Path.{◌≡◌, sym, ◌∙◌}
use contract.Lifetimes
use Rattle.waters.proofs.density.Reads as density
use Rattle.waters.proofs.bulk.Reads as bulk

pub one_density : (κs : Lifetimes.Lfts 0) (a : _) (r r' : _) (s s' : _) → density.Learnt κs a r s → density.Learnt κs a r' s' → r ≡ r'
one_density κs a r r' s s' e f = e ∙ sym f

pub one_bulk : (κs : Lifetimes.Lfts 0) (a : _) (r r' : _) (s s' : _) → bulk.Learnt κs a r s → bulk.Learnt κs a r' s' → r ≡ r'
one_bulk κs a r r' s s' e f = e ∙ sym f

-- ---- nothing is asked of the caller: `Asked` is what a contract requires
pub free_density : (κs : Lifetimes.Lfts 0) (a : _) → density.Asked κs a
free_density κs a = tt

pub free_bulk : (κs : Lifetimes.Lfts 0) (a : _) → bulk.Asked κs a
free_bulk κs a = tt
