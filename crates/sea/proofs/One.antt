-- One answer: two answers that a contract allows are equal. `Learnt` is the contract itself, as the checker reads it off the source, so that a
-- dropped clause breaks these laws. Assumes nothing.
use mathlib.Core.Path.{◌≡◌, sym, ◌∙◌}
use contract.Lifetimes
use Rattle.sea.proofs.within.Reads as within
use Rattle.sea.proofs.sounding_at.Reads as sounding-at
use Rattle.sea.proofs.water_at.Reads as water-at

pub one_within : (κs : Lifetimes.Lfts 0) (a : _) (r r' : _) (s s' : _) → within.Learnt κs a r s → within.Learnt κs a r' s' → r ≡ r'
one_within κs a r r' s s' e f = e ∙ sym f

pub one_sounding_at : (κs : Lifetimes.Lfts 0) (a : _) (r r' : _) (s s' : _) → sounding-at.Learnt κs a r s → sounding-at.Learnt κs a r' s' → r ≡ r'
one_sounding_at κs a r r' s s' e f = e ∙ sym f

pub one_water_at : (κs : Lifetimes.Lfts 0) (a : _) (r r' : _) (s s' : _) → water-at.Learnt κs a r s → water-at.Learnt κs a r' s' → r ≡ r'
one_water_at κs a r r' s s' e f = e ∙ sym f

-- ---- nothing is asked of the caller: `Asked` is what a contract requires
pub free_within : (κs : Lifetimes.Lfts 0) (a : _) → within.Asked κs a
free_within κs a = tt

pub free_sounding_at : (κs : Lifetimes.Lfts 0) (a : _) → sounding-at.Asked κs a
free_sounding_at κs a = tt

pub free_water_at : (κs : Lifetimes.Lfts 0) (a : _) → water-at.Asked κs a
free_water_at κs a = tt
