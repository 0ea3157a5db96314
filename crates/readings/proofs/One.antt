-- One answer: two answers that a contract allows are equal. `Learnt` is the contract itself, as the checker reads it off the source, so that a
-- dropped clause breaks these laws. Assumes nothing.
use mathlib.Core.Path.{◌≡◌, sym, ◌∙◌}
use contract.Lifetimes
use Rattle.readings.proofs.Purpose.coldest.Reads as coldest
use Rattle.readings.proofs.Reading.surface.Reads as surface
use Rattle.readings.proofs.Reading.finite.Reads as finite
use Rattle.readings.proofs.Report.reading.Reads as reading
use Rattle.readings.proofs.check.Reads as check
use Rattle.readings.proofs.check_surface.Reads as check-surface

pub one_coldest : (κs : Lifetimes.Lfts 0) (a : _) (r r' : _) (s s' : _) → coldest.Learnt κs a r s → coldest.Learnt κs a r' s' → r ≡ r'
one_coldest κs a r r' s s' e f = e ∙ sym f

pub one_surface : (κs : Lifetimes.Lfts 0) (a : _) (r r' : _) (s s' : _) → surface.Learnt κs a r s → surface.Learnt κs a r' s' → r ≡ r'
one_surface κs a r r' s s' e f = e ∙ sym f

pub one_finite : (κs : Lifetimes.Lfts 0) (a : _) (r r' : _) (s s' : _) → finite.Learnt κs a r s → finite.Learnt κs a r' s' → r ≡ r'
one_finite κs a r r' s s' e f = e ∙ sym f

pub one_reading : (κs : Lifetimes.Lfts 0) (a : _) (r r' : _) (s s' : _) → reading.Learnt κs a r s → reading.Learnt κs a r' s' → r ≡ r'
one_reading κs a r r' s s' e f = e ∙ sym f

pub one_check : (κs : Lifetimes.Lfts 0) (a : _) (r r' : _) (s s' : _) → check.Learnt κs a r s → check.Learnt κs a r' s' → r ≡ r'
one_check κs a r r' s s' e f = e ∙ sym f

pub one_check_surface : (κs : Lifetimes.Lfts 0) (a : _) (r r' : _) (s s' : _) → check-surface.Learnt κs a r s → check-surface.Learnt κs a r' s' → r ≡ r'
one_check_surface κs a r r' s s' e f = e ∙ sym f

-- ---- nothing is asked of the caller: `Asked` is what a contract requires
pub free_coldest : (κs : Lifetimes.Lfts 0) (a : _) → coldest.Asked κs a
free_coldest κs a = tt

pub free_surface : (κs : Lifetimes.Lfts 0) (a : _) → surface.Asked κs a
free_surface κs a = tt

pub free_finite : (κs : Lifetimes.Lfts 0) (a : _) → finite.Asked κs a
free_finite κs a = tt

pub free_reading : (κs : Lifetimes.Lfts 0) (a : _) → reading.Asked κs a
free_reading κs a = tt

pub free_check : (κs : Lifetimes.Lfts 0) (a : _) → check.Asked κs a
free_check κs a = tt

pub free_check_surface : (κs : Lifetimes.Lfts 0) (a : _) → check-surface.Asked κs a
free_check_surface κs a = tt
