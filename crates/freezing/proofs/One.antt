-- One answer: two answers that a contract allows are equal. `Learnt` is the contract itself, as the checker reads it off the source, so that a
-- dropped clause breaks these laws. Assumes nothing.
use mathlib.Core.Path.{◌≡◌, sym, ◌∙◌}
use contract.Lifetimes
use Rattle.freezing.proofs.point_at.Reads as point_at
use Rattle.freezing.proofs.frozen_at.Reads as frozen-at

pub one_point_at : (κs : Lifetimes.Lfts 0) (a : _) (r r' : _) (s s' : _) → point_at.Learnt κs a r s → point_at.Learnt κs a r' s' → r ≡ r'
one_point_at κs a r r' s s' e f = e ∙ sym f

pub one_frozen_at : (κs : Lifetimes.Lfts 0) (a : _) (r r' : _) (s s' : _) → frozen-at.Learnt κs a r s → frozen-at.Learnt κs a r' s' → r ≡ r'
one_frozen_at κs a r r' s s' e f = e ∙ sym f
