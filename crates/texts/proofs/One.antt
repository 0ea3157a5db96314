-- One answer: the place past a text and every byte of the buffer. `Learnt` is the contract itself, as the checker reads it off the source, so
-- that a dropped clause breaks this law. Assumes nothing.
use mathlib.Core.Path.{◌≡◌, sym, ◌∙◌}
use contract.Lifetimes
use Rattle.texts.proofs.put_line.Reads as put-line

pub one_put_line :
    (κs : Lifetimes.Lfts 1) (a : _) (r r' : _) (s s' : _) → put-line.Learnt κs a r s → put-line.Learnt κs a r' s' →
    (r ≡ r') × (s.1.1.1.0.now ≡ s'.1.1.1.0.now)
one_put_line κs a r r' s s' e f = (e.past ∙ sym f.past, e.stored ∙ sym f.stored)
