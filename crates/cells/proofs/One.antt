-- One answer: the place past a text and every byte of the buffer. `Learnt` is the contract itself, as the checker reads it off the source, so
-- that a dropped clause breaks these laws. Assumes nothing.
use mathlib.Core.Path.{◌≡◌, sym, ◌∙◌}
use mathlib.Core.List.{[], not-mem-nil}
use contract.Lifetimes
use denote.RattleType.{RattleType}
use Rattle.cells.proofs.Cell.of.Reads as of
use Rattle.cells.proofs.put_plain.Reads as put-plain
use Rattle.cells.proofs.put_marked.Reads as put-marked
use Rattle.cells.proofs.put_number.Reads as put-number
use Rattle.cells.proofs.put_row.Reads as put-row
use Rattle.cells.proofs.put_text.Reads as put-text

pub one_of :
    (u m g d i j v : _) (κs : Lifetimes.Lfts 1) (a : _) (r r' : _) (s s' : _) →
    of.Learnt u m g d i j v κs a r s → of.Learnt u m g d i j v κs a r' s' → r ≡ r'
one_of u m g d i j v κs a r r' s s' e f = e ∙ sym f

pub one_put_plain :
    (κs : Lifetimes.Lfts 1) (a : _) (r r' : _) (s s' : _) → put-plain.Learnt κs a r s → put-plain.Learnt κs a r' s' →
    (r ≡ r') × (s.1.1.0.now ≡ s'.1.1.0.now)
one_put_plain κs a r r' s s' e f = (e.past ∙ sym f.past, e.stored ∙ sym f.stored)

pub one_put_marked :
    (κs : Lifetimes.Lfts 1) (a : _) (r r' : _) (s s' : _) → put-marked.Learnt κs a r s → put-marked.Learnt κs a r' s' →
    (r ≡ r') × (s.1.1.1.0.now ≡ s'.1.1.1.0.now)
one_put_marked κs a r r' s s' e f = (e.past ∙ sym f.past, e.stored ∙ sym f.stored)

pub one_put_number :
    (κs : Lifetimes.Lfts 1) (a : _) (r r' : _) (s s' : _) → put-number.Learnt κs a r s → put-number.Learnt κs a r' s' →
    (r ≡ r') × (s.1.1.1.0.now ≡ s'.1.1.1.0.now)
one_put_number κs a r r' s s' e f = (e.past ∙ sym f.past, e.stored ∙ sym f.stored)

pub one_put_row :
    (κs : Lifetimes.Lfts 2) (a : _) (r r' : _) (s s' : _) → put-row.Learnt κs a r s → put-row.Learnt κs a r' s' →
    (r ≡ r') × (s.1.1.0.now ≡ s'.1.1.0.now)
one_put_row κs a r r' s s' e f = (e.past ∙ sym f.past, e.stored ∙ sym f.stored)

pub one_put_text :
    (κs : Lifetimes.Lfts 2) (a : _) (r r' : _) (s s' : _) → put-text.Learnt κs a r s → put-text.Learnt κs a r' s' →
    (r ≡ r') × (s.1.0.now ≡ s'.1.0.now)
one_put_text κs a r r' s s' e f = (e.past ∙ sym f.past, e.stored ∙ sym f.stored)

-- ---- nothing is asked for a cell: `Asked` is what a contract requires (of a reason that holds no loan; what else is asked is that its loans live)
pub free_of : (u : RattleType) (m g d i j v : _) (κs : Lifetimes.Lfts 1) (a : _) → u.lives ≡ [] → of.Asked u m g d i j v κs a
free_of u m g d i j v κs a e = λ n h. absurd (not-mem-nil (rw e at h))
