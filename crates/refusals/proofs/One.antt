-- One answer: two answers that a contract allows are equal. `Learnt` is the contract itself, as the checker reads it off the source, so that a
-- dropped clause breaks these laws. Assumes nothing.
use mathlib.Core.Path.{◌≡◌, sym, ◌∙◌}
use mathlib.Core.List.{[], not-mem-nil}
use contract.Lifetimes
use denote.RattleType.{RattleType}
use Rattle.refusals.proofs.Refusal.number.Reads as number
use Rattle.refusals.proofs.number.Reads as answered
use Rattle.refusals.proofs.RefusalFromUnread.from.Reads as refusal
use Rattle.refusals.proofs.RefusalReason.number.Reads as reason

pub one_number : (κs : Lifetimes.Lfts 0) (a : _) (r r' : _) (s s' : _) → number.Learnt κs a r s → number.Learnt κs a r' s' → r ≡ r'
one_number κs a r r' s s' e f = e ∙ sym f

pub one_refusal : (κs : Lifetimes.Lfts 0) (a : _) (r r' : _) (s s' : _) → refusal.Learnt κs a r s → refusal.Learnt κs a r' s' → r ≡ r'
one_refusal κs a r r' s s' e f = e ∙ sym f

-- (of any value and any reason: `t` and `u` are their types, and what follows is what the bounds bring)
pub one_reason : (κs : Lifetimes.Lfts 0) (a : _) (r r' : _) (s s' : _) → reason.Learnt κs a r s → reason.Learnt κs a r' s' → r ≡ r'
one_reason κs a r r' s s' e f = e ∙ sym f

pub one_answer :
    (t u l m g d i j v : _) (κs : Lifetimes.Lfts 3) (a : _) (r r' : _) (s s' : _) →
    answered.Learnt t u l m g d i j v κs a r s → answered.Learnt t u l m g d i j v κs a r' s' → r ≡ r'
one_answer t u l m g d i j v κs a r r' s s' e f = e ∙ sym f

-- ---- nothing is asked of the caller: `Asked` is what a contract requires
pub free_number : (κs : Lifetimes.Lfts 0) (a : _) → number.Asked κs a
free_number κs a = tt

pub free_refusal : (κs : Lifetimes.Lfts 0) (a : _) → refusal.Asked κs a
free_refusal κs a = tt

pub free_reason : (κs : Lifetimes.Lfts 0) (a : _) → reason.Asked κs a
free_reason κs a = tt

-- (of types that hold no loan; what else is asked is that their loans live)
pub free_answer : (t u : RattleType) (l m g d i j v : _) (κs : Lifetimes.Lfts 3) (a : _) → t.lives ≡ [] → u.lives ≡ [] → answered.Asked t u l m g d i j v κs a
free_answer t u l m g d i j v κs a e f = (λ n h. absurd (not-mem-nil (rw e at h)), λ n h. absurd (not-mem-nil (rw f at h)))
