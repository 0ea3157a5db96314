-- One answer: two answers that a contract allows are equal. `Learnt` is the contract itself, as the checker reads it off the source, so that a
-- dropped clause breaks these laws. Assumes nothing.
use mathlib.Core.Path.{◌≡◌, sym, ◌∙◌}
use contract.Lifetimes
use Rattle.panel.proofs.answer.Reads as answer
use Rattle.panel.proofs.entered.Reads as entered
use Rattle.panel.proofs.beside.Reads as beside
use Rattle.panel.proofs.channel.Reads as channel
use Rattle.panel.proofs.shares.Reads as shares
use Rattle.panel.proofs.needle.Reads as needle
use Rattle.panel.proofs.paired.Reads as paired

pub one_entered : (κs : Lifetimes.Lfts 0) (a : _) (r r' : _) (s s' : _) → entered.Learnt κs a r s → entered.Learnt κs a r' s' → r ≡ r'
one_entered κs a r r' s s' e f = e ∙ sym f

pub one_beside : (κs : Lifetimes.Lfts 0) (a : _) (r r' : _) (s s' : _) → beside.Learnt κs a r s → beside.Learnt κs a r' s' → r ≡ r'
one_beside κs a r r' s s' e f = e ∙ sym f

pub one_channel : (κs : Lifetimes.Lfts 0) (a : _) (r r' : _) (s s' : _) → channel.Learnt κs a r s → channel.Learnt κs a r' s' → r ≡ r'
one_channel κs a r r' s s' e f = e ∙ sym f

pub one_shares : (κs : Lifetimes.Lfts 0) (a : _) (r r' : _) (s s' : _) → shares.Learnt κs a r s → shares.Learnt κs a r' s' → r ≡ r'
one_shares κs a r r' s s' e f = e ∙ sym f

pub one_needle : (κs : Lifetimes.Lfts 0) (a : _) (r r' : _) (s s' : _) → needle.Learnt κs a r s → needle.Learnt κs a r' s' → r ≡ r'
one_needle κs a r r' s s' e f = e ∙ sym f

pub one_answer : (κs : Lifetimes.Lfts 0) (a : _) (r r' : _) (s s' : _) → answer.Learnt κs a r s → answer.Learnt κs a r' s' → r ≡ r'
one_answer κs a r r' s s' e f = e ∙ sym f

pub one_paired : (κs : Lifetimes.Lfts 0) (a : _) (r r' : _) (s s' : _) → paired.Learnt κs a r s → paired.Learnt κs a r' s' → r ≡ r'
one_paired κs a r r' s s' e f = e ∙ sym f

-- ---- nothing is asked of the caller: `Asked` is what a contract requires
pub free_entered : (κs : Lifetimes.Lfts 0) (a : _) → entered.Asked κs a
free_entered κs a = tt

pub free_beside : (κs : Lifetimes.Lfts 0) (a : _) → beside.Asked κs a
free_beside κs a = tt

pub free_channel : (κs : Lifetimes.Lfts 0) (a : _) → channel.Asked κs a
free_channel κs a = tt

pub free_shares : (κs : Lifetimes.Lfts 0) (a : _) → shares.Asked κs a
free_shares κs a = tt

pub free_needle : (κs : Lifetimes.Lfts 0) (a : _) → needle.Asked κs a
free_needle κs a = tt

pub free_answer : (κs : Lifetimes.Lfts 0) (a : _) → answer.Asked κs a
free_answer κs a = tt

pub free_paired : (κs : Lifetimes.Lfts 0) (a : _) → paired.Asked κs a
free_paired κs a = tt
