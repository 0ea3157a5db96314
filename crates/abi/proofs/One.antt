-- One answer: two answers that a contract allows are equal, and so is afterwards what was lent. `Learnt` is the contract itself, as the checker reads it off the source, so that a
-- dropped clause breaks these laws. Assumes nothing.
use mathlib.Core.Path.{◌≡◌, refl, sym, ◌∙◌}
use mathlib.Core.List.{[], not-mem-nil}
use contract.Lifetimes
use denote.RattleType.{RattleType}
use Rattle.channels.specs.contracts.Stop as Stop
use Rattle.abi.proofs.entry_of.Reads as entry_of
use Rattle.abi.proofs.as_shown.Reads as as_shown
use Rattle.abi.proofs.put_pair.Reads as put-pair

pub one_entry_of : (κs : Lifetimes.Lfts 0) (a : _) (r r' : _) (s s' : _) → entry_of.Learnt κs a r s → entry_of.Learnt κs a r' s' → r ≡ r'
one_entry_of κs a r r' s s' e f = e ∙ sym f

pub one_as_shown : (κs : Lifetimes.Lfts 0) (a : _) (r r' : _) (s s' : _) → as_shown.Learnt κs a r s → as_shown.Learnt κs a r' s' → r ≡ r'
one_as_shown κs a r r' s s' e f = e ∙ sym f

-- (of any reason: `u` is its type, and what follows is what the bound brings)
pub one_put_pair :
    (u m g d i j v : _) (κs : Lifetimes.Lfts 2) (a : _) (r r' : _) (s s' : _) →
    put-pair.Learnt u m g d i j v κs a r s → put-pair.Learnt u m g d i j v κs a r' s' → s.1.0.now ≡ s'.1.0.now
one_put_pair u m g d i j v κs a r r' s s' e f = e ∙ sym f

-- ---- nothing is asked of the caller: `Asked` is what a contract requires
pub free_entry_of : (κs : Lifetimes.Lfts 0) (a : _) → entry_of.Asked κs a
free_entry_of κs a = tt

pub free_as_shown : (κs : Lifetimes.Lfts 0) (a : _) → as_shown.Asked κs a
free_as_shown κs a = tt

-- (of a reason that holds no loan; what else is asked is that its loans live)
pub free_put_pair : (u : RattleType) (m g d i j v : _) (κs : Lifetimes.Lfts 2) (a : _) → u.lives ≡ [] → put-pair.Asked u m g d i j v κs a
free_put_pair u m g d i j v κs a e = λ n h. absurd (not-mem-nil (rw e at h))

-- so of a comparison, whose reason is a `Stop`, nothing is asked
pub free_put_comparison : (m g d i j v : _) (κs : Lifetimes.Lfts 2) (a : _) → put-pair.Asked Stop.the_row m g d i j v κs a
free_put_comparison m g d i j v κs a = free_put_pair Stop.the_row m g d i j v κs a refl
