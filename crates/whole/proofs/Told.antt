-- What the functions of the root tell, and what they ask, from their contracts themselves: the steps are the paper's, the search ends with the paper's root,
-- which is the root, and no more is asked than a number below 2⁶² (of a trial: that its sum fits a word). `Learnt` and `Asked` are a contract as the
-- checker reads it off the source. Assumes nothing.
use mathlib.Core.Path.{◌≡◌, sym, ap, ◌∙◌}
use Prim.Native.Nat.{ℕ, ◌+◌, ◌^◌, ◌<◌}
use contract.Lifetimes
use Rattle.whole.specs.declared.Trial.{Trial}
use Rattle.whole.specs.Paper.{begun, tried, after, rooted}
use Rattle.whole.specs.Arith.{root_of}
use Rattle.whole.proofs.Lines.{rooted_is}
use Rattle.whole.proofs.Trial.first.Reads as first
use Rattle.whole.proofs.Trial.tried.Reads as trial
use Rattle.whole.proofs.trial_after.Reads as trial-after
use Rattle.whole.proofs.searched.Reads as searched
use Rattle.whole.proofs.root.Reads as root

pub first_told : (κs : Lifetimes.Lfts 0) (a : _) (r : _) (s : _) → first.Learnt κs a r s → r ≡ begun a.0
first_told κs a r s e = e

pub tried_told : (κs : Lifetimes.Lfts 0) (a : _) (r : _) (s : _) → trial.Learnt κs a r s → r ≡ tried a.0
tried_told κs a r s e = e

pub trial_after_told : (κs : Lifetimes.Lfts 0) (a : _) (r : _) (s : _) → trial-after.Learnt κs a r s → r ≡ after a.1.0 a.0
trial_after_told κs a r s e = e

pub searched_told : (κs : Lifetimes.Lfts 0) (a : _) (r : _) (s : _) → searched.Learnt κs a r s → r ≡ rooted a.0
searched_told κs a r s e = e

-- the search and the root are one number
pub root_searched :
    (κs : Lifetimes.Lfts 0) (a b : _) (r w : _) (s t : _) → searched.Learnt κs a r s → root.Learnt κs b w t → a.0 ≡ b.0 → a.0 < 2 ^ 64 → r ≡ w
root_searched κs a b r w s t e f same h = e ∙ rooted_is a.0 h ∙ ap root_of same ∙ sym f

pub first_asks : (κs : Lifetimes.Lfts 0) (n : ℕ) → n < 2 ^ 62 → first.Asked κs (n, tt)
first_asks κs n h = h

pub tried_asks : (κs : Lifetimes.Lfts 0) (t : Trial) → t.root + t.bit < 2 ^ 64 → trial.Asked κs (t, tt)
tried_asks κs t h = h

pub trial_after_asks : (κs : Lifetimes.Lfts 0) (n j : ℕ) → n < 2 ^ 62 → trial-after.Asked κs (n, (j, tt))
trial_after_asks κs n j h = h

pub searched_asks : (κs : Lifetimes.Lfts 0) (n : ℕ) → n < 2 ^ 62 → searched.Asked κs (n, tt)
searched_asks κs n h = h

pub root_asks : (κs : Lifetimes.Lfts 0) (n : ℕ) → n < 2 ^ 62 → root.Asked κs (n, tt)
root_asks κs n h = h
