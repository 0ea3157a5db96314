-- One answer: two answers that a contract allows are equal, and so is afterwards everything that was lent. `Learnt` is the contract itself, as
-- the checker reads it off the source, so that a dropped clause breaks these laws. Assumes nothing.
use mathlib.Core.Path.{◌≡◌, sym, ap, ◌∙◌}
use Prim.Native.Nat.{ℕ}
use contract.Lifetimes
use Rattle.cells.specs.Cells.{written}
use Rattle.texts.specs.Text.{line_of}
use Rattle.pages.specs.Page.{page_of}
use Rattle.abi.specs.Abi.{entry_of}
use Rattle.warpsorrel.proofs.warpsorrel_version.Reads as version
use Rattle.warpsorrel.proofs.warpsorrel_refusal.Reads as refusal
use Rattle.warpsorrel.proofs.warpsorrel_density.Reads as density
use Rattle.warpsorrel.proofs.warpsorrel_bulk.Reads as bulk
use Rattle.warpsorrel.proofs.warpsorrel_root.Reads as root
use Rattle.warpsorrel.proofs.warpsorrel_channel.Reads as channel
use Rattle.warpsorrel.proofs.warpsorrel_needle.Reads as needle
use Rattle.warpsorrel.proofs.warpsorrel_co2.Reads as co2
use Rattle.warpsorrel.proofs.warpsorrel_recorder.Reads as recorder
use Rattle.warpsorrel.proofs.warpsorrel_pairs.Reads as pairs
use Rattle.warpsorrel.proofs.warpsorrel_pair.Reads as pair
use Rattle.warpsorrel.proofs.warpsorrel_line.Reads as line
use Rattle.warpsorrel.proofs.warpsorrel_page.Reads as page

pub one_version : (κs : Lifetimes.Lfts 0) (a : _) (r r' : _) (s s' : _) → version.Learnt κs a r s → version.Learnt κs a r' s' → r ≡ r'
one_version κs a r r' s s' e f = e ∙ sym f

pub one_refusal : (κs : Lifetimes.Lfts 0) (a : _) (r r' : _) (s s' : _) → refusal.Learnt κs a r s → refusal.Learnt κs a r' s' → r ≡ r'
one_refusal κs a r r' s s' e f = e ∙ sym f

pub one_density : (κs : Lifetimes.Lfts 0) (a : _) (r r' : _) (s s' : _) → density.Learnt κs a r s → density.Learnt κs a r' s' → r ≡ r'
one_density κs a r r' s s' e f = e ∙ sym f

pub one_bulk : (κs : Lifetimes.Lfts 0) (a : _) (r r' : _) (s s' : _) → bulk.Learnt κs a r s → bulk.Learnt κs a r' s' → r ≡ r'
one_bulk κs a r r' s s' e f = e ∙ sym f

pub one_recorder : (κs : Lifetimes.Lfts 0) (a : _) (r r' : _) (s s' : _) → recorder.Learnt κs a r s → recorder.Learnt κs a r' s' → r ≡ r'
one_recorder κs a r r' s s' e f = e ∙ sym f

pub one_pairs : (κs : Lifetimes.Lfts 1) (a : _) (r r' : _) (s s' : _) → pairs.Learnt κs a r s → pairs.Learnt κs a r' s' → r ≡ r'
one_pairs κs a r r' s s' e f = e ∙ sym f

pub one_root :
    (κs : Lifetimes.Lfts 1) (a : _) (r r' : _) (s s' : _) → root.Learnt κs a r s → root.Learnt κs a r' s' →
    (r ≡ r') × (s.1.1.0.now ≡ s'.1.1.0.now)
one_root κs a r r' s s' e f = (e.0 ∙ sym f.0, e.1 ∙ sym f.1)

pub one_channel :
    (κs : Lifetimes.Lfts 1) (a : _) (r r' : _) (s s' : _) → channel.Learnt κs a r s → channel.Learnt κs a r' s' →
    (r ≡ r') × (s.1.1.1.1.1.0.now ≡ s'.1.1.1.1.1.0.now)
one_channel κs a r r' s s' e f = (e.0 ∙ sym f.0, e.1 ∙ sym f.1)

pub one_needle :
    (κs : Lifetimes.Lfts 1) (a : _) (r r' : _) (s s' : _) → needle.Learnt κs a r s → needle.Learnt κs a r' s' →
    (r ≡ r') × (s.1.1.1.1.1.1.1.1.1.1.0.now ≡ s'.1.1.1.1.1.1.1.1.1.1.0.now)
one_needle κs a r r' s s' e f = (e.0 ∙ sym f.0, e.1 ∙ sym f.1)

pub one_co2 :
    (κs : Lifetimes.Lfts 1) (a : _) (r r' : _) (s s' : _) → co2.Learnt κs a r s → co2.Learnt κs a r' s' →
    (r ≡ r') × (s.1.1.1.1.0.now ≡ s'.1.1.1.1.0.now)
one_co2 κs a r r' s s' e f = (e.0 ∙ sym f.0, e.1 ∙ sym f.1)

pub one_pair :
    (κs : Lifetimes.Lfts 2) (a : _) (r r' : _) (s s' : _) → pair.Learnt κs a r s → pair.Learnt κs a r' s' →
    (r ≡ r') × (s.1.1.0.now ≡ s'.1.1.0.now)
one_pair κs a r r' s s' e f = (e.0 ∙ sym f.0, e.1 ∙ sym f.1)

-- a text at the start of out, and its bytes in count
pub one_line :
    (κs : Lifetimes.Lfts 2) (a : _) (r r' : _) (s s' : _) → line.Learnt κs a r s → line.Learnt κs a r' s' →
    (r ≡ r') × ((s.1.1.1.1.1.1.1.1.1.1.1.1.0.now ≡ s'.1.1.1.1.1.1.1.1.1.1.1.1.0.now) × (s.1.1.1.1.1.1.1.1.1.1.1.0.now ≡ s'.1.1.1.1.1.1.1.1.1.1.1.0.now))
one_line κs a r r' s s' e f =
    let count = e.1.0 ∙ sym f.1.0 in
    let left = entry_of a.1.0 a.1.1.0 a.1.1.1.0 a.1.1.1.1.0 a.1.1.1.1.1.0 in
    let right = entry_of a.1.1.1.1.1.1.0 a.1.1.1.1.1.1.1.0 a.1.1.1.1.1.1.1.1.0 a.1.1.1.1.1.1.1.1.1.0 a.1.1.1.1.1.1.1.1.1.1.0 in
    (e.0 ∙ sym f.0, (count, e.1.1 ∙ ap (λ (n : ℕ). written n (line_of a.0 left right) a.1.1.1.1.1.1.1.1.1.1.1.0.now) count ∙ sym f.1.1))

pub one_page :
    (κs : Lifetimes.Lfts 3) (a : _) (r r' : _) (s s' : _) → page.Learnt κs a r s → page.Learnt κs a r' s' →
    (r ≡ r') × ((s.1.1.0.now ≡ s'.1.1.0.now) × (s.1.0.now ≡ s'.1.0.now))
one_page κs a r r' s s' e f =
    let count = e.1.0 ∙ sym f.1.0 in
    (e.0 ∙ sym f.0, (count, e.1.1 ∙ ap (λ (n : ℕ). written n (page_of a.0.now) a.1.0.now) count ∙ sym f.1.1))

-- ---- nothing is asked of the caller: `Asked` is what a contract requires
pub free_version : (κs : Lifetimes.Lfts 0) (a : _) → version.Asked κs a
free_version κs a = tt

pub free_refusal : (κs : Lifetimes.Lfts 0) (a : _) → refusal.Asked κs a
free_refusal κs a = tt

pub free_density : (κs : Lifetimes.Lfts 0) (a : _) → density.Asked κs a
free_density κs a = tt

pub free_bulk : (κs : Lifetimes.Lfts 0) (a : _) → bulk.Asked κs a
free_bulk κs a = tt

pub free_root : (κs : Lifetimes.Lfts 1) (a : _) → root.Asked κs a
free_root κs a = tt

pub free_channel : (κs : Lifetimes.Lfts 1) (a : _) → channel.Asked κs a
free_channel κs a = tt

pub free_needle : (κs : Lifetimes.Lfts 1) (a : _) → needle.Asked κs a
free_needle κs a = tt

pub free_co2 : (κs : Lifetimes.Lfts 1) (a : _) → co2.Asked κs a
free_co2 κs a = tt

pub free_recorder : (κs : Lifetimes.Lfts 0) (a : _) → recorder.Asked κs a
free_recorder κs a = tt

pub free_pairs : (κs : Lifetimes.Lfts 1) (a : _) → pairs.Asked κs a
free_pairs κs a = tt

pub free_pair : (κs : Lifetimes.Lfts 2) (a : _) → pair.Asked κs a
free_pair κs a = tt

pub free_line : (κs : Lifetimes.Lfts 2) (a : _) → line.Asked κs a
free_line κs a = tt

pub free_page : (κs : Lifetimes.Lfts 3) (a : _) → page.Asked κs a
free_page κs a = tt
