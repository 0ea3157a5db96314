-- Demand 3 as sent, of what a caller gets: each promise once more, from the contracts of `panel::answer` and `panel::paired` themselves. Assumes nothing.
use Rattle.std.specs.Prelude.{Some, Ok}
use Prim.Native.Nat.{ℕ}
use mathlib.Core.Path.{◌≡◌, ap, ap₂, ◌∙◌}
use contract.Lifetimes
use lib.IntN.{ℤ, pos}
use lib.Signed.{◌≤ℤ◌}
use Rattle.whole.specs.Arith.{neg}
use Rattle.whole.specs.Fraction.{Frac, over, ◌≤F◌, ◌⊖◌}
use Rattle.readings.specs.declared.Report.{Report}
use Rattle.readings.specs.declared.Reading.{Reading}
use Rattle.readings.specs.declared.Point.{Point}
use Rattle.readings.specs.declared.Remarks.{Remarks}
use Rattle.readings.specs.Entry.{Entry, message}
use Rattle.readings.specs.Check.{given_of}
use Rattle.channels.specs.Answer.{channel_at}
use Rattle.channels.specs.declared.Comparison.{Comparison}
use Rattle.panel.specs.Panel.{channel_of, shared_of, needle_of, comparison_of}
use Rattle.panel.proofs.answer.Reads as answer
use Rattle.panel.proofs.paired.Reads as paired
use Rattle.promises.specs.Promises.{Within}
use Rattle.pledges.proofs.Calls as call
use Rattle.drift.specs.Drift.{RootOf}
use Rattle.sent.specs.Sent.{v_of, sent_under, sent_at, common_sent, Compares}
use Rattle.sent.proofs.Sent as sent

-- ---- one call of `answer` with a report of the reading r, whose answer is an accepted channel
pub shown_within :
    (κs : Lifetimes.Lfts 0) (a : _) (c : _) (s : _) → answer.Learnt κs a c s →
    (p : Point) (d k : ℕ) (m : Remarks) → channel_at p d k m ≡ c → (probe : ℕ) (report : Report) (r : Reading) → a.0 ≡ message probe report → given_of report ≡ Some r →
    (x : Frac) → RootOf (v_of r) x → Within (over 14 10_000) (pos d) (sent_at r x)
shown_within κs a c s told p d k m is probe report r e g x v = sent.shown_within r d x (call.shows κs a c s told p d k m is probe report r e g) v

-- ---- one call of `paired` with reports of the readings l and r, whose answer has a needle of z
module _
    (κs : Lifetimes.Lfts 0) (a : _) (c : _) (s : _) (told : paired.Learnt κs a c s)
    (p q : Point) (d k d' k' : ℕ) (m n : Remarks) (l-is : channel_at p d k m ≡ c.left) (r-is : channel_at q d' k' n ≡ c.right) (z : ℤ) (n_is : Ok z ≡ c.needle)
    (i j : ℕ) (f g : Report) (l r : Reading) (a-is : a.0 ≡ message i f) (b-is : a.1.0 ≡ message j g) (l-given : given_of f ≡ Some l) (r-given : given_of g ≡ Some r) where
  pub compares : Compares l r z
  unfolding comparison_of
  compares =
      record {
        left_density = d;
        right_density = d';
        left = record { probe = i; report = f; reading_is = l-given; point = p; bulk = k; remarks = m; channel_is = l-is ∙ ap (λ (x : Comparison). x.left) told ∙ ap channel_of a-is };
        right = record { probe = j; report = g; reading_is = r-given; point = q; bulk = k'; remarks = n; channel_is = r-is ∙ ap (λ (x : Comparison). x.right) told ∙ ap channel_of b-is };
        needle_is = n_is ∙ ap (λ (x : Comparison). x.needle) told ∙ ap₂ (λ (e e' : Entry). needle_of (channel_of e) (channel_of e') (shared_of e e')) a-is b-is;
      }

  module _ (x y : Frac) (v : RootOf (v_of l) x) (w : RootOf (v_of r) y) where
    pub right_heavier : pos 3 ≤ℤ z → ¬ (sent_under (common_sent l r) r y ≤F sent_under (common_sent l r) l x)
    right_heavier = sent.right_heavier l r z x y compares v w

    pub left_heavier : z ≤ℤ neg 3 → ¬ (sent_under (common_sent l r) l x ≤F sent_under (common_sent l r) r y)
    left_heavier = sent.left_heavier l r z x y compares v w

    pub needle_within : Within (over 28 10_000) z (sent_under (common_sent l r) r y ⊖ sent_under (common_sent l r) l x)
    needle_within = sent.needle_within l r z x y compares v w
