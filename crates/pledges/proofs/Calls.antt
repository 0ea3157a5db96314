-- Demand 3 of what a caller gets: each pledge once more, from the contracts of `panel::answer` and `panel::paired` themselves, and what
-- the hatchery asks of a needle.
-- `Learnt` is a contract as the checker reads it off the source: it says all that a caller is told of the arguments a, the answer and the
-- state after the call. A dropped or weakened clause breaks these laws. Assumes nothing.
use Rattle.std.specs.Prelude.{false, Some, Ok}
use Prim.Native.Nat.{ℕ, ◌≤◌, ◌<◌}
use mathlib.Core.Path.{◌≡◌, sym, ap, ◌∙◌}
use contract.Lifetimes
use lib.IntN.{ℤ, pos, neg_ℤ, ◌-ℤ◌}
use lib.Signed.{◌≤ℤ◌}
use Rattle.whole.specs.Arith.{neg, plus}
use Rattle.whole.specs.Fraction.{Frac, over, ◌≤F◌, ◌⊖◌}
use Rattle.floats.specs.Grid.{AtMost, Same}
use Rattle.readings.specs.declared.Report.{Report}
use Rattle.readings.specs.declared.Reading.{Reading}
use Rattle.readings.specs.declared.Point.{Point}
use Rattle.readings.specs.declared.Remarks.{Remarks}
use Rattle.readings.specs.Entry.{message}
use Rattle.readings.specs.Check.{given_of}
use Rattle.channels.specs.Answer.{channel_at}
use Rattle.channels.specs.declared.Comparison.{Comparison}
use Rattle.panel.specs.Panel.{channel_of, common, shared_of, needle_of, comparison_of}
use Rattle.panel.proofs.answer.Reads as answer
use Rattle.panel.proofs.paired.Reads as paired
use Rattle.panel.proofs.Needles as panel
use Rattle.panel.proofs.Probes as probes
use Rattle.promises.specs.Promises.{Rooted, Within, Close}
use Rattle.pledges.specs.Pledges.{formula_under, formula_at, Shows, Sides}
use Rattle.pledges.proofs.Pledges as pledge

-- ---- one call of `answer`, whose answer r is an accepted channel
module _ (κs : Lifetimes.Lfts 0) (a : _) (r : _) (s : _) (told : answer.Learnt κs a r s) (p : Point) (d k : ℕ) (m : Remarks) (is : channel_at p d k m ≡ r) where
  -- 1. the density that it shows is within 0.0006 kg/m³ of the formula's, at the point that it gives
  pub shown_within : (x : Frac) → Rooted (plus p.sigma) x → Close d (formula_at p x)
  shown_within x v = pledge.shown_within a.0 p d k m x (is ∙ told) v

  -- 2. the bulk modulus is above the pressure
  pub stiffer_than_pressure : plus p.pi < k
  stiffer_than_pressure = pledge.stiffer_than_pressure a.0 p d k m (is ∙ told)

  -- what it shows, of the floats that it was given
  pub shows : (probe : ℕ) (report : Report) (x : Reading) → a.0 ≡ message probe report → given_of report ≡ Some x → Shows x d
  shows probe report x e g = record { probe = probe; report = report; reading_is = g; point = p; bulk = k; remarks = m; channel_is = is ∙ told ∙ ap channel_of e }

-- ---- one call of `paired`, whose answer has a needle of z
module _
    (κs : Lifetimes.Lfts 0) (a : _) (r : _) (s : _) (told : paired.Learnt κs a r s)
    (p q : Point) (d k d' k' : ℕ) (m n : Remarks) (l-is : channel_at p d k m ≡ r.left) (r-is : channel_at q d' k' n ≡ r.right) (z : ℤ) (n_is : Ok z ≡ r.needle) where
  left_is : channel_at p d k m ≡ channel_of a.0
  unfolding comparison_of
  left_is = l-is ∙ ap (λ (c : Comparison). c.left) told

  right_is : channel_at q d' k' n ≡ channel_of a.1.0
  unfolding comparison_of
  right_is = r-is ∙ ap (λ (c : Comparison). c.right) told

  needle_is : Ok z ≡ needle_of (channel_of a.0) (channel_of a.1.0) (shared_of a.0 a.1.0)
  unfolding comparison_of
  needle_is = n_is ∙ ap (λ (c : Comparison). c.needle) told

  -- a value: no probe stands on both sides
  pub apart : shared_of a.0 a.1.0 ≡ false
  apart = panel.value_apart (channel_of a.0) (channel_of a.1.0) (shared_of a.0 a.1.0) z (sym needle_is)

  value_is : Ok z ≡ needle_of (channel_of a.0) (channel_of a.1.0) false
  value_is = needle_is ∙ ap (needle_of (channel_of a.0) (channel_of a.1.0)) apart

  -- what the formula says, with a fraction in place of each root
  module _ (x y : Frac) (v : Rooted (plus p.sigma) x) (w : Rooted (plus q.sigma) y) where
    sides : Sides p q x y z
    sides =
        record {
          left = a.0;
          right = a.1.0;
          left_density = d;
          left_bulk = k;
          left_remarks = m;
          right_density = d';
          right_bulk = k';
          right_remarks = n;
          left_is = left_is;
          right_is = right_is;
          left_root = v;
          right_root = w;
          needle_is = needle_is;
        }

    -- 5. a needle of 2 or more, either way, never names as heavier a water that the formula, with both under the greater of their pressures, makes
    -- equal or lighter
    pub right_heavier : pos 2 ≤ℤ z → ¬ (formula_under (common p q) q y ≤F formula_under (common p q) p x)
    right_heavier = pledge.right_heavier p q x y z sides

    pub left_heavier : z ≤ℤ neg 2 → ¬ (formula_under (common p q) p x ≤F formula_under (common p q) q y)
    left_heavier = pledge.left_heavier p q x y z sides

    -- 6. a needle is within 0.0012 kg/m³ of the formula's difference there
    pub needle_within : Within (over 12 10_000) z (formula_under (common p q) q y ⊖ formula_under (common p q) p x)
    needle_within = pledge.needle_within p q x y z sides

  -- the same water at any two depths has a needle of 0
  pub same_water : p.sigma ≡ q.sigma → p.tau ≡ q.tau → z ≡ pos 0
  same_water s t = panel.taken (value_is ∙ panel.same_water (channel_of a.0) (channel_of a.1.0) p q d k d' k' m n (sym left_is) (sym right_is) s t)

  -- at equal pressures the needle is the difference of the densities beside it
  pub level : p.pi ≡ q.pi → z ≡ pos d' -ℤ pos d
  level e = panel.taken (value_is ∙ panel.level a.0 a.1.0 p q d k d' k' m n (sym left_is) (sym right_is) e)

  -- the same two the other way round: the sign turns
  pub swapped : (κs' : Lifetimes.Lfts 0) (r' : _) (s' : _) → paired.Learnt κs' (a.1.0, (a.0, a.1.1)) r' s' → r'.needle ≡ Ok (neg_ℤ z)
  swapped κs' r' s' told' = probes.told_swap_turns κs a r s told κs' r' s' told' z (sym n_is)

-- ---- two calls of `answer` on readings x and y
module _
    (κs κs' : Lifetimes.Lfts 0) (a b : _) (l r : _) (s t : _) (first : answer.Learnt κs a l s) (second : answer.Learnt κs' b r t)
    (p q : Point) (d k d' k' : ℕ) (m n : Remarks) (l-is : channel_at p d k m ≡ l) (r-is : channel_at q d' k' n ≡ r)
    (i j : ℕ) (f g : Report) (x y : Reading) (a-is : a.0 ≡ message i f) (b-is : b.0 ≡ message j g)
    (x-is : given_of f ≡ Some x) (y-is : given_of g ≡ Some y) where
  -- 3. at the same temperature and pressure saltier water never shows lighter
  pub saltier : Same x.temperature y.temperature → Same x.pressure y.pressure → AtMost x.salinity y.salinity → d ≤ d'
  saltier = pledge.saltier x y d d' (shows κs a l s first p d k m l-is i f x a-is x-is) (shows κs' b r t second q d' k' n r-is j g y b-is y-is)

  -- 4. at the same salinity and temperature deeper water never shows lighter
  pub deeper : Same x.salinity y.salinity → Same x.temperature y.temperature → AtMost x.pressure y.pressure → d ≤ d'
  deeper = pledge.deeper x y d d' (shows κs a l s first p d k m l-is i f x a-is x-is) (shows κs' b r t second q d' k' n r-is j g y b-is y-is)
