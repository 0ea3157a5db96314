-- When there is no needle: exactly if a channel is refused, or both are accepted and share a probe's number other than 0; what 32 leaves shown; and what
-- swapping does. Of the definition, and once more from the contract of `panel::paired`. Assumes nothing.
use Rattle.std.specs.Prelude.{Bool, true, false, Ok, Err}
use Prim.Native.Nat.{ℕ}
use mathlib.Core.Path.{◌≡◌, refl, sym, ap, ap₂, ◌∙◌, subst}
use lib.IntN.{pos}
use native.Mathlib.Omega.{arith}
use contract.Lifetimes
use Rattle.refusals.specs.declared.Refusal.{Refusal}
use Rattle.readings.specs.declared.Report.{Report}
use Rattle.readings.specs.Entry.{Entry, message}
use Rattle.channels.specs.Answer.{Channel}
use Rattle.channels.specs.declared.Stop.{Stop}
use Rattle.channels.specs.Answer.{Needle}
use Rattle.channels.specs.declared.Comparison.{Comparison}
use Rattle.channels.specs.Numbers.{channel_density, stop_number, needle_number}
use Rattle.panel.specs.Panel.{channel_of, shared_of, needle_of, comparison_of}
use Rattle.panel.specs.Probes.{Shares, Accepts, Stops, left_refused, right_refused, one_probe, OnlyStopped, StopsRefuse, StillShown, SwapTurns, SwapKeeps}
use Rattle.panel.proofs.Cases.{Refuses}
use Rattle.panel.proofs.Needles.{swapped}
use Rattle.panel.proofs.Sharing.{shared_means, means_shared, shares_real}
use Rattle.panel.proofs.Samples.{fresh_of, salt_of, fresh_of_is, salt_of_is, fresh_is, salt_is, nothing_is, needle_is}
use Rattle.panel.proofs.paired.Reads as paired

-- ---- sharing is the same whichever stands left (what `shared_of` answers: Sharing)
pub shares_either : (l r : Entry) → Shares l r → Shares r l
shares_either l r s =
    record { number = s.number; own = s.own; left_report = s.right_report; left_is = s.right_is; right_report = s.left_report; right_is = s.left_is }

pub shared_either : (l r : Entry) → shared_of r l ≡ shared_of l r
shared_either l r = go (shared_of l r) refl (shared_of r l) refl
  where
    go : (s : Bool) → shared_of l r ≡ s → (t : Bool) → shared_of r l ≡ t → shared_of r l ≡ shared_of l r
    go true e true f = f ∙ sym e
    go false e false f = f ∙ sym e
    go true e false f = means_shared r l (shares_either l r (shared_means l r e)) ∙ sym e
    go false e true f = f ∙ sym (means_shared l r (shares_either r l (shared_means r l f)))

-- ---- the comparison of two entries
same_stop : {s t : Stop} → ◌≡◌ {A = Needle} (Err s) (Err t) → s ≡ t
same_stop e = cc

-- with the needle itself told: `only_stopped` reads its number off it
stopped : (l r : Entry) (s : Stop) (a : Channel) → channel_of l ≡ a → (b : Channel) → channel_of r ≡ b → (f : Bool) → shared_of l r ≡ f → needle_of a b f ≡ Err s → Stops l r s (stop_number s)
stopped l r s (Err x) e b g f h i = subst (λ (t : Stop). Stops l r t (stop_number t)) (same_stop i) (left_refused x e)
stopped l r s (Ok x) e (Err y) g f h i =
    subst (λ (t : Stop). Stops l r t (stop_number t)) (same_stop i) (right_refused y (record { point = x.at; density = x.water.density; bulk = x.water.bulk; remarks = x.remarks; is = e }) g)
stopped l r s (Ok x) e (Ok y) g true h i =
    subst (λ (t : Stop). Stops l r t (stop_number t)) (same_stop i)
    (one_probe (record { point = x.at; density = x.water.density; bulk = x.water.bulk; remarks = x.remarks; is = e })
    (record { point = y.at; density = y.water.density; bulk = y.water.bulk; remarks = y.remarks; is = g }) (shared_means l r h))
stopped l r s (Ok x) e (Ok y) g false h i = cc

pub only_stopped : (l r : Entry) → OnlyStopped l r (comparison_of l r)
unfolding comparison_of
only_stopped l r s e = subst (Stops l r s) (sym (ap needle_number e)) (stopped l r s (channel_of l) refl (channel_of r) refl (shared_of l r) refl e)

pub stops_refuse : (l r : Entry) → StopsRefuse l r (comparison_of l r)
unfolding comparison_of
stops_refuse l r s n (left_refused x e) = rw (e) (refl, refl)
stops_refuse l r s n (right_refused x a f) = rw (a.is, f) (refl, refl)
stops_refuse l r s n (one_probe a b h) = rw (a.is, b.is, means_shared l r h) (refl, refl)

-- a number other than 0 is a refusal's
pub by_number : (v : Needle) (n : ℕ) → ¬ (n ≡ 0) → needle_number v ≡ n → (s : Stop) × (v ≡ Err s)
by_number (Ok z) n h e = absurd (h (sym e))
by_number (Err s) n h e = (s, refl)

-- 32 is no channel's number
pub by_probe : {l r : Entry} {s : Stop} {n : ℕ} → n ≡ 32 → Stops l r s n → (Accepts l × Accepts r) × Shares l r
by_probe e (left_refused x f) = absurd (let z : ⊥ = omega (arith, e) in z)
by_probe e (right_refused x a f) = absurd (let z : ⊥ = omega (arith, e) in z)
by_probe e (one_probe a b s) = ((a, b), s)

shared_by : (l r : Entry) → needle_number (comparison_of l r).needle ≡ 32 → (Accepts l × Accepts r) × Shares l r
shared_by l r e =
    let w = by_number (comparison_of l r).needle (needle_number (comparison_of l r).needle) (λ z. absurd (omega (arith, z, e))) refl in
    by_probe e (only_stopped l r w.0 w.1)

pub still_shown : (l r : Entry) → StillShown l r (comparison_of l r)
unfolding comparison_of
still_shown l r e = ((shared_by l r e).0, (refl, refl))

pub swap_turns : (l r : Entry) → SwapTurns (comparison_of l r) (comparison_of r l)
unfolding comparison_of
swap_turns l r z e = rw (shared_either l r) (swapped (channel_of l) (channel_of r) (shared_of l r) z e)

pub swap_keeps : (l r : Entry) → SwapKeeps (comparison_of l r) (comparison_of r l)
swap_keeps l r e =
    let w = shared_by l r e in
    stops_refuse r l Stop.SameProbe 32 (one_probe w.0.1 w.0.0 (shares_either l r w.1))

-- ---- not empty: fresh and salt water, of one probe and of two, and a missing one
fresh_accepted : (n : ℕ) → Accepts (fresh_of n)
fresh_accepted n = record { point = _; density = _; bulk = _; remarks = _; is = fresh_of_is n }

salt_accepted : (n : ℕ) → Accepts (salt_of n)
salt_accepted n = record { point = _; density = _; bulk = _; remarks = _; is = salt_of_is n }

pub one_probe_real : let c = comparison_of (fresh_of 17) (salt_of 17) in (c.needle ≡ Err Stop.SameProbe) × (needle_number c.needle ≡ 32)
one_probe_real = stops_refuse (fresh_of 17) (salt_of 17) Stop.SameProbe 32 (one_probe (fresh_accepted 17) (salt_accepted 17) shares_real)

pub real_shown :
    (channel_density (comparison_of (fresh_of 17) (salt_of 17)).left ≡ 999_967) × (channel_density (comparison_of (fresh_of 17) (salt_of 17)).right ≡ 1_027_675)
real_shown =
    let w = (still_shown (fresh_of 17) (salt_of 17) one_probe_real.1).1 in
    (ap channel_density (w.0 ∙ fresh_of_is 17), ap channel_density (w.1 ∙ salt_of_is 17))

pub real_swapped : let c = comparison_of (salt_of 17) (fresh_of 17) in (c.needle ≡ Err Stop.SameProbe) × (needle_number c.needle ≡ 32)
real_swapped = swap_keeps (fresh_of 17) (salt_of 17) one_probe_real.1

-- a side's own refusal first, whatever the numbers
pub real_stopped :
    Refuses (comparison_of (message 17 Report.Missing) (salt_of 17)).needle (Stop.Left Refusal.Missing) 101
    × Refuses (comparison_of (salt_of 17) (message 17 Report.Missing)).needle (Stop.Right Refusal.Missing) 201
real_stopped = (
  stops_refuse (message 17 Report.Missing) (salt_of 17) (Stop.Left Refusal.Missing) 101 (left_refused Refusal.Missing (nothing_is 17)),
  stops_refuse (salt_of 17) (message 17 Report.Missing) (Stop.Right Refusal.Missing) 201 (right_refused Refusal.Missing (salt_accepted 17) (nothing_is 17)),
)

pub two_probes_real : (comparison_of (fresh_of 17) (salt_of 18)).needle ≡ Ok (pos 27_708)
unfolding comparison_of
two_probes_real = ap₂ (λ (l r : Channel). needle_of l r false) (fresh_of_is 17 ∙ sym fresh_is) (salt_of_is 18 ∙ sym salt_is) ∙ needle_is

-- ---- one call of `paired`, and one the other way round
module _ (κs : Lifetimes.Lfts 0) (a : _) (c : _) (s : _) (told : paired.Learnt κs a c s) where
  pub told_only_stopped : OnlyStopped a.0 a.1.0 c
  told_only_stopped = subst (OnlyStopped a.0 a.1.0) (sym told) (only_stopped a.0 a.1.0)

  pub told_stops_refuse : StopsRefuse a.0 a.1.0 c
  told_stops_refuse = subst (StopsRefuse a.0 a.1.0) (sym told) (stops_refuse a.0 a.1.0)

  pub told_still_shown : StillShown a.0 a.1.0 c
  told_still_shown = subst (StillShown a.0 a.1.0) (sym told) (still_shown a.0 a.1.0)

  module _ (κs' : Lifetimes.Lfts 0) (c' : _) (s' : _) (told' : paired.Learnt κs' (a.1.0, (a.0, a.1.1)) c' s') where
    pub told_swap_turns : SwapTurns c c'
    told_swap_turns = subst (λ (x : Comparison). SwapTurns x c') (sym told) (subst (SwapTurns (comparison_of a.0 a.1.0)) (sym told') (swap_turns a.0 a.1.0))

    pub told_swap_keeps : SwapKeeps c c'
    told_swap_keeps = subst (λ (x : Comparison). SwapKeeps x c') (sym told) (subst (SwapKeeps (comparison_of a.0 a.1.0)) (sym told') (swap_keeps a.0 a.1.0))
