-- The C call for a needle answers what stops it, by its number, and 0 if nothing does; 32 exactly if both reports are accepted and the two numbers that it was given
-- are the same, other than 0; and then its words are the two densities and 0. From its contract: `Learnt`, as the checker reads it off the source. Assumes nothing.
use Rattle.std.specs.Prelude.{Err, Option, Some, None}
use Prim.Native.Nat.{ℕ}
use mathlib.Core.Path.{◌≡◌, refl, sym, ap, ◌∙◌, subst}
use mathlib.Core.List.{[], ◌∷◌}
use native.Mathlib.Omega.{arith}
use contract.Lifetimes
use lib.Seq.{sets}
use lib.IntN.{pos}
use lib.Ieee.{Float}
use Rattle.refusals.specs.declared.Refusal.{Refusal}
use Rattle.readings.specs.declared.Report.{Report}
use Rattle.readings.specs.Entry.{Entry, message}
use Rattle.kinds.specs.declared.Row.{Row}
use Rattle.kinds.specs.Kinds.{kind_of, report_of}
use Rattle.channels.specs.Answer.{channel_at}
use Rattle.channels.specs.declared.Stop.{Stop}
use Rattle.channels.specs.Answer.{Needle}
use Rattle.channels.specs.Numbers.{channel_density, needle_value}
use Rattle.panel.specs.Panel.{channel_of, probe_of, comparison_of}
use Rattle.panel.specs.Probes.{Shares, Accepts, Stops, one_probe}
use Rattle.panel.proofs.Probes.{only_stopped, stops_refuse, by_number, by_probe}
use Rattle.abi.specs.Abi.{entry_by, entry_of}
use Rattle.warpsorrel.proofs.warpsorrel_needle.Reads as needle

-- what is accepted is a reading with the number that was given
given : (kind n : ℕ) (s t p : Float) → Accepts (entry_of kind n s t p) → (report : Report) × (entry_of kind n s t p ≡ message n report)
unfolding entry_of channel_of
given kind n s t p = go (kind_of kind)
  where
    no : {q : _} {d k : ℕ} {m : _} {x : Refusal} → Err x ≡ channel_at q d k m → ⊥
    no e = let z : ◌≡◌ {A = ℕ} 0 1 = cc in omega arith

    go : (k : Option Row) → Accepts (entry_by kind n s t p k) → (report : Report) × (entry_by kind n s t p k ≡ message n report)
    go (Some row) a = (report_of row.holds s t p, refl)
    go None a = absurd (no a.is)

numbered : {n n' : ℕ} {a b : Report} → message n a ≡ message n' b → n ≡ n'
numbered e = ap probe_of e

-- ---- one call with these reports
module _ (κs : Lifetimes.Lfts 1) (a : _) (r : _) (s : _) (told : needle.Learnt κs a r s) where
  abbrev left : Entry
  left = entry_of a.0 a.1.0 a.1.1.0 a.1.1.1.0 a.1.1.1.1.0

  abbrev right : Entry
  right = entry_of a.1.1.1.1.1.0 a.1.1.1.1.1.1.0 a.1.1.1.1.1.1.1.0 a.1.1.1.1.1.1.1.1.0 a.1.1.1.1.1.1.1.1.1.0

  -- what is answered is what stops the needle, and 0 if nothing does
  pub stopped_only : ¬ (r ≡ 0) → (q : Stop) × Stops left right q r
  stopped_only h =
      let w = by_number (comparison_of left right).needle r h (sym told.0) in (w.0, subst (Stops left right w.0) (sym told.0) (only_stopped left right w.0 w.1))

  pub stopped_told : (q : Stop) (n : ℕ) → Stops left right q n → r ≡ n
  stopped_told q n x = told.0 ∙ (stops_refuse left right q n x).1

  -- 32 is answered only then
  pub same_probe_only : r ≡ 32 → (Accepts left × Accepts right) × ((a.1.0 ≡ a.1.1.1.1.1.1.0) × ¬ (a.1.0 ≡ 0))
  same_probe_only e =
      let x = stopped_only (λ z. absurd (omega (arith, z, e))) in
      let w = by_probe e x.1 in
      let h = w.1 in
      let l : a.1.0 ≡ h.number = numbered (sym (given _ _ _ _ _ w.0.0).1 ∙ h.left_is) in
      let m : a.1.1.1.1.1.1.0 ≡ h.number = numbered (sym (given _ _ _ _ _ w.0.1).1 ∙ h.right_is) in
      (w.0, (l ∙ sym m, λ z. h.own (sym l ∙ z)))

  -- and then it is, with both densities
  pub same_probe_told :
      Accepts left → Accepts right → a.1.0 ≡ a.1.1.1.1.1.1.0 → ¬ (a.1.0 ≡ 0) →
      (r ≡ 32) × (s.1.1.1.1.1.1.1.1.1.1.0.now ≡ sets a.1.1.1.1.1.1.1.1.1.1.0.now 0 (pos (channel_density (channel_of left)) ∷ pos (channel_density (channel_of right)) ∷ pos 0 ∷ []))
  unfolding comparison_of
  same_probe_told x y same own =
      let l = given _ _ _ _ _ x in
      let m = given _ _ _ _ _ y in
      let shares : Shares left right =
      record { number = a.1.0; own = own; left_report = l.0; left_is = l.1; right_report = m.0; right_is = m.1 ∙ ap (λ (n : ℕ). message n m.0) (sym same) } in
      let e = stops_refuse left right Stop.SameProbe 32 (one_probe x y shares) in
      let out = a.1.1.1.1.1.1.1.1.1.1.0.now in (
        told.0 ∙ e.1,
        told.1 ∙ ap (λ (v : Needle). sets out 0 (pos (channel_density (channel_of left)) ∷ pos (channel_density (channel_of right)) ∷ needle_value v ∷ [])) e.0,
      )
