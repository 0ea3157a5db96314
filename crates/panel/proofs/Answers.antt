-- What a channel's answer says of what stands in it: accepted at the point that its report was put to, or refused, exactly if there is
-- a listed reason. A point that passed its checks lies on the grid table, so that its water is known. Assumes nothing.
use Rattle.std.specs.Prelude.{Some, Result, Ok, Err}
use Prim.Native.Nat.{ℕ}
use mathlib.Core.Path.{◌≡◌, refl, sym, ◌∙◌, subst, ap}
use native.Mathlib.Omega.{arith}
use lib.Dec.{T}
use lib.Ieee.{Float}
use Rattle.refusals.specs.declared.Refusal.{Refusal}
use Rattle.refusals.specs.declared.Unread.{Unread}
use Rattle.refusals.specs.Number.{refusal_of}
use Rattle.floats.specs.Grid.{inside}
use Rattle.floats.specs.declared.Remark.TheVariants.{On}
use Rattle.readings.specs.declared.Point.{Point}
use Rattle.readings.specs.declared.Remarks.{Remarks}
use Rattle.readings.specs.declared.Purpose.{Purpose}
use Rattle.readings.specs.declared.Report.{Report}
use Rattle.readings.specs.declared.Reading.{Reading}
use Rattle.readings.specs.Check.{Checked, taken_at}
use Rattle.readings.specs.Check.{salinities, given_of, checked_of}
use Rattle.readings.proofs.Reasons.{OnGrid, Gridded, Remarked, Reason}
use Rattle.readings.proofs.Answers as reading
use Rattle.waters.specs.declared.Water.{Water}
use Rattle.waters.specs.Numbers.{known}
use Rattle.waters.specs.Numbers.{known}
use Rattle.sea.specs.Water.{water_of}
use Rattle.sea.specs.Sizes.{OnTable}
use Rattle.sea.proofs.Answers.{known_on_table}
use Rattle.readings.specs.Entry.{Entry, message}
use Rattle.channels.specs.Answer.{Channel, channel_at}
use Rattle.panel.specs.Panel.{filled, watered_of, checked_channel, channel_of}

-- a channel's three cases
pub data Case : Entry → Channel → Type 0 where
  accepted : (n : ℕ) (report : Report) (p : Point) (d k : ℕ) (m : Remarks) → checked_of report ≡ taken_at p m → water_of p.sigma p.tau p.pi ≡ known d k
      → Case (message n report) (channel_at p d k m)
  refused : (n : ℕ) (report : Report) (r : Refusal) → checked_of report ≡ Err r → Case (message n report) (Err r)
  no_record : (u : Unread) → Case (Err u) (Err (refusal_of u))

unknown : {d k : ℕ} {r : Refusal} → known d k ≡ Err r → ⊥
unknown e = let z : ◌≡◌ {A = ℕ} 0 1 = cc in omega arith

pub on_table : (p : Point) → OnGrid p → OnTable p.sigma p.tau p.pi
on_table p g =
    record {
      salinity = record { low = g.sigma_low; high = g.sigma_high };
      temperature = record { low = g.tau_low; high = g.tau_high };
      pressure = record { low = g.pi_low; high = g.pi_high };
    }

by_water : (n : ℕ) (report : Report) (p : Point) (m : Remarks) → checked_of report ≡ taken_at p m → (w : Result Water Refusal) → water_of p.sigma p.tau p.pi ≡ w
    → Case (message n report) (filled p m w)
by_water n report p m c (Ok a) e = accepted n report p a.density a.bulk m c e
by_water n report p m c (Err r) e =
    absurd (unknown (sym (known_on_table p.sigma p.tau p.pi (on_table p (reading.taken_on_grid Purpose.Density report p m c))) ∙ e))

by_check : (n : ℕ) (report : Report) (c : Checked) → checked_of report ≡ c → Case (message n report) (checked_channel c)
unfolding watered_of
by_check n report (Ok a) e = by_water n report a.at a.remarks e (water_of a.at.sigma a.at.tau a.at.pi) refl
by_check n report (Err r) e = refused n report r e

pub case_of : (e : Entry) → Case e (channel_of e)
unfolding channel_of
case_of (Ok a) = by_check a.probe a.report (checked_of a.report) refl
case_of (Err u) = no_record u

-- ---- an accepted reading's point has the grid numbers of its floats, its remarks are theirs, and its salinity was inside the range
accepted_taken : (n : ℕ) (report : Report) (p : Point) (d k : ℕ) (m : Remarks) → channel_of (message n report) ≡ channel_at p d k m → checked_of report ≡ taken_at p m
accepted_taken n report p d k m e = go (subst (Case (message n report)) e (case_of (message n report)))
  where
    go : Case (message n report) (channel_at p d k m) → checked_of report ≡ taken_at p m
    go (accepted _ _ _ _ _ _ c w) = c

module _
    (n : ℕ) (report : Report) (r : Reading) (p : Point) (d k : ℕ) (m : Remarks)
    (g : given_of report ≡ Some r) (e : channel_of (message n report) ≡ channel_at p d k m) where
  pub accepted_gridded : Gridded r p
  accepted_gridded = reading.taken_gridded Purpose.Density report r p m g (accepted_taken n report p d k m e)

  pub accepted_remarked : Remarked r m
  accepted_remarked = reading.taken_remarked Purpose.Density report r p m g (accepted_taken n report p d k m e)

  pub accepted_inside : T (inside salinities r.salinity)
  accepted_inside = reading.taken_inside Purpose.Density report r p m g (accepted_taken n report p d k m e)

-- a probe at the surface: its pressure is on
pub surface_on : (n : ℕ) (s t : Float) (p : Point) (d k : ℕ) (m : Remarks) → channel_of (message n (Report.Surface s t)) ≡ channel_at p d k m → m.pressure ≡ On
surface_on n s t p d k m e = reading.surface_on Purpose.Density s t p m (accepted_taken n (Report.Surface s t) p d k m e)

-- ---- a reading is refused only for a listed reason
pub refused_only : (n : ℕ) (report : Report) (r : Refusal) → channel_of (message n report) ≡ Err r → Reason Purpose.Density report r
refused_only n report r e = go (subst (Case (message n report)) e (case_of (message n report)))
  where
    go : Case (message n report) (Err r) → Reason Purpose.Density report r
    go (refused _ _ _ c) = reading.refused_only Purpose.Density report r c

-- and a reason is enough
pub reason_refuses : (n : ℕ) {report : Report} {r : Refusal} → Reason Purpose.Density report r → channel_of (message n report) ≡ Err r
unfolding channel_of
reason_refuses n w = ap checked_channel (reading.reason_refuses Purpose.Density w)

-- ---- the probe's number makes no difference
pub number_unread : (n n' : ℕ) (report : Report) → channel_of (message n report) ≡ channel_of (message n' report)
unfolding channel_of
number_unread n n' report = refl
