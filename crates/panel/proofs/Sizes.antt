-- What an accepted channel shows lies on the grid's numbers: it is small, and the recorder's float stands for it alone. Assumes nothing.
use Rattle.std.specs.Prelude.{Bool, true, false, Ok, Err}
use Prim.Native.Nat.{ℕ, ◌+◌, ◌≤◌, ◌<◌}
use mathlib.Core.Path.{◌≡◌, subst}
use native.Mathlib.Omega.{arith}
use lib.Dec.{lit<}
use lib.IntN.{ℤ, pos, negsuc, nat_abs, ◌-ℤ◌}
use Rattle.whole.specs.Arith.{plus, minus}
use Rattle.whole.proofs.Ints.{sub_is}
use Rattle.floats.specs.Grid.{grid_no}
use Rattle.floats.specs.Recorder.{recorder_of}
use Rattle.floats.proofs.Quotient.{recorder_back}
use Rattle.refusals.specs.declared.Refusal.{Refusal}
use Rattle.refusals.specs.declared.Unread.{Unread}
use Rattle.refusals.specs.Number.{number_of, refusal_of}
use Rattle.readings.specs.declared.Report.{Report}
use Rattle.readings.specs.declared.Point.{Point}
use Rattle.readings.specs.declared.Remarks.{Remarks}
use Rattle.readings.specs.declared.Purpose.{Purpose}
use Rattle.readings.proofs.Reasons.{Reason, missing, not_finite, salinity, temperature, pressure}
use Rattle.readings.proofs.Answers as reading
use Rattle.sea.specs.Sizes.{OnTable}
use Rattle.sea.proofs.Answers.{Shown, known_on_table, known_is_on_table, known_shows}
use Rattle.sea.proofs.Grid.{natural, lies_natural}
use Rattle.readings.specs.Entry.{Entry}
use Rattle.channels.specs.Answer.{Channel, channel_at}
use Rattle.channels.specs.Answer.{Needle}
use Rattle.channels.specs.Numbers.{stop_number}
use Rattle.panel.specs.Panel.{channel_of, common, shown_under, shared_of, needle_of}
use Rattle.panel.proofs.Answers.{Case, accepted, refused, no_record, case_of}

pub accepted_shows : (e : Entry) (p : Point) (d k : ℕ) (m : Remarks) → channel_of e ≡ channel_at p d k m → Shown p.sigma p.tau p.pi d k
accepted_shows e p d k m h = go e (subst (Case e) h (case_of e))
  where
    go : (e : Entry) → Case e (channel_at p d k m) → Shown p.sigma p.tau p.pi d k
    go _ (accepted i report _ _ _ _ c w) = known_shows p.sigma p.tau p.pi w

pub accepted_table : (e : Entry) (p : Point) (d k : ℕ) (m : Remarks) → channel_of e ≡ channel_at p d k m → OnTable p.sigma p.tau p.pi
accepted_table e p d k m h = go e (subst (Case e) h (case_of e))
  where
    go : (e : Entry) → Case e (channel_at p d k m) → OnTable p.sigma p.tau p.pi
    go _ (accepted i report _ _ _ _ c w) = known_is_on_table p.sigma p.tau p.pi w

-- a density of seven digits at most, or a refusal's number of one
abbrev pub Small : Channel → Type 0
Small (Ok a) = a.water.density < 10_000_000
Small (Err r) = number_of r < 10

reason_small : {report : Report} {r : Refusal} → Reason Purpose.Density report r → number_of r < 10
reason_small missing = lit< tt
reason_small (not_finite r g f) = lit< tt
reason_small (salinity r w s) = lit< tt
reason_small (temperature r w s t) = lit< tt
reason_small (pressure r w s t p) = lit< tt

pub unread_small : (u : Unread) → number_of (refusal_of u) < 10
unread_small Unread.Cut = lit< tt
unread_small Unread.Kind = lit< tt
unread_small Unread.Length = lit< tt

by_case : {e : Entry} {c : Channel} → Case e c → Small c
by_case (accepted i report p d k m c w) = let s = known_shows p.sigma p.tau p.pi w in omega (arith, s.density_high)
by_case (refused i report r c) = reason_small (reading.refused_only Purpose.Density report r c)
by_case (no_record u) = unread_small u

pub shown_small : (e : Entry) → Small (channel_of e)
shown_small e = by_case (case_of e)

-- put back on the grid of 0.001, the recorder's float gives the shown number
pub recorded_back : (e : Entry) (p : Point) (d k : ℕ) (m : Remarks) → channel_of e ≡ channel_at p d k m → grid_no 1000 (recorder_of d) ≡ pos d
recorded_back e p d k m h = recorder_back d (let s = accepted_shows e p d k m h in omega (arith, s.density_high))

-- ---- so is a needle: below 200,000 either way, or a number of three digits
abbrev pub SmallNeedle : Needle → Type 0
SmallNeedle (Ok z) = nat_abs z < 200_000
SmallNeedle (Err s) = stop_number s < 1_000

-- a point's water under any pressure of the grid
pub under_shows : (p : Point) → OnTable p.sigma p.tau p.pi → (π : ℕ) → π ≤ 100_000 → (900_000 < shown_under π p) × (shown_under π p ≤ 1_100_000)
under_shows p t π h =
    let u : OnTable p.sigma p.tau (pos π) = record { salinity = t.salinity; temperature = t.temperature; pressure = lies_natural h } in
    let s = known_shows p.sigma p.tau (pos π) (known_on_table p.sigma p.tau (pos π) u) in
    (s.density_low, s.density_high)

difference_small : (a b : ℕ) → (900_000 < a) × (a ≤ 1_100_000) → (900_000 < b) × (b ≤ 1_100_000) → nat_abs (pos b -ℤ pos a) < 200_000
difference_small a b h g = go (pos b -ℤ pos a) (sub_is (pos b) (pos a))
  where
    go : (z : ℤ) → plus z + (0 + a) ≡ minus z + (b + 0) → nat_abs z < 200_000
    go (pos n) e = omega (arith, h.0, g.1)
    go (negsuc n) e = omega (arith, h.1, g.0)

needle_case : {e f : Entry} {c d : Channel} → Case e c → Case f d → (s : Bool) → SmallNeedle (needle_of c d s)
needle_case (refused i report r c) w s = omega (arith, reason_small (reading.refused_only Purpose.Density report r c))
needle_case (no_record u) w s = omega (arith, unread_small u)
needle_case (accepted i report p d k m c w) (refused i' report' r c') s = omega (arith, reason_small (reading.refused_only Purpose.Density report' r c'))
needle_case (accepted i report p d k m c w) (no_record u) s = omega (arith, unread_small u)
needle_case (accepted i report p d k m c w) (accepted i' report' q d' k' m' c' w') true = lit< tt
needle_case (accepted i report p d k m c w) (accepted i' report' q d' k' m' c' w') false =
    let s = known_is_on_table p.sigma p.tau p.pi w in
    let t = known_is_on_table q.sigma q.tau q.pi w' in
    let h : common p q ≤ 100_000 = omega (arith, (natural s.pressure).most, (natural t.pressure).most) in
    difference_small (shown_under (common p q) p) (shown_under (common p q) q) (under_shows p s (common p q) h) (under_shows q t (common p q) h)

pub needle_small : (l r : Entry) → SmallNeedle (needle_of (channel_of l) (channel_of r) (shared_of l r))
needle_small l r = needle_case (case_of l) (case_of r) (shared_of l r)
