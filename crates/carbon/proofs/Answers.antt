-- What is answered: ln K0 where the checks are passed, which puts the grid numbers where the formula is used; a refusal exactly for a listed
-- reason; and the pressure makes no difference. Assumes nothing.
use Prim.Native.Nat.{ℕ, ◌^◌, ◌≤◌, ◌<◌}
use mathlib.Core.Path.{◌≡◌, refl, sym, ap, ap₂, ◌∙◌, subst}
use mathlib.Core.Bool.{true}
use Rattle.std.specs.Prelude.{Some, Ok, Err}
use native.Mathlib.Omega.{arith}
use lib.Dec.{lit<}
use lib.IntN.{ℤ, pos, nat_abs}
use lib.Signed.{◌≤ℤ◌}
use lib.Ieee.{Float}
use Rattle.whole.specs.Arith.{plus, minus}
use Rattle.whole.proofs.Ints.{of_≤ℤ, below_minus, above_plus}
use Rattle.refusals.specs.declared.Refusal.{Refusal}
use Rattle.refusals.specs.declared.Unread.{Unread}
use Rattle.refusals.specs.Number.{number_of, refusal_of}
use Rattle.floats.specs.Grid.{inside, grid_no}
use Rattle.readings.specs.declared.Report.{Report}
use Rattle.readings.specs.declared.Reading.{Reading}
use Rattle.readings.specs.declared.Point.{Point}
use Rattle.readings.specs.declared.Remarks.{Remarks}
use Rattle.readings.specs.declared.Purpose.{Purpose}
use Rattle.readings.specs.Entry.{Entry, message}
use Rattle.readings.specs.Check.{Checked, taken_at, pressures, deep_of, surface_of, given_of, checked_for}
use Rattle.readings.proofs.Reasons.{Lying, Reason, missing, not_finite, salinity, temperature, pressure}
use Rattle.readings.proofs.Answers as readings
use Rattle.carbon.specs.Weiss.{kelvin, ln_k0}
use Rattle.carbon.specs.Carbon.{Solubility, unpressed, dissolved, solubility_of}
use Rattle.carbon.proofs.Sum.{ln_k0_small}

-- a grid number from 0 on, as a natural
natural : (z : ℤ) (u : ℕ) → pos 0 ≤ℤ z → z ≤ℤ pos u → (minus z ≡ 0) × (plus z ≤ u)
natural z u l h = (omega (arith, below_minus (pos 0) z (of_≤ℤ (pos 0) z l)), above_plus z (pos u) (of_≤ℤ z (pos u) h))

pub lying_mild : (p : Point) → Lying Purpose.Carbon p → (minus p.sigma ≡ 0) × ((plus p.sigma ≤ 42_000) × ((minus p.tau ≡ 0) × (plus p.tau ≤ 40_000)))
lying_mild p g =
    let s = natural p.sigma 42_000 g.sigma_low g.sigma_high in
    let t = natural p.tau 40_000 g.tau_low g.tau_high in
    (s.0, (s.1, (t.0, t.1)))

pub taken_mild : (report : Report) (p : Point) (m : Remarks) → checked_for Purpose.Carbon report ≡ taken_at p m → (minus p.sigma ≡ 0) × ((plus p.sigma ≤ 42_000) × ((minus p.tau ≡ 0) × (plus p.tau ≤ 40_000)))
taken_mild report p m e = lying_mild p (readings.taken_on_grid Purpose.Carbon report p m e)

-- ---- a value is ln K0 at the reading's own floats, put on the grid
first_two : (report : Report) (r : Reading) → given_of report ≡ Some r → (q : Reading) × ((given_of (unpressed report) ≡ Some q) × ((q.salinity ≡ r.salinity) × (q.temperature ≡ r.temperature)))
first_two (Report.Deep s t p) r g = let e : deep_of s t p ≡ r = cc in (surface_of s t, (refl, (ap (λ (x : Reading). x.salinity) e, ap (λ (x : Reading). x.temperature) e)))
first_two (Report.Surface s t) r g = let e : surface_of s t ≡ r = cc in (surface_of s t, (refl, (ap (λ (x : Reading). x.salinity) e, ap (λ (x : Reading). x.temperature) e)))
first_two Report.Missing r g = cc

pub record Valued (r : Reading) (z : ℤ) : Type 0 where
  pub value_is : z ≡ ln_k0 (plus (grid_no 1000 r.salinity)) (kelvin (grid_no 1000 r.temperature))
  pub salinity_low : minus (grid_no 1000 r.salinity) ≡ 0
  pub salinity_high : plus (grid_no 1000 r.salinity) ≤ 42_000
  pub temperature_low : minus (grid_no 1000 r.temperature) ≡ 0
  pub temperature_high : plus (grid_no 1000 r.temperature) ≤ 40_000

pub known_is : (n : ℕ) (report : Report) (r : Reading) (z : ℤ) → given_of report ≡ Some r → Ok z ≡ solubility_of (message n report) → Valued r z
unfolding solubility_of
known_is n report r z g is = go (checked_for Purpose.Carbon (unpressed report)) refl is
  where
    go : (c : Checked) → checked_for Purpose.Carbon (unpressed report) ≡ c → Ok z ≡ dissolved c → Valued r z
    go (Err x) e is = cc
    go (Ok t) e is =
        let q = first_two report r g in
        let n = readings.taken_gridded Purpose.Carbon (unpressed report) q.0 t.at t.remarks q.1.0 e in
        let m = taken_mild (unpressed report) t.at t.remarks e in
        let σ : t.at.sigma ≡ grid_no 1000 r.salinity = n.sigma_is ∙ ap (grid_no 1000) q.1.1.0 in
        let τ : t.at.tau ≡ grid_no 1000 r.temperature = n.tau_is ∙ ap (grid_no 1000) q.1.1.1 in
        let v : z ≡ ln_k0 (plus t.at.sigma) (kelvin t.at.tau) = cc in
        record {
          value_is = v ∙ ap₂ (λ (a b : ℤ). ln_k0 (plus a) (kelvin b)) σ τ;
          salinity_low = subst (λ (a : ℤ). minus a ≡ 0) σ m.0;
          salinity_high = subst (λ (a : ℤ). plus a ≤ 42_000) σ m.1.0;
          temperature_low = subst (λ (a : ℤ). minus a ≡ 0) τ m.1.1.0;
          temperature_high = subst (λ (a : ℤ). plus a ≤ 40_000) τ m.1.1.1;
        }

-- ---- a refusal has a listed reason of the report without its pressure, and each reason refuses
pub refused_only : (n : ℕ) (report : Report) (x : Refusal) → Err x ≡ solubility_of (message n report) → Reason Purpose.Carbon (unpressed report) x
unfolding solubility_of
refused_only n report x is = go (checked_for Purpose.Carbon (unpressed report)) refl is
  where
    go : (c : Checked) → checked_for Purpose.Carbon (unpressed report) ≡ c → Err x ≡ dissolved c → Reason Purpose.Carbon (unpressed report) x
    go (Ok t) e is = cc
    go (Err y) e is = let same : y ≡ x = cc in readings.refused_only Purpose.Carbon (unpressed report) x (e ∙ ap Err same)

pub reason_refuses : (n : ℕ) (report : Report) {x : Refusal} → Reason Purpose.Carbon (unpressed report) x → solubility_of (message n report) ≡ Err x
unfolding solubility_of
reason_refuses n report w = ap dissolved (readings.reason_refuses Purpose.Carbon w)

-- the reason is one of the first four: 1, 2, 3 or 4
shallow_inside : (report : Report) (r : Reading) → given_of (unpressed report) ≡ Some r → inside pressures r.pressure ≡ true
unfolding inside
shallow_inside (Report.Deep s t p) r g = let e : surface_of s t ≡ r = cc in ap (λ (x : Reading). inside pressures x.pressure) (sym e)
shallow_inside (Report.Surface s t) r g = let e : surface_of s t ≡ r = cc in ap (λ (x : Reading). inside pressures x.pressure) (sym e)
shallow_inside Report.Missing r g = cc

one_of_four : {q : Report} {x : Refusal} → ((r : Reading) → given_of q ≡ Some r → inside pressures r.pressure ≡ true) → Reason Purpose.Carbon q x → number_of x ≤ 4
one_of_four h missing = lit< tt
one_of_four h (not_finite r g f) = lit< tt
one_of_four h (salinity r w s) = lit< tt
one_of_four h (temperature r w s t) = lit< tt
one_of_four h (pressure r w s t p) = let e = h r w.given in cc

pub refused_listed : (n : ℕ) (report : Report) (x : Refusal) → Err x ≡ solubility_of (message n report) → number_of x ≤ 4
refused_listed n report x is = one_of_four (shallow_inside report) (refused_only n report x is)

-- ---- the pressure
-- it makes no difference, whatever float it is
pub pressure_unread : (n : ℕ) (s t p q : Float) → solubility_of (message n (Report.Deep s t p)) ≡ solubility_of (message n (Report.Deep s t q))
unfolding solubility_of
pressure_unread n s t p q = refl

pub as_at_surface : (n : ℕ) (s t p : Float) → solubility_of (message n (Report.Deep s t p)) ≡ solubility_of (message n (Report.Surface s t))
unfolding solubility_of
as_at_surface n s t p = refl

-- nor does the probe's number
pub number_unread : (n n' : ℕ) (report : Report) → solubility_of (message n report) ≡ solubility_of (message n' report)
unfolding solubility_of
number_unread n n' report = refl

-- ---- an answer is short: a value of nine digits at most, or a refusal of one
abbrev pub Brief : Solubility → Type 0
Brief (Ok z) = nat_abs z < 10 ^ 9
Brief (Err r) = number_of r < 10

unread_brief : (u : Unread) → number_of (refusal_of u) < 10
unread_brief Unread.Cut = lit< tt
unread_brief Unread.Kind = lit< tt
unread_brief Unread.Length = lit< tt

pub solubility_small : (e : Entry) → Brief (solubility_of e)
unfolding solubility_of
solubility_small (Err u) = unread_brief u
solubility_small (Ok m) = go (checked_for Purpose.Carbon (unpressed m.report)) refl
  where
    go : (c : Checked) → checked_for Purpose.Carbon (unpressed m.report) ≡ c → Brief (dissolved c)
    go (Ok t) e =
        let is = taken_mild (unpressed m.report) t.at t.remarks e in
        ln_k0_small (plus t.at.sigma) (kelvin t.at.tau) is.1.0 (omega arith, omega (arith, is.1.1.1))
    go (Err r) e = omega (arith, one_of_four (shallow_inside m.report) (readings.refused_only Purpose.Carbon (unpressed m.report) r e))
