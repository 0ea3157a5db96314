-- A reading that is taken is on the grid, and one is refused exactly if it has a listed reason: by following the checks in
-- their order, and since a float inside its range has its grid number inside. Assumes nothing.
use Prim.Native.Nat.{ℕ}
use native.Mathlib.Omega.{arith}
use mathlib.Core.Path.{◌≡◌, refl, sym, ◌∙◌, subst, ap₂}
use Rattle.std.specs.Prelude.{Option, Some, None, Err}
use mathlib.Core.Bool.{Bool, true, false, cond}
use lib.Dec.{T}
use lib.IntN.{pos}
use lib.Signed.{◌≤ℤ◌}
use lib.Ieee.{Float}
use Rattle.refusals.specs.declared.Refusal.{Refusal}
use Rattle.floats.specs.declared.grid.Range.{Range}
use Rattle.floats.specs.Grid.{inside, grid_no, remark_of, place_of}
use Rattle.floats.specs.declared.Place.{Place}
use Rattle.floats.specs.declared.Remark.TheVariants.{On}
use Rattle.floats.proofs.Order.{grid_within}
use Rattle.floats.proofs.Exact.{zero_on}
use Rattle.readings.specs.Check.{taken_at, salinities, temperatures, pressures, deep_of, surface_of, given_of, all_finite, first_outside, placed_for, in_order, checked_for}
use Rattle.readings.proofs.Reasons.{Lying, Gridded, Remarked, Usable, Reason, missing, not_finite, salinity, temperature, pressure, Answered, taken, refused}
use Rattle.readings.specs.declared.Purpose.{Purpose}
use Rattle.readings.specs.declared.Report.{Report}
use Rattle.readings.specs.declared.Reading.{Reading}
use Rattle.readings.specs.declared.Point.{Point}
use Rattle.readings.specs.declared.Remarks.{Remarks}

within : (q : Range) (x : Float) → inside q x ≡ true → (q.low ≤ℤ grid_no q.steps x) × (grid_no q.steps x ≤ℤ q.high)
within q x e = grid_within q x (subst T (sym e) tt)

abbrev placed : Bool → Range → Float → Option Place
placed b q x = cond b (Some (record { number = grid_no q.steps x; remark = remark_of q.steps x })) None

module _ (k : Purpose) where
  by_places : (report : Report) (r : Reading) → Usable report r → (a b c : Bool) → inside salinities r.salinity ≡ a
      → inside (temperatures k) r.temperature ≡ b → inside pressures r.pressure ≡ c
      → Answered k report (first_outside (placed a salinities r.salinity) (placed b (temperatures k) r.temperature) (placed c pressures r.pressure))
  by_places report r w false b c s t p = refused (salinity r w s)
  by_places report r w true false c s t p = refused (temperature r w s t)
  by_places report r w true true false s t p = refused (pressure r w s t p)
  by_places report r w true true true s t p =
      let σ = within salinities r.salinity s in
      let τ = within (temperatures k) r.temperature t in
      let π = within pressures r.pressure p in
      taken r w (record { sigma_is = refl; tau_is = refl; pi_is = refl }) (record { of_salinity = refl; of_temperature = refl; of_pressure = refl })
      (record { sigma_low = σ.0; sigma_high = σ.1; tau_low = τ.0; tau_high = τ.1; pi_low = π.0; pi_high = π.1 })

  with_reading : (report : Report) (r : Reading) → given_of report ≡ Some r → (f : Bool) → all_finite report ≡ f
      → Answered k report (in_order k (Some r) f)
  unfolding placed_for place_of
  with_reading report r g false e = refused (not_finite r g e)
  with_reading report r g true e =
      by_places report r (record { given = g; finite = e }) (inside salinities r.salinity) (inside (temperatures k) r.temperature)
      (inside pressures r.pressure) refl refl refl

  pub answered : (report : Report) → Answered k report (checked_for k report)
  unfolding checked_for
  answered (Report.Deep s t p) = with_reading (Report.Deep s t p) (deep_of s t p) refl (all_finite (Report.Deep s t p)) refl
  answered (Report.Surface s t) = with_reading (Report.Surface s t) (surface_of s t) refl (all_finite (Report.Surface s t)) refl
  answered Report.Missing = refused missing

  pub taken_on_grid : (report : Report) (p : Point) (m : Remarks) → checked_for k report ≡ taken_at p m → Lying k p
  taken_on_grid report p m e = go (subst (Answered k report) e (answered report))
    where
      go : Answered k report (taken_at p m) → Lying k p
      go (taken r w n o g) = g

  -- its numbers and its remarks are those of its reading's floats
  module _ (report : Report) (r : Reading) (p : Point) (m : Remarks) (h : given_of report ≡ Some r) (e : checked_for k report ≡ taken_at p m) where
    one : (q : Reading) → given_of report ≡ Some q → q ≡ r
    one q g = let z : Some q ≡ Some r = sym g ∙ h in cc

    pub taken_gridded : Gridded r p
    taken_gridded = go (subst (Answered k report) e (answered report))
      where
        go : Answered k report (taken_at p m) → Gridded r p
        go (taken q w n o g) = subst (λ (x : Reading). Gridded x p) (one q w.given) n

    pub taken_remarked : Remarked r m
    taken_remarked = go (subst (Answered k report) e (answered report))
      where
        go : Answered k report (taken_at p m) → Remarked r m
        go (taken q w n o g) = subst (λ (x : Reading). Remarked x m) (one q w.given) o

  pub refused_only : (report : Report) (x : Refusal) → checked_for k report ≡ Err x → Reason k report x
  refused_only report x e = go (subst (Answered k report) e (answered report))
    where
      go : Answered k report (Err x) → Reason k report x
      go (refused r) = r

  -- and a reason is enough: each of them does refuse
  places : (r : Reading) (a b c : Bool) → inside salinities r.salinity ≡ a → inside (temperatures k) r.temperature ≡ b → inside pressures r.pressure ≡ c
      → placed_for k r ≡ first_outside (placed a salinities r.salinity) (placed b (temperatures k) r.temperature) (placed c pressures r.pressure)
  unfolding placed_for place_of
  places r a b c s t p = cc

  usable : (report : Report) (r : Reading) → Usable report r → checked_for k report ≡ placed_for k r
  unfolding checked_for
  usable report r w = ap₂ (in_order _) w.given w.finite

  pub reason_refuses : {report : Report} {x : Refusal} → Reason k report x → checked_for k report ≡ Err x
  unfolding checked_for
  reason_refuses missing = refl
  reason_refuses (not_finite r g f) = ap₂ (in_order _) g f
  reason_refuses {report} (salinity r w s) = usable report r w ∙ places r false _ _ s refl refl
  reason_refuses {report} (temperature r w s t) = usable report r w ∙ places r true false _ s t refl
  reason_refuses {report} (pressure r w s t p) = usable report r w ∙ places r true true false s t p

  -- ---- a reading that is taken has its salinity inside the range
  never : {x : Refusal} {p : Point} {m : Remarks} → Err x ≡ taken_at p m → ⊥
  never e = let z : ◌≡◌ {A = ℕ} 0 1 = cc in omega arith

  pub taken_inside : (report : Report) (r : Reading) (p : Point) (m : Remarks) → given_of report ≡ Some r → checked_for k report ≡ taken_at p m → T (inside salinities r.salinity)
  taken_inside report r p m g e = go (inside salinities r.salinity) (all_finite report) refl refl
    where
      go : (b : Bool) (f : Bool) → inside salinities r.salinity ≡ b → all_finite report ≡ f → T b
      go true f s h = tt
      go false false s h = absurd (never (sym (reason_refuses (not_finite r g h)) ∙ e))
      go false true s h = absurd (never (sym (reason_refuses (salinity r (record { given = g; finite = h }) s)) ∙ e))

  -- a probe at the surface has no pressure that could be off: its remark is on
  pub surface_on : (s t : Float) (p : Point) (m : Remarks) → checked_for k (Report.Surface s t) ≡ taken_at p m → m.pressure ≡ On
  surface_on s t p m e = (taken_remarked (Report.Surface s t) (surface_of s t) p m refl e).of_pressure ∙ (zero_on 100 false (pos 0)).1
