-- One step of salinity: D rises by 0.00055 kg/m³ at least and K by 0.076 bar at most, so the density does not fall. The root may
-- rise by e where the salinity rises by 1, but then e·σ is at most 74,404. Assumes nothing.
use Prim.Native.Nat.{ℕ, zero, suc, ◌+◌, ◌*◌, ◌-◌, ◌≤◌, ◌<◌}
use mathlib.Core.Path.{◌≡◌, sym, subst}
use native.Mathlib.Omega.{arith}
use native.Mathlib.Nat.{mul-le-mul_right, mul-le-mul_left}
use lib.IntN.{ℤ, pos, ◌+ℤ◌}
use Rattle.whole.specs.Arith.{neg, plus, minus, scaled}
use Rattle.whole.proofs.Roots.{Root, root_below}
use Rattle.whole.proofs.Interval.{by, reach_down, reach_up, ◌⊞◌}
use Rattle.sea.specs.declared.Rows.{Rows}
use Rattle.sea.specs.Recipe.{surface, K0, A, B, bulk, bulk_of, shown_of}
use Rattle.sea.specs.Sizes.{Sizes, box_ds, box_dr, box_dss, box_ks, box_kr, box_as, box_ar, box_bs}
use Rattle.sea.proofs.Sizes.{root_small, step, in_step, ranges}
use Rattle.promises.proofs.Rise.{Rise, rise_under, rise_add, rise_scaled, rise_by, shown_rises}

-- ---- the root of the next salinity
root_up : (σ w w' : ℕ) → Root w (σ * 100_000) → Root w' (suc σ * 100_000) → w ≤ w'
root_up σ w w' r r' = root_below w w' (σ * 100_000) r (omega (arith, r'.high))

root_rise : (σ w e : ℕ) → σ ≤ 42_000 → w ≤ 64_807 → Root w (σ * 100_000) → Root (w + e) (suc σ * 100_000) → e * σ ≤ 74_404
root_rise σ w zero h k r r' = omega arith
root_rise σ w (suc f) h k r r' =
    let a : 2 * f * (w + 1) ≤ 100_000 = omega (arith, r.high, r'.low) in
    let b : σ * 100_000 * f ≤ (w + 1) * (w + 1) * f = mul-le-mul_right f (omega (arith, r.high)) in
    let c : 2 * f * σ ≤ w + 1 = omega (arith, mul-le-mul_right (w + 1) a) in
    omega arith

-- ---- c + scaled(v; x + scaled(w; y)), as K0 and A are: where w rises by e and σ by 1
module _ (σ w e : ℕ) (es : e * σ ≤ 74_404) where
  part_rise : (c x y : ℤ) (X Y : ℕ) → plus y ≤ minus y + 100_000 * Y → plus (x +ℤ scaled y (pos (w + e))) ≤ minus (x +ℤ scaled y (pos (w + e))) + 100_000 * X →
      Rise (c +ℤ scaled (x +ℤ scaled y (pos w)) (pos σ)) (c +ℤ scaled (x +ℤ scaled y (pos (w + e))) (pos (suc σ))) (pos (X + Y))
  part_rise c x y X Y hy hx =
      let f = x +ℤ scaled y (pos w) in
      let f' = x +ℤ scaled y (pos (w + e)) in
      let i : Rise f f' (pos (Y * e)) = rise_under x (rise_scaled y y w (w + e) (pos (Y * e)) (omega (arith, mul-le-mul_right e hy))) in
      rise_under c (rise_scaled f f' σ (suc σ) (pos (X + Y)) (omega (arith, mul-le-mul_right σ i.most, mul-le-mul_left Y es)))

module _ (r : Rows) (z : Sizes r) (σ w e : ℕ) (hσ : σ < 42_000) (hw : w + e ≤ 64_807) (es : e * σ ≤ 74_404) where
  d_rise : Rise (surface r (suc σ) (w + e)) (surface r σ w) (neg 550_000)
  unfolding surface step by reach_down reach_up ◌⊞◌ box_ds box_dr box_dss
  d_rise =
      let f = r.Ds +ℤ scaled r.Dr (pos w) in
      let f' = r.Ds +ℤ scaled r.Dr (pos (w + e)) in
      let c = f +ℤ scaled r.Dss (pos σ) in
      let c' = f' +ℤ scaled r.Dss (pos (suc σ)) in
      let a : Rise f' f (pos (60_000 * e)) = rise_under r.Ds (rise_scaled r.Dr r.Dr (w + e) w (pos (60_000 * e)) (omega (arith, mul-le-mul_right e z.Dr.above))) in
      let b = rise_add a (rise_scaled r.Dss r.Dss (suc σ) σ (pos 0) (omega (arith, z.Dss))) in
      let i = in_step (suc σ) hσ (in_step (w + e) hw z.Ds z.Dr) z.Dss in
      rise_under r.Dw (rise_scaled c' c (suc σ) σ (neg 550_000) (omega (arith, mul-le-mul_right σ b.most, i.above)))

  k0_rise : Rise (K0 r σ w) (K0 r (suc σ) (w + e)) (pos 68_820_000)
  unfolding K0 step by reach_down reach_up ◌⊞◌ box_ks box_kr
  k0_rise = part_rise σ w e es r.Kw r.Ks r.Kr 61_000_000 7_820_000 (omega (arith, z.Kr)) (omega (arith, in_step (w + e) hw z.Ks z.Kr))

  a_rise : Rise (A r σ w) (A r (suc σ) (w + e)) (pos 5_620_000)
  unfolding A step by reach_down reach_up ◌⊞◌ box_as box_ar
  a_rise = part_rise σ w e es r.Aw r.As r.Ar 3_700_000 1_920_000 (omega (arith, z.Ar)) (omega (arith, in_step (w + e) hw z.As z.Ar))

  b_rise : Rise (B r σ) (B r (suc σ)) (pos 1_310_000)
  unfolding B box_bs
  b_rise = rise_under r.Bw (rise_scaled r.Bs r.Bs σ (suc σ) (pos 1_310_000) (omega (arith, z.Bs)))

  k_rise : (π : ℕ) → π ≤ 100_000 → Rise (bulk_of r σ w π) (bulk_of r (suc σ) (w + e) π) (pos 75_750_000)
  unfolding bulk_of bulk
  k_rise π h = rise_add k0_rise (rise_by π h (rise_add a_rise (rise_by π h b_rise)))

module _ (r : Rows) (z : Sizes r) (π : ℕ) (hπ : π ≤ 100_000) where
  pub salt_step : (σ w w' : ℕ) → σ < 42_000 → Root w (σ * 100_000) → Root w' (suc σ * 100_000) → shown_of r σ w π ≤ shown_of r (suc σ) w' π
  salt_step σ w w' hσ k k' =
      let up = root_up σ w w' k k' in
      let same : w + (w' - w) ≡ w' = omega arith in
      subst (λ v. shown_of r σ w π ≤ shown_of r (suc σ) v π) same (go (w' - w) (subst (λ v. Root v (suc σ * 100_000)) (sym same) k'))
    where
      go : (e : ℕ) → Root (w + e) (suc σ * 100_000) → shown_of r σ w π ≤ shown_of r (suc σ) (w + e) π
      go e q =
          let hw = root_small (suc σ) (w + e) hσ q in
          let es = root_rise σ w e (omega arith) (omega arith) k q in
          let g = ranges r z σ w (omega arith) (omega arith) π hπ in
          let g' = ranges r z (suc σ) (w + e) hσ hw π hπ in
          unfold shown_of in
          shown_rises (surface r σ w) (bulk_of r σ w π) π (surface r (suc σ) (w + e)) (bulk_of r (suc σ) (w + e) π) π g g' (pos 75_750_000) 7_575 550
          (d_rise r z σ w e hσ hw es) (k_rise r z σ w e hσ hw es π hπ) (omega arith) (omega arith)
