-- One step of pressure: K rises by 0.04 bar at most, N by 0.03, and what that takes from the density is less than what the
-- pressure adds. Assumes nothing.
use Prim.Native.Nat.{ℕ, suc, ◌+◌, ◌≤◌, ◌<◌}
use native.Mathlib.Omega.{arith}
use native.Mathlib.Nat.{mul-le-mul_right}
use lib.IntN.{ℤ, pos, ◌+ℤ◌}
use Rattle.whole.specs.Arith.{plus, minus, scaled}
use Rattle.whole.proofs.Ints.{add_is}
use Rattle.sea.specs.declared.Rows.{Rows}
use Rattle.sea.specs.Recipe.{surface, K0, A, B, bulk, bulk_of, shown_of}
use Rattle.sea.specs.Sizes.{Sizes}
use Rattle.sea.proofs.Sizes.{KSize, k_size, inner_high, ranges}
use Rattle.promises.proofs.Rise.{Rise, rise_none, rise_under, rise_scaled, shown_rises, rising}

k_step : (k a b : ℤ) → KSize k a b → (π : ℕ) → π < 100_000 → Rise (bulk k a b π) (bulk k a b (suc π)) (pos 40_000_000)
unfolding bulk
k_step k a b z π h =
    let c = a +ℤ scaled b (pos π) in
    let c' = a +ℤ scaled b (pos (suc π)) in
    let i = inner_high b (suc π) h z.b_high in
    let j : plus c' ≤ 3_793_000_000_000 + minus c' = omega (arith, (add_is a (scaled b (pos (suc π)))).is, z.a_high) in
    let e : Rise c c' (pos 1_530_000) = rise_under a (rise_scaled b b π (suc π) (pos 1_530_000) (omega (arith, z.b_high))) in
    rise_under k (rise_scaled c c' π (suc π) (pos 40_000_000) (omega (arith, mul-le-mul_right π e.most)))

module _ (r : Rows) (z : Sizes r) (σ w : ℕ) (hσ : σ ≤ 42_000) (hw : w ≤ 64_807) where
  pub pressure_step : (π : ℕ) → π < 100_000 → shown_of r σ w π ≤ shown_of r σ w (suc π)
  unfolding shown_of
  pressure_step π h =
      let d = surface r σ w in
      let k = bulk_of r σ w π in
      let k' = bulk_of r σ w (suc π) in
      let g = ranges r z σ w hσ hw π (omega arith) in
      let g' = ranges r z σ w hσ hw (suc π) h in
      let e : Rise k k' (pos 40_000_000) = unfold bulk_of in k_step (K0 r σ w) (A r σ w) (B r σ) (k_size r z σ w hσ hw) π h in
      shown_rises d k π d k' (suc π) g g' (pos 40_000_000) 3_000 0 (rise_none d) e (omega arith) (omega (arith, g.mass_low))

  -- more pressure never shows a lower density
  pub pressure_rising : (π π' : ℕ) → π ≤ π' → π' ≤ 100_000 → shown_of r σ w π ≤ shown_of r σ w π'
  pressure_rising = rising (λ π. shown_of r σ w π) 100_000 pressure_step
