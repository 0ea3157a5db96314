-- What is shown against the formula at what was sent: on the grid the density before rounding is at most 42 from the formula's, in 10⁻⁶; from there
-- to what was sent the formula moves by at most 858; rounding to 0.001 adds 500. Assumes nothing.
use Prim.Native.Nat.{ℕ, ◌+◌, ◌*◌, ◌-◌, max, ◌≤◌}
use mathlib.Core.Path.{ap}
use native.Mathlib.Omega.{arith}
use native.Mathlib.Nat.{mul-le-mul_right}
use lib.Dec.{T, leb, leb→le}
use lib.IntN.{ℤ, pos}
use Rattle.whole.specs.Arith.{plus, minus}
use Rattle.whole.specs.Order.{Box}
use Rattle.whole.specs.Fraction.{Frac, over, units, ◌⊕◌}
use Rattle.whole.proofs.Ints.{sub_is}
use Rattle.whole.proofs.Interval.{both}
use Rattle.whole.proofs.Near.{Near, sum_is, of_≤F}
use Rattle.whole.proofs.Roots.{root_below}
use Rattle.sea.specs.Recipe.{rows_at, root_at, surface, bulk_of, density, shown_of, shown_at}
use Rattle.promises.specs.Formula.{grid, density_at, density_f}
use Rattle.promises.proofs.Grid as grid
use Rattle.promises.proofs.Close.{near_shown}
use Rattle.promises.proofs.Needle.{to_within}
use Rattle.drift.specs.Drift.{HalfStep, Beside, ShownBeside}
use Rattle.drift.proofs.Slopes.{Stands, near_on}
use Rattle.drift.proofs.Root.{Far, root_beside}
use Rattle.drift.proofs.Cell.{Step, cell_near}
use Rattle.drift.proofs.Cover.{around, around_root, far_from, between, found, depths, salts, warmths, at_depth, at_root, at_salt, at_warmth, all_held}

-- ---- the grid number z, from l − o to h − o, and what is half a step from it: 50 in 10⁻⁷
step_of : (o l h : ℕ) (z : ℤ) (f : Frac) → l + minus z ≤ plus z + o → plus z + o ≤ h + minus z → HalfStep (grid z) f → Step (around o l h) 50 (grid z) f
unfolding units around ◌⊕◌
step_of o l h z f low high s =
    let d = f.den in
    let e = over 1 200_000 in
    let x = sub_is (pos (10_000 * l)) (pos (10_000 * (o + 1))) in
    let y = sub_is (pos (10_000 * (h + 1))) (pos (10_000 * o)) in
    let down : 2 * plus z * d + 200_000 * minus f.num ≤ 200_000 * plus f.num + 2 * minus z * d + d = omega (arith, of_≤F (grid z) (f ⊕ e) s.lower, sum_is f e) in
    let up : 200_000 * plus f.num + 2 * minus z * d ≤ 2 * plus z * d + 200_000 * minus f.num + d = omega (arith, of_≤F f (grid z ⊕ e) s.upper, ap (◌* d) (sum_is (grid z) e)) in
    record {
      from = record { above = omega arith; lies = record { low = omega (arith, x); high = omega (arith, y) } };
      to = record { above = s.fraction; lies = record { low = omega (arith, down, ap (◌* d) x, mul-le-mul_right d low); high = omega (arith, up, ap (◌* d) y, mul-le-mul_right d high) } };
      apart = record { up = omega (arith, up); down = omega (arith, down) };
    }

-- a fraction near r, in 10⁻⁷, stands in a box that reaches as far
stands : {f : Frac} {r a b : ℕ} (B : Box) → Near 10_000_000 f (pos r) a b → plus B.lo + 100 * a ≤ 100 * r + minus B.lo → 100 * r + 100 * b + minus B.hi ≤ plus B.hi → Stands B f
stands {f} B n l h =
    let d = f.den in
    record { above = n.above; lies = record { low = omega (arith, n.low, mul-le-mul_right d l); high = omega (arith, n.high, mul-le-mul_right d h) } }

-- ---- a reading, and what was sent beside it
module _ (σ : ℕ) (τ : ℤ) (π : ℕ) (v x u q : Frac) (b : Beside σ τ π v x u q) where
  -- the density before rounding, in 10⁻⁶
  before : ℕ
  before = density (surface (rows_at τ) σ (root_at σ)) (bulk_of (rows_at τ) σ (root_at σ) π) π

  -- in a cell of the range
  in_cell : (sl sh tl th πl πh : ℕ) → sl ≤ σ → σ ≤ sh → sh ≤ 42_000 → tl + minus τ ≤ plus τ + 2_000 → plus τ + 2_000 ≤ th + minus τ → πl ≤ π → π ≤ πh →
      Far (root_at sl) (far_from (root_at sl)) → T (at_depth sl sh (root_at sl) (root_at sh) (far_from (root_at sl)) tl th πl πh) → Near 1_000_000 (density_at v x u q) (pos before) 900 900
  unfolding before density_f around_root units at_depth
  in_cell sl sh tl th πl πh s-low s-high s-top t-low t-high π-low π-high enough test =
      let g = b.on_grid in
      let w = root_at σ in
      let wl = root_at sl in
      let wh = root_at sh in
      let far = far_from wl in
      let root = grid.root σ g.salt in
      let least : wl ≤ w = root_below wl w (sl * 100_000) (grid.root sl (omega (arith, g.salt))) (omega (arith, root.high)) in
      let most : w ≤ wh = root_below w wh (σ * 100_000) root (omega (arith, (grid.root sh s-top).high)) in
      let sv = step_of 0 sl sh (pos σ) v (omega arith) (omega arith) b.salinity in
      let at-σ : Near 10_000_000 (grid (pos σ)) (pos (100 * σ)) 0 0 = record { above = omega arith; low = omega arith; high = omega arith } in
      let r = root_beside σ wl far root least enough (near_on b.salinity.fraction at-σ sv.apart) b.root in
      let n = grid.rooted_near σ r.on_grid r.rooted in
      let at-w : Near 10_000_000 r.on_grid (pos (100 * w)) 0 100 = record { above = n.above; low = omega (arith, n.low); high = omega (arith, n.high) } in
      let d = sub_is (pos (10_000 * wl)) (pos (100 * far)) in
      let sx : Step (around_root wl wh far) far r.on_grid x =
      record {
        from = stands (around_root wl wh far) at-w (omega (arith, d)) (omega arith);
        to = stands (around_root wl wh far) (near_on b.root.fraction at-w r.apart) (omega (arith, d)) (omega arith);
        apart = r.apart;
      } in
      let m = grid.density_at_near g r.on_grid r.rooted in
      let start : Near 10_000_000_000_000_000 (density_at (grid (pos σ)) r.on_grid (grid τ) (grid (pos π))) (pos (10_000_000_000 * before)) 400_000_000_000 420_000_000_000 =
      record { above = m.above; low = omega (arith, m.low); high = omega (arith, m.high) } in
      let stop =
      cell_near (around 0 sl sh) (around_root wl wh far) (around 2_000 tl th) (around 0 πl πh) far test sv sx
      (step_of 2_000 tl th τ u t-low t-high b.temperature) (step_of 0 πl πh (pos π) q (omega arith) (omega arith) b.pressure) start in
      record { above = stop.above; low = omega (arith, stop.low); high = omega (arith, stop.high) }

  beside_near : Near 1_000_000 (density_at v x u q) (pos before) 900 900
  unfolding at_warmth at_salt at_root
  beside_near =
      let g = b.on_grid in
      let warm = grid.warmth g in
      let t = found at_warmth (plus τ + 2_000 - minus τ) 0 3_500 warmths all_held (omega arith) (omega (arith, warm.up)) in
      let s = found (at_salt t.from t.to) σ 0 200 salts t.test (omega arith) g.salt in
      let w = root_at s.from in
      let far = far_from w in
      let i = both (leb s.to 42_000) (at_root s.from s.to w (root_at s.to) far t.from t.to) s.test in
      let j = both (leb 500_000_001 (far * max far (200 * w - far))) (between (at_depth s.from s.to w (root_at s.to) far t.from t.to) 0 40_000 depths) i.1 in
      let p = found (at_depth s.from s.to w (root_at s.to) far t.from t.to) π 0 40_000 depths j.1 (omega arith) g.deep in
      in_cell s.from s.to t.from t.to p.from p.to s.low s.high (leb→le s.to 42_000 i.0)
      (counted τ t.from warm.down t.low) (counted_to τ t.to t.high) p.low p.high (leb→le 500_000_001 (far * max far (200 * w - far)) j.0) p.test
    where
      counted : (τ : ℤ) (l : ℕ) → minus τ ≤ 2_000 → l ≤ plus τ + 2_000 - minus τ → l + minus τ ≤ plus τ + 2_000
      counted τ l h k = omega arith

      counted_to : (τ : ℤ) (h : ℕ) → plus τ + 2_000 - minus τ ≤ h → plus τ + 2_000 ≤ h + minus τ
      counted_to τ h k = omega arith

  -- the shown density, said in 10⁻⁴
  pub beside_shown : Near 10_000 (density_at v x u q) (pos (10 * shown_at σ τ π)) 14 14
  unfolding shown_at shown_of before
  beside_shown = near_shown (surface (rows_at τ) σ (root_at σ)) (bulk_of (rows_at τ) σ (root_at σ) π) π 14 beside_near (omega arith) (omega arith)

pub shown_beside : ShownBeside
shown_beside σ τ π v x u q b = to_within (omega arith) (omega arith) (omega arith) (beside_shown σ τ π v x u q b)
