-- A cell of the range: x, v, u and q each in a box, and moved one after the other. How far the density moves in all is computed from the boxes
-- alone. Assumes nothing.
use Prim.Native.Nat.{ℕ, ◌+◌, ◌*◌, ◌<◌}
use mathlib.Core.Bool.{Bool, cond, false}
use native.Mathlib.Omega.{arith}
use lib.Dec.{T, leb, leb→le}
use lib.IntN.{ℤ}
use Rattle.whole.specs.Arith.{plus}
use Rattle.whole.specs.Order.{Box}
use Rattle.whole.specs.Fraction.{Frac}
use Rattle.whole.proofs.Interval.{both}
use Rattle.whole.proofs.Near.{Near, near_wider}
use Rattle.promises.specs.Formula.{density_at}
use Rattle.drift.proofs.Slopes.{Course, still, moving, inverse, Stands, Apart, steepest, runs_still, runs_here, runs_inverse, near_moved}
use Rattle.drift.proofs.Course.{surface_c, pressure_c, net_c, gained_c, density_c, gained_at, runs_surface, runs_bulk, runs_net, runs_density, to_gained, of_gained}

-- ---- the test
-- one of the four moves by at most n, in 10⁻⁷: K is above P all the way, and `rest` is told how far the density moves, in 10⁻¹⁶
unfoldable pub leg : ℕ → Course → Course → Course → (ℕ → Bool) → Bool
leg n D P N rest = cond (leb 1 (plus N.box.lo)) (rest (steepest (gained_c D P N).slope * n)) false

unfoldable pub leg_of : ℕ → Course → Course → Course → Course → (ℕ → Bool) → Bool
leg_of n v x u q rest = leg n (surface_c v x u) (pressure_c q) (net_c v x u q) rest

-- the root moves by at most `far`, and v, u and q by half a step, 50: together the density moves by at most 858, in 10⁻⁶
unfoldable pub held : Box → Box → Box → Box → ℕ → Bool
held v x u q far =
    leg_of far (still v) (moving x) (still u) (still q)
    (λ a. leg_of 50 (moving v) (still x) (still u) (still q)
    (λ b. leg_of 50 (still v) (still x) (moving u) (still q)
    (λ c. leg_of 50 (still v) (still x) (still u) (moving q) (λ d. leb (a + b + c + d) 8_580_000_000_000))))

-- ---- what it shows
record Leg (n : ℕ) (v x u q : Course) (rest : ℕ → Bool) : Type 0 where
  firm : 0 < plus (net_c v x u q).box.lo
  next : T (rest (steepest (density_c v x u q).slope * n))

leg_is : (n : ℕ) (v x u q : Course) (rest : ℕ → Bool) → T (leg_of n v x u q rest) → Leg n v x u q rest
unfolding leg_of leg
leg_is n v x u q rest h =
    let k = both (leb 1 (plus (net_c v x u q).box.lo)) (rest (steepest (density_c v x u q).slope * n)) h in
    record { firm = leb→le 1 (plus (net_c v x u q).box.lo) k.0; next = k.1 }

-- from f to g, both in a box and at most n apart, in 10⁻⁷
pub record Step (b : Box) (n : ℕ) (f g : Frac) : Type 0 where
  pub from : Stands b f
  pub to : Stands b g
  pub apart : Apart 10_000_000 n f g

module _
    (bv bx bu bq : Box) (far : ℕ) (h : T (held bv bx bu bq far)) {v v' x x' u u' q q' : Frac}
    (sv : Step bv 50 v v') (sx : Step bx far x x') (su : Step bu 50 u u') (sq : Step bq 50 q q') where
  pub cell_near : {r : ℤ} {a b : ℕ} → Near 10_000_000_000_000_000 (density_at v x u q) r a b →
      Near 10_000_000_000_000_000 (density_at v' x' u' q') r (a + 8_580_000_000_000) (b + 8_580_000_000_000)
  unfolding held inverse
  cell_near {r} {a} {b} n0 =
      let l1 = leg_is far (still bv) (moving bx) (still bu) (still bq) _ h in
      let l2 = leg_is 50 (moving bv) (still bx) (still bu) (still bq) _ l1.next in
      let l3 = leg_is 50 (still bv) (still bx) (moving bu) (still bq) _ l2.next in
      let l4 = leg_is 50 (still bv) (still bx) (still bu) (moving bq) _ l3.next in
      let a1 = steepest (density_c (still bv) (moving bx) (still bu) (still bq)).slope * far in
      let a2 = steepest (density_c (moving bv) (still bx) (still bu) (still bq)).slope * 50 in
      let a3 = steepest (density_c (still bv) (still bx) (moving bu) (still bq)).slope * 50 in
      let a4 = steepest (density_c (still bv) (still bx) (still bu) (moving bq)).slope * 50 in
      let small = leb→le (a1 + a2 + a3 + a4) 8_580_000_000_000 l4.next in
      let start = runs_here sx.from in
      let stop = runs_here sq.to in
      let firm = (runs_inverse (runs_net (runs_still sv.from) start (runs_still su.from) (runs_still sq.from)) l1.firm).from.above in
      let firm' = (runs_inverse (runs_net (runs_still sv.to) (runs_still sx.to) (runs_still su.to) stop) l4.firm).from.above in
      let n1 = to_gained v x u q firm (runs_density (runs_still sv.from) start (runs_still su.from) (runs_still sq.from) l1.firm).from.above n0 in
      let n2 = near_moved (λ f. gained_at v f u q) (λ M H f g i. runs_density (runs_still sv.from) i (runs_still su.from) (runs_still sq.from) l1.firm) x x' sx.from sx.to sx.apart n1 in
      let n3 = near_moved (λ f. gained_at f x' u q) (λ M H f g i. runs_density i (runs_still sx.to) (runs_still su.from) (runs_still sq.from) l2.firm) v v' sv.from sv.to sv.apart n2 in
      let n4 = near_moved (λ f. gained_at v' x' f q) (λ M H f g i. runs_density (runs_still sv.to) (runs_still sx.to) i (runs_still sq.from) l3.firm) u u' su.from su.to su.apart n3 in
      let n5 = near_moved (λ f. gained_at v' x' u' f) (λ M H f g i. runs_density (runs_still sv.to) (runs_still sx.to) (runs_still su.to) i l4.firm) q q' sq.from sq.to sq.apart n4 in
      let D0 = (runs_surface (runs_still sv.to) (runs_still sx.to) (runs_still su.to) stop).from.above in
      let K0 = (runs_bulk (runs_still sv.to) (runs_still sx.to) (runs_still su.to) stop).from.above in
      near_wider (a + 8_580_000_000_000) (b + 8_580_000_000_000) (omega arith) (omega arith) (of_gained v' x' u' q' firm' D0 K0 n5)
