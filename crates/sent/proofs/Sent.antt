-- A float's grid number is at most half a step from its exact value, and the greater of two floats has the greater of their grid numbers: so a reading
-- that the panel accepts stands beside its point, at its own pressure and under one in common. Assumes nothing.
use Prim.Native.Nat.{ℕ, ◌*◌, ◌/◌, ◌≤◌, ◌<◌}
use mathlib.Core.Path.{◌≡◌, sym, ap, subst, ◌∙◌}
use mathlib.Core.Bool.{Bool, true, false, not, cond, ◌&&◌}
use native.Mathlib.Omega.{arith}
use native.Mathlib.Nat.{mul-le-mul_right, mul-pos}
use lib.Dec.{T, ltb→lt, le→leb}
use lib.IntN.{ℤ, pos, negsuc, ◌-ℤ◌, ◌*ℤ◌}
use lib.Signed.{le_z, lt_z, ◌≤ℤ◌, le_z_yes, lt_z_no, ≤ℤ_refl}
use lib.Ieee.{Float}
use lib.Ieee.Fits.{and_l, and_r}
use Rattle.whole.specs.Arith.{plus, minus, root_of}
use Rattle.whole.specs.Fraction.{Frac, over, units, ◌≤F◌, ◌⊕◌}
use Rattle.whole.proofs.Ints.{of_≤ℤ, above_plus, sub_is}
use Rattle.whole.proofs.Near.{Near, times_is, sum_is, to_≤F}
use Rattle.sea.specs.Sizes.{OnTable}
use Rattle.sea.proofs.Grid.{natural}
use Rattle.floats.specs.Grid.{finite, numer, denom, inside, grid_no, AtMost}
use Rattle.floats.proofs.Order as order
use Rattle.readings.specs.Check.{salinities}
use Rattle.readings.specs.declared.Reading.{Reading}
use Rattle.readings.specs.declared.Point.{Point}
use Rattle.readings.specs.Entry.{message}
use Rattle.panel.specs.Panel.{common, shown_under, shared_of}
use Rattle.panel.proofs.Answers.{accepted_inside}
use Rattle.panel.proofs.Needles.{value_is}
use Rattle.panel.proofs.Sizes.{accepted_table}
use Rattle.promises.specs.Formula.{grid}
use Rattle.promises.proofs.Needle.{to_within, difference_within, heavier}
use Rattle.pledges.specs.Pledges.{Shows}
use Rattle.pledges.proofs.Pledges as pledge
use Rattle.drift.specs.Drift.{HalfStep, RootOf, Beside}
use Rattle.drift.proofs.Root.{root_there}
use Rattle.drift.proofs.Shown.{beside_shown}
use Rattle.sent.specs.Sent.{value_by, v_of, u_of, q_of, sent_under, sent_at, greater, common_sent, Compares, SentWithin, SentToRight, SentToLeft, SentNear}

-- ---- half a step, on a grid of k steps to 1, of which 100,000 make c
rounds : (k c : ℕ) (x : Float) → c * k ≡ 100_000 → 0 < c → HalfStep (grid (grid_no k x)) (value_by c x)
unfolding units ◌⊕◌
rounds k c x e c0 =
    let n = numer x in
    let G = grid (grid_no k x) in
    let h = over 1 200_000 in
    let p = ap (plus n *◌) e in
    let m = ap (minus n *◌) e in
    record {
      fraction = mul-pos c0 (order.denom_pos x);
      upper = to_≤F (value_by c x) (G ⊕ h) (omega (arith, ap (◌* (c * denom x)) (sum_is G h), mul-le-mul_right c (order.high k x), p, m));
      lower = to_≤F G (value_by c x ⊕ h) (omega (arith, sum_is (value_by c x) h, mul-le-mul_right c (order.low k x), p, m));
    }

-- ---- the greater of two floats: one of the two, and no less than either
below : (a b : ℤ) → T (lt_z a b) → a ≤ℤ b
below (pos a) (pos b) h = le_z_yes (le→leb a b (omega (arith, ltb→lt a b h)))
below (pos a) (negsuc b) h = absurd h
below (negsuc a) (pos b) h = le_z_yes tt
below (negsuc a) (negsuc b) h = le_z_yes (le→leb b a (omega (arith, ltb→lt b a h)))

abbrev across : Float → Float → ℤ
across a b = numer a *ℤ pos (denom b)

pub data Greater (a b : Float) : Float → Type 0 where
  first : AtMost b a → Greater a b a
  second : AtMost a b → Greater a b b

pub greater_is : (a b : Float) → Greater a b (greater a b)
greater_is a b = go (lt_z (across a b) (across b a)) (below (across a b) (across b a)) lt_z_no
  where
    go : (t : Bool) → (T t → AtMost a b) → (T (not t) → AtMost b a) → Greater a b (cond t b a)
    go true h g = second (h tt)
    go false h g = first (g tt)

-- the pressure that two readings have in common is no less than either's
pub common_least : (l r : Reading) → (q_of l ≤F common_sent l r) × (q_of r ≤F common_sent l r)
common_least l r = go (greater l.pressure r.pressure) (greater_is l.pressure r.pressure)
  where
    by : (a b : Float) → AtMost a b → value_by 1_000 a ≤F value_by 1_000 b
    by a b h = to_≤F (value_by 1_000 a) (value_by 1_000 b) (omega (arith, of_≤ℤ _ _ h, times_is (numer a) (denom b), times_is (numer b) (denom a)))

    go : (f : Float) → Greater l.pressure r.pressure f → (q_of l ≤F value_by 1_000 f) × (q_of r ≤F value_by 1_000 f)
    go f (first h) = (by l.pressure l.pressure (≤ℤ_refl _), by r.pressure l.pressure h)
    go f (second h) = (by l.pressure r.pressure h, by r.pressure r.pressure (≤ℤ_refl _))

-- ---- a reading that the panel shows a density for
module _ {r : Reading} {d : ℕ} (s : Shows r d) where
  abbrev p : Point
  p = s.point

  table : OnTable p.sigma p.tau p.pi
  table = accepted_table (message s.probe s.report) p d s.bulk s.remarks (sym s.channel_is)

  σ_is : grid_no 1000 r.salinity ≡ pos (plus p.sigma)
  σ_is = sym (pledge.gridded r d s).sigma_is ∙ (natural table.salinity).is

  π_is : grid_no 100 r.pressure ≡ pos (plus p.pi)
  π_is = sym (pledge.gridded r d s).pi_is ∙ (natural table.pressure).is

  -- under the pressure of any float that has a grid number of the table
  pub beside : (f : Float) (π : ℕ) (x : Frac) → grid_no 100 f ≡ pos π → π ≤ 100_000 → RootOf (v_of r) x → Beside (plus p.sigma) p.tau π (v_of r) x (u_of r) (value_by 1_000 f)
  beside f π x e h v =
      let g = pledge.on_grid (message s.probe s.report) p d s.bulk s.remarks s.channel_is in
      record {
        on_grid = record { salt = g.salt; cold = g.cold; warm = g.warm; deep = h };
        salinity = subst (λ (z : ℤ). HalfStep (grid z) (v_of r)) σ_is (rounds 1000 100 r.salinity (omega arith) (omega arith));
        temperature = subst (λ (z : ℤ). HalfStep (grid z) (u_of r)) (sym (pledge.gridded r d s).tau_is) (rounds 1000 100 r.temperature (omega arith) (omega arith));
        pressure = subst (λ (z : ℤ). HalfStep (grid z) (value_by 1_000 f)) e (rounds 100 1_000 f (omega arith) (omega arith));
        root = v;
      }

  near_under : (f : Float) (π : ℕ) (x : Frac) → grid_no 100 f ≡ pos π → π ≤ 100_000 → RootOf (v_of r) x → Near 10_000 (sent_under (value_by 1_000 f) r x) (pos (10 * shown_under π p)) 14 14
  near_under f π x e h v = beside_shown (plus p.sigma) p.tau π (v_of r) x (u_of r) (value_by 1_000 f) (beside f π x e h v)

  near_own : (x : Frac) → RootOf (v_of r) x → Near 10_000 (sent_at r x) (pos (10 * shown_under (plus p.pi) p)) 14 14
  near_own x v = near_under r.pressure (plus p.pi) x π_is (natural table.pressure).most v

pub shown_within : SentWithin
shown_within r d x s v =
    rw (pledge.shows (message s.probe s.report) s.point d s.bulk s.remarks s.channel_is).density_is (to_within (omega arith) (omega arith) (omega arith) (near_own s x v))

-- the formula's density there is a fraction: its lower number is above 0, and so K is above P
pub sent_fraction : (r : Reading) (d : ℕ) (x : Frac) → Shows r d → RootOf (v_of r) x → 0 < (sent_at r x).den
sent_fraction r d x s v = (near_own s x v).above

-- ---- two of them, under the greater of the pressures sent
module _ (l r : Reading) (z : ℤ) (c : Compares l r z) where
  abbrev π : ℕ
  π = common c.left.point c.right.point

  π_small : π ≤ 100_000
  π_small = omega (arith, (natural (table c.left).pressure).most, (natural (table c.right).pressure).most)

  -- which has the greater of the grid pressures: rounding keeps the order
  common_is : grid_no 100 (greater l.pressure r.pressure) ≡ pos π
  common_is = go (greater l.pressure r.pressure) (greater_is l.pressure r.pressure)
    where
      more : (a b : Float) → AtMost a b → plus (grid_no 100 a) ≤ plus (grid_no 100 b)
      more a b h = above_plus (grid_no 100 a) (grid_no 100 b) (of_≤ℤ _ _ (order.grid_order 100 a b h))

      go : (f : Float) → Greater l.pressure r.pressure f → grid_no 100 f ≡ pos π
      go f (first h) = π_is c.left ∙ ap pos (omega (arith, more r.pressure l.pressure h, ap plus (π_is c.left), ap plus (π_is c.right)))
      go f (second h) = π_is c.right ∙ ap pos (omega (arith, more l.pressure r.pressure h, ap plus (π_is c.left), ap plus (π_is c.right)))

  needle_is : z ≡ pos (shown_under π c.right.point) -ℤ pos (shown_under π c.left.point)
  needle_is =
      value_is (shared_of (message c.left.probe c.left.report) (message c.right.probe c.right.report)) z
      (sym c.left.channel_is) (sym c.right.channel_is) (sym c.needle_is)

  left_near : (x : Frac) → RootOf (v_of l) x → Near 10_000 (sent_under (common_sent l r) l x) (pos (10 * shown_under π c.left.point)) 14 14
  left_near x v = near_under c.left (greater l.pressure r.pressure) π x common_is π_small v

  right_near : (y : Frac) → RootOf (v_of r) y → Near 10_000 (sent_under (common_sent l r) r y) (pos (10 * shown_under π c.right.point)) 14 14
  right_near y v = near_under c.right (greater l.pressure r.pressure) π y common_is π_small v

pub common_fractions : (l r : Reading) (z : ℤ) (x y : Frac) → Compares l r z → RootOf (v_of l) x → RootOf (v_of r) y → (0 < (sent_under (common_sent l r) l x).den) × (0 < (sent_under (common_sent l r) r y).den)
common_fractions l r z x y c v w = ((left_near l r z c x v).above, (right_near l r z c y w).above)

pub right_heavier : SentToRight
right_heavier l r z x y c v w three =
    let a = shown_under (π l r z c) c.left.point in
    let b = shown_under (π l r z c) c.right.point in
    let k = rw (needle_is l r z c) at three in
    heavier a b 14 (left_near l r z c x v) (right_near l r z c y w) 3 (omega (arith, of_≤ℤ _ _ k, sub_is (pos b) (pos a))) (omega arith)

pub left_heavier : SentToLeft
left_heavier l r z x y c v w three =
    let a = shown_under (π l r z c) c.left.point in
    let b = shown_under (π l r z c) c.right.point in
    let k = rw (needle_is l r z c) at three in
    heavier b a 14 (right_near l r z c y w) (left_near l r z c x v) 3 (omega (arith, of_≤ℤ _ _ k, sub_is (pos b) (pos a))) (omega arith)

pub needle_within : SentNear
needle_within l r z x y c v w =
    rw (needle_is l r z c) (difference_within (shown_under (π l r z c) c.left.point) (shown_under (π l r z c) c.right.point) 14 (left_near l r z c x v) (right_near l r z c y w) (omega arith))

-- ---- every reading that the panel shows a density for has a fraction to put in place of its root
salty : (x : Float) → T (inside salinities x) → (over 0 1 ≤F value_by 100 x) × (value_by 100 x ≤F over 1 1)
unfolding inside
salty x i =
    let v = numer x *ℤ pos 1000 in
    let d = denom x in
    let hi = pos 42_000 *ℤ pos d in
    let b = and_r (finite x) (le_z (pos 0 *ℤ pos d) v && le_z v hi) i in
    let l = of_≤ℤ (pos 0 *ℤ pos d) v (le_z_yes (and_l (le_z (pos 0 *ℤ pos d) v) (le_z v hi) b)) in
    let h = of_≤ℤ v hi (le_z_yes (and_r (le_z (pos 0 *ℤ pos d) v) (le_z v hi) b)) in
    let t = times_is (numer x) 1000 in
    (to_≤F (over 0 1) (value_by 100 x) (omega (arith, l, t, times_is (pos 0) d)), to_≤F (value_by 100 x) (over 1 1) (omega (arith, h, t, times_is (pos 42_000) d)))

abbrev pub root_sent : Reading → Frac
root_sent r = over (root_of (100_000_000_000_000 * plus (numer r.salinity) / (100 * denom r.salinity))) 10_000_000

pub root_sent_lem : {r : Reading} {d : ℕ} → Shows r d → RootOf (v_of r) (root_sent r)
root_sent_lem {r} {d} s =
    let e = salty r.salinity (accepted_inside s.probe s.report r s.point d s.bulk s.remarks s.reading_is (sym s.channel_is)) in
    root_there (v_of r) (omega (arith, order.denom_pos r.salinity)) e.0 e.1
