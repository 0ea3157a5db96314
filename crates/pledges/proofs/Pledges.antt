-- Demand 3 of what the public calls return: an accepted channel shows the recipe's numbers at a point of the grid, of which the
-- promises speak, and the point keeps the order of the floats. Assumes nothing.
use Prim.Native.Nat.{ℕ, ◌≤◌}
use mathlib.Core.Path.{◌≡◌, sym, ◌∙◌, subst}
use native.Mathlib.Omega.{arith}
use lib.IntN.{ℤ, pos, ◌-ℤ◌}
use lib.Signed.{◌≤ℤ◌}
use lib.Ieee.{Float}
use Rattle.whole.specs.Arith.{plus}
use Rattle.whole.specs.Fraction.{Frac}
use Rattle.whole.proofs.Ints.{of_≤ℤ, above_plus}
use Rattle.sea.specs.Recipe.{shown_at}
use Rattle.sea.proofs.Answers.{Shown}
use Rattle.sea.proofs.Grid.{natural}
use Rattle.floats.specs.Grid.{grid_no, AtMost, Same}
use Rattle.floats.proofs.Order.{grid_order, grid_same}
use Rattle.readings.specs.declared.Reading.{Reading}
use Rattle.readings.specs.declared.Point.{Point}
use Rattle.readings.specs.declared.Remarks.{Remarks}
use Rattle.readings.proofs.Reasons.{Gridded}
use Rattle.readings.specs.Entry.{Entry, message}
use Rattle.channels.specs.Answer.{channel_at}
use Rattle.panel.specs.Panel.{channel_of, common, shown_under, shared_of}
use Rattle.panel.proofs.Answers.{accepted_gridded}
use Rattle.panel.proofs.Needles.{value_is}
use Rattle.panel.proofs.Sizes.{accepted_shows, accepted_table}
use Rattle.promises.specs.Promises.{OnGrid, Sample, Close}
use Rattle.promises.proofs.Promises as promise
use Rattle.pledges.specs.Pledges.{formula_at, AnswerWithin, AnswerStiffer, Shows, SaltierReading, DeeperReading, Sides, NeedleToRight, NeedleToLeft, NeedleNear}

-- an accepted channel's point, in the promises' words
pub on_grid : (e : Entry) (p : Point) (d k : ℕ) (m : Remarks) → channel_at p d k m ≡ channel_of e → OnGrid (plus p.sigma) p.tau (plus p.pi)
on_grid e p d k m h =
    let t = accepted_table e p d k m (sym h) in
    record { salt = (natural t.salinity).most; cold = t.temperature.low; warm = t.temperature.high; deep = (natural t.pressure).most }

pub shows : (e : Entry) (p : Point) (d k : ℕ) (m : Remarks) → channel_at p d k m ≡ channel_of e → Shown p.sigma p.tau p.pi d k
shows e p d k m h = accepted_shows e p d k m (sym h)

pub shown_within : AnswerWithin
shown_within e p d k m x h v =
    subst (λ (n : ℕ). Close n (formula_at p x)) (sym (shows e p d k m h).density_is) (promise.within (plus p.sigma) p.tau (plus p.pi) x (on_grid e p d k m h) v)

pub stiffer_than_pressure : AnswerStiffer
stiffer_than_pressure e p d k m h = (shows e p d k m h).bulk_low

more : {a b : ℤ} → a ≤ℤ b → plus a ≤ plus b
more {a} {b} h = above_plus a b (of_≤ℤ a b h)

-- of points: the floats' order is the grid numbers'
saltier_at :
    (e f : Entry) (p q : Point) (d k c j : ℕ) (m n : Remarks) → channel_at p d k m ≡ channel_of e → channel_at q c j n ≡ channel_of f →
    p.tau ≡ q.tau → p.pi ≡ q.pi → p.sigma ≤ℤ q.sigma → d ≤ c
saltier_at e f p q d k c j m n h i t π s =
    let g = on_grid e p d k m h in
    let g' : OnGrid (plus q.sigma) p.tau (plus p.pi) = rw (t, π) (on_grid f q c j n i) in
    let l : c ≡ shown_at (plus q.sigma) p.tau (plus p.pi) = (shows f q c j n i).density_is ∙ rw (t, π) in
    omega (arith, (shows e p d k m h).density_is, l, promise.saltier (plus p.sigma) (plus q.sigma) p.tau (plus p.pi) g g' (more s))

deeper_at :
    (e f : Entry) (p q : Point) (d k c j : ℕ) (m n : Remarks) → channel_at p d k m ≡ channel_of e → channel_at q c j n ≡ channel_of f →
    p.sigma ≡ q.sigma → p.tau ≡ q.tau → p.pi ≤ℤ q.pi → d ≤ c
deeper_at e f p q d k c j m n h i s t π =
    let g = on_grid e p d k m h in
    let g' : OnGrid (plus p.sigma) p.tau (plus q.pi) = rw (s, t) (on_grid f q c j n i) in
    let l : c ≡ shown_at (plus p.sigma) p.tau (plus q.pi) = (shows f q c j n i).density_is ∙ rw (s, t) in
    omega (arith, (shows e p d k m h).density_is, l, promise.deeper (plus p.sigma) p.tau (plus p.pi) (plus q.pi) g g' (more π))

pub gridded : (x : Reading) (d : ℕ) (a : Shows x d) → Gridded x a.point
gridded x d a = accepted_gridded a.probe a.report x a.point d a.bulk a.remarks a.reading_is (sym a.channel_is)

number_same : (k : ℕ) (u v : Float) (m n : ℤ) → m ≡ grid_no k u → n ≡ grid_no k v → Same u v → m ≡ n
number_same k u v m n e f h = e ∙ grid_same k u v h ∙ sym f

number_order : (k : ℕ) (u v : Float) (m n : ℤ) → m ≡ grid_no k u → n ≡ grid_no k v → AtMost u v → m ≤ℤ n
number_order k u v m n e f h = rw (e, f) (grid_order k u v h)

pub saltier : SaltierReading
saltier x y d c a b t p s =
    let g = gridded x d a in
    let h = gridded y c b in
    saltier_at (message a.probe a.report) (message b.probe b.report) a.point b.point d a.bulk c b.bulk a.remarks b.remarks a.channel_is b.channel_is
    (number_same 1000 x.temperature y.temperature _ _ g.tau_is h.tau_is t)
    (number_same 100 x.pressure y.pressure _ _ g.pi_is h.pi_is p)
    (number_order 1000 x.salinity y.salinity _ _ g.sigma_is h.sigma_is s)

pub deeper : DeeperReading
deeper x y d c a b s t p =
    let g = gridded x d a in
    let h = gridded y c b in
    deeper_at (message a.probe a.report) (message b.probe b.report) a.point b.point d a.bulk c b.bulk a.remarks b.remarks a.channel_is b.channel_is
    (number_same 1000 x.salinity y.salinity _ _ g.sigma_is h.sigma_is s)
    (number_same 1000 x.temperature y.temperature _ _ g.tau_is h.tau_is t)
    (number_order 100 x.pressure y.pressure _ _ g.pi_is h.pi_is p)

-- ---- the needle
module _ (p q : Point) (x y : Frac) (z : ℤ) (r : Sides p q x y z) where
  left : Sample
  left = record { σ = plus p.sigma; τ = p.tau; π = plus p.pi; x = x; on_grid = on_grid r.left p r.left_density r.left_bulk r.left_remarks r.left_is; rooted = r.left_root }

  right : Sample
  right = record { σ = plus q.sigma; τ = q.tau; π = plus q.pi; x = y; on_grid = on_grid r.right q r.right_density r.right_bulk r.right_remarks r.right_is; rooted = r.right_root }

  -- the needle is the difference of the shown densities under the pressure in common
  needle_is : z ≡ pos (shown_under (common p q) q) -ℤ pos (shown_under (common p q) p)
  needle_is = value_is (shared_of r.left r.right) z (sym r.left_is) (sym r.right_is) (sym r.needle_is)

pub right_heavier : NeedleToRight
unfolding left right
right_heavier p q x y z r h = promise.right_heavier (left p q x y z r) (right p q x y z r) (rw (← needle_is p q x y z r) h)

pub left_heavier : NeedleToLeft
unfolding left right
left_heavier p q x y z r h = promise.left_heavier (left p q x y z r) (right p q x y z r) (rw (← needle_is p q x y z r) h)

pub needle_within : NeedleNear
unfolding left right
needle_within p q x y z r = rw (needle_is p q x y z r) (promise.needle_within (left p q x y z r) (right p q x y z r))
