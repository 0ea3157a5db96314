-- The needle's value: swapping the two turns its sign and keeps its size, only two accepted channels have one, it is 0 for one water at two depths and the
-- difference of what is shown at one depth; and each channel depends on its own reading only. When there is none: proofs/Probes. Assumes nothing.
use Rattle.std.specs.Prelude.{Bool, true, false, Ok, Err}
use Prim.Native.Nat.{ℕ, ◌≤◌}
use mathlib.Core.Path.{◌≡◌, refl, sym, ap}
use native.Mathlib.Omega.{arith}
use lib.IntN.{ℤ, pos, neg_ℤ, nat_abs, ◌-ℤ◌}
use Rattle.whole.specs.Arith.{plus}
use Rattle.whole.proofs.Ints.{same, size_is, sub_is, neg_plus, neg_minus}
use Rattle.readings.specs.declared.Point.{Point}
use Rattle.readings.specs.declared.Remarks.{Remarks}
use Rattle.readings.specs.Entry.{Entry}
use Rattle.channels.specs.Answer.{Channel, channel_at}
use Rattle.channels.specs.declared.Stop.{Stop}
use Rattle.channels.specs.Answer.{Needle}
use Rattle.panel.specs.Panel.{channel_of, common, shown_under, needle_of, comparison_of}
use Rattle.panel.proofs.Sizes.{accepted_shows}

turned : (a b : ℕ) → pos a -ℤ pos b ≡ neg_ℤ (pos b -ℤ pos a)
turned a b = let z = pos b -ℤ pos a in same (pos a -ℤ pos b) (neg_ℤ z) (omega (arith, sub_is (pos a) (pos b), sub_is (pos b) (pos a), neg_plus z, neg_minus z))

-- the pressure in common: no less than either, no more than what both are no more than, and the same either way round
pub common_least : (p q : Point) → (plus p.pi ≤ common p q) × (plus q.pi ≤ common p q)
common_least p q = (omega arith, omega arith)

pub common_most : (p q : Point) (n : ℕ) → plus p.pi ≤ n → plus q.pi ≤ n → common p q ≤ n
common_most p q n h g = omega arith

pub common_either : (p q : Point) → common q p ≡ common p q
common_either p q = omega arith

common_level : (p q : Point) → p.pi ≡ q.pi → common p q ≡ plus p.pi
common_level p q h = let e : plus q.pi ≡ plus p.pi = rw (h) in omega arith

pub taken : {y z : ℤ} → ◌≡◌ {A = Needle} (Ok y) (Ok z) → y ≡ z
taken e = cc

never : {z : ℤ} {s : Stop} → ◌≡◌ {A = Needle} (Err s) (Ok z) → ⊥
never e = cc

-- swapped: the sign turns. The pressure that both are put under is the same, whichever stands left
pub swapped : (l r : Channel) (s : Bool) (z : ℤ) → needle_of l r s ≡ Ok z → needle_of r l s ≡ Ok (neg_ℤ z)
swapped (Ok a) (Ok b) true z e = absurd (never e)
swapped (Ok a) (Ok b) false z e =
    ap Ok (rw (← taken e, common_either a.at b.at) (turned (shown_under (common a.at b.at) a.at) (shown_under (common a.at b.at) b.at)))
swapped (Ok a) (Err x) s z e = absurd (never e)
swapped (Err x) r s z e = absurd (never e)

-- and the size stays
pub swapped_size : (z : ℤ) → nat_abs (neg_ℤ z) ≡ nat_abs z
swapped_size z = omega (arith, size_is z, size_is (neg_ℤ z), neg_plus z, neg_minus z)

-- a needle has a value only if both channels are accepted
pub record Both (l r : Channel) : Type 0 where
  pub left_at : Point
  pub left_density : ℕ
  pub left_bulk : ℕ
  pub left_remarks : Remarks
  pub left_is : l ≡ channel_at left_at left_density left_bulk left_remarks
  pub right_at : Point
  pub right_density : ℕ
  pub right_bulk : ℕ
  pub right_remarks : Remarks
  pub right_is : r ≡ channel_at right_at right_density right_bulk right_remarks

-- and only if no probe stands on both sides
pub value_apart : (l r : Channel) (s : Bool) (z : ℤ) → needle_of l r s ≡ Ok z → s ≡ false
value_apart (Ok a) (Ok b) true z e = absurd (never e)
value_apart (Ok a) (Ok b) false z e = refl
value_apart (Ok a) (Err x) s z e = absurd (never e)
value_apart (Err x) r s z e = absurd (never e)

pub value_accepted : (l r : Channel) (s : Bool) (z : ℤ) → needle_of l r s ≡ Ok z → Both l r
value_accepted (Ok a) (Ok b) s z e =
    record {
      left_at = a.at;
      left_density = a.water.density;
      left_bulk = a.water.bulk;
      left_remarks = a.remarks;
      left_is = refl;
      right_at = b.at;
      right_density = b.water.density;
      right_bulk = b.water.bulk;
      right_remarks = b.remarks;
      right_is = refl;
    }
value_accepted (Ok a) (Err x) s z e = absurd (never e)
value_accepted (Err x) r s z e = absurd (never e)

-- and then it is the difference of the shown densities under the pressure in common
pub value_is :
    {l r : Channel} {p q : Point} {d k c j : ℕ} {m n : Remarks} (s : Bool) (z : ℤ) → l ≡ channel_at p d k m → r ≡ channel_at q c j n →
    needle_of l r s ≡ Ok z → z ≡ pos (shown_under (common p q) q) -ℤ pos (shown_under (common p q) p)
value_is {l} {r} {p} {q} {d} {k} {c} {j} {m} {n} s z e f h = go s (rw (e, f) at h)
  where
    go : (s : Bool) → needle_of (channel_at p d k m) (channel_at q c j n) s ≡ Ok z → z ≡ pos (shown_under (common p q) q) -ℤ pos (shown_under (common p q) p)
    go true h = absurd (never h)
    go false h = sym (taken h)

-- ---- what the hatchery asks
-- the same water at any two depths: a needle of 0
nought : (n : ℕ) → pos n -ℤ pos n ≡ pos 0
nought n = same (pos n -ℤ pos n) (pos 0) (omega (arith, sub_is (pos n) (pos n)))

pub same_water :
    (l r : Channel) (p q : Point) (d k c j : ℕ) (m n : Remarks) → l ≡ channel_at p d k m → r ≡ channel_at q c j n →
    p.sigma ≡ q.sigma → p.tau ≡ q.tau → needle_of l r false ≡ Ok (pos 0)
same_water l r p q d k c j m n e f s t = rw (e, f, s, t) (ap Ok (nought (shown_under (common p q) q)))

-- at equal pressures: the difference of the densities that the two channels show
pub level :
    (l r : Entry) (p q : Point) (d k c j : ℕ) (m n : Remarks) → channel_of l ≡ channel_at p d k m → channel_of r ≡ channel_at q c j n →
    p.pi ≡ q.pi → needle_of (channel_of l) (channel_of r) false ≡ Ok (pos c -ℤ pos d)
level l r p q d k c j m n e f h =
    let a : shown_under (common p q) p ≡ d = rw (common_level p q h) (sym (accepted_shows l p d k m e).density_is) in
    let b : shown_under (common p q) q ≡ c = rw (common_level p q h, h) (sym (accepted_shows r q c j n f).density_is) in
    rw (e, f, a, b)

-- ---- each channel depends on its own reading only: whatever stands in the other one
pub left_own : (l r r' : Entry) → (comparison_of l r).left ≡ (comparison_of l r').left
unfolding comparison_of
left_own l r r' = refl

pub right_own : (l l' r : Entry) → (comparison_of l r).right ≡ (comparison_of l' r).right
unfolding comparison_of
right_own l l' r = refl
