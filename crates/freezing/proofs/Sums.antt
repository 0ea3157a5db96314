-- The sums and products of a freezing point: how large they get, and how much the rounding takes from them. What the pressure makes is exact, 75,300 for
-- each 0.01 bar. Assumes nothing.
use Prim.Native.Nat.{ℕ, ◌+◌, ◌*◌, ◌≤◌, ◌<◌}
use mathlib.Core.Path.{◌≡◌}
use native.Mathlib.Omega.{arith}
use native.Mathlib.Nat.{mul-le-mul}
use lib.IntN.{ℤ, pos, negsuc, nat_abs, ◌+ℤ◌}
use Rattle.whole.specs.Arith.{neg, plus, minus, scaled, root_at}
use Rattle.whole.specs.Decimal.{◌/10^◌, -◌/10^◌}
use Rattle.whole.proofs.Ints.{size_is, neg_plus, neg_minus, add_is, scaled_n, same}
use Rattle.freezing.specs.Ice.{salt_ice, deep_ice, ice_at}

-- -5.75 + scaled(w; 1.710523), and that + scaled(v; -2.154996), as `salt_ice` has them
abbrev pub rooted : ℕ → ℤ
rooted w = - 5_75 /10^ 2 +ℤ scaled (1_710523 /10^ 6) (pos w)

abbrev pub inner : ℕ → ℕ → ℤ
inner σ w = rooted w +ℤ scaled (- 2_154996 /10^ 6) (pos σ)

-- in 10⁻¹⁴: at most the exact sum, and less than 2 units of 10⁻⁹ below it
pub record Sum (σ w : ℕ) (z : ℤ) : Type 0 where
  pub most : 100_000 * plus z + (575_000_000_000_000 + 2_154_996_000 * σ) ≤ 100_000 * minus z + 1_710_523_000 * w
  pub least : 100_000 * minus z + 1_710_523_000 * w < 100_000 * plus z + (575_000_000_000_000 + 2_154_996_000 * σ) + 200_000

pub inner_is : (σ w : ℕ) → Sum σ w (inner σ w)
inner_is σ w =
    let a = scaled (1_710523 /10^ 6) (pos w) in
    let b = scaled (- 2_154996 /10^ 6) (pos σ) in
    let p = scaled_n (1_710523 /10^ 6) w in
    let q = scaled_n (- 2_154996 /10^ 6) σ in
    let s = (add_is (- 5_75 /10^ 2) a).is in
    let t = (add_is (rooted w) b).is in
    record { most = omega (arith, p.low, q.low, s, t); least = omega (arith, p.high, q.high, s, t) }

-- ---- sizes
size_by : (z : ℤ) (m : ℕ) → plus z ≤ minus z + m → minus z ≤ plus z + m → nat_abs z ≤ m
size_by (pos n) m h k = omega arith
size_by (negsuc n) m h k = omega arith

pub rooted_size : (w : ℕ) → w ≤ 64_807 → nat_abs (rooted w) ≤ 6_000_000_000
rooted_size w h =
    let p = scaled_n (1_710523 /10^ 6) w in
    let s = (add_is (- 5_75 /10^ 2) (scaled (1_710523 /10^ 6) (pos w))).is in
    size_by (rooted w) 6_000_000_000 (omega (arith, s, p.low)) (omega (arith, s, p.high))

pub inner_size : (σ w : ℕ) → σ ≤ 42_000 → w ≤ 64_807 → nat_abs (inner σ w) ≤ 7_000_000_000
inner_size σ w h k = let i = inner_is σ w in size_by (inner σ w) 7_000_000_000 (omega (arith, i.most)) (omega (arith, i.least))

pub salt_size : (σ w : ℕ) → σ ≤ 42_000 → w ≤ 64_807 → nat_abs (salt_ice σ w) ≤ 3_000_000_000
unfolding salt_ice
salt_size σ w h k =
    let z = inner σ w in
    let n = inner_size σ w h k in
    let s = scaled_n z σ in
    let a : plus z ≤ 7_000_000_000 = omega (arith, size_is z) in
    let b : minus z ≤ 7_000_000_000 = omega (arith, size_is z) in
    size_by (salt_ice σ w) 3_000_000_000 (omega (arith, s.low, mul-le-mul a h)) (omega (arith, s.high, mul-le-mul b h))

-- ---- the pressure
pub deep_is : (π : ℕ) → deep_ice π ≡ neg (75_300 * π)
unfolding deep_ice
deep_is π =
    let s = scaled_n (- 7_53 /10^ 2) π in
    same (scaled (- 7_53 /10^ 2) (pos π)) (neg (75_300 * π)) (omega (arith, s.low, s.high, neg_plus (pos (75_300 * π)), neg_minus (pos (75_300 * π))))

-- a freezing point by its two parts
pub ice_is : (σ π : ℕ) → let z = salt_ice σ (root_at σ) in plus (ice_at σ π) + (minus z + 75_300 * π) ≡ minus (ice_at σ π) + plus z
unfolding ice_at
ice_is σ π = rw (deep_is π) (omega (arith, (add_is (salt_ice σ (root_at σ)) (neg (75_300 * π))).is, neg_plus (pos (75_300 * π)), neg_minus (pos (75_300 * π))))
