-- No freezing point lies above a line: 54,105 down for each 0.001 of salinity, and 75,300 for each 0.01 bar, in 10⁻⁹ °C. For √v at most w, what salt makes
-- is at most v·(−5.75 + 1.710523·w − 2.154996·w²), and a square is never below 0: the bracket is at most −5.4105 whatever w is. Assumes nothing.
use Prim.Native.Nat.{ℕ, ◌+◌, ◌*◌, ◌-◌, ◌≤◌}
use mathlib.Core.Path.{◌≡◌}
use native.Mathlib.Omega.{arith}
use native.Mathlib.Nat.{mul-le-mul_right}
use native.Mathlib.Decide.{dec_le}
use Rattle.whole.specs.Arith.{plus, minus, root_at}
use Rattle.whole.proofs.Ints.{scaled_n}
use Rattle.whole.proofs.Roots.{Root, root_at_lem, root_at_most}
use Rattle.freezing.specs.Ice.{salt_ice, ice_at}
use Rattle.freezing.proofs.Sums.{inner, inner_is, ice_is}

-- twice a product is at most the sum of the squares
apart : (m w : ℕ) → 2 * m * w ≤ w * w + m * m
apart m w = go (dec_le m w)
  where
    more : (m d : ℕ) → 2 * m * (m + d) ≤ (m + d) * (m + d) + m * m
    more m d = omega arith

    less : (w d : ℕ) → 2 * (w + d) * w ≤ w * w + (w + d) * (w + d)
    less w d = omega arith

    go : Dec (m ≤ w) → 2 * m * w ≤ w * w + m * m
    go (yes h) = let e : m + (w - m) ≡ w = omega arith in rw e at (more m (w - m))
    go (no h) = let e : w + (m - w) ≡ m = omega arith in rw e at (less w (m - w))

-- what is in the bracket
pub inner_most : (σ w : ℕ) → w ≤ 64_807 → Root w (σ * 100_000) → 5_410_500_000 + plus (inner σ w) ≤ minus (inner σ w)
inner_most σ w h r = let i = inner_is σ w in omega (arith, i.most, r.low, apart 39_687 w)

pub salt_most : (σ w : ℕ) → w ≤ 64_807 → Root w (σ * 100_000) → 54_105 * σ + plus (salt_ice σ w) ≤ minus (salt_ice σ w)
unfolding salt_ice
salt_most σ w h r =
    let z = inner σ w in
    omega (arith, (scaled_n z σ).low, mul-le-mul_right σ (inner_most σ w h r))

pub ice_most : (σ π : ℕ) → σ ≤ 42_000 → 54_105 * σ + 75_300 * π + plus (ice_at σ π) ≤ minus (ice_at σ π)
ice_most σ π h = omega (arith, ice_is σ π, salt_most σ (root_at σ) (root_at_most σ h) (root_at_lem σ h))
