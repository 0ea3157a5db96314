-- Saltier and deeper water freeze at a lower temperature. Where the salinity rises by 1, what stands in the bracket rises by e·17,106 at most, where the root
-- rises by e, but then e·σ is at most 74,404: so the point falls by 41,000 at least. A pressure makes 75,300 for each 0.01 bar. Assumes nothing.
use Prim.Native.Nat.{ℕ, suc, ◌+◌, ◌*◌, ◌-◌, ◌≤◌, ◌<◌}
use mathlib.Core.Path.{◌≡◌, refl, sym, subst}
use native.Mathlib.Omega.{arith}
use native.Mathlib.Nat.{mul-le-mul_right, mul-le-mul_left}
use lib.IntN.{ℤ, pos, negsuc}
use lib.Signed.{◌<ℤ◌}
use Rattle.whole.specs.Arith.{plus, minus, root_at}
use Rattle.whole.proofs.Ints.{scaled_n, to_<ℤ}
use Rattle.whole.proofs.Rise.{rising}
use Rattle.whole.proofs.Roots.{Root, root_at_lem, root_at_most, root_small, root_up, root_rise}
use Rattle.freezing.specs.Ice.{salt_ice, ice_at}
use Rattle.freezing.proofs.Sums.{inner, inner_is, ice_is}
use Rattle.freezing.proofs.Line.{inner_most, salt_most}

-- ---- one step of salinity
module _ (σ w e : ℕ) (hw : w + e ≤ 64_807) (es : e * σ ≤ 74_404) (r : Root (w + e) (suc σ * 100_000)) where
  inner_rise : 100_000 * (plus (inner (suc σ) (w + e)) + minus (inner σ w)) ≤ 100_000 * (plus (inner σ w) + minus (inner (suc σ) (w + e))) + 1_710_523_000 * e
  inner_rise = omega (arith, (inner_is σ w).least, (inner_is (suc σ) (w + e)).most)

  pub salt_step : plus (salt_ice (suc σ) (w + e)) + minus (salt_ice σ w) + 41_000 ≤ plus (salt_ice σ w) + minus (salt_ice (suc σ) (w + e))
  unfolding salt_ice
  salt_step =
      let a = inner σ w in
      let b = inner (suc σ) (w + e) in
      omega (arith, (scaled_n a σ).high, (scaled_n b (suc σ)).low, mul-le-mul_right σ inner_rise, mul-le-mul_left 1_710_523_000 es, inner_most (suc σ) (w + e) hw r)

step : (σ : ℕ) → σ < 42_000 → let z = salt_ice σ (root_at σ) in let z' = salt_ice (suc σ) (root_at (suc σ)) in plus z' + minus z + 41_000 ≤ plus z + minus z'
step σ h =
    let up = root_up σ (root_at σ) (root_at (suc σ)) (root_at_lem σ (omega arith)) (root_at_lem (suc σ) h) in
    let same : root_at σ + (root_at (suc σ) - root_at σ) ≡ root_at (suc σ) = omega arith in
    subst (λ (v : ℕ). plus (salt_ice (suc σ) v) + minus (salt_ice σ (root_at σ)) + 41_000 ≤ plus (salt_ice σ (root_at σ)) + minus (salt_ice (suc σ) v)) same
    (go (root_at (suc σ) - root_at σ) (subst (λ (v : ℕ). Root v (suc σ * 100_000)) (sym same) (root_at_lem (suc σ) h)))
  where
    go : (e : ℕ) → Root (root_at σ + e) (suc σ * 100_000) →
        plus (salt_ice (suc σ) (root_at σ + e)) + minus (salt_ice σ (root_at σ)) + 41_000 ≤ plus (salt_ice σ (root_at σ)) + minus (salt_ice (suc σ) (root_at σ + e))
    go e q =
        let hw = root_small (suc σ) (root_at σ + e) h q in
        salt_step σ (root_at σ) e hw (root_rise σ (root_at σ) e (omega arith) (omega arith) (root_at_lem σ (omega arith)) q) q

-- ---- any number of steps: how far below 0 the point lies, as it always does, rises
none_above : (z : ℤ) → plus z ≤ minus z → plus z ≡ 0
none_above (pos n) h = omega arith
none_above (negsuc n) h = refl

depth : ℕ → ℕ
depth σ = minus (salt_ice σ (root_at σ))

below_nought : (σ : ℕ) → σ ≤ 42_000 → plus (salt_ice σ (root_at σ)) ≡ 0
below_nought σ h = none_above (salt_ice σ (root_at σ)) (omega (arith, salt_most σ (root_at σ) (root_at_most σ h) (root_at_lem σ h)))

falls : (σ : ℕ) → σ < 42_000 → depth σ + 41_000 ≤ depth (suc σ)
unfolding depth
falls σ h = omega (arith, step σ h, below_nought σ (omega arith), below_nought (suc σ) h)

deepens : (σ σ' : ℕ) → σ < σ' → σ' ≤ 42_000 → depth σ < depth σ'
deepens σ σ' h k = omega (arith, falls σ (omega arith), rising depth 42_000 (λ n l. omega (arith, falls n l)) (suc σ) σ' h k)

-- ---- saltier, deeper: strictly lower
pub saltier_lower : (σ σ' π : ℕ) → σ < σ' → σ' ≤ 42_000 → ice_at σ' π <ℤ ice_at σ π
unfolding depth
saltier_lower σ σ' π h k =
    to_<ℤ (ice_at σ' π) (ice_at σ π) (omega (arith, ice_is σ π, ice_is σ' π, deepens σ σ' h k, below_nought σ (omega arith), below_nought σ' k))

pub deeper_lower : (σ π π' : ℕ) → π < π' → ice_at σ π' <ℤ ice_at σ π
deeper_lower σ π π' h = to_<ℤ (ice_at σ π') (ice_at σ π) (omega (arith, ice_is σ π, ice_is σ π'))
