-- When a water is frozen: exactly if its temperature is less than its freezing point; it is liquid exactly if that is at most its temperature. So a liquid
-- water stays liquid under any greater pressure and with any more salt; and from 0 °C on there is no ice. Assumes nothing.
use Prim.Native.Nat.{ℕ, ◌+◌, ◌*◌, ◌≤◌, ◌<◌}
use mathlib.Core.Path.{◌≡◌, refl, sym, subst}
use mathlib.Core.Bool.{Bool, true, false, not}
use native.Mathlib.Omega.{arith}
use native.Mathlib.Decide.{dec_lt}
use lib.Dec.{T}
use lib.IntN.{ℤ, pos}
use lib.Signed.{◌≤ℤ◌, ◌<ℤ◌, lt_z_yes, lt_z_no, clash_ℤ}
use Rattle.whole.specs.Arith.{plus, minus}
use Rattle.whole.proofs.Ints.{to_≤ℤ, of_≤ℤ, of_<ℤ, mul_plus, mul_minus}
use Rattle.freezing.specs.Ice.{ice_at, warmth, frozen_of}
use Rattle.freezing.proofs.Line.{ice_most}
use Rattle.freezing.proofs.Falls.{saltier_lower, deeper_lower}

-- ---- by the test: on which side of it the two numbers lie
module _ (σ : ℕ) (τ : ℤ) (π : ℕ) where
  pub liquid_is : frozen_of σ τ π ≡ false → ice_at σ π ≤ℤ warmth τ
  unfolding frozen_of
  liquid_is e = lt_z_no (subst (λ (b : Bool). T (not b)) (sym e) tt)

  pub frozen_is : frozen_of σ τ π ≡ true → warmth τ <ℤ ice_at σ π
  unfolding frozen_of
  frozen_is e = lt_z_yes (subst T (sym e) tt)

  pub is_liquid : ice_at σ π ≤ℤ warmth τ → frozen_of σ τ π ≡ false
  is_liquid h = go (frozen_of σ τ π) refl
    where
      go : (b : Bool) → frozen_of σ τ π ≡ b → b ≡ false
      go false e = refl
      go true e = clash_ℤ (frozen_is e) h

  pub is_frozen : warmth τ <ℤ ice_at σ π → frozen_of σ τ π ≡ true
  is_frozen h = go (frozen_of σ τ π) refl
    where
      go : (b : Bool) → frozen_of σ τ π ≡ b → b ≡ true
      go true e = refl
      go false e = clash_ℤ h (liquid_is e)

-- ---- a liquid water under any greater pressure, and with any more salt
lower : {a b : ℤ} → a <ℤ b → (c : ℤ) → b ≤ℤ c → a ≤ℤ c
lower {a} {b} h c k = to_≤ℤ a c (omega (arith, of_<ℤ a b h, of_≤ℤ b c k))

pub liquid_deeper : (σ : ℕ) (τ : ℤ) (π π' : ℕ) → π ≤ π' → frozen_of σ τ π ≡ false → frozen_of σ τ π' ≡ false
liquid_deeper σ τ π π' h e = go (dec_lt π π')
  where
    go : Dec (π < π') → frozen_of σ τ π' ≡ false
    go (yes l) = is_liquid σ τ π' (lower (deeper_lower σ π π' l) (warmth τ) (liquid_is σ τ π e))
    go (no l) = let same : π ≡ π' = omega arith in rw same at e

pub liquid_saltier : (σ σ' : ℕ) (τ : ℤ) (π : ℕ) → σ ≤ σ' → σ' ≤ 42_000 → frozen_of σ τ π ≡ false → frozen_of σ' τ π ≡ false
liquid_saltier σ σ' τ π h k e = go (dec_lt σ σ')
  where
    go : Dec (σ < σ') → frozen_of σ' τ π ≡ false
    go (yes l) = is_liquid σ' τ π (lower (saltier_lower σ σ' π l k) (warmth τ) (liquid_is σ τ π e))
    go (no l) = let same : σ ≡ σ' = omega arith in rw same at e

-- ---- from the line on, and so from 0 °C on, there is no ice
pub above_line : (σ : ℕ) (τ : ℤ) (π : ℕ) → σ ≤ 42_000 → 1_000_000 * minus τ ≤ 1_000_000 * plus τ + 54_105 * σ + 75_300 * π → frozen_of σ τ π ≡ false
above_line σ τ π h l =
    is_liquid σ τ π (to_≤ℤ (ice_at σ π) (warmth τ) (omega (arith, ice_most σ π h, mul_plus τ (pos 1_000_000), mul_minus τ (pos 1_000_000))))

pub no_ice : (σ : ℕ) (τ : ℤ) (π : ℕ) → σ ≤ 42_000 → minus τ ≡ 0 → frozen_of σ τ π ≡ false
no_ice σ τ π h e = above_line σ τ π h (omega arith)
