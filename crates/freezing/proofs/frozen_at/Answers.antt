-- `freezing::frozen_at` meets its contract: on the line that is tried first or above it there is no ice, and below it the freezing point itself is asked.
-- Assumes nothing.
use mathlib.Core.Path.{◌≡◌, refl, sym, ap, ap₂, ◌∙◌, subst}
use mathlib.Core.Bool.{Bool, false, not}
use Prim.Native.Nat.{ℕ, ◌+◌, ◌*◌, ◌≤◌, ◌^◌, ◌<◌}
use native.Mathlib.Omega.{arith}
use native.Mathlib.Nat.{mul-le-mul, mul-le-mul_left}
use lib.Dec.{T}
use lib.IntN.{ℤ, pos, nat_abs, neg_ℤ, ◌*ℤ◌, ◌-ℤ◌}
use lib.Signed.{lt_z, lt_z_no}
use mir.Syntax.{w64}
use mir.Val.{SFits}
use mir.ValLaws.{to_z-of_z}
use Rattle.whole.specs.Arith.{neg, plus}
use Rattle.whole.specs.Order.{Lies}
use Rattle.whole.proofs.Ints.{size_is, add_is, sub_is, mul_size, mul_plus, mul_minus, of_≤ℤ, below_minus, above_plus, neg_plus, neg_minus}
use Rattle.whole.proofs.Words.{word, given, fits_size, word_as}
use Rattle.whole.proofs.Naturals.{natural}
use Rattle.freezing.specs.Ice.{ice_at, warmth, frozen_of}
use Rattle.freezing.proofs.Phases.{above_line}
use Rattle.freezing.proofs.frozen_at.Goals.{Start}
use Rattle.freezing.proofs.frozen_at.Goals as goal

-- ---- the numbers of the test, each through its word
product_fits : (a z : ℤ) (n m : ℕ) → nat_abs a ≤ n → nat_abs z ≤ m → n * m < 2 ^ 62 → SFits w64 (a *ℤ z)
product_fits a z n m h k s = fits_size (a *ℤ z) (omega (arith, mul_size a z, mul-le-mul h k))

cold_size : (τ : ℤ) → Lies (neg 2_000) (pos 40_000) τ → nat_abs τ ≤ 42_000
cold_size τ l =
    omega (arith, size_is τ, below_minus (neg 2_000) τ (of_≤ℤ (neg 2_000) τ l.low), above_plus τ (pos 40_000) (of_≤ℤ τ (pos 40_000) l.high), neg_minus (pos 2_000))

difference_size : (x y : ℤ) → nat_abs (x -ℤ y) ≤ nat_abs x + nat_abs y
difference_size x y = let s = add_is x (neg_ℤ y) in omega (arith, size_is (x -ℤ y), size_is x, size_is y, s.plus_small, s.minus_small, neg_plus y, neg_minus y)

-- what the line has at a salinity and a pressure
abbrev line : ℤ → ℤ → ℤ
line σ π = neg 54_105 *ℤ σ -ℤ pos 75_300 *ℤ π

module _ (b : Start) where
  σ-size : nat_abs b.args.sigma ≤ 42_000
  σ-size = (natural b.requires.salinity).size

  π-size : nat_abs b.args.pi ≤ 100_000
  π-size = (natural b.requires.pressure).size

  warmth_is : word b.args.tau *ℤ pos 1_000_000 ≡ warmth b.args.tau
  warmth_is = ap (λ (z : ℤ). z *ℤ pos 1_000_000) (to_z-of_z w64 b.args.tau b.ranges.tau)

  warmth-fits : SFits w64 (warmth b.args.tau)
  warmth-fits = product_fits b.args.tau (pos 1_000_000) 42_000 1_000_000 (cold_size b.args.tau b.requires.temperature) (omega arith) (omega arith)

  salt_is : neg 54_105 *ℤ word b.args.sigma ≡ neg 54_105 *ℤ b.args.sigma
  salt_is = ap (λ (z : ℤ). neg 54_105 *ℤ z) (to_z-of_z w64 b.args.sigma b.ranges.sigma)

  salt-fits : SFits w64 (neg 54_105 *ℤ b.args.sigma)
  salt-fits = product_fits (neg 54_105) b.args.sigma 54_105 42_000 (omega arith) σ-size (omega arith)

  deep_is : pos 75_300 *ℤ word b.args.pi ≡ pos 75_300 *ℤ b.args.pi
  deep_is = ap (λ (z : ℤ). pos 75_300 *ℤ z) (to_z-of_z w64 b.args.pi b.ranges.pi)

  deep-fits : SFits w64 (pos 75_300 *ℤ b.args.pi)
  deep-fits = product_fits (pos 75_300) b.args.pi 75_300 100_000 (omega arith) π-size (omega arith)

  line_is : word (neg 54_105 *ℤ word b.args.sigma) -ℤ word (pos 75_300 *ℤ word b.args.pi) ≡ line b.args.sigma b.args.pi
  line_is = ap₂ (λ (x y : ℤ). x -ℤ y) (word_as salt_is salt-fits) (word_as deep_is deep-fits)

  line-fits : SFits w64 (line b.args.sigma b.args.pi)
  line-fits =
      let x = neg 54_105 *ℤ b.args.sigma in
      let y = pos 75_300 *ℤ b.args.pi in
      fits_size (x -ℤ y)
      (omega (
        arith,
        difference_size x y,
        mul_size (neg 54_105) b.args.sigma,
        mul_size (pos 75_300) b.args.pi,
        mul-le-mul_left 54_105 σ-size,
        mul-le-mul_left 75_300 π-size,
      ))

-- on the line or above it
on_line : (σ τ π : ℤ) → Lies (pos 0) (pos 42_000) σ → Lies (pos 0) (pos 100_000) π → lt_z (warmth τ) (line σ π) ≡ false → false ≡ frozen_of (plus σ) τ (plus π)
on_line σ τ π s d e =
    let l = of_≤ℤ (line σ π) (warmth τ) (lt_z_no (subst (λ (b : Bool). T (not b)) (sym e) tt)) in
    let x = neg 54_105 *ℤ σ in
    let y = pos 75_300 *ℤ π in
    sym
    (above_line (plus σ) τ (plus π) (natural s).most
    (omega (
      arith,
      l,
      sub_is x y,
      mul_plus (neg 54_105) σ,
      mul_minus (neg 54_105) σ,
      mul_plus (pos 75_300) π,
      mul_minus (pos 75_300) π,
      mul_plus τ (pos 1_000_000),
      mul_minus τ (pos 1_000_000),
      (natural s).whole,
      (natural d).whole,
    )))

pub returns-else-warmth-sigma : goal.returns-else-warmth-sigma
returns-else-warmth-sigma c =
    let b = (goal.at.returns-else-warmth-sigma c).Start in
    let e : lt_z (warmth b.args.tau) (line b.args.sigma b.args.pi) ≡ false = rw (word_as (line_is b) (line-fits b), word_as (warmth_is b) (warmth-fits b)) at c.if-warmth-sigma.false in
    c.if-warmth-sigma.false ∙ on_line b.args.sigma b.args.tau b.args.pi b.requires.salinity b.requires.pressure e

pub returns-then-warmth-sigma : goal.returns-then-warmth-sigma
unfolding frozen_of
returns-then-warmth-sigma c =
    let b = (goal.at.returns-then-warmth-sigma c).Start in
    let point = ap₂ (λ (x y : ℤ). ice_at (plus x) (plus y)) (to_z-of_z w64 b.args.sigma b.ranges.sigma) (to_z-of_z w64 b.args.pi b.ranges.pi) in
    rw (given c.point_at.type_inv (c.point_at.ensures ∙ point), word_as (warmth_is b) (warmth-fits b)) refl
