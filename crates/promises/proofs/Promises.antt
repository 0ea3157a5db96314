-- Demand 3: each promise of specs/Promises, from the law that shows it; and the ranges that other rooms use. Assumes nothing.
use Prim.Native.Nat.{ℕ, suc, ◌*◌, ◌≤◌, ◌<◌}
use native.Mathlib.Omega.{arith}
use lib.IntN.{ℤ, pos}
use lib.Signed.{◌≤ℤ◌}
use Rattle.whole.specs.Arith.{neg}
use Rattle.whole.specs.Fraction.{Frac, units, ◌≤F◌, ◌⊕◌}
use Rattle.whole.proofs.Ints.{of_≤ℤ, sub_is}
use Rattle.whole.proofs.Near.{Near}
use Rattle.sea.specs.Recipe.{rows_at, root_at, shown_of, shown_at, modulus_at}
use Rattle.promises.specs.Formula.{density_f}
use Rattle.promises.specs.Promises.{OnGrid, Rooted, Within, Sample, formula, panel, in_common, ShownWithin, StifferThanPressure, Saltier, Deeper, RightHeavier, LeftHeavier, NeedleWithin}
use Rattle.promises.proofs.Rise.{rising}
use Rattle.promises.proofs.Pressure.{pressure_rising}
use Rattle.promises.proofs.Salt.{salt_step}
use Rattle.promises.proofs.Needle.{to_within, difference_within, heavier}
use Rattle.promises.proofs.Grid.{root, root_high, rows_lie, numbers_lie, shown_at_near, panel_near}

pub within : ShownWithin
within σ τ π x g v = to_within (omega arith) (omega arith) (omega arith) (shown_at_near g x v)

pub stiffer_than_pressure : StifferThanPressure
unfolding modulus_at
stiffer_than_pressure σ τ π g = omega (arith, (numbers_lie g).hundredths_low)

pub saltier : Saltier
saltier σ σ' τ π g g' more = omega (arith, rising (λ s. shown_at s τ π) 42_000 step σ σ' (omega arith) g'.salt)
  where
    step : (s : ℕ) → s < 42_000 → shown_at s τ π ≤ shown_at (suc s) τ π
    step s h = unfold shown_at in salt_step (rows_at τ) (rows_lie g) π g.deep s (root_at s) (root_at (suc s)) h (root s (omega arith)) (root (suc s) h)

pub deeper : Deeper
unfolding shown_at
deeper σ τ π π' g g' more =
    omega (arith, pressure_rising (rows_at τ) (rows_lie g) σ (root_at σ) g.salt (root_high σ g.salt) π π' (omega arith) g'.deep)

-- two waters, under the pressure that they have in common, which is on the grid as their own are
module _ (left right : Sample) where
  deep : in_common left right ≤ 100_000
  deep = omega (arith, left.on_grid.deep, right.on_grid.deep)

  left_near : Near 10_000 (formula left (in_common left right)) (pos (10 * panel left (in_common left right))) 6 6
  left_near = panel_near left (in_common left right) deep

  right_near : Near 10_000 (formula right (in_common left right)) (pos (10 * panel right (in_common left right))) 6 6
  right_near = panel_near right (in_common left right) deep

pub right_heavier : RightHeavier
right_heavier left right two =
    let l = panel left (in_common left right) in
    let r = panel right (in_common left right) in
    heavier l r 6 (left_near left right) (right_near left right) 2 (omega (arith, of_≤ℤ _ _ two, sub_is (pos r) (pos l))) (omega arith)

pub left_heavier : LeftHeavier
left_heavier left right two =
    let l = panel left (in_common left right) in
    let r = panel right (in_common left right) in
    heavier r l 6 (right_near left right) (left_near left right) 2 (omega (arith, of_≤ℤ _ _ two, sub_is (pos r) (pos l))) (omega arith)

pub needle_within : NeedleWithin
needle_within left right = difference_within (panel left (in_common left right)) (panel right (in_common left right)) 6 (left_near left right) (right_near left right) (omega arith)

-- ---- what the words say: within means on both sides, and every number of the grid table is on the grid
pub within_both : (e : Frac) (n : ℤ) (f : Frac) → Within e n f → (f ≤F units 1_000 n ⊕ e) × (units 1_000 n ≤F f ⊕ e)
within_both e n f w = (w.upper, w.lower)

pub on_grid : (σ : ℕ) (τ : ℤ) (π : ℕ) → σ ≤ 42_000 → neg 2_000 ≤ℤ τ → τ ≤ℤ pos 40_000 → π ≤ 100_000 → OnGrid σ τ π
on_grid σ τ π s c w d = record { salt = s; cold = c; warm = w; deep = d }

-- ---- the ranges that other rooms use
module _ {σ : ℕ} {τ : ℤ} {π : ℕ} (g : OnGrid σ τ π) where
  pub shown_range : (900_000 < shown_at σ τ π) × (shown_at σ τ π ≤ 1_100_000)
  unfolding shown_at shown_of
  shown_range = ((numbers_lie g).shown_low, (numbers_lie g).shown_high)

  pub modulus_range : modulus_at σ τ π ≤ 4_000_000
  unfolding modulus_at
  modulus_range = (numbers_lie g).hundredths_high

  -- the formula's density is a fraction: its lower number is above 0, and so K is above P
  pub formula_fraction : (x : Frac) → Rooted σ x → 0 < (density_f σ x τ π).den
  formula_fraction x v = (shown_at_near g x v).above
