-- A value that is a whole number of steps is on its grid point, so 0 is, with either sign; and a half, which is rounded upward, is below its point. (What
-- a remark says, and that nothing else says so: Remarks.) Assumes nothing.
use Prim.Native.Nat.{ℕ, ◌*◌}
use mathlib.Core.Path.{◌≡◌, sym, ap, ◌∙◌}
use mathlib.Core.Bool.{Bool, true, false}
use native.Mathlib.Nat.{zero-mul}
use native.Mathlib.Omega.{arith}
use lib.IntN.{ℤ, pos, ◌+ℤ◌, ◌*ℤ◌}
use lib.Ieee.{Float, fin, up, down}
use Rattle.whole.specs.Arith.{plus, minus}
use Rattle.whole.proofs.Ints.{to_≤ℤ, to_<ℤ}
use Rattle.floats.specs.Grid.{signed, denom, grid_no, in_steps as steps, point_of as at, remark_of, InHalf}
use Rattle.floats.specs.declared.Remark.TheVariants.{Below, On}
use Rattle.floats.proofs.Order.{denom_pos}
use Rattle.floats.proofs.Remarks.{told, twice_plus, twice_minus, half_more}

pub whole_on : (k : ℕ) (x : Float) (z : ℤ) → steps k x ≡ at z x → (grid_no k x ≡ z) × (remark_of k x ≡ On)
unfolding InHalf
whole_on k x z h = told On k z x h

-- so 0 is on, with either sign; and a half, which is rounded upward, is below its point
pub zero_on : (k : ℕ) (s : Bool) (e : ℤ) → (grid_no k (fin s 0 e) ≡ pos 0) × (remark_of k (fin s 0 e) ≡ On)
zero_on k s e = whole_on k (fin s 0 e) (pos 0) (nought s)
  where
    nought : (s : Bool) → signed s (0 * up e) *ℤ pos k ≡ pos 0 *ℤ pos (down e)
    nought false = rw (zero-mul (up e)) (ap pos (zero-mul k ∙ sym (zero-mul (down e))))
    nought true = rw (zero-mul (up e)) (ap pos (zero-mul k ∙ sym (zero-mul (down e))))

pub half_below : (k : ℕ) (x : Float) (g : ℤ) → pos 2 *ℤ steps k x +ℤ pos (denom x) ≡ pos 2 *ℤ at g x → (grid_no k x ≡ g) × (remark_of k x ≡ Below)
unfolding InHalf
half_below k x g h =
    let v = steps k x in
    let a = at g x in
    told Below k g x (
      to_≤ℤ _ _ (omega (arith, ap plus h, ap minus h)),
      to_<ℤ v a (omega (arith, half_more v (denom x), ap plus h, ap minus h, twice_plus a, twice_minus a, denom_pos x)),
    )
