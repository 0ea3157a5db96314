-- Where a grid number lies: the exact value in steps is within half a step of it. So rounding keeps the order of exact values, floats of one
-- value have one grid number, and a float inside a range has its grid number inside. ℤ is read as a difference of naturals. Assumes nothing.
use Prim.Native.Nat.{ℕ, ◌+◌, ◌*◌, ◌≤◌, ◌<◌}
use mathlib.Core.Path.{◌≡◌, ap}
use mathlib.Core.Bool.{◌&&◌}
use native.Mathlib.Nat.{mul-le-mul_left}
use native.Mathlib.Omega.{arith}
use lib.IntN.{ℤ, pos, ◌+ℤ◌, ◌*ℤ◌}
use lib.Signed.{◌≤ℤ◌, le_z, le_z_yes}
use lib.Dec.{T, lit<}
use lib.Ieee.{Float, nan, inf, fin}
use lib.Ieee.Fits.{and_l, and_r, down_pos}
use Rattle.whole.specs.Arith.{plus, minus}
use Rattle.whole.proofs.Ints.{add_is, mul_plus, mul_minus, Floored, floored, to_≤ℤ, of_≤ℤ, same}
use Rattle.floats.proofs.Floors.{across, under, floor_order}
use Rattle.floats.specs.declared.grid.Range.{Range}
use Rattle.floats.specs.Grid.{finite, numer, denom, inside, grid_no, AtMost, Same}

pub denom_pos : (x : Float) → 0 < denom x
denom_pos nan = lit< tt
denom_pos (inf s) = lit< tt
denom_pos (fin s m e) = down_pos e

-- twice the exact value in k steps to 1 is from 2g − 1 on and below 2g + 1, for the grid number g
module _ (k : ℕ) (x : Float) where
  abbrev a : ℤ
  a = numer x

  abbrev b : ℕ
  b = denom x

  -- a fraction of steps, of which the grid number is the quotient
  abbrev w : ℤ
  w = a *ℤ pos (2 * k) +ℤ pos b

  steps : Floored w (2 * b) (grid_no k x)
  unfolding grid_no
  steps = floored w (2 * b) (omega (arith, denom_pos x))

  w_is : plus w + minus a * (2 * k) ≡ minus w + (plus a * (2 * k) + b)
  w_is = omega (arith, (add_is (a *ℤ pos (2 * k)) (pos b)).is, mul_plus a (pos (2 * k)), mul_minus a (pos (2 * k)))

  pub low : 2 * b * plus (grid_no k x) + minus a * (2 * k) ≤ plus a * (2 * k) + b + 2 * b * minus (grid_no k x)
  low = omega (arith, steps.low, w_is)

  pub high : plus a * (2 * k) + b + 2 * b * minus (grid_no k x) < 2 * b * plus (grid_no k x) + minus a * (2 * k) + 2 * b
  high = omega (arith, steps.high, w_is)

-- ---- what the words say: by multiplying across, and no more
pub at_most : (x y : Float) → (numer x *ℤ pos (denom y)) ≤ℤ (numer y *ℤ pos (denom x)) → AtMost x y
at_most x y h = h

pub same_value : (x y : Float) → AtMost x y → AtMost y x → Same x y
same_value x y h g = (h, g)

-- ---- two floats
pub grid_order : (k : ℕ) (x y : Float) → AtMost x y → grid_no k x ≤ℤ grid_no k y
grid_order k x y h =
    let b = denom x in
    let d = denom y in
    let o = across (numer x) (numer y) d b (of_≤ℤ (numer x *ℤ pos d) (numer y *ℤ pos b) h) in
    to_≤ℤ (grid_no k x) (grid_no k y)
    (floor_order (w k x) (w k y) (grid_no k x) (grid_no k y) (2 * b) (2 * d) (omega (arith, denom_pos x)) (steps k x) (steps k y)
    (omega (arith, mul-le-mul_left (4 * k) o, ap (λ (m : ℕ). 2 * d * m) (w_is k x), ap (λ (m : ℕ). 2 * b * m) (w_is k y))))

pub grid_same : (k : ℕ) (x y : Float) → Same x y → grid_no k x ≡ grid_no k y
grid_same k x y h =
    let a = of_≤ℤ (grid_no k x) (grid_no k y) (grid_order k x y h.0) in
    let b = of_≤ℤ (grid_no k y) (grid_no k x) (grid_order k y x h.1) in
    same (grid_no k x) (grid_no k y) (omega (arith, a, b))

-- ---- a float and a range's ends, whole numbers of steps
pub grid_within : (r : Range) (x : Float) → T (inside r x) → (r.low ≤ℤ grid_no r.steps x) × (grid_no r.steps x ≤ℤ r.high)
unfolding inside
grid_within r x i =
    let k = r.steps in
    let b = denom x in
    let g = grid_no k x in
    let v = numer x *ℤ pos k in
    let lo = r.low *ℤ pos b in
    let hi = r.high *ℤ pos b in
    let both = and_r (finite x) (le_z lo v && le_z v hi) i in
    let l = across r.low (numer x) b k (of_≤ℤ lo v (le_z_yes (and_l (le_z lo v) (le_z v hi) both))) in
    let u = across (numer x) r.high k b (of_≤ℤ v hi (le_z_yes (and_r (le_z lo v) (le_z v hi) both))) in (
      to_≤ℤ r.low g (under (2 * b) (plus r.low + minus g) (plus g + minus r.low) (omega (arith, high k x, l))),
      to_≤ℤ g r.high (under (2 * b) (plus g + minus r.high) (plus r.high + minus g) (omega (arith, low k x, u, denom_pos x))),
    )
