-- No further term: from the definition's numbers of terms on every term of either series is 0, since the power that comes next is less than its
-- divisor, and from there on the powers fall while the divisors rise. Assumes nothing.
use Prim.Native.Nat.{ℕ, zero, suc, ◌+◌, ◌*◌, ◌/◌, ◌≤◌, ◌<◌}
use mathlib.Core.Path.{◌≡◌, refl}
use native.Mathlib.Omega.{arith}
use native.Mathlib.Nat.{mul-le-mul, mul-le-mul_left, mul-le-mul_right, div-add-mod, div-le_of_le-mul, div-lt_iff_lt-mul}
use Rattle.carbon.specs.Weiss.{ln_terms, rest_terms, terms, odd}
use Rattle.carbon.proofs.Series.{Small, square_small, square_large, first_small}

-- the power that comes after m terms
unfoldable power : ℕ → ℕ → ℕ → ℕ → ℕ
power a b zero p = p
power a b (suc m) p = power a b m (p * a / b)

module _ (a b : ℕ) (small : a ≤ b) where
  falls : (p : ℕ) → p * a / b ≤ p
  falls p = div-le_of_le-mul b (omega (arith, mul-le-mul_right p small))

  none : (n d p : ℕ) → p < d → terms a b n d p ≡ 0
  unfolding terms
  none zero d p h = refl
  none (suc n) d p h =
      let q : p / d < 1 = (div-lt_iff_lt-mul {k = d} (omega arith)).1 (omega arith) in
      omega (arith, none n (d + 2) (p * a / b) (omega (arith, falls p)))

  no_more : (m n d p : ℕ) → m ≤ n → power a b m p < d + 2 * m → terms a b n d p ≡ terms a b m d p
  unfolding terms power
  no_more zero n d p h l = none n d p (omega arith)
  no_more (suc m) zero d p h l = absurd (omega arith)
  no_more (suc m) (suc n) d p h l = omega (arith, no_more m n (d + 2) (p * a / b) (omega arith) (omega arith))

-- of the series for ln 3
pub no_more_ln3 : (j : ℕ) → ln_terms ≤ j → odd 1 2 j ≡ odd 1 2 ln_terms
unfolding odd power
no_more_ln3 j h = no_more 1 4 (omega arith) 16 j 1 50_000_000_000 h (omega arith)

-- of the one for the rest, from 0 to 40 °C
module _ (x y : ℕ) (s : Small x y) where
  next : (p P Q : ℕ) → p ≤ P → P * 720_922_500 < (Q + 1) * 328_500_922_500 → p * (x * x) / (y * y) ≤ Q
  next p P Q h l =
      let q = p * (x * x) / (y * y) in
      omega (arith, div-add-mod (p * (x * x)) (y * y), mul-le-mul_left q (square_large x y s), mul-le-mul h (square_small x y s))

  pub no_more_rest : (k : ℕ) → rest_terms ≤ k → odd x y k ≡ odd x y rest_terms
  unfolding odd power
  no_more_rest k h =
      let p = 100_000_000_000 * x / y in
      let third = next p 4_684_637_530 10_280_825 (first_small x y s) (omega arith) in
      let fifth = next (p * (x * x) / (y * y)) 10_280_825 22_562 third (omega arith) in
      let seventh = next (p * (x * x) / (y * y) * (x * x) / (y * y)) 22_562 49 fifth (omega arith) in
      let ninth = next (p * (x * x) / (y * y) * (x * x) / (y * y) * (x * x) / (y * y)) 49 0 seventh (omega arith) in
      no_more (x * x) (y * y) (omega (arith, square_small x y s, square_large x y s)) 4 k 1 p h (omega (arith, ninth))
