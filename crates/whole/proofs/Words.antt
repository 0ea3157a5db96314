-- Signed machine words: a number that fits comes back from its word unchanged, and small numbers fit. Assumes nothing.
use mathlib.Core.Path.{◌≡◌, sym, ap, ◌∙◌, subst}
use Prim.Native.Nat.{ℕ, ◌+◌, ◌*◌, ◌^◌, ◌<◌, ◌≤◌}
use native.Mathlib.Omega.{arith}
use native.Mathlib.Nat.{mul-le-mul}
use lib.IntN.{ℤ, pos, negsuc, nat_abs, ◌+ℤ◌, ◌*ℤ◌}
use lib.Signed.{mag}
use mir.Syntax.{w64}
use mir.Val.{SFits, to_z, of_z}
use mir.ValLaws.{to_z-of_z}
use Rattle.whole.specs.Arith.{plus, minus, floor_div, scaled}
use Rattle.whole.proofs.Ints.{size_is, add_is, mul_size, floor_size}

-- z through a word
abbrev pub word : ℤ → ℤ
word z = to_z w64 (of_z w64 z)

pub fits_size : (z : ℤ) → nat_abs z < 2 ^ 63 → SFits w64 z
fits_size (pos n) h = record { sfits = h }
fits_size (negsuc n) h = record { sfits = omega arith }

pub fits_as : {y z : ℤ} → y ≡ z → SFits w64 z → SFits w64 y
fits_as e f = subst (λ (v : ℤ). SFits w64 v) (sym e) f

pub word_as : {y z : ℤ} → y ≡ z → SFits w64 z → word y ≡ z
word_as {y} {z} e f = ap word e ∙ to_z-of_z w64 z f

-- what a call gave, passed on through a word
pub given : {y z : ℤ} → mag y < 2 ^ 63 → y ≡ z → word y ≡ z
given {y} f e = to_z-of_z w64 y (record { sfits = f }) ∙ e

pub size_as : {y z : ℤ} {n : ℕ} → y ≡ z → nat_abs z ≤ n → nat_abs y ≤ n
size_as {n = n} e h = subst (λ (v : ℤ). nat_abs v ≤ n) (sym e) h

-- ---- c plus the scaled product of h by x, for the sizes that the engine has
pub product_small : {h x : ℕ} → h ≤ 46_000_000_000_000 → x ≤ 100_000 → h * x ≤ 4_600_000_000_000_000_000
product_small a b = omega (arith, mul-le-mul a b)

pub step_fits : (c h x : ℤ) → nat_abs c ≤ 46_000_000_000_000 → nat_abs h ≤ 46_000_000_000_000 → nat_abs x ≤ 100_000 → SFits w64 (c +ℤ scaled h x)
unfolding scaled
step_fits c h x hc hh hx =
    let q = floor_div (h *ℤ x) 100_000 in
    let s = add_is c q in
    fits_size (c +ℤ q)
    (omega (arith, size_is (c +ℤ q), s.plus_small, s.minus_small, size_is c, size_is q, floor_size (h *ℤ x), mul_size h x, product_small hh hx))

-- a part of a small sum, whose other part is a scaled product, is itself far from a word's end
pub part_fits : (c h x : ℤ) → nat_abs (c +ℤ scaled h x) ≤ 46_000_000_000_000 → nat_abs h ≤ 46_000_000_000_000 → nat_abs x ≤ 100_000 → SFits w64 c
unfolding scaled
part_fits c h x hz hh hx =
    let q = floor_div (h *ℤ x) 100_000 in
    go c (plus (c +ℤ q)) (minus (c +ℤ q)) (plus q) (minus q) (add_is c q).is (omega (arith, size_is (c +ℤ q), hz)) (omega (arith, size_is q, floor_size (h *ℤ x), mul_size h x, product_small hh hx))
  where
    go : (c : ℤ) (a b p m : ℕ) → a + (minus c + m) ≡ b + (plus c + p) → a + b ≤ 46_000_000_000_000 → p + m ≤ 46_000_000_000_001 → SFits w64 c
    go (pos n) a b p m e l k = record { sfits = omega (arith, e) }
    go (negsuc n) a b p m e l k = record { sfits = omega (arith, e) }

pub step_as : {a b c x y z : ℤ} → a ≡ x → b ≡ y → c ≡ z → a +ℤ scaled b c ≡ x +ℤ scaled y z
step_as p q r = rw (p, q, r)
