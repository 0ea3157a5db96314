-- Division rounded down by an offset: (z + 46·10¹⁷)/10⁵ − 46·10¹², where the size of z is at most 46·10¹⁷; and so what the code
-- of `scaled` computes. Assumes nothing.
use mathlib.Core.Path.{◌≡◌, ap, ap₂, ◌∙◌}
use Prim.Native.Nat.{ℕ, ◌+◌, ◌*◌, ◌-◌, ◌/◌, ◌^◌, ◌<◌, ◌≤◌}
use native.Mathlib.Omega.{arith}
use lib.IntN.{ℤ, pos, negsuc, nat_abs, ◌+ℤ◌, ◌-ℤ◌, ◌*ℤ◌}
use mir.Syntax.{w64}
use mir.Val.{SFits}
use mir.ValLaws.{to_z-of_z}
use Rattle.whole.specs.Arith.{plus, minus, floor_div}
use Rattle.whole.proofs.Ints.{size_is, add_is, sub_is, mul_size, floor_size, same}
use Rattle.whole.proofs.Words.{word, word_as, fits_size}

-- z and the offset
abbrev pub lifted : ℤ → ℕ
lifted z = plus z + 4_600_000_000_000_000_000 - minus z

lift_is : (z : ℤ) → nat_abs z ≤ 4_600_000_000_000_000_000 → z +ℤ pos 4_600_000_000_000_000_000 ≡ pos (lifted z)
lift_is z h = same _ _ (omega (arith, (add_is z (pos 4_600_000_000_000_000_000)).is, size_is z))

lowered_is : (z : ℤ) → nat_abs z ≤ 4_600_000_000_000_000_000 → pos (lifted z / 100_000) -ℤ pos 46_000_000_000_000 ≡ floor_div z 100_000
lowered_is (pos n) h = same _ _ (omega (arith, sub_is (pos (lifted (pos n) / 100_000)) (pos 46_000_000_000_000)))
lowered_is (negsuc n) h = same _ _ (omega (arith, sub_is (pos (lifted (negsuc n) / 100_000)) (pos 46_000_000_000_000)))

module _ (h x : ℤ) (fh : SFits w64 h) (fx : SFits w64 x) (small : nat_abs h * nat_abs x ≤ 4_600_000_000_000_000_000) where
  size : nat_abs (h *ℤ x) ≤ 4_600_000_000_000_000_000
  size = omega (arith, mul_size h x)

  product_is : word h *ℤ word x ≡ h *ℤ x
  product_is = ap₂ (λ (a b : ℤ). a *ℤ b) (to_z-of_z w64 h fh) (to_z-of_z w64 x fx)

  product_fits : SFits w64 (h *ℤ x)
  product_fits = fits_size (h *ℤ x) (omega (arith, size))

  sum_is : word (word h *ℤ word x) +ℤ pos 4_600_000_000_000_000_000 ≡ pos (lifted (h *ℤ x))
  sum_is = ap (λ (z : ℤ). z +ℤ pos 4_600_000_000_000_000_000) (word_as product_is product_fits) ∙ lift_is (h *ℤ x) size

  lifted_fits : SFits w64 (pos (lifted (h *ℤ x)))
  lifted_fits = record { sfits = omega (arith, size, size_is (h *ℤ x)) }

  -- the dividend, as the code has it
  pub dividend_is : word (word (word h *ℤ word x) +ℤ pos 4_600_000_000_000_000_000) ≡ pos (lifted (h *ℤ x))
  dividend_is = word_as sum_is lifted_fits

  pub quotient_fits : lifted (h *ℤ x) / 100_000 < 2 ^ 63
  quotient_fits = omega (arith, size, size_is (h *ℤ x))

  pub floor_fits : SFits w64 (floor_div (h *ℤ x) 100_000)
  floor_fits = fits_size (floor_div (h *ℤ x) 100_000) (omega (arith, size, floor_size (h *ℤ x)))

  pub floor_is : pos (lifted (h *ℤ x) / 100_000) -ℤ pos 46_000_000_000_000 ≡ floor_div (h *ℤ x) 100_000
  floor_is = lowered_is (h *ℤ x) size
