-- `float_of` meets its contract: the test finds the NaN patterns, and 0.0 / 0.0 is the NaN. Assumes nothing.
use mathlib.Core.Path.{◌≡◌, refl, sym, ap, ◌∙◌, subst}
use native.Mathlib.Omega.{arith}
use Rattle.std.specs.Prelude.{slice_index}
use mathlib.Core.Bool.{Bool, true, not}
use Prim.Native.Nat.{ℕ, ◌+◌, ◌*◌, ◌%◌, ◌<◌, ◌≤◌}
use lib.Dec.{T, ltb, lt→ltb}
use lib.Arith.{le→nltb}
use lib.Ieee.{Float, nan, inf, fin, binary32, is_nan, nan_bits, div, of_bits}
use lib.Ieee.Bits.{nan_bits_is, nan_bits_above, is_true}
use Rattle.floats.proofs.float_of.Goals.{After-from_le_bytes-n}
use Rattle.floats.proofs.float_of.Goals as goal

is_nan_lem : (x : Float) → is_nan x ≡ true → nan ≡ x
unfolding is_nan
is_nan_lem nan h = refl
is_nan_lem (inf s) h = absurd (subst T (sym h) tt)
is_nan_lem (fin s m e) h = absurd (subst T (sym h) tt)

nan_pattern : (n : ℕ) → 0x7f80_0000 < n % 0x8000_0000 → nan ≡ of_bits binary32 n
nan_pattern n h = is_nan_lem (of_bits binary32 n) (sym (nan_bits_is binary32 n) ∙ nan_bits_above binary32 n ∙ is_true (ltb 0x7f80_0000 (n % 0x8000_0000)) (lt→ltb 0x7f80_0000 (n % 0x8000_0000) h))

no_nan_pattern : (n : ℕ) → n % 0x8000_0000 ≤ 0x7f80_0000 → T (not (nan_bits binary32 n))
no_nan_pattern n h = subst (λ (b : Bool). T (not b)) (sym (nan_bits_above binary32 n)) (le→nltb 0x7f80_0000 (n % 0x8000_0000) h)

-- the number that the library reads is the definition's
read : (c : After-from_le_bytes-n) → let bs = c.args.bytes in c.from_le_bytes-n.result ≡ slice_index bs 0 + 256 * (slice_index bs 1 + 256 * (slice_index bs 2 + 256 * slice_index bs 3))
read c = omega (arith, c.from_le_bytes-n.ensures)

pub float_from_bits-result : goal.float_from_bits-result
float_from_bits-result c = no_nan_pattern c.from_le_bytes-n.result c.if-n-gt2139095040.false

pub returns-then-n-gt2139095040 : goal.returns-then-n-gt2139095040
unfolding div of_bits
returns-then-n-gt2139095040 c = nan_pattern c.from_le_bytes-n.result c.if-n-gt2139095040.true ∙ ap (of_bits binary32) (read c.before)

pub returns-else-n-gt2139095040 : goal.returns-else-n-gt2139095040
returns-else-n-gt2139095040 c = ap (of_bits binary32) (read c.before)
