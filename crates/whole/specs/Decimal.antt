-- A printed decimal on SPEC's common scale, exactly, in units of 10⁻⁹: its digits, with _ for the point, and the count of those after the point. So
-- 65.36332 is 65_36332 /10^ 5.
use Rattle.std.specs.Prelude.{ℕ, ◌*◌, ◌-◌, ◌^◌, ℤ, pos}
use Rattle.whole.specs.Arith.{neg}

infix 70 ◌/10^◌ -◌/10^◌
abbrev pub ◌/10^◌ : ℕ → ℕ → ℤ
digits /10^ places = pos (digits * 10 ^ (9 - places))

abbrev pub -◌/10^◌ : ℕ → ℕ → ℤ
- digits /10^ places = neg (digits * 10 ^ (9 - places))
