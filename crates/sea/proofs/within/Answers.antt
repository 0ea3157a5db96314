-- `sea::within` meets its contract: the library's test of a range asks the two questions of the definition. Assumes nothing.
use mathlib.Core.Path.{◌≡◌, refl}
use mathlib.Core.Bool.{Bool, true, false, cond, ◌&&◌}
use native.Mathlib.Omega.{arith}
use lib.IntN.{ℤ, pos, negsuc}
use mir.Syntax.{w64}
use mir.ValLaws.{to_z-of_z}
use Rattle.std.specs.Ordering.{is_le, int_cmp}
use Rattle.std.specs.Int.Signed.{le_z}
use Rattle.sea.specs.Water.{range_of}
use Rattle.sea.proofs.within.Goals as goal

by_le : (a b : ℤ) → is_le (int_cmp a b) ≡ le_z a b
by_le (pos n) (pos m) = grind arith
by_le (pos n) (negsuc m) = refl
by_le (negsuc n) (pos m) = refl
by_le (negsuc n) (negsuc m) = grind arith

both : (a b : Bool) → a && b ≡ cond a b false
both true b = refl
both false b = refl

pub returns : goal.returns
unfolding range_of
returns c =
    rw (
      c.contains.ensures.value,
      c.new.ensures.start,
      c.new.ensures.end,
      c.new.ensures.exhausted,
      to_z-of_z w64 c.args.z c.ranges.z,
      to_z-of_z w64 c.args.low c.ranges.low,
      to_z-of_z w64 c.args.high c.ranges.high,
      by_le c.args.low c.args.z,
      by_le c.args.z c.args.high,
    )
    (both (le_z c.args.low c.args.z) (le_z c.args.z c.args.high))
