-- For the contracts of private functions: the digits of a float's bit pattern, and the place of a fraction.
use Rattle.std.specs.Prelude.{ℕ, ◌+◌, ◌*◌, ◌%◌, cond, ◌&&◌, ℤ, pos, ◌+ℤ◌, ◌*ℤ◌, leb, eqb, Option, Some, None}
use Rattle.std.specs.Int.Signed.{le_z}
use Rattle.whole.specs.Arith.{floor_div}
use Rattle.floats.specs.Grid.{signed, seen_from}
use Rattle.floats.specs.declared.Place.{Place}

-- the digits of the pattern n, whose exponent's field is e, with n's sign; at e = 0 there is no leading one
unfoldable pub digits_of : ℕ → ℕ → ℤ
digits_of n e = signed (leb 0x8000_0000 n) (cond (eqb e 0) (n % 0x80_0000) (0x80_0000 + n % 0x80_0000))

-- the place of the value w/d in steps: from lo to hi, ends included, the nearest whole number, a half up, and w/d seen from it
unfoldable pub place_at : ℤ → ℤ → ℤ → ℕ → Option Place
place_at lo hi w d =
    let g = floor_div (pos 2 *ℤ w +ℤ pos d) (2 * d) in
    cond (le_z (lo *ℤ pos d) w && le_z w (hi *ℤ pos d)) (Some (record { number = g; remark = seen_from (g *ℤ pos d) w })) None
