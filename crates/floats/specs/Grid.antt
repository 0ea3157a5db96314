-- SPEC, "A reading": a float's exact value as a fraction, the range test on it, its grid number, and on which side of that it lies.
use Rattle.std.specs.Prelude.{ℕ, ◌*◌, ◌≡◌, Bool, true, false, cond, ◌&&◌, ℤ, pos, neg_ℤ, ◌+ℤ◌, ◌*ℤ◌, ◌≤ℤ◌, ◌<ℤ◌, Float, Option, Some, None}
use Rattle.std.specs.Int.Signed.{le_z}
use Rattle.std.specs.Float.{nan, inf, fin}
use Rattle.std.specs.Float.Ieee.{up, down}
use Rattle.whole.specs.Arith.{floor_div}
use Rattle.floats.specs.declared.Remark.{Remark}
use Rattle.floats.specs.declared.Remark.TheVariants.{Below, On, Above}
use Rattle.floats.specs.declared.grid.Range.{Range}
use Rattle.floats.specs.declared.Place.{Place}

-- neither a NaN nor an infinity
abbrev pub finite : Float → Bool
finite nan = false
finite (inf s) = false
finite (fin s m e) = true

-- n, or -n where the sign is set
abbrev pub signed : Bool → ℕ → ℤ
signed false n = pos n
signed true n = neg_ℤ (pos n)

-- a finite float's exact value is the fraction numer / denom; minus zero's numer is 0
abbrev pub numer : Float → ℤ
numer nan = pos 0
numer (inf s) = pos 0
numer (fin s m e) = signed s (m * up e)

abbrev pub denom : Float → ℕ
denom nan = 1
denom (inf s) = 1
denom (fin s m e) = down e

-- the exact value of x is at most y's, by multiplying across; both have the same one
abbrev pub AtMost : Float → Float → Type 0
AtMost x y = (numer x *ℤ pos (denom y)) ≤ℤ (numer y *ℤ pos (denom x))

abbrev pub Same : Float → Float → Type 0
Same x y = AtMost x y × AtMost y x

-- a row of SPEC's table: the ends as grid numbers, and the grid's steps to 1
abbrev pub range : ℤ → ℤ → ℕ → Range
range lo hi k = record { low = lo; high = hi; steps = k }

-- the exact value, in steps, is from the low end to the high end, ends included
unfoldable pub inside : Range → Float → Bool
inside r x =
    finite x
    && (le_z (r.low *ℤ pos (denom x)) (numer x *ℤ pos r.steps)
    && le_z (numer x *ℤ pos r.steps) (r.high *ℤ pos (denom x)))

-- the exact value times k plus one half, rounded down
unfoldable pub grid_no : ℕ → Float → ℤ
grid_no k x = floor_div (numer x *ℤ pos (2 * k) +ℤ pos (denom x)) (2 * denom x)

-- v seen from g: below, on or above it
abbrev pub seen_from : ℤ → ℤ → Remark
seen_from g v = cond (le_z g v) (cond (le_z v g) On Above) Below

-- the exact value times k, and the grid point g, both over the value's own denominator: nothing is rounded
abbrev pub in_steps : ℕ → Float → ℤ
in_steps k x = numer x *ℤ pos k

abbrev pub point_of : ℤ → Float → ℤ
point_of g x = g *ℤ pos (denom x)

-- on which side of its grid point the exact value lies
unfoldable pub remark_of : ℕ → Float → Remark
remark_of k x = seen_from (point_of (grid_no k x) x) (in_steps k x)

-- a remark's number: the greater the value, of floats with one grid number, the greater the number. 0 is no remark's
abbrev pub remark_number : Remark → ℕ
remark_number Below = 1
remark_number On = 2
remark_number Above = 3

-- what a remark says beside the grid number g (`lies`, `told` of proofs/Remarks). Below: from g − ½ on, and less than g. Above: more than g, and less
-- than g + ½
unfoldable pub InHalf : Remark → ℕ → ℤ → Float → Type 0
InHalf Below k g x = ((pos 2 *ℤ point_of g x) ≤ℤ (pos 2 *ℤ in_steps k x +ℤ pos (denom x))) × (in_steps k x <ℤ point_of g x)
InHalf On k g x = in_steps k x ≡ point_of g x
InHalf Above k g x = (point_of g x <ℤ in_steps k x) × ((pos 2 *ℤ in_steps k x) <ℤ (pos 2 *ℤ point_of g x +ℤ pos (denom x)))

-- the range test comes before the rounding
unfoldable pub place_of : Range → Float → Option Place
place_of r x = cond (inside r x) (Some (record { number = grid_no r.steps x; remark = remark_of r.steps x })) None
