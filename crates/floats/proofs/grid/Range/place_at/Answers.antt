-- `Range::place_at` meets its contract: a shift is a quotient rounded down, so its tests, its number and its remark are those of proofs/Floors. Assumes nothing.
use mathlib.Core.Path.{◌≡◌, ap, ◌∙◌}
use mathlib.Core.Bool.{Bool, true, false, not}
use Prim.Native.Nat.{ℕ, ◌<◌, ◌≤◌, ◌^◌}
use native.Mathlib.Nat.{div-le_self}
use native.Mathlib.Omega.{arith}
use lib.IntN.{ℤ, pos, negsuc, nat_abs, ◌+ℤ◌, ◌-ℤ◌, ◌*ℤ◌}
use lib.Signed.{le_z, lt_z, shr_z, mag_shr, nat_abs-le}
use lib.Dec.{lit≤, leb, ltb}
use borrow.Author.Tests.{ltb-true, ltb-false, le-leb, lt-leb}
use lib.Pow.{pow_pos}
use mir.Syntax.{w32, w64}
use mir.Val.{SFits, to_z, of_z}
use mir.ValLaws.{to_z-of_z, sfits_le}
use mir.Facts.{sfits_widen}
use Rattle.whole.specs.Arith.{floor_div}
use Rattle.whole.proofs.Ints.{size_is, add_is, mul_size}
use Rattle.whole.proofs.Words.{fits_size, word}
use Rattle.floats.specs.Pattern.{place_at}
use Rattle.floats.specs.declared.Remark.TheVariants.{Below, On, Above}
use Rattle.std.specs.Prelude.{Option, Some}
use Rattle.floats.specs.declared.Remark.{Remark}
use Rattle.floats.specs.declared.Place.{Place}
use Rattle.floats.proofs.Floors.{by_floors, by_floors_lem, neg_fits}
use Rattle.floats.proofs.grid.Range.place_at.Goals.{Start, then-floor-from-via-then-floor-from, then-floor-from-via-else-floor-from+then-minus_ceiling-from}
use Rattle.floats.proofs.grid.Range.place_at.Goals as goal

-- a shifted word
shifted : (z : ℤ) (m : ℕ) → SFits w64 z → word (shr_z (word z) m) ≡ floor_div z m
shifted z m f = rw (to_z-of_z w64 z f) (to_z-of_z w64 (shr_z z m) (sfits_le (mag_shr z m) f))

-- an end fits its field, and is what it was once it is widened
low_fits : (s : Start) → SFits w32 s.args.self.low
low_fits s = record { sfits = s.well_formed.0.1.1.0.1 }

high_fits : (s : Start) → SFits w32 s.args.self.high
high_fits s = record { sfits = s.well_formed.0.1.1.1.0.1 }

wide : {r : ℤ} (z : ℤ) → SFits w32 z → r ≡ to_z w32 (of_z w32 z) → word r ≡ z
wide z f e = ap word (e ∙ to_z-of_z w32 z f) ∙ to_z-of_z w64 z (sfits_widen tt f)

-- twice w, and its quotient with one more
double_fits : (z : ℤ) → nat_abs z < 2 ^ 44 → SFits w64 (pos 2 *ℤ z)
double_fits z h = fits_size (pos 2 *ℤ z) (omega (arith, mul_size (pos 2) z))

quotient_size : (z : ℤ) (m : ℕ) → nat_abs (floor_div z m) ≤ nat_abs z
quotient_size (pos n) m = div-le_self n m
quotient_size (negsuc n) m = omega (arith, div-le_self n m)

next_few : (z : ℤ) (m j : ℕ) → j ≤ 1 → nat_abs z < 2 ^ 44 → nat_abs (floor_div (pos 2 *ℤ z) m +ℤ pos j) < 2 ^ 63
next_few z m j l h =
    let t = pos 2 *ℤ z in
    let q = floor_div t m in
    let a = add_is q (pos j) in
    omega (arith, size_is (q +ℤ pos j), a.plus_small, a.minus_small, size_is q, quotient_size t m, mul_size (pos 2) z)

next_fits : (z : ℤ) (m j : ℕ) → j ≤ 1 → nat_abs z < 2 ^ 44 → SFits w64 (floor_div (pos 2 *ℤ z) m +ℤ pos j)
next_fits z m j l h = fits_size (floor_div (pos 2 *ℤ z) m +ℤ pos j) (next_few z m j l h)

abbrev power : Start → ℕ
power s = 2 ^ s.args.s

negated_fits : (s : Start) → SFits w64 (pos 0 -ℤ s.args.w)
negated_fits s = neg_fits s.args.w (omega arith)

end_fits : (s : Start) → SFits w64 (pos 0 -ℤ s.args.self.high)
end_fits s = neg_fits s.args.self.high (omega (arith, nat_abs-le s.args.self.high (high_fits s).sfits))

-- the double's quotient in the code is that of the double
quotient : (s : Start) → word (shr_z (word (pos 2 *ℤ word s.args.w)) (power s)) ≡ floor_div (pos 2 *ℤ s.args.w) (power s)
quotient s =
    rw (to_z-of_z w64 s.args.w s.ranges.w) (shifted (pos 2 *ℤ s.args.w) (power s) (double_fits s.args.w s.requires.w_small))

pub overflow_add-number : goal.overflow_add-number
overflow_add-number c = let s = (goal.at.overflow_add-number c).Start in rw (quotient s) (next_fits s.args.w (power s) _ (lit≤ tt) s.requires.w_small)

-- so is the number
abbrev number : Start → ℤ
number s = floor_div (floor_div (pos 2 *ℤ s.args.w) (power s) +ℤ pos 1) 2

number_is : (s : Start) → word (shr_z (word (word (shr_z (word (pos 2 *ℤ word s.args.w)) (power s)) +ℤ pos 1)) 2) ≡ number s
number_is s = rw (quotient s) (shifted _ 2 (next_fits s.args.w (power s) 1 (lit≤ tt) s.requires.w_small))

number_few : (s : Start) → nat_abs (number s) < 2 ^ 63
number_few s =
    let z = floor_div (pos 2 *ℤ s.args.w) (power s) +ℤ pos 1 in
    omega (arith, quotient_size z 2, next_few s.args.w (power s) 1 (lit≤ tt) s.requires.w_small)

pub overflow_sub-number : goal.overflow_sub-number
overflow_sub-number c = let s = (goal.at.overflow_sub-number c).Start in rw (number_is s) (neg_fits (number s) (number_few s))

-- the tests in the code are those on the quotients, turned
less : (a b : ℕ) (t : Bool) → ltb a b ≡ t → leb b a ≡ not t
less a b true h = lt-leb b a (ltb-true a b h)
less a b false h = le-leb b a (ltb-false a b h)

turned : (a b : ℤ) (t : Bool) → lt_z a b ≡ t → le_z b a ≡ not t
turned (pos a) (pos b) t h = less a b t h
turned (pos a) (negsuc b) t h = ap not h
turned (negsuc a) (pos b) t h = ap not h
turned (negsuc a) (negsuc b) t h = less b a t h

low : (s : Start) (r : ℤ) (t : Bool) → r ≡ to_z w32 (of_z w32 s.args.self.low) → lt_z (word (shr_z (word s.args.w) (power s))) (word r) ≡ t
    → le_z s.args.self.low (floor_div s.args.w (power s)) ≡ not t
low s r t e h = turned (floor_div s.args.w (power s)) s.args.self.low t (rw (wide s.args.self.low (low_fits s) e, shifted s.args.w (power s) s.ranges.w) at h)

high : (s : Start) (r : ℤ) (t : Bool) → r ≡ to_z w32 (of_z w32 s.args.self.high)
    → lt_z (word (shr_z (word (pos 0 -ℤ word s.args.w)) (power s))) (word (pos 0 -ℤ word r)) ≡ t
    → le_z (pos 0 -ℤ s.args.self.high) (floor_div (pos 0 -ℤ s.args.w) (power s)) ≡ not t
high s r t e h =
    turned (floor_div (pos 0 -ℤ s.args.w) (power s)) (pos 0 -ℤ s.args.self.high) t
    (rw (wide s.args.self.high (high_fits s) e, to_z-of_z w64 _ (end_fits s), to_z-of_z w64 s.args.w s.ranges.w, shifted _ (power s) (negated_fits s)) at h)

reached : (s : Start) (z : ℤ) (t : Bool) → z ≡ number s → lt_z (word (shr_z (word s.args.w) (power s))) z ≡ t
    → le_z (number s) (floor_div s.args.w (power s)) ≡ not t
reached s z t e h = turned (floor_div s.args.w (power s)) (number s) t (rw (e, shifted s.args.w (power s) s.ranges.w) at h)

passed : (s : Start) (z : ℤ) (t : Bool) → z ≡ number s
    → lt_z (word (shr_z (word (pos 0 -ℤ word s.args.w)) (power s))) (word (pos 0 -ℤ z)) ≡ t
    → le_z (pos 0 -ℤ number s) (floor_div (pos 0 -ℤ s.args.w) (power s)) ≡ not t
passed s z t e h =
    turned (floor_div (pos 0 -ℤ s.args.w) (power s)) (pos 0 -ℤ number s) t
    (rw (e, to_z-of_z w64 _ (neg_fits (number s) (number_few s)), to_z-of_z w64 s.args.w s.ranges.w, shifted _ (power s) (negated_fits s)) at h)

floors : (s : Start) → place_at s.args.self.low s.args.self.high s.args.w (power s)
    ≡ by_floors s.args.self.low s.args.self.high (floor_div s.args.w (power s)) (floor_div (pos 0 -ℤ s.args.w) (power s)) (floor_div (pos 2 *ℤ s.args.w) (power s))
floors s = by_floors_lem s.args.self.low s.args.self.high s.args.w (power s) (pow_pos s.args.s)

abbrev at : Remark → ℤ → Option Place
at m z = Some (record { number = z; remark = m })

pub returns-then-floor-from : goal.returns-then-floor-from
returns-then-floor-from c =
    let s = (goal.at.returns-then-floor-from c).Start in
    elim c.then-floor-from.branch [
      | then-floor-from-via-then-floor-from w ↦ rw (floors s, low s c.from.result true c.from.ensures w.if-floor-from.true)
      | then-floor-from-via-else-floor-from+then-minus_ceiling-from w ↦ rw (
        floors s,
        low s c.from.result false c.from.ensures w.if-floor-from.false,
        high s w.from-else-floor-from.result true w.from-else-floor-from.ensures w.if-minus_ceiling-from.true,
      )
    ]

pub returns-then-floor-number : goal.returns-then-floor-number
returns-then-floor-number c =
    let s = (goal.at.returns-then-floor-number c).Start in
    rw (
      floors s,
      low s c.from.result false c.from.ensures c.if-floor-from.false,
      high s c.from-else-floor-from.result false c.from-else-floor-from.ensures c.if-minus_ceiling-from.false,
      reached s _ true (number_is s) c.if-floor-number.true,
    )
    (ap (at Below) (number_is s))

pub returns-then-minus_ceiling-number : goal.returns-then-minus_ceiling-number
returns-then-minus_ceiling-number c =
    let s = (goal.at.returns-then-minus_ceiling-number c).Start in
    rw (
      floors s,
      low s c.from.result false c.from.ensures c.if-floor-from.false,
      high s c.from-else-floor-from.result false c.from-else-floor-from.ensures c.if-minus_ceiling-from.false,
      reached s _ false (number_is s) c.if-floor-number.false,
      passed s _ true (number_is s) c.if-minus_ceiling-number.true,
    )
    (ap (at Above) (number_is s))

pub returns-else-minus_ceiling-number : goal.returns-else-minus_ceiling-number
returns-else-minus_ceiling-number c =
    let s = (goal.at.returns-else-minus_ceiling-number c).Start in
    rw (
      floors s,
      low s c.from.result false c.from.ensures c.if-floor-from.false,
      high s c.from-else-floor-from.result false c.from-else-floor-from.ensures c.if-minus_ceiling-from.false,
      reached s _ false (number_is s) c.if-floor-number.false,
      passed s _ false (number_is s) c.if-minus_ceiling-number.false,
    )
    (ap (at On) (number_is s))
