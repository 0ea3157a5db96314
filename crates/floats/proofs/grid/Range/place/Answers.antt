-- `Range::place` meets its contract: a NaN has no place, and the rest is read off the pattern as proofs/Patterns has it. Assumes nothing.
use mathlib.Core.Path.{◌≡◌, refl, sym, ◌∙◌, subst}
use mathlib.Core.Bool.{true}
use Prim.Native.Nat.{◌<◌, ◌^◌}
use native.Mathlib.Omega.{arith}
use lib.Dec.{T}
use lib.IntN.{ℤ, pos, nat_abs, ◌*ℤ◌}
use lib.Signed.{mag}
use lib.Ieee.{Float, nan, inf, fin, binary32, is_nan, fits, to_bits}
use mir.Syntax.{w64}
use mir.Val.{SFits}
use mir.ValLaws.{to_z-of_z}
use Rattle.whole.proofs.Words.{fits_size, fits_as, word, word_as, given}
use Rattle.std.specs.Prelude.{None}
use Rattle.floats.specs.declared.grid.Range.{Range}
use Rattle.floats.specs.Grid.{inside, place_of}
use Rattle.floats.specs.Pattern.{digits_of}
use Rattle.floats.proofs.Patterns.{field, outside, at_62, at_field, steps_few}
use Rattle.floats.proofs.grid.Range.place.Goals.{then-e-lt88, else-e-lt88, Start}
use Rattle.floats.proofs.grid.Range.place.Goals as goal

held : (s : Start) → T (fits binary32 s.args.x)
held s = subst T (sym s.well_formed.1.0.1) tt

few_steps : (s : Start) → s.args.self.steps < 2 ^ 63
few_steps s = omega (arith, s.requires.steps_most)

nan_placed : (r : Range) (x : Float) → is_nan x ≡ true → None ≡ place_of r x
unfolding is_nan place_of inside
nan_placed r nan h = refl
nan_placed r (inf s) h = absurd (subst T (sym h) tt)
nan_placed r (fin s m e) h = absurd (subst T (sym h) tt)

pub returns-then-is_nan : goal.returns-then-is_nan
returns-then-is_nan c = nan_placed c.args.self c.args.x (sym c.is_nan.ensures.value ∙ c.if-is_nan.true)

pub returns-then-e-ge150 : goal.returns-then-e-ge150
returns-then-e-ge150 c =
    let s = (goal.at.returns-then-e-ge150 c).Start in
    let r = s.args.self in
    outside r.low r.high r.steps s.args.x (held s) s.requires.steps_least s.requires.low_small s.requires.high_small c.if-e-ge150.true

-- w is the digits times k, small enough for a word
abbrev steps : Start → ℤ
steps s = let n = to_bits binary32 s.args.x in digits_of n (field n) *ℤ pos s.args.self.steps

few : (s : Start) → nat_abs (steps s) < 2 ^ 44
few s = let n = to_bits binary32 s.args.x in steps_few n (field n) s.args.self.steps s.requires.steps_most

whole : (s : Start) → SFits w64 (steps s)
whole s = fits_size (steps s) (omega (arith, few s))

product : (s : Start) {d k : ℤ} → mag d < 2 ^ 63 → d ≡ digits_of (to_bits binary32 s.args.x) (field (to_bits binary32 s.args.x)) → k ≡ pos s.args.self.steps → word d *ℤ word k ≡ steps s
product s f e g = rw (given f e, g, to_z-of_z w64 (pos s.args.self.steps) (fits_size (pos s.args.self.steps) (few_steps s)))

pub overflow_mul-w : goal.overflow_mul-w
overflow_mul-w c =
    let s = (goal.at.overflow_mul-w c).Start in
    fits_as (product s c.digits.type_inv c.digits.ensures c.from.ensures) (whole s)

pub place_at-requires-clause-w_small : goal.place_at-requires-clause-w_small
place_at-requires-clause-w_small c =
    let s = (goal.at.place_at-requires-clause-w_small c).Start in
    rw (word_as (product s c.digits.type_inv c.digits.ensures c.from.ensures) (whole s)) (few s)

pub returns : goal.returns
returns c =
    let s = (goal.at.returns c).Start in
    let r = s.args.self in
    rw (word_as (product s c.digits.type_inv c.digits.ensures c.from.ensures) (whole s)) at c.place_at.ensures
    ∙ elim c.if-e-lt88.branch [
      | then-e-lt88 w ↦ rw w.s-is (at_62 r.low r.high r.steps s.args.x (held s) s.requires.steps_most w.if-e-lt88.true)
      | else-e-lt88 w ↦ rw w.s-is (at_field r.low r.high r.steps s.args.x (held s) w.if-e-lt88.false c.if-e-ge150.false)
    ]
