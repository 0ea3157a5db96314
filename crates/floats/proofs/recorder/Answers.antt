-- `recorder` meets its contract: below 16,384,000 the cast is exact, and the literal 1000.0 is 1000. Assumes nothing.
use mathlib.Core.Path.{◌≡◌, refl, sym, ap, ◌∙◌}
use Prim.Native.Nat.{ℕ, ◌≤◌}
use mathlib.Core.Bool.{false}
use lib.IntN.{pos}
use lib.Ieee.{fin, binary32, div, of_int, of_bits}
use borrow.Author.Tests.{le-ltb}
use Rattle.floats.specs.Recorder.{recorder_end, recorder_of}
use Rattle.floats.proofs.Quotient.{recorder_is}
use Rattle.floats.proofs.recorder.Goals as goal

thousand : of_int binary32 (pos 1000) ≡ of_bits binary32 1148846080
unfolding of_int of_bits
thousand = refl

past : (n : ℕ) → recorder_end ≤ n → fin false 0 (pos 0) ≡ recorder_of n
unfolding recorder_of
past n h = simp (le-ltb _ _ h)

pub returns-then-shown-lt16384000 : goal.returns-then-shown-lt16384000
returns-then-shown-lt16384000 c =
    let n = c.args.shown in
    sym (recorder_is n c.if-shown-lt16384000.true ∙ ap (div binary32 (of_int binary32 (pos n))) thousand)

pub returns-else-shown-lt16384000 : goal.returns-else-shown-lt16384000
unfolding of_bits
returns-else-shown-lt16384000 c = past c.args.shown c.if-shown-lt16384000.false
