-- SPEC, "The recipe in whole numbers": the recorder's float.
use Rattle.std.specs.Prelude.{ℕ, false, cond, ltb, pos, Float}
use Rattle.std.specs.Float.{fin, binary32}
use Rattle.std.specs.Float.Ieee.{of_int, div}

-- below this a float stands for one number alone: `recorder_back` of proofs/Quotient. No density reaches it
abbrev pub recorder_end : ℕ
recorder_end = 16_384_000

-- the number turned into a float exactly, then one division by 1000; from the end on 0
unfoldable pub recorder_of : ℕ → Float
recorder_of n =
    cond (ltb n recorder_end) (div binary32 (of_int binary32 (pos n)) (of_int binary32 (pos 1000))) (fin false 0 (pos 0))
