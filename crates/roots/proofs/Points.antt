-- Lines of the paper in literals, as one list of things to work out with what each must be, and one theorem over it, which is computed: all the lines of
-- the salinities that docs/ROOT.md works through, and at the ends of the range; then the words of whole answers. Assumes nothing.
use Prim.Native.Nat.{ℕ, ◌*◌}
use mathlib.Core.Path.{◌≡◌, refl}
use mathlib.Core.Bool.{Bool, true, false, cond, ◌&&◌}
use mathlib.Core.List.{List, [], ◌∷◌}
use lib.Dec.{T, eqb}
use lib.Count.{count_leading_zeros}
use lib.IntN.{pos}
use Rattle.whole.specs.Arith.{neg, root_from, root_of}
use Rattle.whole.specs.Paper.{pairs_of, begun, tried, next, after}
use Rattle.sea.specs.Recipe.{root_at}
use Rattle.sea.specs.Water.{range_of}
use Rattle.roots.specs.Search.{search_of, search_number, search_words}

-- after so many trials of a salinity's grid number: the trial bit, the rest, the root so far
pub data Point : Type 0 where
  at : ℕ → ℕ → ℕ → ℕ → ℕ → Point

unfoldable pub points : List Point
points =
    at 35_000 0 1_073_741_824 3_500_000_000 0
    ∷ at 35_000 1 268_435_456 2_426_258_176 1_073_741_824
    ∷ at 35_000 2 67_108_864 1_084_080_896 805_306_368
    ∷ at 35_000 3 16_777_216 211_665_664 469_762_048
    ∷ at 35_000 4 4_194_304 211_665_664 234_881_024
    ∷ at 35_000 5 1_048_576 211_665_664 117_440_512
    ∷ at 35_000 6 262_144 93_176_576 59_768_832
    ∷ at 35_000 7 65_536 33_145_600 30_146_560
    ∷ at 35_000 8 16_384 2_933_504 15_138_816
    ∷ at 35_000 9 4_096 2_933_504 7_569_408
    ∷ at 35_000 10 1_024 2_933_504 3_784_704
    ∷ at 35_000 11 256 2_933_504 1_892_352
    ∷ at 35_000 12 64 1_040_896 946_432
    ∷ at 35_000 13 16 94_400 473_280
    ∷ at 35_000 14 4 94_400 236_640
    ∷ at 35_000 15 1 94_400 118_320
    ∷ at 35_000 16 0 94_400 59_160
    ∷ at 12_345 0 1_073_741_824 1_234_500_000 0
    ∷ at 12_345 1 268_435_456 160_758_176 1_073_741_824
    ∷ at 12_345 2 67_108_864 160_758_176 536_870_912
    ∷ at 12_345 3 16_777_216 160_758_176 268_435_456
    ∷ at 12_345 4 4_194_304 160_758_176 134_217_728
    ∷ at 12_345 5 1_048_576 22_346_144 71_303_168
    ∷ at 12_345 6 262_144 22_346_144 35_651_584
    ∷ at 12_345 7 65_536 22_346_144 17_825_792
    ∷ at 12_345 8 16_384 4_454_816 8_978_432
    ∷ at 12_345 9 4_096 4_454_816 4_489_216
    ∷ at 12_345 10 1_024 4_454_816 2_244_608
    ∷ at 12_345 11 256 2_209_184 1_123_328
    ∷ at 12_345 12 64 1_085_600 561_920
    ∷ at 12_345 13 16 523_616 281_024
    ∷ at 12_345 14 4 242_576 140_528
    ∷ at 12_345 15 1 102_044 70_268
    ∷ at 12_345 16 0 31_775 35_135
    ∷ at 0 0 0 0 0
    ∷ at 0 1 0 0 0
    ∷ at 1 0 65_536 100_000 0
    ∷ at 1 1 16_384 34_464 65_536
    ∷ at 1 9 0 144 316
    ∷ at 1 10 0 144 316
    ∷ at 42_000 0 1_073_741_824 4_200_000_000 0
    ∷ at 42_000 1 268_435_456 3_126_258_176 1_073_741_824
    ∷ at 42_000 15 1 182_364 129_612
    ∷ at 42_000 16 0 52_751 64_807
    ∷ at 42_000 17 0 52_751 64_807
    ∷ at 42_000 1000 0 52_751 64_807
    ∷ at 10 0 262_144 1_000_000 0
    ∷ at 10 10 0 0 1_000
    ∷ at 11 0 1_048_576 1_100_000 0
    ∷ at 11 11 0 1_696 1_048
    ∷ []

unfoldable pub holds : Point → Bool
holds (at σ j bit rest root) =
    let t = after j (σ * 100_000) in
    eqb t.bit bit && (eqb t.rest rest && eqb t.root root)

unfoldable pub all : List Point → Bool
all [] = true
all (p ∷ ps) = cond (holds p) (all ps) false

pub paper_points : T (all points)
unfolding points holds all count_leading_zeros pairs_of begun tried next after
paper_points = tt

-- the root, the trial bit, the rest and the root so far; refused on both sides of the range
pub answers :
    ((search_number (search_of (pos 35_000) 1) ≡ 0) × (search_words (search_of (pos 35_000) 1) ≡ 59_160 ∷ 268_435_456 ∷ 2_426_258_176 ∷ 1_073_741_824 ∷ []))
    × (((search_number (search_of (pos 42_000) 16) ≡ 0) × (search_words (search_of (pos 42_000) 16) ≡ 64_807 ∷ 0 ∷ 52_751 ∷ 64_807 ∷ []))
    × (((search_number (search_of (pos 42_001) 16) ≡ 3) × (search_words (search_of (pos 42_001) 16) ≡ 0 ∷ 0 ∷ 0 ∷ 0 ∷ []))
    × ((search_number (search_of (neg 1) 0) ≡ 3) × (search_words (search_of (neg 1) 0) ≡ 0 ∷ 0 ∷ 0 ∷ 0 ∷ []))))
unfolding search_of range_of root_at root_from root_of count_leading_zeros pairs_of begun tried next after
answers = ((refl, refl), ((refl, refl), ((refl, refl), (refl, refl))))
