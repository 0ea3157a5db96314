-- SPEC, "The root on paper": what is answered for a salinity's grid number σ and a number of trials: the root w, and the paper's line of σ·100,000 after
-- so many trials. A σ outside the grid table is refused by 3, with noughts.
use Rattle.std.specs.Prelude.{ℕ, ◌*◌, cond, List, [], ◌∷◌, ℤ, pos, Result, Ok, Err}
use Rattle.whole.specs.declared.Trial.{Trial}
use Rattle.whole.specs.Arith.{plus}
use Rattle.whole.specs.Paper.{after}
use Rattle.refusals.specs.declared.Refusal.{Refusal}
use Rattle.refusals.specs.declared.Refusal.TheVariants.{Salinity}
use Rattle.refusals.specs.Number.{answer_number}
use Rattle.sea.specs.Recipe.{root_at}
use Rattle.sea.specs.Water.{range_of}
use Rattle.roots.specs.declared.Search.{Search}

-- the answer where there is one
abbrev pub found : ℕ → Trial → Result Search Refusal
found w t = Ok (record { root = w; line = t })

unfoldable pub search_of : ℤ → ℕ → Result Search Refusal
search_of σ j = cond (range_of (pos 0) (pos 42_000) σ) (found (root_at (plus σ)) (after j (plus σ * 100_000))) (Err Salinity)

-- the number of an answer, 0 for none, and its four words, noughts if refused: the root, the trial bit, the rest, the root so far
abbrev pub search_number : Result Search Refusal → ℕ
search_number = answer_number

abbrev pub search_words : Result Search Refusal → List ℕ
search_words (Ok s) = s.root ∷ s.line.bit ∷ s.line.rest ∷ s.line.root ∷ []
search_words (Err r) = 0 ∷ 0 ∷ 0 ∷ 0 ∷ []
