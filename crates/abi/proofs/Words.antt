-- As many words as a row has, put from its start, are the row. Assumes nothing.
use mathlib.Core.Path.{◌≡◌, sym, ap, ◌∙◌}
use mathlib.Core.List.{List, ◌++◌}
use native.Mathlib.Omega.{arith}
use lib.ListN.{length, drop_of_length-le}
use lib.Seq.{sets}
use Rattle.std.proofs.lemmas.List.{append-nil}
use Rattle.std.proofs.lemmas.List.Edits.{sets-eq}

pub whole_row : {A : Type 0} → (row words : List A) → length row ≡ length words → words ≡ sets row 0 words
whole_row row words e = sym (sets-eq words row 0 (omega arith) ∙ ap (words ++◌) (drop_of_length-le row (omega arith)) ∙ append-nil words)
