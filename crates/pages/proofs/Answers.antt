-- What the answer of a page, or of a table, says: the number, and the count of bytes. Each is the definition, read at one outcome of its check. Assumes nothing.
use Prim.Native.Nat.{ℕ}
use mathlib.Core.Path.{◌≡◌, refl}
use mathlib.Core.List.{List}
use mathlib.Core.Bool.{Bool, true, false, cond}
use lib.ListN.{length}
use lib.Dec.{ltb}
use Rattle.std.specs.Prelude.{Result, Ok, Err}
use Rattle.refusals.specs.declared.Refusal.{Refusal}
use Rattle.refusals.specs.declared.Refusal.TheVariants.{Room}
use Rattle.pages.specs.Page.{filled_number, filled_count, page_checked, filled_with}

-- 30 for too little room
pub filled_number_lem : (least len : ℕ) (text : List ℕ) → filled_number (filled_with least len text) ≡ cond (ltb len least) 30 0
unfolding filled_with
filled_number_lem least len text = go (ltb len least) (length text)
  where
    go : (x : Bool) (k : ℕ) → filled_number (page_checked (cond x false true) k) ≡ cond x 30 0
    go true k = refl
    go false k = refl

-- the number and count of each answer, in numbers
abbrev page_of_63 : Result ℕ Refusal
page_of_63 = Ok 63

pub written_page : (filled_number page_of_63 ≡ 0) × (filled_count page_of_63 ≡ 63)
written_page = (refl, refl)

pub refused_page : (filled_number (Err Room) ≡ 30) × (filled_count (Err Room) ≡ 0)
refused_page = (refl, refl)
