-- The digits of a number by the place of the first power of ten above it. Assumes nothing.
use Prim.Native.Nat.{ℕ, zero, suc, ◌+◌, ◌/◌, ◌^◌, ◌≤◌, ◌<◌}
use mathlib.Core.Path.{◌≡◌, refl, subst}
use mathlib.Core.Bool.{Bool, true, false, cond}
use mathlib.Core.List.{List, [], ◌∷◌}
use native.Mathlib.Omega.{arith}
use lib.ListN.{length}
use lib.Dec.{ltb}
use borrow.Author.Tests.{ltb-true, ltb-false}
use Rattle.std.specs.Prelude.{Option, Some}
use Rattle.std.specs.Option.{MatchOption}
use Rattle.std.specs.List.{position, position_from}
use Rattle.std.proofs.lemmas.Iterator.Adapters.{position_from-zero}
use Rattle.cells.specs.declared.TheConstants.{POWERS}
use Rattle.cells.specs.Cells.{decimal}
use Rattle.cells.proofs.Decimal.{decimal_split, decimal_width, one_or_more}

-- ten to the k + 1, k + 2 and so on, j of them
powers : (k j : ℕ) → List ℕ
powers k zero = []
powers k (suc j) = 10 ^ (k + 1) ∷ powers (k + 1) j

-- so the table reads
table : powers 0 19 ≡ POWERS
unfolding powers
table = refl

-- what the place of the first power above a number tells: one digit more than the powers before it; no such place, the most
abbrev pub Tells : ℕ → ℕ → Option ℕ → Type 0
Tells n most k = MatchOption k (length (decimal n) ≡ most) (λ i. length (decimal n) ≡ i + 1)

place_tells :
    (j k most n : ℕ) → k < length (decimal n) → suc (k + j) ≡ most → n < 10 ^ most → Tells n most (position_from (λ x. ltb n x) k (powers k j))
unfolding powers
place_tells zero k most n h e l =
    let g : n < 10 ^ suc k = subst (λ (x : ℕ). n < 10 ^ x) (omega (arith, e)) l in omega (arith, decimal_width k n g)
place_tells (suc j) k most n h e l =
    go _ (ltb n (10 ^ (k + 1))) refl λ g.
    place_tells j (k + 1) most n (omega (arith, decimal_split (k + 1) n g, one_or_more (n / 10 ^ (k + 1)))) (omega (arith, e)) l
  where
    go : (r : Option ℕ) (b : Bool) → ltb n (10 ^ (k + 1)) ≡ b → (10 ^ (k + 1) ≤ n → Tells n most r) → Tells n most (cond b (Some k) r)
    go r true t rest =
        let w : n < 10 ^ suc k = subst (λ (x : ℕ). n < 10 ^ x) (omega arith) (ltb-true n (10 ^ (k + 1)) t) in omega (arith, decimal_width k n w)
    go r false t rest = rest (ltb-false n (10 ^ (k + 1)) t)

pub digits_tell : (n : ℕ) → n < 10 ^ 20 → Tells n 20 (position (λ x. ltb n x) POWERS)
digits_tell n l =
    subst (λ (t : List ℕ). Tells n 20 (position (λ x. ltb n x) t)) table (rw position_from-zero (place_tells 19 0 20 n (one_or_more n) refl l))
