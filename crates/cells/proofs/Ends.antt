-- A text and the byte after it; decimals with a point, by their last digit. Assumes nothing.
use Prim.Native.Nat.{ℕ, zero, suc, ◌+◌, ◌-◌, ◌/◌, ◌%◌, ◌≤◌}
use mathlib.Core.Path.{◌≡◌, refl, sym, ap, ◌∙◌}
use mathlib.Core.List.{List, [], ◌∷◌, ◌++◌}
use native.Mathlib.Omega.{arith}
use lib.ListN.{length, length-append}
use Rattle.cells.specs.Cells.{decimal, pointed, fixed_text}

-- a byte after a text, by another name of the text
pub one_longer : {t u : List ℕ} (end : ℕ) → t ≡ u → length (u ++ (end ∷ [])) ≡ length t + 1
one_longer {t} {u} end e = length-append u (end ∷ []) ∙ ap (λ (l : List ℕ). length l + 1) (sym e)

pub ended : {t u : List ℕ} (end : ℕ) → t ≡ u → t ++ (end ∷ []) ≡ u ++ (end ∷ [])
ended end e = ap (λ (l : List ℕ). l ++ (end ∷ [])) e

pub pointed_none : (k n : ℕ) → k ≡ 0 → decimal n ++ (46 ∷ []) ≡ pointed k n
unfolding pointed
pointed_none zero n e = refl
pointed_none (suc k) n e = let z : ◌≡◌ {A = ℕ} 0 1 = omega arith in cc

pub pointed_more : (k n : ℕ) → 1 ≤ k → pointed (k - 1) (n / 10) ++ ((48 + n % 10) ∷ []) ≡ pointed k n
unfolding pointed
pointed_more zero n h = let z : ◌≡◌ {A = ℕ} 0 1 = omega arith in cc
pointed_more (suc k) n h = let e : suc k - 1 ≡ k = omega arith in rw e

-- a point wherever there are places
pub fixed_some : (k n : ℕ) → 1 ≤ k → pointed k n ≡ fixed_text k n
fixed_some zero n h = let z : ◌≡◌ {A = ℕ} 0 1 = omega arith in cc
fixed_some (suc k) n h = refl
