-- Decimals that are put from the right. The invariant says what remains: with the digits of what is left of the number, the buffer is what it
-- is to be. Assumes nothing.
use Prim.Native.Nat.{ℕ, suc, ◌+◌, ◌-◌, ◌/◌, ◌%◌, ◌≤◌, ◌<◌}
use mathlib.Core.Path.{◌≡◌, refl, sym, ap, ◌∙◌}
use mathlib.Core.List.{List, [], ◌∷◌}
use native.Mathlib.Omega.{arith}
use lib.ListN.{length, set, length-set}
use lib.Seq.{sets, set_comm}
use Rattle.cells.specs.Cells.{decimal, Put}
use Rattle.cells.proofs.Decimal.{decimal_small, decimal_large, decimal_longer}
use Rattle.cells.proofs.Stores.{sets_append}

-- a byte past a text may be set before the text
set_first : (l t : List ℕ) (at j x : ℕ) → at + length t ≤ j → sets (set l j x) at t ≡ set (sets l at t) j x
set_first l [] at j x h = refl
set_first l (y ∷ t) at j x h =
    ap (λ (m : List ℕ). sets m (suc at) t) (set_comm l j at x y (λ e. let z : ◌≡◌ {A = ℕ} 0 1 = omega (arith, e) in absurd (omega arith))) ∙ set_first (set l at y) t (suc at) j x (omega arith)

pub record Right (n : ℕ) (buf₀ : List ℕ) (at : ℕ) (buf : List ℕ) (i m : ℕ) : Type 0 where
  pub here : i ≡ at + length (decimal m)
  pub short : length (decimal m) ≤ length (decimal n)
  pub long : length buf ≡ length buf₀
  pub rest : sets buf at (decimal m) ≡ sets buf₀ at (decimal n)

pub right_turn :
    (n at i m : ℕ) (buf₀ buf : List ℕ) →
    10 ≤ m →
    Right n buf₀ at buf i m →
    Right n buf₀ at (set buf (i - 1) (48 + m % 10)) (i - 1) (m / 10)
right_turn n at i m buf₀ buf h k =
    let t = decimal (m / 10) in
    let x = 48 + m % 10 in
    let g : i - 1 ≡ at + length t = omega (arith, k.here, decimal_longer m h) in
    record {
      here = g;
      short = omega (arith, k.short, decimal_longer m h);
      long = length-set buf (i - 1) x ∙ k.long;
      rest =
          set_first buf t at (i - 1) x (omega arith)
          ∙ ap (λ (j : ℕ). set (sets buf at t) j x) g
          ∙ sym (sets_append buf at t (x ∷ []))
          ∙ ap (sets buf at) (sym (decimal_large m h))
          ∙ k.rest;
    }

pub right_end :
    (n at k i m : ℕ) (buf₀ buf : List ℕ) →
    k ≡ length (decimal n) →
    m < 10 →
    Right n buf₀ at buf i m →
    Put (decimal n) at buf₀ (set buf at (48 + m)) (at + k)
right_end n at k i m buf₀ buf e h r =
    record { past = ap (λ (j : ℕ). at + j) e; stored = ap (sets buf at) (sym (decimal_small m h)) ∙ r.rest }
