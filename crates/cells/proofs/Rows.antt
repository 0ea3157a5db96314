-- A row that is put cell by cell. The invariant says what remains: with the row of the cells that are left, the buffer is what it is to be.
-- Assumes nothing.
use Prim.Native.Nat.{ℕ, suc, ◌+◌, ◌≤◌, ◌<◌}
use mathlib.Core.Path.{◌≡◌, refl, sym, ap, ap₂, ◌∙◌}
use mathlib.Core.List.{List, [], ◌∷◌, ◌++◌}
use native.Mathlib.Omega.{arith}
use native.Mathlib.Numerals.{add-one}
use lib.ListN.{length, drop, get_or, length-append, drop_of_length-le}
use lib.Seq.{sets, drop-cons, length-sets}
use Rattle.cells.specs.declared.Cell.{Cell}
use Rattle.cells.specs.Cells.{cell_text, row_text, Put}
use Rattle.cells.proofs.Stores.{sets_append}

module _ (cells : List Cell) (sep : ℕ) where
  -- the row of the cells from place i on
  abbrev pub left : ℕ → List ℕ
  left i = row_text sep (drop i cells)

  -- a cell that another follows, and the last one
  pub row_turn : (i : ℕ) (d : Cell) → i + 1 < length cells → left i ≡ (cell_text (get_or cells i d) ++ (sep ∷ [])) ++ left (i + 1)
  unfolding row_text
  row_turn i d h = rw (add-one, drop-cons cells i d (omega arith), drop-cons cells (suc i) d (omega arith))

  pub row_last : (i : ℕ) (d : Cell) → i + 1 ≡ length cells → cell_text (get_or cells i d) ++ (10 ∷ []) ≡ left i
  unfolding row_text
  row_last i d h = let l : length cells ≤ suc i = omega arith in rw (drop-cons cells i d (omega arith), drop_of_length-le cells l)

  pub record Row (buf₀ : List ℕ) (at : ℕ) (buf : List ℕ) (i to : ℕ) : Type 0 where
    pub long : length buf ≡ length buf₀
    pub room : to + length (left i) ≡ at + length (left 0)
    pub rest : sets buf to (left i) ≡ sets buf₀ at (left 0)

  pub row_longer : (i : ℕ) (d : Cell) → i + 1 < length cells → length (left i) ≡ length (cell_text (get_or cells i d) ++ (sep ∷ [])) + length (left (i + 1))
  row_longer i d h = ap length (row_turn i d h) ∙ length-append (cell_text (get_or cells i d) ++ (sep ∷ [])) (left (i + 1))

  pub row_again :
      (buf₀ buf buf' : List ℕ) (at i to to' : ℕ) (d : Cell) →
      i + 1 < length cells →
      Row buf₀ at buf i to →
      Put (cell_text (get_or cells i d) ++ (sep ∷ [])) to buf buf' to' →
      Row buf₀ at buf' (i + 1) to'
  row_again buf₀ buf buf' at i to to' d h k p =
      let t = cell_text (get_or cells i d) ++ (sep ∷ []) in
      record {
        long = ap length p.stored ∙ length-sets buf to t ∙ k.long;
        room = omega (arith, row_longer i d h, p.past, k.room);
        rest =
            ap₂ (λ (b : List ℕ) (j : ℕ). sets b j (left (i + 1))) p.stored p.past
            ∙ sym (sets_append buf to t (left (i + 1)))
            ∙ ap (sets buf to) (sym (row_turn i d h))
            ∙ k.rest;
      }

  pub row_end :
      (buf₀ buf buf' : List ℕ) (at i to to' : ℕ) →
      Row buf₀ at buf i to →
      Put (left i) to buf buf' to' →
      Put (left 0) at buf₀ buf' to'
  row_end buf₀ buf buf' at i to to' k p = record { past = p.past ∙ k.room; stored = p.stored ∙ k.rest }

-- a row of no cells
pub row_none : (cells : List Cell) (sep : ℕ) → length cells < 1 → 10 ∷ [] ≡ row_text sep cells
unfolding row_text
row_none [] sep h = refl
row_none (c ∷ cs) sep h = absurd (omega arith)
