-- A line is the row of four cells with a space between them. Assumes nothing.
use Prim.Native.Nat.{ℕ}
use mathlib.Core.Path.{◌≡◌, refl}
use contract.Lifetimes
use Rattle.std.specs.Prelude.{Ok, Err}
use Rattle.readings.specs.Entry.{Entry}
use Rattle.channels.specs.Answer.{Channel, Needle}
use Rattle.panel.specs.Panel.{channel_of, shared_of, needle_of, comparison_of}
use Rattle.panel.proofs.paired.Reads as paired
use Rattle.cells.specs.Cells.{cell_text, row_text}
use Rattle.texts.specs.Text.{place_text, needle_text, places_text, line_of, place_cell, needle_cell, line_cells}

place_shows : (c : Channel) → cell_text (place_cell c) ≡ place_text c
unfolding cell_text
place_shows (Ok a) = refl
place_shows (Err r) = refl

needle_shows : (v : Needle) → cell_text (needle_cell v) ≡ needle_text v
unfolding cell_text
needle_shows (Ok z) = refl
needle_shows (Err s) = refl

pub line_row : (n : ℕ) (left right : Entry) → line_of n left right ≡ row_text 32 (line_cells n (channel_of left) (channel_of right) (needle_of (channel_of left) (channel_of right) (shared_of left right)))
unfolding line_of places_text row_text cell_text
line_row n left right =
    let l = channel_of left in
    let r = channel_of right in
    rw (place_shows l, place_shows r, needle_shows (needle_of l r (shared_of left right)))

-- so it shows what a call of `panel::paired` tells of the same two entries, the needle's own number among it: `Learnt` is that call's contract
pub line_told :
    (n : ℕ) (κs : Lifetimes.Lfts 0) (a : _) (m : _) (s : _) → paired.Learnt κs a m s →
    line_of n a.0 a.1.0 ≡ row_text 32 (line_cells n m.left m.right m.needle)
unfolding comparison_of
line_told n κs a m s told = rw (told) (line_row n a.0 a.1.0)
