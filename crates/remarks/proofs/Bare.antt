-- With the remarks left out, every definition of the panel is the one of specs/Bare: what is shown, compared and printed is as it is where nobody asks for
-- remarks. In the table and in the words of the C call they stand after what stood there before. Assumes nothing.
use Rattle.std.specs.Prelude.{Option, Some, None, Result, Ok, Err}
use Prim.Native.Nat.{ℕ, ◌+◌}
use mathlib.Core.Path.{◌≡◌, refl, ap, ap₂, ◌∙◌}
use mathlib.Core.Bool.{Bool, true, false, cond}
use mathlib.Core.List.{List, [], ◌∷◌, ◌++◌}
use lib.Dec.{ltb}
use lib.ListN.{length}
use lib.IntN.{ℤ, pos}
use lib.Ieee.{Float}
use Rattle.refusals.specs.declared.Refusal.{Refusal}
use Rattle.refusals.specs.Number.{number_of}
use Rattle.floats.specs.declared.Place.{Place}
use Rattle.floats.specs.declared.grid.Range.{Range}
use Rattle.floats.specs.Grid.{inside, grid_no, remark_number, remark_of, place_of}
use Rattle.readings.specs.declared.Purpose.{Purpose}
use Rattle.readings.specs.declared.Report.{Report}
use Rattle.readings.specs.declared.Reading.{Reading}
use Rattle.readings.specs.Entry.{Entry}
use Rattle.readings.specs.Check.{Checked, salinities, temperatures, pressures, given_of, all_finite, first_outside, placed_for, in_order, checked_for}
use Rattle.waters.specs.declared.Water.{Water}
use Rattle.sea.specs.Water.{water_of}
use Rattle.carbon.specs.Carbon.{unpressed, dissolved, solubility_of}
use Rattle.channels.specs.Answer.{Channel}
use Rattle.channels.specs.declared.Stop.{Stop}
use Rattle.channels.specs.Numbers.{channel_number, channel_density, channel_bulk, stop_number}
use Rattle.panel.specs.Panel.{filled, watered_of, checked_channel, channel_of, shared_of, needle_of}
use Rattle.pairs.specs.declared.Pair.{Pair}
use Rattle.pairs.specs.Pairs.{pairs}
use Rattle.cells.specs.declared.Cell.{Cell}
use Rattle.cells.specs.declared.Cell.TheVariants.{Word}
use Rattle.texts.specs.Text.{place_text, places_text, line_of}
use Rattle.pages.specs.Page.{too_long, header, Line, lines_from, paged, page_of}
use Rattle.tables.specs.Table.{letters_of, columns}
use Rattle.abi.specs.Abi.{channel_words}
use Rattle.remarks.specs.Bare.{
  bare_place,
  place_without,
  bare_checked,
  first_without,
  order_without,
  checked_without,
  BareChannel,
  bare_channel,
  filled_without,
  watered_without,
  channel_without,
  number_without,
  density_without,
  bulk_without,
  stop_without,
  needle_without,
  dissolved_without,
  solubility_without,
  text_without,
  line_without,
  page_without,
  columns_without,
  words_without,
}

-- ---- place and check
pub place_bare : (r : Range) (x : Float) → bare_place (place_of r x) ≡ place_without r x
unfolding place_of
place_bare r x = go (inside r x)
  where
    go : (b : Bool) → bare_place (cond b (Some (record { number = grid_no r.steps x; remark = remark_of r.steps x })) None) ≡ cond b (Some (grid_no r.steps x)) None
    go true = refl
    go false = refl

first_bare : (s t p : Option Place) → bare_checked (first_outside s t p) ≡ first_without (bare_place s) (bare_place t) (bare_place p)
first_bare None t p = refl
first_bare (Some σ) None p = refl
first_bare (Some σ) (Some τ) None = refl
first_bare (Some σ) (Some τ) (Some π) = refl

order_bare : (w : Purpose) (r : Option Reading) (f : Bool) → bare_checked (in_order w r f) ≡ order_without w r f
unfolding placed_for
order_bare w None f = refl
order_bare w (Some r) false = refl
order_bare w (Some r) true =
    first_bare (place_of salinities r.salinity) (place_of (temperatures w) r.temperature) (place_of pressures r.pressure)
    ∙ rw (place_bare salinities r.salinity, place_bare (temperatures w) r.temperature, place_bare pressures r.pressure)

pub checked_bare : (w : Purpose) (report : Report) → bare_checked (checked_for w report) ≡ checked_without w report
unfolding checked_for
checked_bare w report = order_bare w (given_of report) (all_finite report)

-- ---- a channel, and its numbers
filled_bare : (c : Checked) → bare_channel (checked_channel c) ≡ watered_without (bare_checked c)
unfolding watered_of
filled_bare (Err r) = refl
filled_bare (Ok t) = go (water_of t.at.sigma t.at.tau t.at.pi)
  where
    go : (w : Result Water Refusal) → bare_channel (filled t.at t.remarks w) ≡ filled_without t.at w
    go (Ok w) = refl
    go (Err r) = refl

pub channel_bare : (e : Entry) → bare_channel (channel_of e) ≡ channel_without e
unfolding channel_of
channel_bare (Ok m) = filled_bare (checked_for Purpose.Density m.report) ∙ ap watered_without (checked_bare Purpose.Density m.report)
channel_bare (Err u) = refl

pub numbers_bare : (c : Channel) →
    (channel_number c ≡ number_without (bare_channel c)) × ((channel_density c ≡ density_without (bare_channel c)) × (channel_bulk c ≡ bulk_without (bare_channel c)))
numbers_bare (Ok a) = (refl, (refl, refl))
numbers_bare (Err r) = (refl, (refl, refl))

-- ---- the needle
pub stop_bare : (s : Stop) → stop_number s ≡ stop_without s
stop_bare (Stop.Left r) = refl
stop_bare (Stop.Right r) = refl
stop_bare Stop.SameProbe = refl

pub needle_bare : (l r : Channel) (s : Bool) → needle_of l r s ≡ needle_without (bare_channel l) (bare_channel r) s
needle_bare (Err r) c s = refl
needle_bare (Ok a) (Err r) s = refl
needle_bare (Ok a) (Ok b) true = refl
needle_bare (Ok a) (Ok b) false = refl

-- ---- ln K0
pub carbon_bare : (e : Entry) → solubility_of e ≡ solubility_without e
unfolding solubility_of
carbon_bare (Err u) = refl
carbon_bare (Ok m) =
    go (checked_for Purpose.Carbon (unpressed m.report)) ∙ ap dissolved_without (checked_bare Purpose.Carbon (unpressed m.report))
  where
    go : (c : Checked) → dissolved c ≡ dissolved_without (bare_checked c)
    go (Ok t) = refl
    go (Err r) = refl

-- ---- the sheet
text_bare : (c : Channel) → place_text c ≡ text_without (bare_channel c)
text_bare (Ok a) = refl
text_bare (Err r) = refl

pub line_bare : (n : ℕ) (l r : Entry) → line_of n l r ≡ line_without n l r
unfolding line_of places_text
line_bare n l r =
    let a : place_text (channel_of l) ≡ text_without (channel_without l) = text_bare (channel_of l) ∙ ap text_without (channel_bare l) in
    let b : place_text (channel_of r) ≡ text_without (channel_without r) = text_bare (channel_of r) ∙ ap text_without (channel_bare r) in
    let v : needle_of (channel_of l) (channel_of r) (shared_of l r) ≡ needle_without (channel_without l) (channel_without r) (shared_of l r) =
    needle_bare (channel_of l) (channel_of r) (shared_of l r) ∙ ap₂ (λ (x y : BareChannel). needle_without x y (shared_of l r)) (channel_bare l) (channel_bare r) in
    rw (a, b, v)

-- pages whose lines are alike are alike
lines_alike : (f g : Line) → ((n : ℕ) (l r : Entry) → f n l r ≡ g n l r) → (n : ℕ) (ps : List Pair) → lines_from f n ps ≡ lines_from g n ps
unfolding lines_from
lines_alike f g h n [] = refl
lines_alike f g h n (p ∷ ps) = ap₂ (λ (x y : List ℕ). x ++ y) (h n p.left p.right) (lines_alike f g h (n + 1) ps)

pub page_bare : (s : List ℕ) → page_of s ≡ page_without s
unfolding page_of paged
page_bare s = ap (λ (x : List ℕ). cond (ltb 60000 (length s)) too_long (header ++ x)) (lines_alike line_of line_without line_bare 1 (pairs s))

-- ---- the table and the words: what stood there, and then the remarks; in the table the probe's number after them
abbrev pub remarks_cell : Channel → Cell
remarks_cell (Ok a) = Word (letters_of a.remarks)
remarks_cell (Err r) = Cell.Refusal (number_of r)

pub columns_bare : (c : Channel) (gas probe : Cell) → columns c gas probe ≡ columns_without (bare_channel c) gas ++ (remarks_cell c ∷ probe ∷ [])
columns_bare (Ok a) gas probe = refl
columns_bare (Err r) gas probe = refl

abbrev pub remarks_words : Channel → List ℤ
remarks_words (Ok a) = pos (remark_number a.remarks.salinity) ∷ pos (remark_number a.remarks.temperature) ∷ pos (remark_number a.remarks.pressure) ∷ []
remarks_words (Err r) = pos 0 ∷ pos 0 ∷ pos 0 ∷ []

pub words_bare : (c : Channel) → channel_words c ≡ words_without (bare_channel c) ++ remarks_words c
words_bare (Ok a) = refl
words_bare (Err r) = refl
