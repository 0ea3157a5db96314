-- The panel as it is defined where nobody asks on which side of its grid point a float lies: a place, a check, a channel, its numbers, the needle, ln K0, a
-- line of the sheet and its page, a row of the table, the words of the C call. Beside each stands what leaves the remarks out. proofs/Bare: the panel's own
-- definitions, with the remarks left out, are these.
use Rattle.std.specs.Prelude.{ℕ, ◌+◌, Bool, true, false, cond, List, [], ◌∷◌, ◌++◌, ℤ, pos, ◌-ℤ◌, Float, Option, Some, None, Result, Ok, Err}
use Rattle.whole.specs.Arith.{plus}
use Rattle.refusals.specs.declared.Refusal.{Refusal}
use Rattle.refusals.specs.Number.{number_of, refusal_of}
use Rattle.floats.specs.declared.Place.{Place}
use Rattle.floats.specs.declared.grid.Range.{Range}
use Rattle.floats.specs.Grid.{inside, grid_no}
use Rattle.readings.specs.declared.Purpose.{Purpose}
use Rattle.readings.specs.declared.Report.{Report}
use Rattle.readings.specs.declared.Reading.{Reading}
use Rattle.readings.specs.declared.Point.{Point}
use Rattle.readings.specs.Entry.{Entry}
use Rattle.readings.specs.Check.{Checked, salinities, temperatures, pressures, given_of, all_finite}
use Rattle.waters.specs.declared.Water.{Water}
use Rattle.sea.specs.Water.{water_of}
use Rattle.carbon.specs.Weiss.{kelvin, ln_k0}
use Rattle.carbon.specs.Carbon.{Solubility, unpressed}
use Rattle.channels.specs.declared.Stop.{Stop}
use Rattle.channels.specs.Answer.{Channel, Needle}
use Rattle.panel.specs.Panel.{common, shown_under, shared_of}
use Rattle.cells.specs.declared.Cell.{Cell}
use Rattle.cells.specs.declared.Cell.TheVariants.{Fixed}
use Rattle.cells.specs.Cells.{decimal}
use Rattle.texts.specs.Text.{needle_text}
use Rattle.pages.specs.Page.{header, Line, paged}

-- ---- the place of a float: its grid number alone, if it is inside its range
abbrev pub BarePlace : Type 0
BarePlace = Option ℤ

abbrev pub bare_place : Option Place → BarePlace
bare_place (Some x) = Some x.number
bare_place None = None

abbrev pub place_without : Range → Float → BarePlace
place_without r x = cond (inside r x) (Some (grid_no r.steps x)) None

-- ---- the check of a report: 1, then 2, then 3, 4, 5, or the grid numbers alone
abbrev pub BareChecked : Type 0
BareChecked = Result Point Refusal

abbrev pub bare_checked : Checked → BareChecked
bare_checked (Ok t) = Ok t.at
bare_checked (Err r) = Err r

abbrev pub first_without : BarePlace → BarePlace → BarePlace → BareChecked
first_without None t p = Err Refusal.Salinity
first_without (Some σ) None p = Err Refusal.Temperature
first_without (Some σ) (Some τ) None = Err Refusal.Pressure
first_without (Some σ) (Some τ) (Some π) = Ok (record { sigma = σ; tau = τ; pi = π })

abbrev pub order_without : Purpose → Option Reading → Bool → BareChecked
order_without w None f = Err Refusal.Missing
order_without w (Some r) false = Err Refusal.NotFinite
order_without w (Some r) true =
    first_without (place_without salinities r.salinity) (place_without (temperatures w) r.temperature) (place_without pressures r.pressure)

abbrev pub checked_without : Purpose → Report → BareChecked
checked_without w report = order_without w (given_of report) (all_finite report)

-- ---- a channel: grid numbers, density and bulk modulus, or why not
pub record Shown : Type 0 where
  pub at : Point
  pub density : ℕ
  pub bulk : ℕ

abbrev pub BareChannel : Type 0
BareChannel = Result Shown Refusal

abbrev pub bare_channel : Channel → BareChannel
bare_channel (Ok a) = Ok (record { at = a.at; density = a.water.density; bulk = a.water.bulk })
bare_channel (Err r) = Err r

abbrev pub filled_without : Point → Result Water Refusal → BareChannel
filled_without p (Ok w) = Ok (record { at = p; density = w.density; bulk = w.bulk })
filled_without p (Err r) = Err r

abbrev pub watered_without : BareChecked → BareChannel
watered_without (Ok p) = filled_without p (water_of p.sigma p.tau p.pi)
watered_without (Err r) = Err r

abbrev pub channel_without : Entry → BareChannel
channel_without (Ok m) = watered_without (checked_without Purpose.Density m.report)
channel_without (Err u) = Err (refusal_of u)

-- its number, the shown density, the bulk modulus
abbrev pub number_without : BareChannel → ℕ
number_without (Ok a) = 0
number_without (Err r) = number_of r

abbrev pub density_without : BareChannel → ℕ
density_without (Ok a) = a.density
density_without (Err r) = 0

abbrev pub bulk_without : BareChannel → ℕ
bulk_without (Ok a) = a.bulk
bulk_without (Err r) = 0

-- the number that stops a needle
abbrev pub stop_without : Stop → ℕ
stop_without (Stop.Left r) = 100 + number_of r
stop_without (Stop.Right r) = 200 + number_of r
stop_without Stop.SameProbe = number_of Refusal.SameProbe

-- ---- the needle
abbrev pub needle_without : BareChannel → BareChannel → Bool → Needle
needle_without (Err r) c f = Err (Stop.Left r)
needle_without (Ok a) (Err r) f = Err (Stop.Right r)
needle_without (Ok a) (Ok b) true = Err Stop.SameProbe
needle_without (Ok a) (Ok b) false = Ok (pos (shown_under (common a.at b.at) b.at) -ℤ pos (shown_under (common a.at b.at) a.at))

-- ---- ln K0
abbrev pub dissolved_without : BareChecked → Solubility
dissolved_without (Ok p) = Ok (ln_k0 (plus p.sigma) (kelvin p.tau))
dissolved_without (Err r) = Err r

abbrev pub solubility_without : Entry → Solubility
solubility_without (Ok m) = dissolved_without (checked_without Purpose.Carbon (unpressed m.report))
solubility_without (Err u) = Err (refusal_of u)

-- ---- the sheet: a line, and the page of a stream
abbrev pub text_without : BareChannel → List ℕ
text_without (Ok a) = decimal a.density
text_without (Err r) = 82 ∷ decimal (number_of r)

abbrev pub line_without : Line
line_without n left right =
    let l = channel_without left in
    let r = channel_without right in
    (decimal n ++ (32 ∷ [])) ++ ((text_without l ++ (32 ∷ [])) ++ ((text_without r ++ (32 ∷ [])) ++ (needle_text (needle_without l r (shared_of left right)) ++ (10 ∷ []))))

abbrev pub page_without : List ℕ → List ℕ
page_without s = paged header line_without s

-- ---- the table: what a channel shows, after the pair and the side
abbrev pub columns_without : BareChannel → Cell → List Cell
columns_without (Ok a) gas =
    Fixed 3 a.at.sigma ∷ Fixed 3 a.at.tau ∷ Fixed 2 a.at.pi ∷ Fixed 3 (pos a.density) ∷ Fixed 2 (pos a.bulk) ∷ gas ∷ []
columns_without (Err r) gas = let why = Cell.Refusal (number_of r) in why ∷ why ∷ why ∷ why ∷ why ∷ gas ∷ []

-- ---- the C call for a channel: its first five words
abbrev pub words_without : BareChannel → List ℤ
words_without (Ok a) = a.at.sigma ∷ a.at.tau ∷ a.at.pi ∷ pos a.density ∷ pos a.bulk ∷ []
words_without (Err r) = pos 0 ∷ pos 0 ∷ pos 0 ∷ pos 0 ∷ pos 0 ∷ []
