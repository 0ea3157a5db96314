-- What the C ABI's numbers stand for.
use Rattle.std.specs.Prelude.{ℕ, cond, List, [], ◌∷◌, eqb, ℤ, pos, Float, Option, Some, None, Ok, Err}
use Rattle.std.specs.Result.{result_unwrap_or}
use Rattle.refusals.specs.declared.Unread.{Unread}
use Rattle.refusals.specs.Number.{number_by}
use Rattle.floats.specs.Grid.{remark_number}
use Rattle.readings.specs.Entry.{Entry, message}
use Rattle.kinds.specs.declared.Row.{Row}
use Rattle.kinds.specs.Kinds.{kind_of, report_of}
use Rattle.channels.specs.Answer.{Channel}
use Rattle.channels.specs.declared.Comparison.{Comparison}
use Rattle.channels.specs.declared.Stop.{Stop}
use Rattle.abi.specs.declared.ShownPair.{ShownPair}
use Rattle.channels.specs.Numbers.{channel_number, channel_density, channel_bulk, needle_number, needle_value}

-- the ABI's own number: it goes up when a call that was there changes what it takes or what it answers
abbrev pub version : ℕ
version = 4

-- 65,536 plus 6 or 8, which no record has for a kind, stands for a record that was refused by 6 or 8; any other kind that the table does not have, 65,536 plus 7
-- among them, is refused by 7 as a record's is
abbrev pub unread_of : ℕ → Unread
unread_of kind = cond (eqb kind 65542) Unread.Cut (cond (eqb kind 65544) Unread.Length Unread.Kind)

-- a kind of the table, and what it says of the floats; the number is given beside it, whichever family the kind is of
abbrev pub entry_by : ℕ → ℕ → Float → Float → Float → Option Row → Entry
entry_by kind probe s t p (Some row) = message probe (report_of row.holds s t p)
entry_by kind probe s t p None = Err (unread_of kind)

-- what a kind, a probe's number and three floats stand for
unfoldable pub entry_of : ℕ → ℕ → Float → Float → Float → Entry
entry_of kind probe s t p = entry_by kind probe s t p (kind_of kind)

-- a channel's grid numbers, density and bulk modulus, and the remarks of salinity, temperature and pressure, each by its number: 1 below, 2 on, 3 above.
-- Noughts if refused: 0 is no remark
abbrev pub channel_words : Channel → List ℤ
channel_words (Ok a) =
    a.at.sigma ∷ a.at.tau ∷ a.at.pi ∷ pos a.water.density ∷ pos a.water.bulk
    ∷ pos (remark_number a.remarks.salinity) ∷ pos (remark_number a.remarks.temperature) ∷ pos (remark_number a.remarks.pressure) ∷ []
channel_words (Err r) = pos 0 ∷ pos 0 ∷ pos 0 ∷ pos 0 ∷ pos 0 ∷ pos 0 ∷ pos 0 ∷ pos 0 ∷ []

-- the two densities, 0 where refused, and the needle, 0 if refused
abbrev pub comparison_words : Comparison → List ℤ
comparison_words x = pos (channel_density x.left) ∷ pos (channel_density x.right) ∷ needle_value x.needle ∷ []

-- refusal, density and bulk modulus of the left and of the right, refusal and value of the needle
abbrev pub row_words : Channel → Channel → ℕ → ℤ → List ℤ
row_words l r n z =
    pos (channel_number l) ∷ pos (channel_density l) ∷ pos (channel_bulk l)
    ∷ pos (channel_number r) ∷ pos (channel_density r) ∷ pos (channel_bulk r)
    ∷ pos n ∷ z ∷ []

abbrev pub pair_words : Comparison → List ℤ
pair_words x = row_words x.left x.right (needle_number x.needle) (needle_value x.needle)

-- the k-th pair of a stream: 1 and its words, or 0 and noughts where there is none
abbrev pub found_number : Option Comparison → ℕ
found_number (Some x) = 1
found_number None = 0

abbrev pub found_words : Option Comparison → List ℤ
found_words (Some x) = pair_words x
found_words None = pos 0 ∷ pos 0 ∷ pos 0 ∷ pos 0 ∷ pos 0 ∷ pos 0 ∷ pos 0 ∷ pos 0 ∷ []

-- the same of a pair whose needle may be stopped by whatever has a number
abbrev pub shown_of : Comparison → ShownPair Stop
shown_of x = record { left = x.left; right = x.right; needle = x.needle }

abbrev pub shown_words : {E : Type 0} → (E → ℕ) → Option (ShownPair E) → List ℤ
shown_words numbered (Some x) = row_words x.left x.right (number_by numbered x.needle) (result_unwrap_or x.needle (pos 0))
shown_words numbered None = found_words None
