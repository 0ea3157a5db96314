-- SPEC, "Refusal numbers and their order": the number of each refusal.
use Rattle.std.specs.Prelude.{ℕ, Result, Ok, Err}
use Rattle.refusals.specs.declared.Refusal.{Refusal}
use Rattle.refusals.specs.declared.Refusal.TheVariants.{Missing, NotFinite, Salinity, Temperature, Pressure, Cut, Kind, Length, Room, PairNumber, SameProbe}
use Rattle.refusals.specs.declared.Unread.{Unread}

abbrev pub number_of : Refusal → ℕ
-- the reading is missing
number_of Missing = 1
-- any of its floats is a NaN or an infinity
number_of NotFinite = 2
-- salinity, temperature, pressure outside its range
number_of Salinity = 3
number_of Temperature = 4
number_of Pressure = 5
-- fewer than 4 bytes remain for a record's head, or fewer than its stated length for its body
number_of Cut = 6
-- the record's kind is none of 1, 2, 3, 17, 18, 19
number_of Kind = 7
-- the record's length is not the kind's own
number_of Length = 8
-- the lent buffer is too small: under 32 bytes for a line, under the room asked for a page
number_of Room = 30
-- the pair number is 0 or exceeds 9,999
number_of PairNumber = 31
-- both readings have the same probe number, other than 0
number_of SameProbe = 32

-- the three that a record is refused by, when it gives no reading: 6, 7 and 8
abbrev pub refusal_of : Unread → Refusal
refusal_of Unread.Cut = Cut
refusal_of Unread.Kind = Kind
refusal_of Unread.Length = Length

-- the number of an answer: that of why there is none, or 0
abbrev pub number_by : {A E : Type 0} → (E → ℕ) → Result A E → ℕ
number_by numbered (Ok a) = 0
number_by numbered (Err e) = numbered e

-- so of an answer that may be refused
abbrev pub answer_number : {A : Type 0} → Result A Refusal → ℕ
answer_number = number_by number_of
