-- SPEC's number and values for each answer of a channel and of a needle.
use Rattle.std.specs.Prelude.{ℕ, ◌+◌, ℤ, pos, Result, Ok, Err}
use Rattle.refusals.specs.declared.Refusal.{Refusal}
use Rattle.refusals.specs.Number.{number_of, number_by, answer_number}
use Rattle.waters.specs.declared.Water.{Water}
use Rattle.waters.specs.Numbers.{water_density, water_bulk}
use Rattle.channels.specs.declared.Stop.{Stop}
use Rattle.channels.specs.Answer.{Channel, Needle}

-- a channel: the refusal's number (0 for none), the shown density, the bulk modulus
abbrev pub channel_number : Channel → ℕ
channel_number = answer_number

abbrev pub channel_water : Channel → Result Water Refusal
channel_water (Ok a) = Ok a.water
channel_water (Err r) = Err r

abbrev pub channel_density : Channel → ℕ
channel_density c = water_density (channel_water c)

abbrev pub channel_bulk : Channel → ℕ
channel_bulk c = water_bulk (channel_water c)

-- what stops a needle: 100 plus the left's refusal, 200 plus the right's, or 32
abbrev pub stop_number : Stop → ℕ
stop_number (Stop.Left r) = 100 + number_of r
stop_number (Stop.Right r) = 200 + number_of r
stop_number Stop.SameProbe = number_of Refusal.SameProbe

-- a needle: its number (0 for none) and its value
abbrev pub needle_number : Needle → ℕ
needle_number = number_by stop_number

abbrev pub needle_value : Needle → ℤ
needle_value (Ok z) = z
needle_value (Err s) = pos 0
