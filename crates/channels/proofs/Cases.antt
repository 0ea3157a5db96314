-- SPEC's number and values of each answer, in numbers: what a definition and its code would have to get wrong together is held to
-- literals here. Assumes nothing.
use mathlib.Core.Path.{◌≡◌, refl}
use lib.IntN.{pos}
use Rattle.whole.specs.Arith.{neg}
use Rattle.refusals.specs.declared.Refusal.{Refusal}
use Rattle.readings.specs.declared.Point.{Point}
use Rattle.readings.specs.declared.Remarks.{Remarks}
use Rattle.std.specs.Prelude.{Ok, Err}
use Rattle.std.specs.Result.{result_unwrap_or}
use Rattle.channels.specs.declared.Stop.{Stop}
use Rattle.channels.specs.Answer.{Channel, Needle, channel_at}
use Rattle.channels.specs.Numbers.{channel_number, channel_density, channel_bulk, needle_number, needle_value}

-- salinity 35 at the surface and 5 °C, wherever it stands and whatever is remarked
abbrev sea : Point → Remarks → Channel
sea p m = channel_at p 1_027_675 2_218_593 m

pub accepted_channel : (p : Point) (m : Remarks) → (channel_number (sea p m) ≡ 0) × ((channel_density (sea p m) ≡ 1_027_675) × (channel_bulk (sea p m) ≡ 2_218_593))
accepted_channel p m = (refl, (refl, refl))

abbrev no : Channel
no = Err Refusal.Temperature

pub refused_channel : (channel_number no ≡ 4) × ((channel_density no ≡ 0) × (channel_bulk no ≡ 0))
refused_channel = (refl, (refl, refl))

pub accepted_needle : (needle_number (Ok (neg 62)) ≡ 0) × (needle_value (Ok (neg 62)) ≡ neg 62)
accepted_needle = (refl, refl)

pub refused_needle : (needle_number (Err (Stop.Right Refusal.Temperature)) ≡ 204) × (needle_value (Err (Stop.Right Refusal.Temperature)) ≡ pos 0)
refused_needle = (refl, refl)

pub stopped_needle : (needle_number (Err (Stop.Left Refusal.Temperature)) ≡ 104) × (needle_number (Err Stop.SameProbe) ≡ 32)
stopped_needle = (refl, refl)

-- a needle's value is what the library's `unwrap_or(0)` answers
pub value_given : (v : Needle) → result_unwrap_or v (pos 0) ≡ needle_value v
value_given (Ok z) = refl
value_given (Err s) = refl
