-- SPEC's number and values of each answer, in numbers: what a definition and its code would have to get wrong together is held to
-- literals here. Assumes nothing.
use mathlib.Core.Path.{◌≡◌, refl}
use Rattle.std.specs.Prelude.{Result, Ok, Err}
use Rattle.refusals.specs.declared.Refusal.{Refusal}
use Rattle.refusals.specs.declared.Refusal.TheVariants.{Temperature}
use Rattle.waters.specs.declared.Water.{Water}
use Rattle.waters.specs.Numbers.{water_number, water_density, water_bulk}

-- salinity 35 at the surface and 5 °C
abbrev sea : Result Water Refusal
sea = Ok (record { density = 1_027_675; bulk = 2_218_593 })

pub known_water : (water_number sea ≡ 0) × ((water_density sea ≡ 1_027_675) × (water_bulk sea ≡ 2_218_593))
known_water = (refl, (refl, refl))

abbrev no : Result Water Refusal
no = Err Temperature

pub refused_water : (water_number no ≡ 4) × ((water_density no ≡ 0) × (water_bulk no ≡ 0))
refused_water = (refl, (refl, refl))
