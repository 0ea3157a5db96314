-- SPEC's number and values for each answer of a call on grid numbers: the refusal's number (0 for none), the shown density, the bulk modulus.
use Rattle.std.specs.Prelude.{ℕ, Result, Ok, Err}
use Rattle.refusals.specs.declared.Refusal.{Refusal}
use Rattle.refusals.specs.Number.{answer_number}
use Rattle.waters.specs.declared.Water.{Water}

-- the answer where there is one
abbrev pub known : ℕ → ℕ → Result Water Refusal
known d k = Ok (record { density = d; bulk = k })

abbrev pub water_number : Result Water Refusal → ℕ
water_number = answer_number

abbrev pub water_density : Result Water Refusal → ℕ
water_density (Ok w) = w.density
water_density (Err r) = 0

abbrev pub water_bulk : Result Water Refusal → ℕ
water_bulk (Ok w) = w.bulk
water_bulk (Err r) = 0
