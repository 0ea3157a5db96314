-- What is answered for what stands in a channel, from the floats' bits on: one list, one theorem, by computation. Assumes nothing.
use Prim.Native.Nat.{ℕ}
use mathlib.Core.Path.{◌≡◌, refl}
use Rattle.std.specs.Prelude.{Ok, Err}
use mathlib.Core.List.{List, [], ◌∷◌, map}
use lib.IntN.{pos}
use lib.Ieee.{binary32, of_bits}
use Rattle.whole.specs.Arith.{neg, scaled, row_value}
use Rattle.refusals.specs.declared.Refusal.{Refusal}
use Rattle.refusals.specs.declared.Unread.{Unread}
use Rattle.floats.specs.Grid.{inside, grid_no, place_of}
use Rattle.readings.specs.declared.Report.{Report}
use Rattle.readings.specs.Entry.{Entry, message}
use Rattle.readings.specs.Check.{placed_for, checked_for}
use Rattle.carbon.specs.Weiss.{terms, odd, ln3, ln_t, by_cold, by_log, salts, by_salt, fine, ln_k0}
use Rattle.carbon.specs.Carbon.{Solubility, solubility_of, solubility_number, solubility_value}

pub record Sample : Type 0 where
  pub entry : Entry
  pub answer : Solubility

-- salinity, temperature and pressure as bit patterns
abbrev deep : ℕ → ℕ → ℕ → Solubility → Sample
deep s t p a = record { entry = message 0 (Report.Deep (of_bits binary32 s) (of_bits binary32 t) (of_bits binary32 p)); answer = a }

abbrev surface : ℕ → ℕ → Solubility → Sample
surface s t a = record { entry = message 0 (Report.Surface (of_bits binary32 s) (of_bits binary32 t)); answer = a }

abbrev unread : Unread → Solubility → Sample
unread u a = record { entry = Err u; answer = a }

unfoldable pub samples : List Sample
samples =
    -- salinity 0 and 35 at 5 °C, and 35 at 25 °C
    surface 0x0000_0000 0x40a0_0000 (Ok (neg 2_747_789))
    ∷ surface 0x420c_0000 0x40a0_0000 (Ok (neg 2_953_995))
    ∷ surface 0x420c_0000 0x41c8_0000 (Ok (neg 3_561_652))
    -- the same under 1,000 bar, under 1,000.0001, under -1, and with a NaN and an infinity for a pressure
    ∷ deep 0x420c_0000 0x41c8_0000 0x447a_0000 (Ok (neg 3_561_652))
    ∷ deep 0x420c_0000 0x41c8_0000 0x447a_0001 (Ok (neg 3_561_652))
    ∷ deep 0x420c_0000 0x41c8_0000 0xbf80_0000 (Ok (neg 3_561_652))
    ∷ deep 0x420c_0000 0x41c8_0000 0x7fc0_0000 (Ok (neg 3_561_652))
    ∷ deep 0x420c_0000 0x41c8_0000 0xff80_0000 (Ok (neg 3_561_652))
    -- 0 °C, minus zero, the next float below, and -1 °C
    ∷ surface 0x420c_0000 0x0000_0000 (Ok (neg 2_766_684))
    ∷ surface 0x420c_0000 0x8000_0000 (Ok (neg 2_766_684))
    ∷ surface 0x420c_0000 0x8000_0001 (Err Refusal.Temperature)
    ∷ surface 0x420c_0000 0xbf80_0000 (Err Refusal.Temperature)
    -- the ends, and past them
    ∷ surface 0x4228_0000 0x4220_0000 (Ok (neg 3_920_767))
    ∷ surface 0x4228_0000 0x4220_0001 (Err Refusal.Temperature)
    ∷ surface 0x4228_0001 0x4220_0001 (Err Refusal.Salinity)
    -- a NaN before a salinity that is outside, an infinity before a temperature that is
    ∷ deep 0x422c_0000 0x7fc0_0000 0x7fc0_0000 (Err Refusal.NotFinite)
    ∷ deep 0x7f80_0000 0xbf80_0000 0x0000_0000 (Err Refusal.NotFinite)
    -- a missing one, and records that gave none
    ∷ record { entry = message 0 Report.Missing; answer = Err Refusal.Missing }
    ∷ unread Unread.Cut (Err Refusal.Cut)
    ∷ unread Unread.Kind (Err Refusal.Kind)
    ∷ unread Unread.Length (Err Refusal.Length)
    ∷ []

pub samples_hold : map (λ (s : Sample). solubility_of s.entry) samples ≡ map (λ (s : Sample). s.answer) samples
unfolding samples solubility_of checked_for placed_for place_of inside grid_no of_bits terms odd ln3 ln_t by_cold by_log salts scaled row_value by_salt fine ln_k0
samples_hold = refl

-- SPEC's two waters
pub fresh_holds : solubility_of (message 0 (Report.Surface (of_bits binary32 0x0000_0000) (of_bits binary32 0x40a0_0000))) ≡ Ok (neg 2_747_789)
unfolding solubility_of checked_for placed_for place_of inside grid_no of_bits terms odd ln3 ln_t by_cold by_log salts scaled row_value by_salt fine ln_k0
fresh_holds = refl

pub salt_holds : solubility_of (message 0 (Report.Surface (of_bits binary32 0x420c_0000) (of_bits binary32 0x40a0_0000))) ≡ Ok (neg 2_953_995)
unfolding solubility_of checked_for placed_for place_of inside grid_no of_bits terms odd ln3 ln_t by_cold by_log salts scaled row_value by_salt fine ln_k0
salt_holds = refl

pub nothing_holds : (n : ℕ) → solubility_of (message n Report.Missing) ≡ Err Refusal.Missing
unfolding solubility_of checked_for
nothing_holds n = refl

-- the number and the value of an answer
pub solubility_numbers : (solubility_number (Ok (neg 62)) ≡ 0) × ((solubility_value (Ok (neg 62)) ≡ neg 62) × ((solubility_number (Err Refusal.Temperature) ≡ 4) × (solubility_value (Err Refusal.Temperature) ≡ pos 0)))
solubility_numbers = (refl, (refl, (refl, refl)))
