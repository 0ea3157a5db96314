-- The two waters of SPEC's example, one of them at 1,000 bar, and one off the grid, as the panel answers them: computed from the floats' bits to the shown
-- density and the remarks; and needles of these. Assumes nothing.
use Rattle.std.specs.Prelude.{false, Ok, Err}
use Prim.Native.Nat.{ℕ}
use mathlib.Core.Path.{◌≡◌, refl, ap₂, ◌∙◌}
use lib.IntN.{pos}
use lib.Ieee.{of_bits}
use Rattle.whole.specs.Arith.{neg, scaled, row_value, root_from, root_of}
use Rattle.sea.specs.Table.{Dw, Ds, Dr, Dss, Kw, Ks, Kr, Aw, As, Ar, Bw, Bs}
use Rattle.sea.specs.Recipe.{rows_at, root_at, surface, K0, A, B, bulk, hundredths, mass, net, gain, density, shown, bulk_of, shown_of, shown_at, modulus_at}
use Rattle.sea.specs.Water.{range_of, water_of}
use Rattle.refusals.specs.declared.Refusal.{Refusal}
use Rattle.floats.specs.Bytes.{float_of}
use Rattle.floats.specs.Grid.{inside, grid_no, remark_of, place_of}
use Rattle.floats.specs.declared.Remark.TheVariants.{Below, On, Above}
use Rattle.readings.specs.Check.{placed_for, checked_for}
use Rattle.readings.specs.declared.Remarks.{Remarks}
use Rattle.readings.specs.declared.Report.{Report}
use Rattle.readings.specs.Entry.{Entry, message}
use Rattle.channels.specs.Answer.{Channel, channel_at}
use Rattle.panel.specs.Panel.{watered_of, channel_of, shared_of, needle_of}
use Rattle.panel.proofs.Needles.{level, swapped}

-- salinity 0 and 35, both at the surface and at 5 °C, of a probe with a number, and of one with none
abbrev pub fresh_of : ℕ → Entry
fresh_of n = message n (Report.Surface (float_of 0x00 0x00 0x00 0x00) (float_of 0x00 0x00 0xA0 0x40))

abbrev pub salt_of : ℕ → Entry
salt_of n = message n (Report.Surface (float_of 0x00 0x00 0x0C 0x42) (float_of 0x00 0x00 0xA0 0x40))

abbrev pub fresh : Entry
fresh = fresh_of 0

abbrev pub salt : Entry
salt = salt_of 0

-- all of their floats are on the grid
abbrev pub exact : Remarks
exact = record { salinity = On; temperature = On; pressure = On }

pub fresh_of_is : (n : ℕ) → channel_of (fresh_of n) ≡ channel_at (record { sigma = pos 0; tau = pos 5_000; pi = pos 0 }) 999_967 2_033_780 exact
unfolding of_bits channel_of checked_for placed_for place_of inside grid_no remark_of watered_of water_of range_of scaled row_value root_from root_of Dw Ds Dr Dss Kw Ks Kr Aw As Ar Bw Bs rows_at root_at surface K0 A B bulk hundredths mass net gain density shown bulk_of shown_of shown_at modulus_at
fresh_of_is n = refl

pub fresh_is : channel_of fresh ≡ channel_at (record { sigma = pos 0; tau = pos 5_000; pi = pos 0 }) 999_967 2_033_780 exact
fresh_is = fresh_of_is 0

pub salt_of_is : (n : ℕ) → channel_of (salt_of n) ≡ channel_at (record { sigma = pos 35_000; tau = pos 5_000; pi = pos 0 }) 1_027_675 2_218_593 exact
unfolding of_bits channel_of checked_for placed_for place_of inside grid_no remark_of watered_of water_of range_of scaled row_value root_from root_of Dw Ds Dr Dss Kw Ks Kr Aw As Ar Bw Bs rows_at root_at surface K0 A B bulk hundredths mass net gain density shown bulk_of shown_of shown_at modulus_at
salt_of_is n = refl

pub salt_is : channel_of salt ≡ channel_at (record { sigma = pos 35_000; tau = pos 5_000; pi = pos 0 }) 1_027_675 2_218_593 exact
salt_is = salt_of_is 0

pub nothing_is : (n : ℕ) → channel_of (message n Report.Missing) ≡ Err Refusal.Missing
unfolding channel_of checked_for
nothing_is n = refl

-- salinity 35 at 5 °C and 1,000 bar
abbrev pub deep_of : ℕ → Entry
deep_of n = message n (Report.Deep (float_of 0x00 0x00 0x0C 0x42) (float_of 0x00 0x00 0xA0 0x40) (float_of 0x00 0x00 0x7A 0x44))

abbrev pub deep : Entry
deep = deep_of 0

pub deep_of_is : (n : ℕ) → channel_of (deep_of n) ≡ channel_at (record { sigma = pos 35_000; tau = pos 5_000; pi = pos 100_000 }) 1_069_489 2_557_749 exact
unfolding of_bits channel_of checked_for placed_for place_of inside grid_no remark_of watered_of water_of range_of scaled row_value root_from root_of Dw Ds Dr Dss Kw Ks Kr Aw As Ar Bw Bs rows_at root_at surface K0 A B bulk hundredths mass net gain density shown bulk_of shown_of shown_at modulus_at
deep_of_is n = refl

pub deep_is : channel_of deep ≡ channel_at (record { sigma = pos 35_000; tau = pos 5_000; pi = pos 100_000 }) 1_069_489 2_557_749 exact
deep_is = deep_of_is 0

-- the nearest floats of 34.999 and -0.1 °C, which lie above and below, at 1,000 bar
abbrev pub off : Entry
off = message 0 (Report.Deep (float_of 0xFA 0xFE 0x0B 0x42) (float_of 0xCD 0xCC 0xCC 0xBD) (float_of 0x00 0x00 0x7A 0x44))

pub off_is : channel_of off ≡ channel_at (record { sigma = pos 34_999; tau = neg 100; pi = pos 100_000 }) 1_070_986 2_497_928 (record { salinity = Above; temperature = Below; pressure = On })
unfolding of_bits channel_of checked_for placed_for place_of inside grid_no remark_of watered_of water_of range_of scaled row_value root_from root_of Dw Ds Dr Dss Kw Ks Kr Aw As Ar Bw Bs rows_at root_at surface K0 A B bulk hundredths mass net gain density shown bulk_of shown_of shown_at modulus_at
off_is = refl

-- ---- needles
-- of the first two, at one pressure, the difference of their densities
pub needle_is : needle_of (channel_of fresh) (channel_of salt) (shared_of fresh salt) ≡ Ok (pos 27_708)
needle_is =
    level fresh salt (record { sigma = pos 0; tau = pos 5_000; pi = pos 0 }) (record { sigma = pos 35_000; tau = pos 5_000; pi = pos 0 }) 999_967 2_033_780 1_027_675 2_218_593 exact exact
    fresh_is salt_is refl

-- of the first and the deep one: the fresh water's density at 1,000 bar is 1,044,128, so that the needle is 25,361 and not the 69,522 between the two
-- that are shown
at_depth : (d k c j : ℕ) (m n : Remarks) →
    needle_of (channel_at (record { sigma = pos 0; tau = pos 5_000; pi = pos 0 }) d k m) (channel_at (record { sigma = pos 35_000; tau = pos 5_000; pi = pos 100_000 }) c j n) false ≡
    Ok (pos 25_361)
unfolding scaled row_value root_from root_of Dw Ds Dr Dss Kw Ks Kr Aw As Ar Bw Bs rows_at root_at surface K0 A B bulk mass net gain density shown bulk_of shown_of shown_at
at_depth d k c j m n = refl

pub deep_needle_is : needle_of (channel_of fresh) (channel_of deep) (shared_of fresh deep) ≡ Ok (pos 25_361)
deep_needle_is = ap₂ (λ (l r : Channel). needle_of l r false) fresh_is deep_is ∙ at_depth 999_967 2_033_780 1_069_489 2_557_749 exact exact

pub turned_needle_is : needle_of (channel_of deep) (channel_of fresh) (shared_of deep fresh) ≡ Ok (neg 25_361)
turned_needle_is = swapped (channel_of fresh) (channel_of deep) false (pos 25_361) deep_needle_is
