-- Nothing here is empty, and 3 and 0.0014 are the best there are: real readings, by their floats' bits. Of two at two depths, a needle of 2 names the
-- lighter water; one is shown more than 0.0013 kg/m³ from the formula as sent. Assumes nothing.
use Rattle.std.specs.Prelude.{false, Ok}
use Prim.Native.Nat.{ℕ}
use mathlib.Core.Path.{◌≡◌, refl, sym, ap₂}
use lib.IntN.{pos}
use lib.Signed.{le_z_yes}
use lib.Ieee.{of_bits}
use Rattle.whole.specs.Arith.{neg, scaled, row_value, root_from, root_of}
use Rattle.whole.specs.Fraction.{units, ◌≤F◌, ◌⊕◌, ◌⊖◌, ◌⊗◌, ◌⊘◌, row_f}
use Rattle.sea.specs.Table.{Dw, Ds, Dr, Dss, Kw, Ks, Kr, Aw, As, Ar, Bw, Bs}
use Rattle.sea.specs.Recipe.{rows_at, root_at, surface, K0, A, B, bulk, hundredths, mass, net, gain, density, shown, bulk_of, shown_of, shown_at, modulus_at}
use Rattle.sea.specs.Water.{range_of, water_of}
use Rattle.floats.specs.Bytes.{float_of}
use Rattle.floats.specs.Grid.{inside, grid_no, remark_of, place_of}
use Rattle.floats.specs.declared.Remark.TheVariants.{Below, On, Above}
use Rattle.readings.specs.Check.{deep_of, surface_of, placed_for, checked_for}
use Rattle.readings.specs.declared.Report.{Report}
use Rattle.readings.specs.declared.Reading.{Reading}
use Rattle.readings.specs.declared.Point.{Point}
use Rattle.readings.specs.declared.Remarks.{Remarks}
use Rattle.readings.specs.Entry.{message}
use Rattle.channels.specs.Answer.{Channel, channel_at}
use Rattle.panel.specs.Panel.{watered_of, channel_of, needle_of}
use Rattle.panel.proofs.Needles.{swapped}
use Rattle.panel.proofs.Samples.{deep_needle_is, turned_needle_is}
use Rattle.promises.specs.Formula.{surface_f, salted_f, b_f, bulk_f, pressure_f, compressed_f, density_at}
use Rattle.pledges.specs.Pledges.{Shows}
use Rattle.pledges.proofs.Real.{f0, f5, f35, f1000, shows_fresh, shows_deep}
use Rattle.sent.specs.Sent.{v_of, u_of, q_of, sent_under, common_sent, Compares, SentWithinBy, SentToRightFrom, SentToLeftFrom}
use Rattle.sent.proofs.Sent.{root_sent, root_sent_lem}

abbrev deep : Reading → Report
deep r = Report.Deep r.salinity r.temperature r.pressure

shows : (r : Reading) (p : Point) (d k : ℕ) (m : Remarks) → channel_of (message 0 (deep r)) ≡ channel_at p d k m → Shows r d
shows r p d k m e = record { probe = 0; report = deep r; reading_is = refl; point = p; bulk = k; remarks = m; channel_is = sym e }

-- fresh water at the surface beside salt water at 1,000 bar, and the other way round: needles of 3 or more
pub compares_depths : Compares (surface_of f0 f5) (deep_of f35 f5 f1000) (pos 25_361)
unfolding shows_fresh shows_deep
compares_depths = record { left_density = 999_967; right_density = 1_069_489; left = shows_fresh; right = shows_deep; needle_is = sym deep_needle_is }

pub compares_turned : Compares (deep_of f35 f5 f1000) (surface_of f0 f5) (neg 25_361)
unfolding shows_fresh shows_deep
compares_turned = record { left_density = 1_069_489; right_density = 999_967; left = shows_deep; right = shows_fresh; needle_is = sym turned_needle_is }

-- salinity 41.5695 at 39.9095 °C and 0.4 bar; salinity 41.5465 at 39.8685 °C and 5 bar
abbrev warm : Reading
warm = deep_of (float_of 0x2B 0x47 0x26 0x42) (float_of 0x54 0xA3 0x1F 0x42) (float_of 0xCD 0xCC 0xCC 0x3E)

abbrev cool : Reading
cool = deep_of (float_of 0x9E 0x2F 0x26 0x42) (float_of 0x58 0x79 0x1F 0x42) (float_of 0x00 0x00 0xA0 0x40)

-- as sent: no grid number stands here, but each float's own value
pub warm_sent :
    (v_of warm ≡ record { num = pos 10_897_195; den = 26_214_400 }) × ((u_of warm ≡ record { num = pos 2_615_509; den = 6_553_600 })
    × (q_of warm ≡ record { num = pos 13_421_773; den = 33_554_432_000 }))
unfolding of_bits
warm_sent = (refl, (refl, refl))

abbrev warm_at : Point
warm_at = record { sigma = pos 41_569; tau = pos 39_910; pi = pos 40 }

abbrev cool_at : Point
cool_at = record { sigma = pos 41_547; tau = pos 39_868; pi = pos 500 }

abbrev warm_off : Remarks
warm_off = record { salinity = Above; temperature = Below; pressure = Above }

abbrev cool_off : Remarks
cool_off = record { salinity = Below; temperature = Above; pressure = On }

warm_is : channel_of (message 0 (deep warm)) ≡ channel_at warm_at 1_022_898 2_441_268 warm_off
unfolding of_bits channel_of checked_for placed_for place_of inside grid_no remark_of watered_of water_of range_of scaled row_value root_from root_of Dw Ds Dr Dss Kw Ks Kr Aw As Ar Bw Bs rows_at root_at surface K0 A B bulk hundredths mass net gain density shown bulk_of shown_of shown_at modulus_at
warm_is = refl

cool_is : channel_of (message 0 (deep cool)) ≡ channel_at cool_at 1_023_092 2_442_739 cool_off
unfolding of_bits channel_of checked_for placed_for place_of inside grid_no remark_of watered_of water_of range_of scaled row_value root_from root_of Dw Ds Dr Dss Kw Ks Kr Aw As Ar Bw Bs rows_at root_at surface K0 A B bulk hundredths mass net gain density shown bulk_of shown_of shown_at modulus_at
cool_is = refl

-- the needle between them, 1,023,092 − 1,023,090
two : needle_of (channel_of (message 0 (deep warm))) (channel_of (message 0 (deep cool))) false ≡ Ok (pos 2)
unfolding scaled row_value root_from root_of Dw Ds Dr Dss Kw Ks Kr Aw As Ar Bw Bs rows_at root_at surface K0 A B bulk mass net gain density shown bulk_of shown_of shown_at
two = ap₂ (λ (l r : Channel). needle_of l r false) warm_is cool_is

pub shows_warm : Shows warm 1_022_898
shows_warm = shows warm warm_at 1_022_898 2_441_268 warm_off warm_is

pub shows_cool : Shows cool 1_023_092
shows_cool = shows cool cool_at 1_023_092 2_442_739 cool_off cool_is

pub compares_right : Compares warm cool (pos 2)
unfolding shows shows_warm shows_cool
compares_right = record { left_density = 1_022_898; right_density = 1_023_092; left = shows_warm; right = shows_cool; needle_is = sym two }

pub compares_left : Compares cool warm (neg 2)
unfolding shows shows_warm shows_cool
compares_left =
    let turned = swapped (channel_of (message 0 (deep warm))) (channel_of (message 0 (deep cool))) false (pos 2) two in
    record { left_density = 1_023_092; right_density = 1_022_898; left = shows_cool; right = shows_warm; needle_is = sym turned }

-- the formula makes the cool water, which the needle names, the lighter of the two, at the 5 bar that both have in common
lighter : sent_under (common_sent warm cool) cool (root_sent cool) ≤F sent_under (common_sent warm cool) warm (root_sent warm)
unfolding of_bits root_from root_of Dw Ds Dr Dss Kw Ks Kr Aw As Ar Bw Bs units row_f ◌≤F◌ ◌⊕◌ ◌⊖◌ ◌⊗◌ ◌⊘◌ surface_f salted_f b_f bulk_f pressure_f compressed_f density_at
lighter = le_z_yes tt

-- ---- 3 is the best there is, either way
pub needle_best : ¬ (SentToRightFrom 2)
needle_best h = h warm cool (pos 2) (root_sent warm) (root_sent cool) compares_right (root_sent_lem shows_warm) (root_sent_lem shows_cool) (le_z_yes tt) lighter

pub needle_best_left : ¬ (SentToLeftFrom 2)
unfolding of_bits
needle_best_left h = h cool warm (neg 2) (root_sent cool) (root_sent warm) compares_left (root_sent_lem shows_cool) (root_sent_lem shows_warm) (le_z_yes tt) lighter

-- ---- and 0.0014 is the best of four decimals: salinity 41.9575 at 39.9585 °C and 0.595 bar
abbrev far : Reading
far = deep_of (float_of 0x7B 0xD4 0x27 0x42) (float_of 0x81 0xD5 0x1F 0x42) (float_of 0xEC 0x51 0x18 0x3F)

abbrev far_off : Remarks
far_off = record { salinity = Below; temperature = Above; pressure = Below }

far_is : channel_of (message 0 (deep far)) ≡ channel_at (record { sigma = pos 41_958; tau = pos 39_958; pi = pos 60 }) 1_023_176 2_443_048 far_off
unfolding of_bits channel_of checked_for placed_for place_of inside grid_no remark_of watered_of water_of range_of scaled row_value root_from root_of Dw Ds Dr Dss Kw Ks Kr Aw As Ar Bw Bs rows_at root_at surface K0 A B bulk hundredths mass net gain density shown bulk_of shown_of shown_at modulus_at
far_is = refl

pub shows_far : Shows far 1_023_176
shows_far = shows far (record { sigma = pos 41_958; tau = pos 39_958; pi = pos 60 }) 1_023_176 2_443_048 far_off far_is

pub shown_best : ¬ (SentWithinBy 13)
unfolding of_bits root_from root_of Dw Ds Dr Dss Kw Ks Kr Aw As Ar Bw Bs units row_f ◌≤F◌ ◌⊕◌ ◌⊖◌ ◌⊗◌ ◌⊘◌ surface_f salted_f b_f bulk_f pressure_f compressed_f density_at
shown_best h = (h far 1_023_176 (root_sent far) shows_far (root_sent_lem shows_far)).lower.le
