-- Nothing here is empty: what the pledges are about holds of real readings, the two waters of SPEC's example and one of them at 1,000
-- bar. Assumes nothing.
use Prim.Native.Nat.{◌≤◌}
use mathlib.Core.Path.{refl, sym}
use lib.IntN.{pos}
use lib.Ieee.{Float, of_bits}
use Rattle.whole.specs.Arith.{neg}
use Rattle.whole.specs.Fraction.{over}
use Rattle.sea.specs.Recipe.{root_at}
use Rattle.floats.specs.Grid.{Same}
use Rattle.floats.specs.Bytes.{float_of}
use Rattle.readings.specs.declared.Point.{Point}
use Rattle.readings.specs.declared.Report.{Report}
use Rattle.readings.specs.Check.{deep_of, surface_of}
use Rattle.panel.proofs.Samples.{exact, fresh, salt, deep, fresh_is, salt_is, deep_is, needle_is, deep_needle_is, turned_needle_is}
use Rattle.promises.proofs.Grid.{rooted}
use Rattle.pledges.specs.Pledges.{Shows, Sides}
use Rattle.pledges.proofs.Pledges.{saltier, deeper}

-- salinity 0 and 35, both at the surface and at 5 °C
abbrev fresh_at : Point
fresh_at = record { sigma = pos 0; tau = pos 5_000; pi = pos 0 }

abbrev salt_at : Point
salt_at = record { sigma = pos 35_000; tau = pos 5_000; pi = pos 0 }

-- the second at 1,000 bar
abbrev deep_at : Point
deep_at = record { sigma = pos 35_000; tau = pos 5_000; pi = pos 100_000 }

pub shows_salt : Shows (surface_of (float_of 0x00 0x00 0x0C 0x42) (float_of 0x00 0x00 0xA0 0x40)) 1_027_675
shows_salt =
    record {
      probe = 0;
      report = Report.Surface (float_of 0x00 0x00 0x0C 0x42) (float_of 0x00 0x00 0xA0 0x40);
      reading_is = refl;
      point = salt_at;
      bulk = 2_218_593;
      remarks = exact;
      channel_is = sym salt_is;
    }

pub sides_of_both : Sides fresh_at salt_at (over (root_at 0) 100_000) (over (root_at 35_000) 100_000) (pos 27_708)
sides_of_both =
    record {
      left = fresh;
      right = salt;
      left_density = 999_967;
      left_bulk = 2_033_780;
      left_remarks = exact;
      right_density = 1_027_675;
      right_bulk = 2_218_593;
      right_remarks = exact;
      left_is = sym fresh_is;
      right_is = sym salt_is;
      left_root = rooted 0;
      right_root = rooted 35_000;
      needle_is = sym needle_is;
    }

-- ---- saltier and deeper: the floats' order is met, and minus zero has the value of zero
abbrev pub f0 : Float
f0 = float_of 0x00 0x00 0x00 0x00

abbrev pub f5 : Float
f5 = float_of 0x00 0x00 0xA0 0x40

abbrev pub f35 : Float
f35 = float_of 0x00 0x00 0x0C 0x42

abbrev pub f1000 : Float
f1000 = float_of 0x00 0x00 0x7A 0x44

unfoldable pub shows_fresh : Shows (surface_of f0 f5) 999_967
shows_fresh = record { probe = 0; report = Report.Surface f0 f5; reading_is = refl; point = fresh_at; bulk = 2_033_780; remarks = exact; channel_is = sym fresh_is }

unfoldable pub shows_deep : Shows (deep_of f35 f5 f1000) 1_069_489
shows_deep =
    record {
      probe = 0;
      report = Report.Deep f35 f5 f1000;
      reading_is = refl;
      point = deep_at;
      bulk = 2_557_749;
      remarks = exact;
      channel_is = sym deep_is;
    }

-- fresh water at the surface beside salt water at 1,000 bar, and the other way round
pub sides_at_depths : Sides fresh_at deep_at (over (root_at 0) 100_000) (over (root_at 35_000) 100_000) (pos 25_361)
sides_at_depths =
    record {
      left = fresh;
      right = deep;
      left_density = 999_967;
      left_bulk = 2_033_780;
      left_remarks = exact;
      right_density = 1_069_489;
      right_bulk = 2_557_749;
      right_remarks = exact;
      left_is = sym fresh_is;
      right_is = sym deep_is;
      left_root = rooted 0;
      right_root = rooted 35_000;
      needle_is = sym deep_needle_is;
    }

pub sides_turned : Sides deep_at fresh_at (over (root_at 35_000) 100_000) (over (root_at 0) 100_000) (neg 25_361)
sides_turned =
    record {
      left = deep;
      right = fresh;
      left_density = 1_069_489;
      left_bulk = 2_557_749;
      left_remarks = exact;
      right_density = 999_967;
      right_bulk = 2_033_780;
      right_remarks = exact;
      left_is = sym deep_is;
      right_is = sym fresh_is;
      left_root = rooted 35_000;
      right_root = rooted 0;
      needle_is = sym turned_needle_is;
    }

pub same_5 : Same f5 f5
unfolding of_bits
same_5 = (record { le = tt }, record { le = tt })

pub same_35 : Same f35 f35
unfolding of_bits
same_35 = (record { le = tt }, record { le = tt })

pub same_noughts : Same f0 (float_of 0x00 0x00 0x00 0x80)
unfolding of_bits
same_noughts = (record { le = tt }, record { le = tt })

pub saltier_real : 999_967 ≤ 1_027_675
unfolding of_bits
saltier_real = saltier (surface_of f0 f5) (surface_of f35 f5) 999_967 1_027_675 shows_fresh shows_salt same_5 (record { le = tt }, record { le = tt }) (record { le = tt })

pub deeper_real : 1_027_675 ≤ 1_069_489
unfolding of_bits
deeper_real = deeper (surface_of f35 f5) (deep_of f35 f5 f1000) 1_027_675 1_069_489 shows_salt shows_deep same_35 same_5 (record { le = tt })
