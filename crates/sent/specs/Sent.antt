-- Demand 3 of the readings as the probes sent them: what the panel's calls return, held to the published formula at the exact values of the floats.
-- Proved in proofs/Sent, and in proofs/Calls from the contracts of `panel::answer` and `panel::paired`.
-- The words: `numer` and `denom` are a float's exact value (floats), `density_at` is the formula, and `Within e n f` says that n thousandths are within e
-- of f (promises); `Shows r d`: the panel accepts the reading r and shows the density d (pledges); `RootOf v x`: x is in the bracket of √v (drift).
use Rattle.std.specs.Prelude.{ℕ, ◌*◌, ◌≡◌, cond, ℤ, pos, ◌*ℤ◌, ◌≤ℤ◌, Float, Ok}
use Rattle.std.specs.Int.Signed.{lt_z}
use Rattle.whole.specs.Arith.{neg}
use Rattle.whole.specs.Fraction.{Frac, over, ◌≤F◌, ◌⊖◌}
use Rattle.floats.specs.Grid.{numer, denom}
use Rattle.readings.specs.declared.Reading.{Reading}
use Rattle.readings.specs.Entry.{message}
use Rattle.panel.specs.Panel.{channel_of, shared_of, needle_of}
use Rattle.promises.specs.Formula.{density_at}
use Rattle.promises.specs.Promises.{Within}
use Rattle.pledges.specs.Pledges.{Shows}
use Rattle.drift.specs.Drift.{RootOf}

-- a float's exact value, divided by c
abbrev pub value_by : ℕ → Float → Frac
value_by c x = record { num = numer x; den = c * denom x }

-- v, u and q of a reading as it was sent: salinity/100, °C/100, bar/1,000
abbrev pub v_of : Reading → Frac
v_of r = value_by 100 r.salinity

abbrev pub u_of : Reading → Frac
u_of r = value_by 100 r.temperature

abbrev pub q_of : Reading → Frac
q_of r = value_by 1_000 r.pressure

-- the formula's density of a reading's water as it was sent, under a pressure and with x in place of √v; and at its own. (A fraction for every reading
-- that is shown, its lower number above 0, so that K is above P: `sent_fraction` and `common_fractions` of proofs/Sent.)
abbrev pub sent_under : Frac → Reading → Frac → Frac
sent_under q r x = density_at (v_of r) x (u_of r) q

abbrev pub sent_at : Reading → Frac → Frac
sent_at r x = sent_under (q_of r) r x

-- the pressure that two readings have in common: the greater of the two as they were sent
abbrev pub greater : Float → Float → Float
greater a b = cond (lt_z (numer a *ℤ pos (denom b)) (numer b *ℤ pos (denom a))) b a

abbrev pub common_sent : Reading → Reading → Frac
common_sent l r = value_by 1_000 (greater l.pressure r.pressure)

-- the panel shows a density for each of two readings, and z is the needle between them
pub record Compares (l r : Reading) (z : ℤ) : Type 0 where
  pub left_density : ℕ
  pub right_density : ℕ
  pub left : Shows l left_density
  pub right : Shows r right_density
  pub needle_is :
      let a = message left.probe left.report in
      let b = message right.probe right.report in
      Ok z ≡ needle_of (channel_of a) (channel_of b) (shared_of a b)

-- ---- the promises, for every fraction in place of each root. (Every reading that is shown has one, `root_sent_lem` of proofs/Sent, and none of the bracket is
-- left out, `root_every` of drift/proofs/Root.)
-- 1. the density shown is within 0.0014 kg/m³ of the formula's. (0.0013 is false: `shown_best` of proofs/Real.)
abbrev pub SentWithinBy : ℕ → Type 0
SentWithinBy e = (r : Reading) (d : ℕ) (x : Frac) → Shows r d → RootOf (v_of r) x → Within (over e 10_000) (pos d) (sent_at r x)

abbrev pub SentWithin : Type 0
SentWithin = SentWithinBy 14

-- 2. a needle of 3 or more, either way, never names as heavier a water that the formula, with both under the greater of the pressures sent, makes
-- equal or lighter. (2 is too few: `needle_best` of proofs/Real.)
abbrev pub SentToRightFrom : ℕ → Type 0
SentToRightFrom n =
    (l r : Reading) (z : ℤ) (x y : Frac) → Compares l r z → RootOf (v_of l) x → RootOf (v_of r) y →
    pos n ≤ℤ z → ¬ (sent_under (common_sent l r) r y ≤F sent_under (common_sent l r) l x)

abbrev pub SentToLeftFrom : ℕ → Type 0
SentToLeftFrom n =
    (l r : Reading) (z : ℤ) (x y : Frac) → Compares l r z → RootOf (v_of l) x → RootOf (v_of r) y →
    z ≤ℤ neg n → ¬ (sent_under (common_sent l r) l x ≤F sent_under (common_sent l r) r y)

abbrev pub SentToRight : Type 0
SentToRight = SentToRightFrom 3

abbrev pub SentToLeft : Type 0
SentToLeft = SentToLeftFrom 3

-- 3. the needle is within 0.0028 kg/m³ of the formula's difference there
abbrev pub SentNear : Type 0
SentNear =
    (l r : Reading) (z : ℤ) (x y : Frac) → Compares l r z → RootOf (v_of l) x → RootOf (v_of r) y →
    Within (over 28 10_000) z (sent_under (common_sent l r) r y ⊖ sent_under (common_sent l r) l x)
