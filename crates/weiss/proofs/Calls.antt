-- The promises of what a caller gets: of an answer's definition, and once more from the contract of `carbon::answer` itself. `Learnt` is that contract,
-- as the checker reads it off the source: a dropped or weakened clause breaks the last law. Assumes nothing.
use Prim.Native.Nat.{ℕ, ◌≤◌}
use mathlib.Core.Path.{◌≡◌, refl, sym, ap, ◌∙◌, subst}
use Rattle.std.specs.Prelude.{Some, Ok}
use native.Mathlib.Omega.{arith}
use contract.Lifetimes
use lib.IntN.{ℤ}
use lib.Ieee.{binary32, of_bits}
use Rattle.whole.specs.Arith.{neg, plus}
use Rattle.whole.specs.Fraction.{Frac, over}
use Rattle.floats.specs.Grid.{grid_no}
use Rattle.readings.specs.declared.Report.{Report}
use Rattle.readings.specs.declared.Reading.{Reading}
use Rattle.readings.specs.Entry.{message}
use Rattle.readings.specs.Check.{surface_of, given_of}
use Rattle.carbon.specs.Weiss.{ln_terms, rest_terms, kelvin}
use Rattle.carbon.specs.Carbon.{solubility_of}
use Rattle.carbon.proofs.Answers.{known_is}
use Rattle.carbon.proofs.Samples.{salt_holds}
use Rattle.carbon.proofs.answer.Reads as answer
use Rattle.weiss.specs.Equation.{equation30, LnWithin, CarbonWithin, Held, HeldWithin}
use Rattle.weiss.proofs.Promises.{within_two, within_kept}

held : (e : Frac) → CarbonWithin e → HeldWithin e
held e w probe report r z j k g is hj hk =
    let v = known_is probe report r z g is in
    let σ = plus (grid_no 1000 r.salinity) in
    let n = kelvin (grid_no 1000 r.temperature) in
    record {
      salinity_low = v.salinity_low;
      temperature_low = v.temperature_low;
      near =
          subst (λ (y : ℤ). LnWithin e y (equation30 j k σ n)) (sym v.value_is)
          (w j k σ n hj hk (record { salt = v.salinity_high; cold = omega arith; warm = omega (arith, v.temperature_high) }));
    }

pub held_within_two : HeldWithin (over 2 1_000_000)
held_within_two = held (over 2 1_000_000) within_two

pub held_within_kept : HeldWithin (over 540 1_000_000_000)
held_within_kept = held (over 540 1_000_000_000) within_kept

-- one call of `answer` with a report of the reading r, whose answer is the value z
pub told_within_two :
    (κs : Lifetimes.Lfts 0) (a : _) (c : _) (s : _) → answer.Learnt κs a c s →
    (z : ℤ) → Ok z ≡ c → (probe : ℕ) (report : Report) (r : Reading) → a.0 ≡ message probe report → given_of report ≡ Some r →
    (j k : ℕ) → ln_terms ≤ j → rest_terms ≤ k → Held (over 2 1_000_000) j k r z
told_within_two κs a c s told z is probe report r e g j k hj hk = held_within_two probe report r z j k g (is ∙ told ∙ ap solubility_of e) hj hk

-- SPEC's sea water of salinity 35 at 5 °C, from its floats
pub salt_held : (j k : ℕ) → ln_terms ≤ j → rest_terms ≤ k → LnWithin (over 2 1_000_000) (neg 2_953_995) (equation30 j k 35_000 278_150)
unfolding grid_no of_bits
salt_held j k hj hk =
    let s = of_bits binary32 0x420c_0000 in
    let t = of_bits binary32 0x40a0_0000 in
    (held_within_two 0 (Report.Surface s t) (surface_of s t) (neg 2_953_995) j k refl (sym salt_holds) hj hk).near
