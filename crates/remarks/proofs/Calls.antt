-- What the remarks of a channel say of the floats that were sent, from the contract of `panel::answer` itself: `Learnt` is that contract, as the checker reads
-- it off the source. At the end a real reading for it: 34.999 and -0.1 °C as their nearest floats have them, at 1,000 bar. Assumes nothing.
use Rattle.std.specs.Prelude.{Some}
use Prim.Native.Nat.{ℕ}
use mathlib.Core.Path.{◌≡◌, refl, sym, ap, ◌∙◌, subst}
use contract.Lifetimes
use lib.IntN.{ℤ, pos}
use lib.Ieee.{Float}
use Rattle.whole.specs.Arith.{neg}
use Rattle.floats.specs.Bytes.{float_of}
use Rattle.floats.specs.Grid.{grid_no, remark_of, InHalf}
use Rattle.floats.specs.declared.Remark.{Remark}
use Rattle.floats.specs.declared.Remark.TheVariants.{Below, On, Above}
use Rattle.floats.proofs.Remarks.{lies}
use Rattle.readings.specs.declared.Report.{Report}
use Rattle.readings.specs.declared.Reading.{Reading}
use Rattle.readings.specs.declared.Point.{Point}
use Rattle.readings.specs.declared.Remarks.{Remarks}
use Rattle.readings.specs.Entry.{message}
use Rattle.readings.specs.Check.{deep_of, given_of}
use Rattle.readings.proofs.Reasons.{Gridded, Remarked}
use Rattle.channels.specs.Answer.{channel_at}
use Rattle.panel.specs.Panel.{channel_of}
use Rattle.panel.proofs.Answers.{accepted_gridded, accepted_remarked}
use Rattle.panel.proofs.Answers as panel
use Rattle.panel.proofs.Samples.{off_is}
use Rattle.panel.proofs.answer.Reads as answer
use Rattle.remarks.specs.Told.{Told}

-- number and remark tell within which half step the float lies
beside : (k : ℕ) (x : Float) (g : ℤ) (m : Remark) → g ≡ grid_no k x → m ≡ remark_of k x → InHalf m k g x
beside k x g m e f = subst (λ (n : ℤ). InHalf m k n x) (sym e) (subst (λ (n : Remark). InHalf n k (grid_no k x) x) (sym f) (lies k x))

told_by : (x : Reading) (p : Point) (m : Remarks) → Gridded x p → Remarked x m → Told x p m
told_by x p m g o =
    record {
      salinity_lies = beside 1000 x.salinity p.sigma m.salinity g.sigma_is o.of_salinity;
      temperature_lies = beside 1000 x.temperature p.tau m.temperature g.tau_is o.of_temperature;
      pressure_lies = beside 100 x.pressure p.pi m.pressure g.pi_is o.of_pressure;
    }

-- ---- one call of `answer`, whose answer r is an accepted channel
module _ (κs : Lifetimes.Lfts 0) (a : _) (r : _) (s : _) (told : answer.Learnt κs a r s) (p : Point) (d k : ℕ) (m : Remarks) (is : channel_at p d k m ≡ r) where
  channel_is : (i : ℕ) (report : Report) → a.0 ≡ message i report → channel_of (message i report) ≡ channel_at p d k m
  channel_is i report e = sym (is ∙ told ∙ ap channel_of e)

  -- the remarks are those of the floats that it was given
  pub remarks_told : (i : ℕ) (report : Report) (x : Reading) → a.0 ≡ message i report → given_of report ≡ Some x → Remarked x m
  remarks_told i report x e g = accepted_remarked i report x p d k m g (channel_is i report e)

  -- with the grid numbers they say within which half step each of them lies
  pub half_steps_told : (i : ℕ) (report : Report) (x : Reading) → a.0 ≡ message i report → given_of report ≡ Some x → Told x p m
  half_steps_told i report x e g = told_by x p m (accepted_gridded i report x p d k m g (channel_is i report e)) (remarks_told i report x e g)

  -- a probe at the surface: the pressure's is on
  pub surface_told : (i : ℕ) (x y : Float) → a.0 ≡ message i (Report.Surface x y) → m.pressure ≡ On
  surface_told i x y e = panel.surface_on i x y p d k m (channel_is i (Report.Surface x y) e)

-- ---- a real reading
pub off_told :
    Told (deep_of (float_of 0xFA 0xFE 0x0B 0x42) (float_of 0xCD 0xCC 0xCC 0xBD) (float_of 0x00 0x00 0x7A 0x44))
    (record { sigma = pos 34_999; tau = neg 100; pi = pos 100_000 })
    (record { salinity = Above; temperature = Below; pressure = On })
off_told =
    let s = float_of 0xFA 0xFE 0x0B 0x42 in
    let t = float_of 0xCD 0xCC 0xCC 0xBD in
    let q = float_of 0x00 0x00 0x7A 0x44 in
    told_by (deep_of s t q) _ _ (accepted_gridded 0 (Report.Deep s t q) (deep_of s t q) _ _ _ _ refl off_is) (accepted_remarked 0 (Report.Deep s t q) (deep_of s t q) _ _ _ _ refl off_is)
