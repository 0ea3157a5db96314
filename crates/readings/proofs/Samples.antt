-- SPEC's worked readings and the limits from both sides: one list, one theorem, by computation. Assumes nothing.
use mathlib.Core.Path.{◌≡◌, refl}
use mathlib.Core.List.{List, [], ◌∷◌, map}
use Prim.Native.Nat.{ℕ}
use lib.IntN.{ℤ, pos}
use mathlib.Core.Bool.{false}
use Rattle.std.specs.Prelude.{Err}
use lib.Ieee.{Float, fin, binary32, of_bits}
use Rattle.whole.specs.Arith.{neg}
use Rattle.refusals.specs.declared.Refusal.{Refusal}
use Rattle.floats.specs.Grid.{inside, grid_no, remark_of, place_of}
use Rattle.floats.specs.declared.Remark.{Remark}
use Rattle.floats.specs.declared.Remark.TheVariants.{Below, On, Above}
use Rattle.readings.specs.Check.{Checked, taken_at, surface_of, placed_for, checked_for}
use Rattle.readings.specs.declared.Purpose.{Purpose}
use Rattle.readings.specs.declared.Report.{Report}

pub record Sample : Type 0 where
  pub purpose : Purpose
  pub report : Report
  pub answer : Checked

-- salinity, temperature and pressure as bit patterns
abbrev deep : ℕ → ℕ → ℕ → Checked → Sample
deep s t p c = record { purpose = Purpose.Density; report = Report.Deep (of_bits binary32 s) (of_bits binary32 t) (of_bits binary32 p); answer = c }

abbrev surface : ℕ → ℕ → Checked → Sample
surface s t c = record { purpose = Purpose.Density; report = Report.Surface (of_bits binary32 s) (of_bits binary32 t); answer = c }

abbrev carbon : ℕ → ℕ → Checked → Sample
carbon s t c = record { purpose = Purpose.Carbon; report = Report.Surface (of_bits binary32 s) (of_bits binary32 t); answer = c }

-- the grid numbers, and the remarks beside them
abbrev point : ℤ → Remark → ℤ → Remark → ℤ → Remark → Checked
point σ a τ b π c = taken_at (record { sigma = σ; tau = τ; pi = π }) (record { salinity = a; temperature = b; pressure = c })

abbrev no : Refusal → Checked
no = Err

unfoldable pub samples : List Sample
samples =
    -- 0.0625 °C and -0.0625 °C: halves, below the points that they go to
    surface 0x420c_0000 0x3d80_0000 (point (pos 35_000) On (pos 63) Below (pos 0) On)
    ∷ surface 0x420c_0000 0xbd80_0000 (point (pos 35_000) On (neg 62) Below (pos 0) On)
    -- the least float above 0, minus zero, and the greatest float below 0
    ∷ deep 0x0000_0001 0x0000_0001 0x0000_0001 (point (pos 0) Above (pos 0) Above (pos 0) Above)
    ∷ deep 0x8000_0000 0x8000_0000 0x8000_0000 (point (pos 0) On (pos 0) On (pos 0) On)
    ∷ surface 0x8000_0000 0x8000_0001 (point (pos 0) On (pos 0) Below (pos 0) On)
    -- 5.1 and -0.1 as the nearest floats have them, and the floats on the other side of these points
    ∷ surface 0x40a3_3333 0xbdcc_cccd (point (pos 5_100) Below (neg 100) Below (pos 0) On)
    ∷ surface 0x40a3_3334 0xbdcc_cccc (point (pos 5_100) Above (neg 100) Above (pos 0) On)
    -- within 2⁻²⁴ of 0.001 and of -0.001, and not on them
    ∷ surface 0x3a83_126f 0xba83_126f (point (pos 1) Above (neg 1) Below (pos 0) On)
    -- 0.125 bar, a half, and the float before it; each float has its own remark
    ∷ deep 0x3a83_126e 0x3f00_0000 0x3e00_0000 (point (pos 1) Below (pos 500) On (pos 13) Below)
    ∷ deep 0x3a83_126e 0x3f00_0000 0x3dff_ffff (point (pos 1) Below (pos 500) On (pos 12) Above)
    -- the ends
    ∷ deep 0x4228_0000 0x4220_0000 0x447a_0000 (point (pos 42_000) On (pos 40_000) On (pos 100_000) On)
    ∷ deep 0x0000_0000 0xc000_0000 0x0000_0000 (point (pos 0) On (neg 2_000) On (pos 0) On)
    -- the next floats past them, and 42.0001
    ∷ deep 0x4228_0001 0x4220_0000 0x447a_0000 (no Refusal.Salinity)
    ∷ deep 0x4228_001a 0x4220_0000 0x447a_0000 (no Refusal.Salinity)
    ∷ deep 0x8000_0001 0xc000_0000 0x0000_0000 (no Refusal.Salinity)
    ∷ deep 0x4228_0000 0x4220_0001 0x447a_0000 (no Refusal.Temperature)
    ∷ deep 0x0000_0000 0xc000_0001 0x0000_0000 (no Refusal.Temperature)
    ∷ deep 0x4228_0000 0x4220_0000 0x447a_0001 (no Refusal.Pressure)
    ∷ deep 0x0000_0000 0xc000_0000 0x8000_0001 (no Refusal.Pressure)
    -- a salinity of 43 beside a NaN, an infinity, and a temperature and a pressure that are outside too
    ∷ surface 0x422c_0000 0x7fc0_0000 (no Refusal.NotFinite)
    ∷ deep 0x422c_0000 0x4220_0000 0xff80_0000 (no Refusal.NotFinite)
    ∷ deep 0x422c_0000 0x4220_0001 0x447a_0001 (no Refusal.Salinity)
    ∷ deep 0x4228_0000 0x4220_0001 0x447a_0001 (no Refusal.Temperature)
    ∷ record { purpose = Purpose.Density; report = Report.Missing; answer = no Refusal.Missing }
    -- for carbon dioxide: 0 °C and the next float below it, 40 °C and the next above it, 42.0001, and a missing one
    ∷ carbon 0x420c_0000 0x0000_0000 (point (pos 35_000) On (pos 0) On (pos 0) On)
    ∷ carbon 0x420c_0000 0x8000_0001 (no Refusal.Temperature)
    ∷ carbon 0x4228_0000 0x4220_0000 (point (pos 42_000) On (pos 40_000) On (pos 0) On)
    ∷ carbon 0x4228_0000 0x4220_0001 (no Refusal.Temperature)
    ∷ carbon 0x4228_001a 0x8000_0001 (no Refusal.Salinity)
    ∷ record { purpose = Purpose.Carbon; report = Report.Missing; answer = no Refusal.Missing }
    ∷ []

pub samples_hold : map (λ (s : Sample). checked_for s.purpose s.report) samples ≡ map (λ (s : Sample). s.answer) samples
unfolding samples checked_for placed_for place_of inside grid_no remark_of of_bits
samples_hold = refl

-- at the surface the pressure is 0 itself, whatever the other floats are
pub surface_at_nought : (s t : Float) → (surface_of s t).pressure ≡ fin false 0 (pos 0)
surface_at_nought s t = refl
