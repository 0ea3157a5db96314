-- What a remark says: the laws of any float, and what an accepted channel's remarks say, beside its grid numbers, of the floats that were sent. Proved in
-- proofs/Laws, and in proofs/Calls from the contract of `panel::answer`.
use Rattle.std.specs.Prelude.{ℕ, ◌≤◌, ◌≡◌, Bool, ℤ, pos, ◌+ℤ◌, ◌*ℤ◌, Float}
use Rattle.std.specs.Float.{fin}
use Rattle.floats.specs.Grid.{denom, grid_no, in_steps, point_of, remark_of, remark_number, InHalf, AtMost}
use Rattle.floats.specs.declared.Remark.{Remark}
use Rattle.floats.specs.declared.Remark.TheVariants.{Below, On}
use Rattle.readings.specs.declared.Reading.{Reading}
use Rattle.readings.specs.declared.Point.{Point}
use Rattle.readings.specs.declared.Remarks.{Remarks}

-- ---- of a float x on a grid of k steps to 1
-- 1. if it is on, its exact value times the steps is the grid number; if that is a whole number z, it is on, and z is the grid number
abbrev pub OnlyWhole : Type 0
OnlyWhole = (k : ℕ) (x : Float) → remark_of k x ≡ On → in_steps k x ≡ point_of (grid_no k x) x

abbrev pub WholeIsOn : Type 0
WholeIsOn = (k : ℕ) (x : Float) (z : ℤ) → in_steps k x ≡ point_of z x → (grid_no k x ≡ z) × (remark_of k x ≡ On)

-- 2. of two with the same grid number the one with the greater value never has the lower remark
abbrev pub NeverLower : Type 0
NeverLower = (k : ℕ) (x y : Float) → AtMost x y → grid_no k x ≡ grid_no k y → remark_number (remark_of k x) ≤ remark_number (remark_of k y)

-- 3. the remark and the grid number say within which half step it lies; no other two do
abbrev pub TellsHalf : Type 0
TellsHalf = (k : ℕ) (x : Float) → InHalf (remark_of k x) k (grid_no k x) x

abbrev pub TellsAlone : Type 0
TellsAlone = (m : Remark) (k : ℕ) (g : ℤ) (x : Float) → InHalf m k g x → (grid_no k x ≡ g) × (remark_of k x ≡ m)

-- nought is on, with either sign; what is half a step below g goes upward, and is below
abbrev pub ZeroIsOn : Type 0
ZeroIsOn = (k : ℕ) (s : Bool) (e : ℤ) → (grid_no k (fin s 0 e) ≡ pos 0) × (remark_of k (fin s 0 e) ≡ On)

abbrev pub HalfIsBelow : Type 0
HalfIsBelow = (k : ℕ) (x : Float) (g : ℤ) → pos 2 *ℤ in_steps k x +ℤ pos (denom x) ≡ pos 2 *ℤ point_of g x → (grid_no k x ≡ g) × (remark_of k x ≡ Below)

-- ---- each float of the reading x lies in the half step that its own grid number and remark tell
pub record Told (x : Reading) (p : Point) (m : Remarks) : Type 0 where
  pub salinity_lies : InHalf m.salinity 1000 p.sigma x.salinity
  pub temperature_lies : InHalf m.temperature 1000 p.tau x.temperature
  pub pressure_lies : InHalf m.pressure 100 p.pi x.pressure
