-- When a needle is refused, and what swapping does, said of what stands in the two channels. Proved in proofs/Probes of the definition, and there once more from
-- the contract of `panel::paired`.
use Rattle.std.specs.Prelude.{ℕ, ◌+◌, ◌≡◌, ℤ, neg_ℤ, Ok, Err}
use Rattle.refusals.specs.declared.Refusal.{Refusal}
use Rattle.refusals.specs.Number.{number_of}
use Rattle.readings.specs.declared.Report.{Report}
use Rattle.readings.specs.declared.Point.{Point}
use Rattle.readings.specs.declared.Remarks.{Remarks}
use Rattle.readings.specs.Entry.{Entry, message}
use Rattle.channels.specs.Answer.{channel_at}
use Rattle.channels.specs.declared.Stop.{Stop}
use Rattle.channels.specs.Numbers.{needle_number}
use Rattle.channels.specs.declared.Comparison.{Comparison}
use Rattle.panel.specs.Panel.{channel_of}

-- two readings with one probe number, other than 0: as far as the numbers tell, one probe on both sides
pub record Shares (l r : Entry) : Type 0 where
  pub number : ℕ
  pub own : ¬ (number ≡ 0)
  pub left_report : Report
  pub left_is : l ≡ message number left_report
  pub right_report : Report
  pub right_is : r ≡ message number right_report

-- what stands in a channel is accepted
pub record Accepts (e : Entry) : Type 0 where
  pub point : Point
  pub density : ℕ
  pub bulk : ℕ
  pub remarks : Remarks
  pub is : channel_of e ≡ channel_at point density bulk remarks

-- what stops a needle, and by which number: the left, else the right, else one probe on both sides
pub data Stops (l r : Entry) : Stop → ℕ → Type 0 where
  left_refused : (x : Refusal) → channel_of l ≡ Err x → Stops l r (Stop.Left x) (100 + number_of x)
  right_refused : (x : Refusal) → Accepts l → channel_of r ≡ Err x → Stops l r (Stop.Right x) (200 + number_of x)
  one_probe : Accepts l → Accepts r → Shares l r → Stops l r Stop.SameProbe 32

-- ---- of c, the comparison of l and r
-- 1. its needle is refused exactly if something stops it, and by that number
abbrev pub OnlyStopped : Entry → Entry → Comparison → Type 0
OnlyStopped l r c = (s : Stop) → c.needle ≡ Err s → Stops l r s (needle_number c.needle)

abbrev pub StopsRefuse : Entry → Entry → Comparison → Type 0
StopsRefuse l r c = (s : Stop) (n : ℕ) → Stops l r s n → (c.needle ≡ Err s) × (needle_number c.needle ≡ n)

-- 2. with 32 both are accepted, and each channel is what its own entry makes it: both densities are shown
abbrev pub StillShown : Entry → Entry → Comparison → Type 0
StillShown l r c = needle_number c.needle ≡ 32 → (Accepts l × Accepts r) × ((c.left ≡ channel_of l) × (c.right ≡ channel_of r))

-- ---- of c and c', the comparisons of l and r and of r and l
-- 3. swapping the two turns the sign of a value, and keeps 32
abbrev pub SwapTurns : Comparison → Comparison → Type 0
SwapTurns c c' = (z : ℤ) → c.needle ≡ Ok z → c'.needle ≡ Ok (neg_ℤ z)

abbrev pub SwapKeeps : Comparison → Comparison → Type 0
SwapKeeps c c' = needle_number c.needle ≡ 32 → (c'.needle ≡ Err Stop.SameProbe) × (needle_number c'.needle ≡ 32)
