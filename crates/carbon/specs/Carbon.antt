-- SPEC, "How much carbon dioxide it will hold": what is answered for what stands in a channel. The pressure is not read; 4 is for temperatures below
-- 0 °C too.
use Rattle.std.specs.Prelude.{ℕ, ℤ, pos, Result, Ok, Err}
use Rattle.whole.specs.Arith.{plus}
use Rattle.refusals.specs.declared.Refusal.{Refusal}
use Rattle.refusals.specs.Number.{refusal_of, answer_number}
use Rattle.readings.specs.declared.Report.{Report}
use Rattle.readings.specs.declared.Purpose.{Purpose}
use Rattle.readings.specs.Entry.{Entry}
use Rattle.readings.specs.Check.{Checked, checked_for}
use Rattle.carbon.specs.Weiss.{kelvin, ln_k0}

-- ln K0 in millionths, or a refusal
abbrev pub Solubility : Type 0
Solubility = Result ℤ Refusal

-- a deep report is taken as one at the surface: what its pressure is makes no difference
abbrev pub unpressed : Report → Report
unpressed (Report.Deep s t p) = Report.Surface s t
unpressed (Report.Surface s t) = Report.Surface s t
unpressed Report.Missing = Report.Missing

-- ln K0 at the grid's point, or the first check that fails
abbrev pub dissolved : Checked → Solubility
dissolved (Ok t) = Ok (ln_k0 (plus t.at.sigma) (kelvin t.at.tau))
dissolved (Err r) = Err r

-- a record's 6, 7 and 8 come before
unfoldable pub solubility_of : Entry → Solubility
solubility_of (Ok m) = dissolved (checked_for Purpose.Carbon (unpressed m.report))
solubility_of (Err u) = Err (refusal_of u)

-- the number of an answer, 0 for none, and its value, 0 if refused
abbrev pub solubility_number : Solubility → ℕ
solubility_number = answer_number

abbrev pub solubility_value : Solubility → ℤ
solubility_value (Ok z) = z
solubility_value (Err r) = pos 0
