-- `digits` meets its contract: by the two tests, on the exponent's field and on the sign. Assumes nothing.
use borrow.Author.Tests.{eq-eqb, ne_eqb, le-leb, lt-leb}
use mathlib.Core.Path.{◌≡◌, ap, ◌∙◌}
use mathlib.Core.Bool.{cond}
use Prim.Native.Nat.{◌+◌, ◌%◌, ◌<◌, ◌^◌}
use native.Mathlib.Omega.{arith}
use lib.IntN.{pos, neg_ℤ, ◌-ℤ◌, +ℤ_idl}
use lib.Dec.{eqb}
use mir.Syntax.{w64}
use mir.ValLaws.{to_z-of_z}
use Rattle.whole.proofs.Words.{given}
use Rattle.floats.specs.Pattern.{digits_of}
use Rattle.floats.proofs.Floors.{neg_fits}
use Rattle.floats.proofs.grid.digits.Goals.{Joined-e-eq0, then-e-eq0, else-e-eq0}
use Rattle.floats.proofs.grid.digits.Goals as goal

m_is : (j : Joined-e-eq0) → j.if-e-eq0.m ≡ cond (eqb j.args.e 0) (j.args.n % 0x80_0000) (0x80_0000 + j.args.n % 0x80_0000)
m_is j = elim j.if-e-eq0.branch [ then-e-eq0 w ↦ rw (eq-eqb j.args.e 0 w.if-e-eq0.true) w.m-is | else-e-eq0 w ↦ rw (ne_eqb j.args.e 0 w.if-e-eq0.false) w.m-is ]

few : (j : Joined-e-eq0) → j.if-e-eq0.m < 2 ^ 63
few j = elim j.if-e-eq0.branch [ then-e-eq0 w ↦ omega arith | else-e-eq0 w ↦ omega arith ]

pub returns-then-n-lt2147483648 : goal.returns-then-n-lt2147483648
unfolding digits_of
returns-then-n-lt2147483648 c =
    let j = (goal.at.returns-then-n-lt2147483648 c).Joined-e-eq0 in
    rw (lt-leb 0x8000_0000 c.args.n c.if-n-lt2147483648.true) (given c.from.type_inv (c.from.ensures ∙ ap pos (m_is j)))

pub returns-else-n-lt2147483648 : goal.returns-else-n-lt2147483648
unfolding digits_of
returns-else-n-lt2147483648 c =
    let j = (goal.at.returns-else-n-lt2147483648 c).Joined-e-eq0 in
    let m = c.if-e-eq0.m in
    rw (
      le-leb 0x8000_0000 c.args.n c.if-n-lt2147483648.false,
      given c.from-else-n-lt2147483648.type_inv c.from-else-n-lt2147483648.ensures,
      to_z-of_z w64 (pos 0 -ℤ pos m) (neg_fits (pos m) (few j)),
      +ℤ_idl (neg_ℤ (pos m)),
      m_is j,
    )
