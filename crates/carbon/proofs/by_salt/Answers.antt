-- `carbon::by_salt` meets its contract: the row's steps (proofs/Salt) stay within a word. Assumes nothing.
use mathlib.Core.Path.{◌≡◌, ap, ap₂, ◌∙◌}
use native.Mathlib.Omega.{arith}
use native.Mathlib.Nat.{mul-le-mul}
use lib.IntN.{ℤ, pos, ◌+ℤ◌}
use mir.Syntax.{w64}
use mir.Val.{SFits}
use mir.ValLaws.{to_z-of_z}
use Rattle.whole.specs.Arith.{neg, scaled}
use Rattle.whole.proofs.Words.{word, word_as, fits_as, fits_size, given}
use Rattle.carbon.proofs.Salt.{inner, row, inner_small, row_small, row_is}
use Rattle.carbon.proofs.by_salt.Goals.{After-scaled-inner, After-scaled-row, After-signed-n}
use Rattle.carbon.proofs.by_salt.Goals as goal

-- each number as the code has it
n_is : (c : After-signed-n) → word c.signed-n.result ≡ pos c.args.n.number
n_is c = given c.signed-n.type_inv c.signed-n.ensures

inner_sum : (c : After-scaled-inner) → neg 236_560_000_000 +ℤ word c.scaled-inner.result ≡ inner (pos c.args.n.number)
inner_sum c =
    ap (λ (z : ℤ). neg 236_560_000_000 +ℤ z) (given c.scaled-inner.type_inv c.scaled-inner.ensures ∙ ap (scaled (pos 47_036_000_000)) (n_is c.before))

inner_fits : (c : After-scaled-inner) → SFits w64 (inner (pos c.args.n.number))
inner_fits c = fits_size _ (omega (arith, inner_small (pos c.args.n.number) c.args.n.in_range.1))

row_sum : (c : After-scaled-row) → pos 235_170_000_000 +ℤ word c.scaled-row.result ≡ row (pos c.args.n.number)
row_sum c =
    ap (λ (z : ℤ). pos 235_170_000_000 +ℤ z)
    (given c.scaled-row.type_inv c.scaled-row.ensures ∙ ap₂ scaled (word_as (inner_sum c.before) (inner_fits c.before)) (n_is c.before.before))

row_fits : (c : After-scaled-row) → SFits w64 (row (pos c.args.n.number))
row_fits c = fits_size _ (omega (arith, row_small (pos c.args.n.number) c.args.n.in_range.1))

pub overflow_add-inner : goal.overflow_add-inner
overflow_add-inner c = fits_as (inner_sum c) (inner_fits c)

pub scaled-row-requires : goal.scaled-row-requires
scaled-row-requires c =
    let n = c.args.n in
    rw (word_as (inner_sum c) (inner_fits c), n_is c.before) (omega (arith, mul-le-mul (inner_small (pos n.number) n.in_range.1) n.in_range.1))

pub overflow_add-row : goal.overflow_add-row
overflow_add-row c = fits_as (row_sum c) (row_fits c)

pub scaled-requires : goal.scaled-requires
scaled-requires c =
    rw (word_as (row_sum c) (row_fits c), to_z-of_z w64 c.args.sigma c.ranges.sigma)
    (omega (arith, mul-le-mul (row_small (pos c.args.n.number) c.args.n.in_range.1) c.requires))

pub returns : goal.returns
returns c =
    let on = (goal.at.returns c).After-scaled-row in
    given c.scaled.type_inv c.scaled.ensures
    ∙ ap₂ scaled (word_as (row_sum on) (row_fits on) ∙ row_is (pos c.args.n.number)) (to_z-of_z w64 c.args.sigma c.ranges.sigma)
