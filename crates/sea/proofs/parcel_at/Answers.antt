-- `sea::parcel_at` meets its contract: the root is the recipe's, and at most 64,807. Assumes nothing.
use mathlib.Core.Path.{◌≡◌, sym, ap, ◌∙◌, subst}
use Prim.Native.Nat.{ℕ, ◌*◌, ◌≤◌}
use native.Mathlib.Omega.{arith}
use lib.IntN.{ℤ, pos}
use Rattle.whole.specs.Arith.{plus, root_of}
use Rattle.whole.proofs.Roots.{root_is}
use Rattle.whole.proofs.Words.{word, given}
use Rattle.sea.specs.Recipe.{root_at, parcel_at}
use Rattle.sea.specs.Sizes.{Lies, Sizes}
use Rattle.sea.proofs.Sizes.{between, sizes, root_small}
use Rattle.sea.proofs.Grid.{natural, lies_natural, natural_word}
use Rattle.sea.proofs.parcel_at.Goals.{After-root-w, After-signed-number}
use Rattle.sea.proofs.parcel_at.Goals as goal

root_at_lem : (c : After-root-w) → c.root-w.result ≡ root_at (plus c.args.sigma.number)
unfolding root_at
root_at_lem c =
    let σ_is : c.unsigned.result ≡ plus c.args.sigma.number = c.unsigned.ensures ∙ ap plus (natural_word (omega arith) c.args.sigma.in_range) in
    c.root-w.ensures ∙ ap (λ (n : ℕ). root_of (n * 100_000)) σ_is

root_most : (c : After-root-w) → c.root-w.result ≤ 64_807
unfolding root_at
root_most c =
    let σ = plus c.args.sigma.number in
    let h = (natural c.args.sigma.in_range).most in
    rw (root_at_lem c) (root_small σ (root_at σ) h (root_is (σ * 100_000) (omega (arith, h))))

w_is : (c : After-signed-number) → word c.signed-number.result ≡ pos c.root-w.result
w_is c = given c.signed-number.type_inv c.signed-number.ensures

pub signed-number-requires : goal.signed-number-requires
signed-number-requires c = omega (arith, root_most c)

pub invariant_of-combined : goal.invariant_of-combined
invariant_of-combined c =
    let on = goal.at.invariant_of-combined c in
    record { in_range = subst (λ (z : ℤ). Lies (pos 0) (pos 64_807) z) (sym (w_is on.After-signed-number)) (lies_natural (root_most on.After-root-w)) }

pub combined-requires : goal.combined-requires
combined-requires c =
    let τ = c.args.tau in subst Sizes (sym c.rows_at-rows.ensures) (sizes τ.number (between 2_000 40_000 τ.number τ.in_range.low τ.in_range.high))

pub returns : goal.returns
unfolding parcel_at
returns c =
    let on = goal.at.returns c in
    c.combined.ensures ∙ rw (c.rows_at-rows.ensures, w_is on.After-signed-number, root_at_lem on.After-root-w)
