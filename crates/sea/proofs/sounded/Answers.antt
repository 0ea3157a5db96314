-- `sea::sounded` meets its contract: one parcel, under its own pressure and under the other where that is another. Assumes nothing.
use mathlib.Core.Path.{◌≡◌, refl, ◌∙◌}
use borrow.Author.Rules.{rules}
use Prim.Native.Nat.{ℕ, ◌≤◌}
use native.Mathlib.Omega.{arith}
use lib.IntN.{ℤ}
use Rattle.whole.specs.Arith.{plus}
use Rattle.sea.specs.declared.range.Within.{Within}
use Rattle.sea.specs.Recipe.{bulk, bulk_of, shown_of, shown_at, modulus_at, parcel_of, parcel_at, pressed_of}
use Rattle.sea.specs.Sizes.{Stiff, Ranges}
use Rattle.sea.proofs.Grid.{natural, wider, parcel_stiff, parcel_ranges}
use Rattle.sea.proofs.sounded.Goals.{After-parcel_at-parcel, After-pressed-water}
use Rattle.sea.proofs.sounded.Goals as goal

-- what `pressed` asks for, of the parcel at any pressure of the grid
stiff : (c : After-parcel_at-parcel) {n : ℕ} (π : Within 0 n) → n ≤ 100_000 → Stiff c.parcel_at-parcel.result π.number
stiff c π h =
    let a = c.args in
    rw c.parcel_at-parcel.ensures (parcel_stiff (plus a.sigma.number) a.tau.number π.number (natural a.sigma.in_range).most a.tau.in_range (wider h (natural π.in_range)))

ranges : (c : After-parcel_at-parcel) {n : ℕ} (π : Within 0 n) → n ≤ 100_000 →
    let x = c.parcel_at-parcel.result in Ranges x.d (bulk x.k0 x.a x.b (plus π.number)) (plus π.number)
ranges c π h =
    let a = c.args in
    rw c.parcel_at-parcel.ensures (parcel_ranges (plus a.sigma.number) a.tau.number π.number (natural a.sigma.in_range).most a.tau.in_range (wider h (natural π.in_range)))

-- and what it gives: the recipe's density and bulk modulus there
density_of : (σ : ℕ) (τ : ℤ) (π : ℕ) → (pressed_of (parcel_at σ τ) π).density ≡ shown_at σ τ π
unfolding parcel_at parcel_of shown_at shown_of bulk_of pressed_of
density_of σ τ π = refl

bulk_of_lem : (σ : ℕ) (τ : ℤ) (π : ℕ) → (pressed_of (parcel_at σ τ) π).bulk ≡ modulus_at σ τ π
unfolding parcel_at parcel_of modulus_at bulk_of pressed_of
bulk_of_lem σ τ π = refl

own_is : (c : After-pressed-water) → c.pressed-water.result ≡ pressed_of (parcel_at (plus c.args.sigma.number) c.args.tau.number) (plus c.args.pi.number)
own_is c = c.pressed-water.ensures ∙ rw c.parcel_at-parcel.ensures

pub pressed-water-requires-clause-stiff : goal.pressed-water-requires-clause-stiff
pressed-water-requires-clause-stiff c = stiff c c.args.pi (omega arith)

pub pressed-water-requires-clause-ranges : goal.pressed-water-requires-clause-ranges
pressed-water-requires-clause-ranges c = ranges c c.args.pi (omega arith)

-- at its own pressure the density is the same
pub returns-then-deep-pi : goal.returns-then-deep-pi
returns-then-deep-pi c =
    let σ = plus c.args.sigma.number in
    let τ = c.args.tau.number in
    let π = c.args.pi.number in
    let same : c.args.deep.number ≡ π = search rules in
    rw (own_is (goal.at.returns-then-deep-pi c).After-pressed-water, density_of σ τ (plus π), bulk_of_lem σ τ (plus π), same)

pub pressed-other-requires-clause-stiff : goal.pressed-other-requires-clause-stiff
pressed-other-requires-clause-stiff c = stiff (goal.at.pressed-other-requires-clause-stiff c).After-parcel_at-parcel c.args.deep (omega arith)

pub pressed-other-requires-clause-ranges : goal.pressed-other-requires-clause-ranges
pressed-other-requires-clause-ranges c = ranges (goal.at.pressed-other-requires-clause-ranges c).After-parcel_at-parcel c.args.deep (omega arith)

pub returns : goal.returns
returns c =
    let σ = plus c.args.sigma.number in
    let τ = c.args.tau.number in
    let π = plus c.args.pi.number in
    let π' = plus c.args.deep.number in
    let other : c.pressed-other.result ≡ pressed_of (parcel_at σ τ) π' = c.pressed-other.ensures ∙ rw c.parcel_at-parcel.ensures in
    rw (own_is (goal.at.returns c).After-pressed-water, other, density_of σ τ π, bulk_of_lem σ τ π, density_of σ τ π')
