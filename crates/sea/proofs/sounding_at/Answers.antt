-- `sea::sounding_at` meets its contract: the first check that fails is the answer, and what passes all is sounded. Assumes nothing.
use mathlib.Core.Path.{◌≡◌, refl}
use mathlib.Core.Bool.{Bool, true}
use borrow.Author.Rules.{rules}
use lib.IntN.{ℤ, pos}
use Rattle.whole.specs.Arith.{neg, plus}
use Rattle.refusals.specs.declared.Refusal.TheVariants.{Salinity, Temperature, Pressure}
use Rattle.waters.specs.Numbers.{known}
use Rattle.sea.specs.Recipe.{shown_at, modulus_at}
use Rattle.sea.specs.Water.{range_of, unless, water_of, sounding, sounded, sounding_of}
use Rattle.sea.proofs.Grid.{range_is}
use Rattle.sea.proofs.sounding_at.Goals.{After-of-2, After-of-3, After-of-4}
use Rattle.sea.proofs.sounding_at.Goals as goal

-- the answer by what the four checks found
by_ranges :
    (σ τ π π' : ℤ) {a b c d : Bool} → range_of (pos 0) (pos 42_000) σ ≡ a → range_of (neg 2_000) (pos 40_000) τ ≡ b → range_of (pos 0) (pos 100_000) π ≡ c → range_of (pos 0) (pos 100_000) π' ≡ d →
    sounded (unless a Salinity (unless b Temperature (unless c Pressure (known (shown_at (plus σ) τ (plus π)) (modulus_at (plus σ) τ (plus π))))))
    (unless a Salinity (unless b Temperature (unless d Pressure (known (shown_at (plus σ) τ (plus π')) (modulus_at (plus σ) τ (plus π')))))) ≡
    sounding_of σ τ π π'
unfolding water_of sounding_of
by_ranges σ τ π π' p q r s = rw (← p, ← q, ← r, ← s)

σ_inside : (c : After-of-2) → range_of (pos 0) (pos 42_000) c.args.sigma ≡ true
σ_inside c = range_is (pos 0) (pos 42_000) c.ranges.sigma c.in-Some.ensures.known refl

τ_inside : (c : After-of-3) → range_of (neg 2_000) (pos 40_000) c.args.tau ≡ true
τ_inside c = range_is (neg 2_000) (pos 40_000) c.ranges.tau c.in-Some-of.ensures.known refl

π_inside : (c : After-of-4) → range_of (pos 0) (pos 100_000) c.args.pi ≡ true
π_inside c = range_is (pos 0) (pos 100_000) c.ranges.pi c.in-Some-of-2.ensures.known refl

pub returns-in_default : goal.returns-in_default
returns-in_default c =
    let a = c.args in by_ranges a.sigma a.tau a.pi a.deep (range_is (pos 0) (pos 42_000) c.ranges.sigma c.in_default.ensures.known refl) refl refl refl

pub returns-in_default-of : goal.returns-in_default-of
returns-in_default-of c =
    let a = c.args in
    let on = goal.at.returns-in_default-of c in
    by_ranges a.sigma a.tau a.pi a.deep (σ_inside on.After-of-2) (range_is (neg 2_000) (pos 40_000) c.ranges.tau c.in_default-of.ensures.known refl) refl refl

pub returns-in_default-of-2 : goal.returns-in_default-of-2
returns-in_default-of-2 c =
    let a = c.args in
    let on = goal.at.returns-in_default-of-2 c in
    by_ranges a.sigma a.tau a.pi a.deep (σ_inside on.After-of-2) (τ_inside on.After-of-3)
    (range_is (pos 0) (pos 100_000) c.ranges.pi c.in_default-of-2.ensures.known refl) refl

pub returns-in_default-of-3 : goal.returns-in_default-of-3
returns-in_default-of-3 c =
    let a = c.args in
    let on = goal.at.returns-in_default-of-3 c in
    by_ranges a.sigma a.tau a.pi a.deep (σ_inside on.After-of-2) (τ_inside on.After-of-3) (π_inside on.After-of-4)
    (range_is (pos 0) (pos 100_000) c.ranges.deep c.in_default-of-3.ensures.known refl)

pub returns : goal.returns
returns c =
    let a = c.args in
    let on = goal.at.returns c in
    let found : c.sounded.result ≡ sounding (shown_at (plus a.sigma) a.tau (plus a.pi)) (modulus_at (plus a.sigma) a.tau (plus a.pi)) (shown_at (plus a.sigma) a.tau (plus a.deep)) = search rules in
    rw found
    (by_ranges a.sigma a.tau a.pi a.deep (σ_inside on.After-of-2) (τ_inside on.After-of-3) (π_inside on.After-of-4)
    (range_is (pos 0) (pos 100_000) c.ranges.deep c.in-Some-of-3.ensures.known refl))
