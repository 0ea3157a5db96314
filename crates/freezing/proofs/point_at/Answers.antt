-- `freezing::point_at` meets its contract: four scaled products, each of small numbers. Assumes nothing.
use mathlib.Core.Path.{◌≡◌, ap, ap₂, ◌∙◌}
use Prim.Native.Nat.{◌≤◌}
use native.Mathlib.Omega.{arith}
use native.Mathlib.Nat.{mul-le-mul}
use lib.IntN.{ℤ, pos}
use mir.Syntax.{w64}
use mir.ValLaws.{to_z-of_z}
use Rattle.whole.specs.Arith.{plus, scaled, root_at}
use Rattle.whole.proofs.Words.{word, given, size_as}
use Rattle.whole.proofs.Naturals.{natural, natural_word}
use Rattle.whole.proofs.Roots.{root_at_most}
use Rattle.freezing.specs.Ice.{salt_ice, deep_ice, ice_at}
use Rattle.freezing.proofs.Sums.{rooted, inner, rooted_size, inner_size, salt_size}
use Rattle.freezing.proofs.point_at.Goals.{After-root_at-w, After-scaled-salt, After-step, After-step-rooted, Start}
use Rattle.freezing.proofs.point_at.Goals as goal

σ_is : (b : Start) → word b.args.sigma ≡ pos (plus b.args.sigma)
σ_is b = natural_word b.ranges.sigma b.requires.salinity

π_is : (b : Start) → word b.args.pi ≡ pos (plus b.args.pi)
π_is b = natural_word b.ranges.pi b.requires.pressure

σ_most : (b : Start) → plus b.args.sigma ≤ 42_000
σ_most b = (natural b.requires.salinity).most

w_most : (b : Start) → root_at (plus b.args.sigma) ≤ 64_807
w_most b = root_at_most (plus b.args.sigma) (σ_most b)

w_is : (c : After-root_at-w) → word c.root_at-w.result ≡ pos (root_at (plus c.args.sigma))
w_is c = let b = c.before in given c.root_at-w.type_inv (c.root_at-w.ensures ∙ ap (λ (z : ℤ). pos (root_at (plus z))) (to_z-of_z w64 b.args.sigma b.ranges.sigma))

pub step-rooted-requires-clause-x_small : goal.step-rooted-requires-clause-x_small
step-rooted-requires-clause-x_small c = size_as (w_is c) (omega (arith, w_most c.before))

rooted_is : (c : After-step-rooted) → word c.step-rooted.result ≡ rooted (root_at (plus c.args.sigma))
rooted_is c = given c.step-rooted.type_inv (c.step-rooted.ensures ∙ rw (w_is c.before))

pub step-requires-clause-c_small : goal.step-requires-clause-c_small
step-requires-clause-c_small c = let w = root_at (plus c.args.sigma) in size_as (rooted_is c) (omega (arith, rooted_size w (w_most c.before.before)))

inner_is : (c : After-step) → let σ = plus c.args.sigma in word c.step.result ≡ inner σ (root_at σ)
inner_is c = given c.step.type_inv (c.step.ensures ∙ rw (rooted_is c.before, σ_is c.before.before.before))

pub scaled-salt-requires : goal.scaled-salt-requires
scaled-salt-requires c =
    let b = c.before.before.before in
    let σ = plus b.args.sigma in
    rw (inner_is c, σ_is b) (omega (arith, mul-le-mul (inner_size σ (root_at σ) (σ_most b) (w_most b)) (σ_most b)))

salt_is : (c : After-scaled-salt) → let σ = plus c.args.sigma in word c.scaled-salt.result ≡ salt_ice σ (root_at σ)
unfolding salt_ice
salt_is c = given c.scaled-salt.type_inv (c.scaled-salt.ensures ∙ ap₂ scaled (inner_is c.before) (σ_is c.before.before.before.before))

pub step-requires-2-clause-c_small : goal.step-requires-2-clause-c_small
step-requires-2-clause-c_small c =
    let b = c.before.before.before.before in
    let σ = plus b.args.sigma in
    size_as (salt_is c) (omega (arith, salt_size σ (root_at σ) (σ_most b) (w_most b)))

pub returns : goal.returns
unfolding ice_at deep_ice
returns c = given c.step-2.type_inv (c.step-2.ensures ∙ rw (salt_is c.before, π_is c.before.before.before.before.before))
