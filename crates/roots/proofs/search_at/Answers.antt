-- `roots::search_at` meets its contract: what passes the check is on the grid, so that σ·100,000 has its root. Assumes nothing.
use mathlib.Core.Path.{◌≡◌, refl, ap, ap₂, ◌∙◌}
use Prim.Native.Nat.{ℕ, ◌*◌}
use native.Mathlib.Omega.{arith}
use lib.IntN.{pos}
use mir.Syntax.{w64}
use mir.ValLaws.{to_z-of_z}
use Rattle.whole.specs.Arith.{plus, root_of}
use Rattle.whole.specs.Paper.{after}
use Rattle.sea.specs.Recipe.{root_at}
use Rattle.sea.proofs.Grid.{Natural, natural, inside_lies, range_is}
use Rattle.roots.specs.Search.{found, search_of}
use Rattle.roots.proofs.search_at.Goals.{After-unsigned-n, In-true}
use Rattle.roots.proofs.search_at.Goals as goal

pub returns-in_default : goal.returns-in_default
unfolding search_of
returns-in_default c = rw (range_is (pos 0) (pos 42_000) c.ranges.sigma c.in_default.ensures refl) refl

σ_natural : (c : In-true) → Natural 42_000 c.args.sigma
σ_natural c = natural (inside_lies (pos 0) (pos 42_000) _ (range_is (pos 0) (pos 42_000) c.ranges.sigma c.in-true.ensures refl))

pub unsigned-n-requires : goal.unsigned-n-requires
unsigned-n-requires c = rw (to_z-of_z w64 c.args.sigma c.ranges.sigma) (σ_natural c).whole

σ_is : (c : After-unsigned-n) → c.unsigned-n.result ≡ plus c.args.sigma
σ_is c = c.unsigned-n.ensures ∙ ap plus (to_z-of_z w64 c.args.sigma c.ranges.sigma)

pub overflow_mul-n : goal.overflow_mul-n
overflow_mul-n c = record { fits = omega (arith, σ_is c, (σ_natural (goal.at.overflow_mul-n c).In-true).most) }

pub root-root-requires : goal.root-root-requires
root-root-requires c = omega (arith, σ_is c, (σ_natural (goal.at.root-root-requires c).In-true).most)

pub trial_after-line-requires : goal.trial_after-line-requires
trial_after-line-requires c = omega (arith, σ_is (goal.at.trial_after-line-requires c).After-unsigned-n, (σ_natural (goal.at.trial_after-line-requires c).In-true).most)

pub returns : goal.returns
unfolding root_at search_of
returns c =
    let is = σ_is (goal.at.returns c).After-unsigned-n in
    let root : c.root-root.result ≡ root_at (plus c.args.sigma) = c.root-root.ensures ∙ ap (λ (s : ℕ). root_of (s * 100_000)) is in
    let line : c.trial_after-line.result ≡ after c.args.trials (plus c.args.sigma * 100_000) = c.trial_after-line.ensures ∙ ap (λ (s : ℕ). after c.args.trials (s * 100_000)) is in
    rw (range_is (pos 0) (pos 42_000) c.ranges.sigma c.in-true.ensures refl) (ap₂ found root line)
