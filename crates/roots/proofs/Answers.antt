-- What is answered: on the grid the root that the recipe uses and the paper's line, whose root is that one after 16 trials, for every salinity; a refusal
-- exactly off the grid. Assumes nothing.
use Prim.Native.Nat.{ℕ, ◌*◌, ◌≤◌}
use mathlib.Core.Path.{◌≡◌, refl, ◌∙◌}
use mathlib.Core.Bool.{Bool, true, false, cond}
use native.Mathlib.Omega.{arith}
use lib.IntN.{ℤ, pos}
use Rattle.std.specs.Prelude.{Err}
use Rattle.whole.specs.Arith.{plus}
use Rattle.whole.specs.Paper.{after, rooted}
use Rattle.whole.proofs.Lines.{rooted_is, ended_rooted, ends, pairs_within}
use Rattle.refusals.specs.declared.Refusal.{Refusal}
use Rattle.refusals.specs.declared.Refusal.TheVariants.{Salinity}
use Rattle.sea.specs.Recipe.{root_at}
use Rattle.sea.specs.Sizes.{Lies}
use Rattle.sea.specs.Water.{range_of}
use Rattle.sea.proofs.Answers.{lies_inside, not_outside}
use Rattle.roots.specs.Search.{found, search_of}

-- the root on paper is the same number for every salinity
pub same_root : (σ : ℕ) → σ ≤ 42_000 → rooted (σ * 100_000) ≡ root_at σ
unfolding root_at
same_root σ h = rooted_is (σ * 100_000) (omega arith)

-- 16 trials are enough for every salinity
pub sixteen : (σ : ℕ) → σ ≤ 42_000 → (j : ℕ) → 16 ≤ j → ((after j (σ * 100_000)).bit ≡ 0) × ((after j (σ * 100_000)).root ≡ root_at σ)
sixteen σ h j l =
    let n = σ * 100_000 in
    let e = ends n (omega arith) j (omega (arith, pairs_within n 16 (omega arith) (omega arith))) in
    (e, ended_rooted n j (omega arith) e ∙ same_root σ h)

pub known_on_grid : (σ : ℤ) (j : ℕ) → Lies (pos 0) (pos 42_000) σ → search_of σ j ≡ found (root_at (plus σ)) (after j (plus σ * 100_000))
unfolding search_of
known_on_grid σ j l = rw (lies_inside (pos 0) (pos 42_000) σ l)

outside_not : (lo hi z : ℤ) → range_of lo hi z ≡ false → ¬ (Lies lo hi z)
outside_not lo hi z e l = let f = lies_inside lo hi z l in cc

pub refused_only : (σ : ℤ) (j : ℕ) (r : Refusal) → search_of σ j ≡ Err r → (r ≡ Salinity) × ¬ (Lies (pos 0) (pos 42_000) σ)
unfolding search_of
refused_only σ j r e = go (range_of (pos 0) (pos 42_000) σ) refl e
  where
    go : (a : Bool) → range_of (pos 0) (pos 42_000) σ ≡ a → cond a (found (root_at (plus σ)) (after j (plus σ * 100_000))) (Err Salinity) ≡ Err r → (r ≡ Salinity) × ¬ (Lies (pos 0) (pos 42_000) σ)
    go true i e = cc
    go false i e = (cc, outside_not (pos 0) (pos 42_000) σ i)

pub reason_refuses : (σ : ℤ) (j : ℕ) → ¬ (Lies (pos 0) (pos 42_000) σ) → search_of σ j ≡ Err Salinity
unfolding search_of
reason_refuses σ j n = rw (not_outside (pos 0) (pos 42_000) σ n)
