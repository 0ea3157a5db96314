-- A reading as its probe sent it stands beside the reading on the grid: no further than half a step in each of v, u and q, which are salinity/100,
-- °C/100 and bar/1,000. What is shown was worked out on the grid; here it is held to the published formula at what was sent.
use Rattle.std.specs.Prelude.{ℕ, ◌+◌, ◌<◌, ℤ, pos}
use Rattle.whole.specs.Fraction.{Frac, over, ◌≤F◌, ◌⊕◌, ◌⊗◌}
use Rattle.sea.specs.Recipe.{shown_at}
use Rattle.promises.specs.Formula.{grid, density_at}
use Rattle.promises.specs.Promises.{OnGrid, Within}

-- b is a fraction at most half a step from a; a step is 1/100,000: 0.001 of salinity, 0.001 °C, 0.01 bar
pub record HalfStep (a b : Frac) : Type 0 where
  pub fraction : 0 < b.den
  pub upper : b ≤F a ⊕ over 1 200_000
  pub lower : a ≤F b ⊕ over 1 200_000

-- x stands in place of √v: it is a fraction from w/10⁷ to (w + 1)/10⁷, and √v lies there too, by the squares of both ends
pub record RootOf (v x : Frac) : Type 0 where
  pub w : ℕ
  pub below : over w 10_000_000 ⊗ over w 10_000_000 ≤F v
  pub above : v ≤F over (w + 1) 10_000_000 ⊗ over (w + 1) 10_000_000
  pub fraction : 0 < x.den
  pub low : over w 10_000_000 ≤F x
  pub high : x ≤F over (w + 1) 10_000_000

-- v, u and q beside the grid numbers σ, τ and π, with x in place of √v
pub record Beside (σ : ℕ) (τ : ℤ) (π : ℕ) (v x u q : Frac) : Type 0 where
  pub on_grid : OnGrid σ τ π
  pub salinity : HalfStep (grid (pos σ)) v
  pub temperature : HalfStep (grid τ) u
  pub pressure : HalfStep (grid (pos π)) q
  pub root : RootOf v x

-- what is shown at the grid numbers is within 0.0014 kg/m³ of the formula at what stands beside them
abbrev pub ShownBeside : Type 0
ShownBeside = (σ : ℕ) (τ : ℤ) (π : ℕ) (v x u q : Frac) → Beside σ τ π v x u q → Within (over 14 10_000) (pos (shown_at σ τ π)) (density_at v x u q)
