-- Where the recipe's numbers lie for every reading on the grid, in 10⁻⁹ and rounded outwards: for the contracts of private
-- functions, and for the laws.
use Rattle.std.specs.Prelude.{ℕ, ◌+◌, ◌*◌, ◌/◌, ◌≤◌, ◌<◌, ◌≡◌, ℤ, pos, nat_abs, ◌+ℤ◌, ◌≤ℤ◌}
use Rattle.whole.specs.Arith.{neg, plus, minus, scaled}
use Rattle.whole.specs.Order.{Box, In}
use Rattle.sea.specs.declared.Rows.{Rows}
use Rattle.sea.specs.declared.Parcel.{Parcel}
use Rattle.sea.specs.Recipe.{mass, net, gain, shown, hundredths}

-- z is from lo to hi
pub record Lies (lo hi z : ℤ) : Type 0 where
  pub low : lo ≤ℤ z
  pub high : z ≤ℤ hi

-- the grid table: σ 0 to 42,000, τ -2,000 to 40,000, π 0 to 100,000
pub record OnTable (σ τ π : ℤ) : Type 0 where
  pub salinity : Lies (pos 0) (pos 42_000) σ
  pub temperature : Lies (neg 2_000) (pos 40_000) τ
  pub pressure : Lies (pos 0) (pos 100_000) π

-- small enough that a product by a grid number fits 64 bits
abbrev pub Small : ℤ → Type 0
Small z = nat_abs z ≤ 46_000_000_000_000

-- a number that the scaled product is taken by
abbrev pub Step : ℤ → Type 0
Step x = nat_abs x ≤ 100_000

-- every step of x + scaled(σ; y + scaled(w; z)) is small
pub record Salty (x y z σ w : ℤ) : Type 0 where
  pub base : Small x
  pub salt : Small y
  pub root : Small z
  pub inner : Small (y +ℤ scaled z w)
  pub by_σ : Step σ
  pub by_w : Step w

-- every step of K at the pressure π is small
pub record Stiff (x : Parcel) (π : ℤ) : Type 0 where
  pub k0 : Small x.k0
  pub a : Small x.a
  pub b : Small x.b
  pub inner : Small (x.a +ℤ scaled x.b π)
  pub by_π : Step π
  pub whole : π ≡ pos (plus π)

-- what the density is made of: nothing is cut off, and all is small
pub record Ranges (d k : ℤ) (π : ℕ) : Type 0 where
  pub d_whole : minus d ≡ 0
  pub k_whole : minus k ≡ 0
  pub mass_low : 987_000_000 ≤ mass d
  pub mass_high : mass d ≤ 1_040_000_000
  pub net_is : net k π + 1_000 * π ≡ plus k / 10_000
  pub net_low : 1_934_000_000 ≤ net k π
  pub net_high : net k π ≤ 3_150_000_000
  pub gain_high : gain (mass d) π (net k π) ≤ 54_000_000
  pub shown_low : 900_000 < shown d k π
  pub shown_high : shown d k π ≤ 1_100_000
  pub hundredths_low : π < hundredths k
  pub hundredths_high : hundredths k ≤ 4_000_000

-- ---- the rows at every temperature of the grid

-- the numbers from a to b
abbrev pub from_to : ℤ → ℤ → Box
from_to a b = record { lo = a; hi = b }

unfoldable pub box_dw : Box
box_dw = from_to (pos 987_600_000_000) (pos 1_003_400_000_000)

unfoldable pub box_ds : Box
box_ds = from_to (pos 65_400_000_000) (pos 83_300_000_000)

unfoldable pub box_dr : Box
box_dr = from_to (neg 5_950_000_000) (neg 1_490_000_000)

unfoldable pub box_dss : Box
box_dss = from_to (pos 4_831_000_000) (pos 4_832_000_000)

unfoldable pub box_kw : Box
box_kw = from_to (pos 19_345_900_000_000) (pos 25_777_400_000_000)

unfoldable pub box_ks : Box
box_ks = from_to (pos 2_964_600_000_000) (pos 5_592_700_000_000)

unfoldable pub box_kr : Box
box_kr = from_to (neg 109_400_000_000) (pos 781_200_000_000)

unfoldable pub box_aw : Box
box_aw = from_to (pos 3_227_600_000_000) (pos 3_485_000_000_000)

unfoldable pub box_as : Box
box_as = from_to (neg 72_800_000_000) (pos 243_500_000_000)

unfoldable pub box_ar : Box
box_ar = from_to (pos 191_070_000_000) (pos 191_080_000_000)

unfoldable pub box_bw : Box
box_bw = from_to (neg 164_100_000_000) (pos 97_600_000_000)

unfoldable pub box_bs : Box
box_bs = from_to (neg 110_900_000_000) (pos 130_700_000_000)

-- the twelve values, each in its box, whoever works them out
pub record Sizes (r : Rows) : Type 0 where
  pub Dw : In box_dw r.Dw
  pub Ds : In box_ds r.Ds
  pub Dr : In box_dr r.Dr
  pub Dss : In box_dss r.Dss
  pub Kw : In box_kw r.Kw
  pub Ks : In box_ks r.Ks
  pub Kr : In box_kr r.Kr
  pub Aw : In box_aw r.Aw
  pub As : In box_as r.As
  pub Ar : In box_ar r.Ar
  pub Bw : In box_bw r.Bw
  pub Bs : In box_bs r.Bs
