-- The shown density against the formula's: in 10⁻⁶ the density before rounding is at most 42 below it and 40 above, for D and
-- K as near as proofs/Error has them; rounding to 0.001 adds 500. Assumes nothing.
use Prim.Native.Nat.{ℕ, ◌+◌, ◌*◌, ◌/◌, ◌≤◌, ◌<◌}
use mathlib.Core.Path.{◌≡◌, sym, ap, subst₂}
use native.Mathlib.Omega.{arith}
use native.Mathlib.Nat.{mul-le-mul_right, mul-le-mul_left, mul-pos}
use lib.IntN.{ℤ, pos, ◌-ℤ◌}
use Rattle.whole.specs.Arith.{plus}
use Rattle.whole.specs.Fraction.{Frac, over, units, ◌⊖◌, ◌⊗◌, ◌⊘◌}
use Rattle.whole.proofs.Ints.{no_minus, pos_plus, sub_is}
use Rattle.whole.proofs.Near.{Near, NearN, near_nat}
use Rattle.sea.specs.declared.Rows.{Rows}
use Rattle.sea.specs.Recipe.{surface, bulk_of, mass, net, gain, density, shown, shown_of}
use Rattle.sea.specs.Sizes.{Sizes, Ranges}
use Rattle.sea.proofs.Sizes.{ranges, gain_mul, gain_top}
use Rattle.promises.specs.Formula.{grid, surface_f, bulk_f, pressure_f, compressed_f, density_at, density_f}
use Rattle.promises.proofs.Error.{Nears, near_d, near_k}

-- ---- the numbers alone: what the recipe has, m, N, π and the gain t
record Recipe (m t N π : ℕ) : Type 0 where
  low : t * N ≤ m * (1_000 * π)
  high : m * (1_000 * π) ≤ t * N + N
  t_small : t ≤ 54_000_000
  n_large : 1_934_000_000 ≤ N
  π_small : π ≤ 100_000

-- and how near the formula is to it: D is f/g, K is h/L, and K − P is Y/(100,000·L)
record Exact (m N π f g h L Y : ℕ) : Type 0 where
  f_low : 1_000 * m * g ≤ 1_000_000_000 * f + 25_300 * g
  f_high : 1_000_000_000 * f ≤ 1_000 * m * g + 26_300 * g
  y_is : 100_000 * h ≡ Y + 1_000 * π * L
  y_low : N * L ≤ Y + 410 * L
  y_high : Y ≤ N * L + 411 * L

module _ (m t N π f g h L Y : ℕ) (w : Recipe m t N π) (e : Exact m N π f g h L Y) where
  -- D is at most m + 26.3, and what the pressure adds to that at most t + 15.7
  gain_above : (10 * m + 263) * (1_000 * π * L) ≤ (10 * t + 157) * Y
  gain_above =
      let whole : (10 * m + 263) * (1_000 * π) + (10 * t + 157) * 410 ≤ (10 * t + 157) * N = omega (arith, w.high, w.t_small, w.n_large, w.π_small) in
      omega (arith, mul-le-mul_right L whole, mul-le-mul_left (10 * t + 157) e.y_low)

  formula_high : 1_000_000 * f * (100_000 * h) ≤ (m + t + 42) * (g * Y)
  formula_high =
      let sum : (10 * m + 263) * (Y + 1_000 * π * L) ≤ (10 * m + 10 * t + 420) * Y = omega (arith, gain_above) in
      let D : 10_000_000 * f ≤ (10 * m + 263) * g = omega (arith, e.f_high) in
      rw e.y_is (omega (arith, mul-le-mul_right (Y + 1_000 * π * L) D, mul-le-mul_left g sum))

  -- D is at least m − 25.3, and what the pressure adds to that at least t − 14.7
  gain_below : 10 * t * Y + 253 * (1_000 * π * L) ≤ 10 * m * (1_000 * π * L) + 147 * Y
  gain_below =
      omega (arith, mul-le-mul_left t e.y_high, mul-le-mul_right L w.low, mul-le-mul_right L w.t_small, mul-le-mul_right L w.π_small, mul-le-mul_right L w.n_large, e.y_low)

  formula_low : (m + t) * (g * Y) ≤ 1_000_000 * f * (100_000 * h) + 40 * (g * Y)
  formula_low =
      let D : 10 * m * g ≤ 10_000_000 * f + 253 * g = omega (arith, e.f_low) in
      rw e.y_is (omega (arith, mul-le-mul_left g gain_below, mul-le-mul_right (Y + 1_000 * π * L) D))

-- ---- so for any D and K near to the recipe's
-- the upper number of K − P, for K = h/L
net_f : ℕ → ℕ → ℕ → ℕ
net_f h L π = plus (over h L ⊖ pressure_f (grid (pos π))).num

module _ (m t N π f g h L : ℕ) (w : Recipe m t N π) (e : Exact m N π f g h L (net_f h L π)) (g-above : 0 < g) (L-above : 0 < L) where
  near_compressed : Near 1_000_000 (compressed_f (over f g) (over h L) (pressure_f (grid (pos π)))) (pos (m + t)) 40 42
  unfolding compressed_f pressure_f units net_f ◌⊖◌ ◌⊗◌ ◌⊘◌
  near_compressed =
      let Y = net_f h L π in
      record {
        above = mul-pos (mul-pos g-above L-above) (omega (arith, e.y_low, mul-le-mul_right L w.n_large));
        low = omega (arith, mul-le-mul_right L (formula_low m t N π f g h L Y w e));
        high = omega (arith, mul-le-mul_right L (formula_high m t N π f g h L Y w e));
      }

-- m is D in 10⁻⁶, rounded down
module _ (d : ℕ) (D : Frac) (n : NearN 1_000_000_000 D d 25_212 25_225) where
  d_low : 1_000 * (d / 1_000) * D.den ≤ 1_000_000_000 * plus D.num + 25_300 * D.den
  d_low = let cut : 1_000 * (d / 1_000) ≤ d = omega arith in omega (arith, n.low, mul-le-mul_right D.den cut)

  d_high : 1_000_000_000 * plus D.num ≤ 1_000 * (d / 1_000) * D.den + 26_300 * D.den
  d_high = let cut : d ≤ 1_000 * (d / 1_000) + 999 = omega arith in omega (arith, n.high, mul-le-mul_right D.den cut)

-- N is K − P in 10⁻⁵ bar, rounded down
module _ (k π N : ℕ) (is : N + 1_000 * π ≡ k / 10_000) (large : 1_934_000_000 ≤ N) (K : Frac) (n : NearN 1_000_000_000 K k 4_095_041 4_095_065) where
  y_is : 100_000 * plus K.num ≡ net_f (plus K.num) K.den π + 1_000 * π * K.den
  unfolding net_f pressure_f units ◌⊖◌ ◌⊗◌
  y_is =
      let h = plus K.num in
      let big : 19_340_000_000_000 + 10_000_000 * π ≤ k = omega arith in
      let more : 1_000 * π * K.den < h * 100_000 = omega (arith, n.low, n.above, mul-le-mul_right K.den big) in
      let x = pos (h * (1 * 100_000)) in
      let y = pos (1_000 * π * K.den) in
      omega (arith, sub_is x y, no_minus (x -ℤ y) (omega (arith, sub_is x y)))

  y_low : N * K.den ≤ net_f (plus K.num) K.den π + 410 * K.den
  y_low = let cut : 10_000 * N + 10_000_000 * π ≤ k = omega arith in omega (arith, n.low, y_is, mul-le-mul_right K.den cut)

  y_high : net_f (plus K.num) K.den π ≤ N * K.den + 411 * K.den
  y_high = let cut : k ≤ 10_000 * N + 10_000_000 * π + 9_999 = omega arith in omega (arith, n.high, y_is, mul-le-mul_right K.den cut)

as_over : (F : Frac) → 0 < plus F.num → F ≡ over (plus F.num) F.den
as_over F h = ap (λ z. record { num = z; den = F.den }) (pos_plus F.num (no_minus F.num h))

-- the density before rounding, in 10⁻⁶
pub near_density : (d k : ℤ) (π : ℕ) (D K : Frac) → π ≤ 100_000 → Ranges d k π →
    Near 1_000_000_000 D d 25_212 25_225 → Near 1_000_000_000 K k 4_095_041 4_095_065 →
    Near 1_000_000 (compressed_f D K (pressure_f (grid (pos π)))) (pos (density d k π)) 40 42
unfolding density mass
near_density d k π D K hπ g n l =
    subst₂ (λ A B. Near 1_000_000 (compressed_f A B (pressure_f (grid (pos π)))) (pos (m + t)) 40 42) (sym (as_over D dn.positive)) (sym (as_over K kn.positive))
    (near_compressed m t N π _ _ _ _ w e dn.above kn.above)
  where
    m : ℕ
    m = mass d

    N : ℕ
    N = net k π

    t : ℕ
    t = gain m π N

    dn : NearN 1_000_000_000 D (plus d) 25_212 25_225
    dn = near_nat (omega (arith, g.mass_low)) n

    kn : NearN 1_000_000_000 K (plus k) 4_095_041 4_095_065
    kn = near_nat (omega (arith, g.net_is, g.net_low)) l

    w : Recipe m t N π
    w = record { low = gain_mul m π N; high = gain_top m π N (omega (arith, g.net_low)); t_small = g.gain_high; n_large = g.net_low; π_small = hπ }

    e : Exact m N π (plus D.num) D.den (plus K.num) K.den (net_f (plus K.num) K.den π)
    e =
        record {
          f_low = d_low (plus d) D dn;
          f_high = d_high (plus d) D dn;
          y_is = y_is (plus k) π N g.net_is g.net_low K kn;
          y_low = y_low (plus k) π N g.net_is g.net_low K kn;
          y_high = y_high (plus k) π N g.net_is g.net_low K kn;
        }

-- the shown density, said in 10⁻⁴
pub near_shown : {f : Frac} {a b : ℕ} (d k : ℤ) (π e : ℕ) → Near 1_000_000 f (pos (density d k π)) a b → a + 500 ≤ 100 * e → b + 499 ≤ 100 * e → Near 10_000 f (pos (10 * shown d k π)) e e
unfolding shown
near_shown {f} {a} {b} d k π e n ha hb =
    let low : 1_000 * shown d k π ≤ density d k π + 500 = omega arith in
    let high : density d k π ≤ 1_000 * shown d k π + 499 = omega arith in
    let i = f.den in
    record {
      above = n.above;
      low = omega (arith, n.low, mul-le-mul_right i low, mul-le-mul_right i ha);
      high = omega (arith, n.high, mul-le-mul_right i high, mul-le-mul_right i hb);
    }

-- ---- over any row values in their boxes and near the exact rows, and any fraction near the root
module _ (r : Rows) (z : Sizes r) (τ : ℤ) (e : Nears r τ) (σ w π : ℕ) (hσ : σ ≤ 42_000) (hw : w ≤ 64_807) (hπ : π ≤ 100_000)
    (x : Frac) (v : Near 100_000 x (pos w) 0 1) where
  pub density_near : Near 1_000_000 (density_f σ x τ π) (pos (density (surface r σ w) (bulk_of r σ w π) π)) 40 42
  unfolding density_f density_at
  density_near =
      near_density (surface r σ w) (bulk_of r σ w π) π (surface_f (grid (pos σ)) x (grid τ)) (bulk_f (grid (pos σ)) x (grid τ) (grid (pos π))) hπ
      (ranges r z σ w hσ hw π hπ) (near_d τ σ w hσ hw x v r z e) (near_k τ σ w hσ hw x v r z e π hπ)

  pub shown_near : Near 10_000 (density_f σ x τ π) (pos (10 * shown_of r σ w π)) 6 6
  unfolding shown_of
  shown_near = near_shown (surface r σ w) (bulk_of r σ w π) π 6 density_near (omega arith) (omega arith)
