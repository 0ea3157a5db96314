-- How far a whole number can rise, and when a density does not fall: one law for a step of salinity and a step of pressure, and
-- one that makes a step into any number of steps. Assumes nothing.
use Prim.Native.Nat.{ℕ, zero, suc, ◌+◌, ◌*◌, ◌-◌, ◌≤◌, ◌<◌}
use native.Mathlib.Omega.{arith}
use mathlib.Core.Path.{◌≡◌, ap, subst}
use native.Mathlib.Nat.{mul-le-mul_right, mul-le-mul_left, le_refl, le_trans, add-zero, add-suc}
use native.Mathlib.Decide.{dec_le}
use lib.IntN.{ℤ, pos, ◌+ℤ◌}
use Rattle.whole.specs.Arith.{neg, plus, minus, scaled}
use Rattle.whole.proofs.Ints.{neg_plus, neg_minus, add_is, scaled_n}
use Rattle.sea.specs.Recipe.{mass, net, gain, density, shown}
use Rattle.sea.specs.Sizes.{Ranges}
use Rattle.sea.proofs.Sizes.{gain_mul, gain_least}

-- from a to b is at most z
pub record Rise (a b z : ℤ) : Type 0 where
  pub most : plus b + minus a + minus z ≤ plus a + minus b + plus z

pub rise_none : (a : ℤ) → Rise a a (pos 0)
rise_none a = record { most = omega arith }

pub rise_under : {c d y : ℤ} (a : ℤ) → Rise c d y → Rise (a +ℤ c) (a +ℤ d) y
rise_under {c} {d} a h = record { most = omega (arith, (add_is a c).is, (add_is a d).is, h.most) }

pub rise_add : {a b c d z y : ℤ} → Rise a b z → Rise c d y → Rise (a +ℤ c) (b +ℤ d) (z +ℤ y)
rise_add {a} {b} {c} {d} {z} {y} h k = record { most = omega (arith, (add_is a c).is, (add_is b d).is, (add_is z y).is) }

-- the scaled product of a by x, and that of b by y: the floors take nothing from a whole bound
pub rise_scaled : (a b : ℤ) (x y : ℕ) (z : ℤ) → plus b * y + minus a * x + 100_000 * minus z ≤ plus a * x + minus b * y + 100_000 * plus z → Rise (scaled a (pos x)) (scaled b (pos y)) z
rise_scaled a b x y z h = record { most = omega (arith, (scaled_n a x).high, (scaled_n b y).low) }

-- by one number of at most 1: no more than its factor
pub rise_by : {a b : ℤ} {X : ℕ} (x : ℕ) → x ≤ 100_000 → Rise a b (pos X) → Rise (scaled a (pos x)) (scaled b (pos x)) (pos X)
rise_by {a} {b} {X} x h k = rise_scaled a b x x (pos X) (omega (arith, mul-le-mul_right x k.most, mul-le-mul_left X h))

-- ---- the density in 10⁻⁶ does not fall where m rises by δ at least, N by s at most, and the gain t·s is made good
denser : (m m' π π' N N' s δ : ℕ) → m + δ ≤ m' → N' ≤ N + s → 0 < N' → gain m π N ≤ 54_000_000 →
    54_000_000 * s + m * (1_000 * π) ≤ δ * N + m * (1_000 * π') → m + gain m π N ≤ m' + gain m' π' N'
denser m m' π π' N N' s δ hm hN above small enough = go (dec_le δ (gain m π N))
  where
    go : Dec (δ ≤ gain m π N) → m + gain m π N ≤ m' + gain m' π' N'
    go (no k) = omega arith
    go (yes k) =
        let t = gain m π N in
        let x = t - δ in
        let split : t ≡ x + δ = omega arith in
        let a : x * N' ≤ x * N + x * s = omega (arith, mul-le-mul_left x hN) in
        let b : x * s ≤ 54_000_000 * s = mul-le-mul_right s (omega arith) in
        let c : m * (1_000 * π') ≤ m' * (1_000 * π') = mul-le-mul_right (1_000 * π') (omega arith) in
        let y : x ≤ gain m' π' N' = gain_least m' π' N' x above (omega (arith, gain_mul m π N, ap (◌* N) split)) in
        omega arith

-- so for what is shown: D rises by 1,000·δ at least, and K by z at most
module _ (d k : ℤ) (π : ℕ) (d' k' : ℤ) (π' : ℕ) (g : Ranges d k π) (g' : Ranges d' k' π') (z : ℤ) (s δ : ℕ) where
  pub shown_rises : Rise d' d (neg (1_000 * δ)) → Rise k k' z → plus z + 10_000_000 * π ≤ 10_000 * s + 10_000_000 * π' →
      54_000_000 * s + mass d * (1_000 * π) ≤ δ * 1_934_000_000 + mass d * (1_000 * π') → shown d k π ≤ shown d' k' π'
  unfolding shown density
  shown_rises D K most enough =
      let e = mul-le-mul_left δ g.net_low in
      omega (arith, denser (mass d) (mass d') π π' (net k π) (net k' π') s δ m n (omega (arith, g'.net_low)) g.gain_high (omega arith))
    where
      m : mass d + δ ≤ mass d'
      m = unfold mass in omega (arith, D.most, neg_plus (pos (1_000 * δ)), neg_minus (pos (1_000 * δ)), g.d_whole, g'.d_whole)

      n : net k' π' ≤ net k π + s
      n = omega (arith, K.most, g.k_whole, g'.k_whole, g.net_is, g'.net_is)

-- ---- what does not fall from one number to the next does not fall at all
module _ (f : ℕ → ℕ) (top : ℕ) (step : (n : ℕ) → n < top → f n ≤ f (suc n)) where
  climb : (n j : ℕ) → n + j ≤ top → f n ≤ f (n + j)
  climb n zero h = rw add-zero (le_refl (f n))
  climb n (suc j) h = rw add-suc (le_trans (climb n j (omega arith)) (step (n + j) (omega arith)))

  pub rising : (n m : ℕ) → n ≤ m → m ≤ top → f n ≤ f m
  rising n m h k = let e : n + (m - n) ≡ m = omega arith in subst (λ i. f n ≤ f i) e (climb n (m - n) (omega arith))
