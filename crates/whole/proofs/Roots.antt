-- The root by trial bits is the greatest whole number whose square is at most n, and the only one. `Settled n k w` says that the bits
-- from place k on are settled: w is at most the root, and the root is below w + 2ᵏ. Assumes nothing.
use mathlib.Core.Path.{◌≡◌, ◌∙◌}
use mathlib.Core.Bool.{Bool, true, false, not, cond}
use Prim.Native.Nat.{ℕ, zero, suc, ◌+◌, ◌*◌, ◌^◌, ◌<◌, ◌≤◌}
use native.Mathlib.Omega.{arith}
use native.Mathlib.Decide.{dec_le}
use native.Mathlib.Nat.{mul-le-mul, mul-le-mul_right, mul-add, add-mul, pow-suc}
use lib.Pow.{pow_mono, pow-add}
use lib.Dec.{T, leb, lit≤, leb→le, nleb→lt}
use Rattle.whole.specs.Arith.{root_of, root_from, root_at}

-- w is the greatest whole number whose square is at most n
pub record Root (w n : ℕ) : Type 0 where
  pub low : w * w ≤ n
  pub high : n < (w + 1) * (w + 1)

pub record Settled (n k w : ℕ) : Type 0 where
  pub low : w * w ≤ n
  pub high : n < (w + 2 ^ k) * (w + 2 ^ k)
  pub top : w + 2 ^ k ≤ 2 ^ 32

pub settled_start : (n k : ℕ) → n < 2 ^ (k + k) → k ≤ 32 → Settled n k 0
settled_start n k h few =
    let z : 0 + 2 ^ k ≡ 2 ^ k = omega arith in
    record { low = omega arith; high = rw (z, ← pow-add 2 k k) h; top = omega (arith, pow_mono few) }

pub twice : (k : ℕ) → 2 ^ suc k ≡ 2 ^ k + 2 ^ k
twice k = pow-suc 2 k ∙ omega arith

-- the bit at place k is kept, or it is not
module _ (n k w : ℕ) (s : Settled n (suc k) w) where
  pub settled_kept : (w + 2 ^ k) * (w + 2 ^ k) ≤ n → Settled n k (w + 2 ^ k)
  settled_kept l =
      let e : w + 2 ^ k + 2 ^ k ≡ w + 2 ^ suc k = omega (arith, twice k) in
      record { low = l; high = rw e s.high; top = omega (arith, e, s.top) }

  pub settled_left : n < (w + 2 ^ k) * (w + 2 ^ k) → Settled n k w
  settled_left g = record { low = s.low; high = g; top = omega (arith, twice k, s.top) }

pub settled_end : (n w : ℕ) → Settled n 0 w → Root w n
settled_end n w s = record { low = s.low; high = s.high }

-- ---- the definition
pub either : {A : Type 0} (b : Bool) (x y : A) (P : A → Type 0) → (T b → P x) → (T (not b) → P y) → P (cond b x y)
either true x y P f g = f tt
either false x y P f g = g tt

settled_root : (k w n : ℕ) → Settled n k w → Root (root_from k w n) n
unfolding root_from
settled_root zero w n s = settled_end n w s
settled_root (suc k) w n s =
    let q = (w + 2 ^ k) * (w + 2 ^ k) in
    either (leb q n) (w + 2 ^ k) w (λ (v : ℕ). Root (root_from k v n) n)
    (λ l. settled_root k (w + 2 ^ k) n (settled_kept n k w s (leb→le q n l)))
    (λ l. settled_root k w n (settled_left n k w s (nleb→lt q n l)))

pub root_is : (n : ℕ) → n < 2 ^ 64 → Root (root_of n) n
unfolding root_of
root_is n h = settled_root 32 0 n (settled_start n 32 h (lit≤ tt))

-- a number whose square is at most n is less than one whose square is more
pub square_less : (v w n : ℕ) → v * v ≤ n → n < w * w → v < w
square_less v w n l h = go (dec_le w v)
  where
    go : Dec (w ≤ v) → v < w
    go (yes p) = absurd (omega (arith, mul-le-mul p p))
    go (no p) = omega arith

-- so it is at most any root
below_root : (v w n : ℕ) → v * v ≤ n → n < (w + 1) * (w + 1) → v ≤ w
below_root v w n l h = omega (arith, square_less v (w + 1) n l h)

pub root_greatest : (n : ℕ) → n < 2 ^ 64 → (v : ℕ) → v * v ≤ n → v ≤ root_of n
root_greatest n h v l = below_root v (root_of n) n l (root_is n h).high

pub root_only : (w v n : ℕ) → Root w n → Root v n → w ≡ v
root_only w v n a b = omega (arith, below_root w v n a.low b.high, below_root v w n b.low a.high)

pub root_below : (w v n : ℕ) → Root w n → n < (v + 1) * (v + 1) → w ≤ v
root_below w v n r h = below_root w v n r.low h

pub next_square : (w : ℕ) → (w + 1) * (w + 1) ≡ w * w + 2 * w + 1
next_square w = omega (arith, mul-add (w + 1) w 1, add-mul w 1 w)

-- one squaring is enough to check a root and its rest
pub root_squared : (w rest n : ℕ) → n < 2 ^ 64 → w * w + rest ≡ n → rest ≤ 2 * w → w ≡ root_of n
root_squared w rest n h e l =
    root_only w (root_of n) n (record { low = omega arith; high = omega (arith, next_square w) }) (root_is n h)

-- ---- the root w of a salinity's grid number σ
pub root_small : (σ w : ℕ) → σ ≤ 42_000 → Root w (σ * 100_000) → w ≤ 64_807
root_small σ w h r = root_below w 64_807 (σ * 100_000) r (omega arith)

pub root_at_lem : (σ : ℕ) → σ ≤ 42_000 → Root (root_at σ) (σ * 100_000)
unfolding root_at
root_at_lem σ h = root_is (σ * 100_000) (omega arith)

pub root_at_most : (σ : ℕ) → σ ≤ 42_000 → root_at σ ≤ 64_807
root_at_most σ h = root_small σ (root_at σ) h (root_at_lem σ h)

-- of the next one: no less, and where it is e more, e·σ is at most 74,404
pub root_up : (σ w w' : ℕ) → Root w (σ * 100_000) → Root w' (suc σ * 100_000) → w ≤ w'
root_up σ w w' r r' = root_below w w' (σ * 100_000) r (omega (arith, r'.high))

pub root_rise : (σ w e : ℕ) → σ ≤ 42_000 → w ≤ 64_807 → Root w (σ * 100_000) → Root (w + e) (suc σ * 100_000) → e * σ ≤ 74_404
root_rise σ w zero h k r r' = omega arith
root_rise σ w (suc f) h k r r' =
    let a : 2 * f * (w + 1) ≤ 100_000 = omega (arith, r.high, r'.low) in
    let b : σ * 100_000 * f ≤ (w + 1) * (w + 1) * f = mul-le-mul_right f (omega (arith, r.high)) in
    let c : 2 * f * σ ≤ w + 1 = omega (arith, mul-le-mul_right (w + 1) a) in
    omega arith
