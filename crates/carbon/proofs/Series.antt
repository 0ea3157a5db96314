-- The odd series as the code has it: every power is at most the first, so that no product leaves its word; four terms one after another are the
-- definition's; and ln 3 is a number. Assumes nothing.
use Prim.Native.Nat.{ℕ, ◌+◌, ◌*◌, ◌-◌, ◌/◌, ◌^◌, ◌≤◌, ◌<◌}
use mathlib.Core.Path.{◌≡◌, refl}
use mathlib.Core.Bool.{Bool, true, false, cond}
use native.Mathlib.Omega.{arith}
use native.Mathlib.Decide.{dec_le}
use native.Mathlib.Nat.{mul-le-mul, mul-le-mul_right, div-add-mod, div-le_of_le-mul}
use lib.Dec.{ltb}
use borrow.Author.Tests.{lt-ltb, le-ltb}
use Rattle.carbon.specs.Weiss.{terms, odd, ln3, ln_t, by_cold, by_log}

-- x/y as (T − 300)/(T + 300) has them, without its sign, from 0 to 40 °C
abbrev pub Small : ℕ → ℕ → Type 0
Small x y = (x ≤ 26_850) × ((573_150 ≤ y) × (y ≤ 613_150))

module _ (x y : ℕ) (s : Small x y) where
  pub square_small : x * x ≤ 720_922_500
  square_small = mul-le-mul s.0 s.0

  pub square_large : 328_500_922_500 ≤ y * y
  square_large = mul-le-mul s.1.0 s.1.0

  -- the next power is no greater
  pub next_small : (p P : ℕ) → p ≤ P → p * (x * x) / (y * y) ≤ P
  next_small p P h =
      let e : x * x ≤ y * y = omega (arith, square_small, square_large) in
      div-le_of_le-mul (y * y) (omega (arith, mul-le-mul h e))

  pub first_small : 100_000_000_000 * x / y ≤ 4_684_637_530
  first_small =
      let q = 100_000_000_000 * x / y in
      omega (arith, div-add-mod (100_000_000_000 * x) y, mul-le-mul_right q s.1.0)

  pub product_fits : (p : ℕ) → p ≤ 4_684_637_530 → p * (x * x) < 2 ^ 64
  product_fits p h = omega (arith, mul-le-mul h square_small)

  -- the powers of the code
  abbrev pub first : ℕ
  first = 100_000_000_000 * x / y

  abbrev pub third : ℕ
  third = first * (x * x) / (y * y)

  abbrev pub fifth : ℕ
  fifth = third * (x * x) / (y * y)

  abbrev pub seventh : ℕ
  seventh = fifth * (x * x) / (y * y)

  pub third_small : third ≤ 4_684_637_530
  third_small = next_small first 4_684_637_530 first_small

  pub fifth_small : fifth ≤ 4_684_637_530
  fifth_small = next_small third 4_684_637_530 third_small

  pub seventh_small : seventh ≤ 4_684_637_530
  seventh_small = next_small fifth 4_684_637_530 fifth_small

  -- four terms, one after another
  pub series_is : first + third / 3 + fifth / 5 + seventh / 7 ≡ odd x y 4
  unfolding odd terms
  series_is = shape first third fifth seventh
    where
      shape : (p q r s : ℕ) → p + q / 3 + r / 5 + s / 7 ≡ p / 1 + (q / 3 + (r / 5 + (s / 7 + 0)))
      shape p q r s = omega arith

  pub series_small : odd x y 4 ≤ 10_000_000_000
  series_small = omega (arith, series_is, first_small, third_small, fifth_small, seventh_small)

-- ---- ln 3, and the two sides of 300 K
pub ln3_is : ln3 ≡ 109_861_228_850
unfolding ln3 odd terms
ln3_is = refl

-- below 300 K the series is taken away, from there on it is added
sides : (n : ℕ) (b : Bool) → ltb n 300_000 ≡ b → ln_t n ≡ cond b (109_861_228_850 - 2 * odd (300_000 - n) (n + 300_000) 4) (109_861_228_850 + 2 * odd (n - 300_000) (n + 300_000) 4)
unfolding ln_t
sides n b e = rw (e, ln3_is)

pub ln_t_cold : (n : ℕ) → n < 300_000 → ln_t n ≡ 109_861_228_850 - 2 * odd (300_000 - n) (n + 300_000) 4
ln_t_cold n h = sides n true (lt-ltb n 300_000 h)

pub ln_t_warm : (n : ℕ) → 300_000 ≤ n → ln_t n ≡ 109_861_228_850 + 2 * odd (n - 300_000) (n + 300_000) 4
ln_t_warm n h = sides n false (le-ltb n 300_000 h)

-- ---- sizes from 0 to 40 °C
module _ (n : ℕ) (t : (273_150 ≤ n) × (n ≤ 313_150)) where
  pub ln_t_small : ln_t n ≤ 130_000_000_000
  ln_t_small = go (dec_le 300_000 n)
    where
      go : Dec (300_000 ≤ n) → ln_t n ≤ 130_000_000_000
      go (yes h) = omega (arith, ln_t_warm n h, series_small (n - 300_000) (n + 300_000) (omega arith))
      go (no h) = let l : n < 300_000 = omega arith in omega (arith, ln_t_cold n l)

  pub by_log_small : by_log n ≤ 4_000_000_000_000
  unfolding by_log
  by_log_small = omega (arith, ln_t_small)

  pub cold_small : 934_517_000_000_000_000 / n ≤ 4_000_000_000_000
  cold_small =
      let q = 934_517_000_000_000_000 / n in
      omega (arith, div-add-mod 934_517_000_000_000_000 n, mul-le-mul_right q t.0)

  pub by_cold_small : by_cold n ≤ 4_000_000_000_000
  unfolding by_cold
  by_cold_small = cold_small
