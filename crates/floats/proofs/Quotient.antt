-- The recorder float gives back the shown number n, for an n below 16,384,000 = 1000 * 2 ^ 14.
-- In units of 2 ^ -149 the quotient is n * 2 ^ 149 / 1000, and rounding drops 139 binary digits of it at most. So it errs by half of
-- 2 ^ 139 at most, which times 1000 is below half of 2 ^ 149, half a step of the grid. Assumes nothing.
use mathlib.Core.Path.{◌≡◌, sym, ap, ◌∙◌, subst}
use Prim.Native.Nat.{ℕ, suc, ◌+◌, ◌-◌, ◌*◌, ◌/◌, ◌%◌, ◌^◌, ◌≤◌, ◌<◌, compare, Ordering}
use native.Mathlib.Nat.{le_trans, le_of_eq, le_of_lt, lt_of_lt_of_le, lt_of_le_of_lt, one-mul, mul_comm, mul_assoc, mul_right_comm, mul-pos, mul-le-mul_left, mul-le-mul_right, mul-lt-mul_of_pos_right, add-mul, suc-mul, mod-lt, div-add-mod', div-lt_iff_lt-mul, div-eq_of_lt-le}
use native.Mathlib.Omega.{arith}
use mathlib.Core.Bool.{Bool, true, false, not}
use lib.IntN.{pos}
use borrow.Author.Tests.{lt-ltb}
use lib.Dec.{T, is_le, compare_is_eq, leb→le, nleb→lt, eqb→eq, lit<, lit≤}
use lib.Pow.{pow_pos, pow_mono}
use lib.Ieee.{Float, nan, inf, fin, binary32, up, down, size, nearest, round, div, of_int, unlike}
use lib.Ieee.Digits.{size-le}
use lib.Ieee.Fits.{down_pos}
use lib.Ieee.Exact.{HasValue}
use lib.Ieee.Back.{round_whole}
use lib.Ieee.Nearest.{closest, div_same}
use lib.Ieee.Order.{drop, kept}
use lib.Ieee.Scale.{round_same, grid, overflow, round_val}
use Rattle.floats.specs.Grid.{finite, grid_no}
use Rattle.floats.specs.Recorder.{recorder_end, recorder_of}

twice : (n k : ℕ) → n * (2 * k) ≡ n * k * 2
twice n k = omega arith

twice_next : (n k : ℕ) → (n + 1) * (2 * k) ≡ n * k * 2 + 2 * k
twice_next n k = omega arith

-- ---- the nearest whole number to a / b is within a half of it
record Close (a b c : ℕ) : Type 0 where
  over : 2 * (c * b) ≤ 2 * a + b
  under : 2 * a ≤ 2 * (c * b) + b

close : (a b : ℕ) → 0 < b → Close a b (closest a b)
close a b p = go (compare (a % b * 2) b) (leb→le (a % b * 2) b) (nleb→lt (a % b * 2) b) (eqb→eq (a % b * 2) b)
  where
    e : a / b * b + a % b ≡ a
    e = div-add-mod' a b

    l : a % b < b
    l = mod-lt a p

    bit : (q : ℕ) → q % 2 ≤ 1
    bit q = omega arith

    go : (o : Ordering) → (T (is_le o) → a % b * 2 ≤ b) → (T (not (is_le o)) → b < a % b * 2) → (T (compare_is_eq o) → a % b * 2 ≡ b) → Close a b (nearest (a / b) o)
    go Ordering.lt x y z = record { over = o1 (a / b * b) (a % b) a b e; under = u1 (a / b * b) (a % b) a b e (x tt) }
      where
        o1 : (q r a b : ℕ) → q + r ≡ a → 2 * q ≤ 2 * a + b
        o1 q r a b e = omega arith

        u1 : (q r a b : ℕ) → q + r ≡ a → r * 2 ≤ b → 2 * a ≤ 2 * q + b
        u1 q r a b e h = omega arith
    go Ordering.eq x y z = record {
      over = o2 ((a / b + a / b % 2) * b) (a / b * b) (a / b % 2 * b) (a % b) a b (add-mul (a / b) (a / b % 2) b) t e (z tt);
      under = u2 ((a / b + a / b % 2) * b) (a / b * b) (a / b % 2 * b) (a % b) a b (add-mul (a / b) (a / b % 2) b) e (z tt);
    }
      where
        t : a / b % 2 * b ≤ b
        t = le_trans (mul-le-mul_right b (bit (a / b))) (le_of_eq (one-mul b))

        o2 : (c q s r a b : ℕ) → c ≡ q + s → s ≤ b → q + r ≡ a → r * 2 ≡ b → 2 * c ≤ 2 * a + b
        o2 c q s r a b w t e h = omega arith

        u2 : (c q s r a b : ℕ) → c ≡ q + s → q + r ≡ a → r * 2 ≡ b → 2 * a ≤ 2 * c + b
        u2 c q s r a b w e h = omega arith
    go Ordering.gt x y z = record {
      over = o3 (suc (a / b) * b) (a / b * b) (a % b) a b (suc-mul (a / b) b) e (y tt);
      under = u3 (suc (a / b) * b) (a / b * b) (a % b) a b (suc-mul (a / b) b) e l;
    }
      where
        o3 : (c q r a b : ℕ) → c ≡ q + b → q + r ≡ a → b < r * 2 → 2 * c ≤ 2 * a + b
        o3 c q r a b w e h = omega arith

        u3 : (c q r a b : ℕ) → c ≡ q + b → q + r ≡ a → r < b → 2 * a ≤ 2 * c + b
        u3 c q r a b w e h = omega arith

-- ---- the quotient in units of 2 ^ -149: `units` of it, rounded from `exact` / 1000, with the last digits dropped; a `dropped` is
-- what the last digit kept stands for, times 1000
abbrev exact : ℕ → ℕ
exact n = n * 2 ^ 149

abbrev units : ℕ → ℕ
units n = grid binary32 n 1000

abbrev digits : ℕ → ℕ
digits n = kept 24 (exact n) 1000

abbrev dropped : ℕ → ℕ
dropped n = 1000 * 2 ^ drop 24 (exact n) 1000

module _ (n : ℕ) (small : n < recorder_end) where
  pub recorder_is : recorder_of n ≡ div binary32 (of_int binary32 (pos n)) (of_int binary32 (pos 1000))
  unfolding recorder_of
  recorder_is = simp (lt-ltb _ _ small)

  -- the quotient is n / 1000, rounded once
  quotient : recorder_of n ≡ round binary32 false n 1000
  unfolding div of_int
  quotient = recorder_is ∙ go (round binary32 false n 1) (round_whole binary32 false n (le_trans (le_of_lt small) (lit≤ tt)))
    where
      cross : (a e : ℕ) → a * 1 ≡ n * e → a * 1 * 1000 ≡ n * (1000 * e)
      cross a e h = ap (λ (z : ℕ). z * 1000) h ∙ mul_right_comm n e 1000 ∙ mul_assoc n 1000 e

      go : (y : Float) → HasValue y false n 1 → div binary32 y (fin false 125 (pos 3)) ≡ round binary32 false n 1000
      go nan v = absurd v
      go (inf s) v = absurd v
      go (fin s m e) v =
          ap (λ (b : Bool). round binary32 (unlike b false) (m * up e * 1) (1000 * down e)) v.0
          ∙ round_same binary32 false (m * up e * 1) (1000 * down e) n 1000 (mul-pos (lit< tt) (down_pos e)) (lit< tt) (cross (m * up e) (down e) v.1)

  step : dropped n < 2 ^ 149
  step = lt_of_le_of_lt (mul-le-mul_left 1000 (pow_mono (less (size (exact n / 1000)) few))) (lit< tt)
    where
      few : size (exact n / 1000) ≤ 163
      few =
          size-le (exact n / 1000) 163
          ((div-lt_iff_lt-mul (lit< tt)).1 (lt_of_lt_of_le (mul-lt-mul_of_pos_right small (pow_pos 149)) (lit≤ tt)))

      less : (z : ℕ) → z ≤ 163 → z - 24 ≤ 139
      less z h = omega arith

  -- 1000 times the rounded quotient is within half a step of n
  times : units n * 1000 ≡ digits n * dropped n
  times = regroup (digits n) (2 ^ drop 24 (exact n) 1000)
    where
      regroup : (q p : ℕ) → q * p * 1000 ≡ q * (1000 * p)
      regroup q p = mul_assoc q p 1000 ∙ ap (λ (z : ℕ). q * z) (mul_comm p 1000)

  near : Close (exact n) (dropped n) (digits n)
  near = close (exact n) (dropped n) (mul-pos (lit< tt) (pow_pos (drop 24 (exact n) 1000)))

  over : 2 * (units n * 1000) < 2 * exact n + 2 ^ 149
  over = go (units n * 1000) (digits n * dropped n) (exact n) (dropped n) (2 ^ 149) times near.over step
    where
      go : (g q a u p : ℕ) → g ≡ q → 2 * q ≤ 2 * a + u → u < p → 2 * g < 2 * a + p
      go g q a u p e h l = omega arith

  under : 2 * exact n < 2 * (units n * 1000) + 2 ^ 149
  under = go (units n * 1000) (digits n * dropped n) (exact n) (dropped n) (2 ^ 149) times near.under step
    where
      go : (g q a u p : ℕ) → g ≡ q → 2 * a ≤ 2 * q + u → u < p → 2 * a < 2 * g + p
      go g q a u p e h l = omega arith

  -- so it is no infinity
  fits : units n < overflow binary32
  fits = lt_of_le_of_lt (le_trans (more (units n)) (le_of_lt over)) (lt_of_le_of_lt (bound n (2 ^ 149) (le_of_lt small)) (lit< tt))
    where
      more : (g : ℕ) → g ≤ 2 * (g * 1000)
      more g = omega arith

      bound : (n p : ℕ) → n ≤ recorder_end → 2 * (n * p) + p ≤ (2 * recorder_end + 1) * p
      bound n p h =
          let w : n * p ≤ recorder_end * p = mul-le-mul_right p h in
          omega arith

  value : HasValue (recorder_of n) false (units n) (2 ^ 149)
  value = subst (λ (z : Float). HasValue z false (units n) (2 ^ 149)) (sym quotient) (round_val binary32 n 1000 fits)

  -- and its grid number is n
  place : (g p : ℕ) → 0 < p → 2 * (g * 1000) < 2 * (n * p) + p → 2 * (n * p) < 2 * (g * 1000) + p → (g * 2000 + p) / (2 * p) ≡ n
  place g p h o u = div-eq_of_lt-le {k = n} (2 * p) (lo g (n * p) p (n * (2 * p)) (twice n p) u) (hi g (n * p) p ((n + 1) * (2 * p)) (twice_next n p) o)
    where
      lo : (g a p x : ℕ) → x ≡ a * 2 → 2 * a < 2 * (g * 1000) + p → x ≤ g * 2000 + p
      lo g a p x e h = omega arith

      hi : (g a p x : ℕ) → x ≡ a * 2 + 2 * p → 2 * (g * 1000) < 2 * a + p → g * 2000 + p < x
      hi g a p x e h = omega arith

  put_back : T (finite (recorder_of n)) × (grid_no 1000 (recorder_of n) ≡ pos n)
  unfolding grid_no
  put_back = go (recorder_of n) value
    where
      same : (a d g p : ℕ) → a * p ≡ g * d → (a * 2000 + d) * (2 * p) ≡ (g * 2000 + p) * (2 * d)
      same a d g p h =
          add-mul (a * 2000) d (2 * p)
          ∙ ap (λ (z : ℕ). z + d * (2 * p))
          (mul_right_comm a 2000 (2 * p) ∙ ap (λ (z : ℕ). z * 2000) (twice a p ∙ ap (λ (z : ℕ). z * 2) h ∙ sym (twice g d))
          ∙ mul_right_comm g (2 * d) 2000)
          ∙ ap (λ (z : ℕ). g * 2000 * (2 * d) + z) (twice d p ∙ ap (λ (z : ℕ). z * 2) (mul_comm d p) ∙ sym (twice p d))
          ∙ sym (add-mul (g * 2000) p (2 * d))

      go : (y : Float) → HasValue y false (units n) (2 ^ 149) → T (finite y) × (grid_no 1000 y ≡ pos n)
      go nan v = absurd v
      go (inf s) v = absurd v
      go (fin true m e) v = absurd (subst T v.0 tt)
      go (fin false m e) v = (
        tt,
        ap pos
            (div_same (m * up e * 2000 + down e) (2 * down e) (units n * 2000 + 2 ^ 149) (2 * 2 ^ 149) (mul-pos (lit< tt) (down_pos e)) (lit< tt)
            (same (m * up e) (down e) (units n) (2 ^ 149) v.1)
            ∙ place (units n) (2 ^ 149) (pow_pos 149) over under),
      )

  pub recorder_finite : T (finite (recorder_of n))
  recorder_finite = put_back.0

  -- put back on the 0.001 grid by the rule for readings, it gives the same whole number
  pub recorder_back : grid_no 1000 (recorder_of n) ≡ pos n
  recorder_back = put_back.1
