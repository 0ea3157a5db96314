-- SPEC, "How much carbon dioxide it will hold": ln K0 of Weiss (1974), Mar. Chem. 2: 203-215, as the handbook of CO2 measurements prints it in its
-- equation (30). T is the temperature in kelvin and S the salinity; K0 is in moles in a kilogram of the water for each atmosphere:
--
--     ln K0 = 93.4517·(100/T) − 60.2409 + 23.3585·ln(T/100) + S·(0.023517 − 0.023656·(T/100) + 0.0047036·(T/100)²)
--
-- in whole numbers: σ is the grid salinity, n is T in 0.001 K; up to `fine` all else is in units of 10⁻¹¹, and every division is rounded down.
-- Digits as printed.
use Rattle.std.specs.Prelude.{ℕ, zero, suc, ◌+◌, ◌*◌, ◌-◌, ◌/◌, ◌^◌, cond, List, [], ◌∷◌, ltb, ℤ, pos, ◌+ℤ◌}
use Rattle.whole.specs.Arith.{neg, plus, floor_div, scaled, row_value}

-- ---- the logarithm
-- the numbers of terms, of the series for ln 3 and of the one for the rest. (From 0 to 40 °C any further term would be 0: `no_more_ln3` and
-- `no_more_rest` of proofs/Terms.)
abbrev pub ln_terms : ℕ
ln_terms = 16

abbrev pub rest_terms : ℕ
rest_terms = 4

-- p/d + p·(a/b)/(d + 2) + p·(a/b)²/(d + 4) and on, k terms: each power is the one before times a/b
unfoldable pub terms : ℕ → ℕ → ℕ → ℕ → ℕ → ℕ
terms a b zero d p = 0
terms a b (suc k) d p = p / d + terms a b k (d + 2) (p * a / b)

-- the odd series x + x³/3 + x⁵/5 and on in x = X/Y, k terms
unfoldable pub odd : ℕ → ℕ → ℕ → ℕ
odd X Y k = terms (X * X) (Y * Y) k 1 (10 ^ 11 * X / Y)

-- ln 3 is twice the series in one half
unfoldable pub ln3 : ℕ
ln3 = 2 * odd 1 2 ln_terms

-- ln(T/100) is ln 3 plus twice the series in (T − 300)/(T + 300). Below 300 K the series is below 0
unfoldable pub ln_t : ℕ → ℕ
ln_t n = cond (ltb n 300_000) (ln3 - 2 * odd (300_000 - n) (n + 300_000) rest_terms) (ln3 + 2 * odd (n - 300_000) (n + 300_000) rest_terms)

-- ---- the equation
-- 93.4517·(100/T), 100/T being 100,000/n
unfoldable pub by_cold : ℕ → ℕ
by_cold n = 93_4517 * 10 ^ 12 / n

-- 23.3585·ln(T/100)
unfoldable pub by_log : ℕ → ℕ
by_log n = 23_3585 * ln_t n / 10 ^ 4

-- the row that S takes, by powers of T/100: for S/100, which is σ/100,000, so that its coefficients are 100 times the printed ones
unfoldable pub salts : List ℤ
salts = pos (23517 * 10 ^ 7) ∷ neg (23656 * 10 ^ 7) ∷ pos (47036 * 10 ^ 6) ∷ []

-- its value at T/100, which is n/100,000, and the scaled product by σ
unfoldable pub by_salt : ℕ → ℕ → ℤ
by_salt σ n = scaled (row_value salts (pos n)) (pos σ)

-- equation (30)
unfoldable pub fine : ℕ → ℕ → ℤ
fine σ n = neg (60_2409 * 10 ^ 7) +ℤ pos (by_cold n) +ℤ pos (by_log n) +ℤ by_salt σ n

-- ln K0 in millionths, rounded to the nearest, halves upward
unfoldable pub ln_k0 : ℕ → ℕ → ℤ
ln_k0 σ n = floor_div (fine σ n +ℤ pos 50_000) 100_000

-- T of a grid temperature that is not below 0 °C: it is 273.15 more
abbrev pub kelvin : ℤ → ℕ
kelvin τ = plus τ + 273_150
