-- Whole numbers as SPEC, "The recipe in whole numbers", uses them: division rounded down, the scaled product, a row's value, the root.
use Rattle.std.specs.Prelude.{ℕ, zero, suc, ◌+◌, ◌*◌, ◌/◌, ◌^◌, cond, List, [], ◌∷◌, leb, ℤ, pos, negsuc, neg_ℤ, ◌+ℤ◌, ◌*ℤ◌}

-- −n
abbrev pub neg : ℕ → ℤ
neg n = neg_ℤ (pos n)

-- z is plus z − minus z, and one of the two is 0: plus z is z itself where z is not negative
abbrev pub plus : ℤ → ℕ
plus (pos n) = n
plus (negsuc n) = 0

abbrev pub minus : ℤ → ℕ
minus (pos n) = 0
minus (negsuc n) = suc n

-- z/m rounded down, towards minus infinity; negsuc n is −(n + 1)
abbrev pub floor_div : ℤ → ℕ → ℤ
floor_div (pos n) m = pos (n / m)
floor_div (negsuc n) m = negsuc (n / m)

-- the scaled product of h by a grid number x: h·x/100,000 rounded down
unfoldable pub scaled : ℤ → ℤ → ℤ
scaled h x = floor_div (h *ℤ x) 100_000

-- a row's value at t, the coefficients with the lowest power first: start with the highest, replace by the next lower one
-- plus the scaled product by t. (A row of one coefficient is that coefficient: `row_one` of proofs/Row.)
unfoldable pub row_value : List ℤ → ℤ → ℤ
row_value [] t = pos 0
row_value (c ∷ cs) t = c +ℤ scaled (row_value cs t) t

-- the root of n, below 2⁶⁴, bit by bit from 2³¹ down: a bit is kept where the square stays at most n.
-- (It is the greatest whole number whose square is at most n, and the only one: `root_is`, `root_greatest` and `root_only` of proofs/Roots.)
unfoldable pub root_from : ℕ → ℕ → ℕ → ℕ
root_from zero w n = w
root_from (suc k) w n = root_from k (cond (leb ((w + 2 ^ k) * (w + 2 ^ k)) n) (w + 2 ^ k) w) n

unfoldable pub root_of : ℕ → ℕ
root_of n = root_from 32 0 n

-- the root w of a salinity's grid number σ: of σ·100,000. It stands for √v in units of 10⁻⁵
unfoldable pub root_at : ℕ → ℕ
root_at σ = root_of (σ * 100_000)
