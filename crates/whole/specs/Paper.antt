-- SPEC, "The root on paper": bit by bit, by shift, add and compare; docs/ROOT.md works two numbers through. A line of the paper is a `Trial`: the trial
-- bit, the rest, the root so far. (For every number below 2⁶⁴ the last line has the root of Arith: `rooted_is` of proofs/Lines. What stands in any line,
-- by the number and its root: `line_is`.)
use Rattle.std.specs.Prelude.{ℕ, zero, suc, ◌+◌, ◌*◌, ◌-◌, ◌/◌, ◌^◌, cond, leb, eqb}
use Rattle.std.specs.Int.Count.{count_leading_zeros}
use Rattle.whole.specs.declared.Trial.{Trial}

infixl 5 ◌≪◌ ◌≫◌
-- a shift by k binary digits: k noughts are put at the end, or the last k digits are struck
abbrev pub ◌≪◌ : ℕ → ℕ → ℕ
n ≪ k = n * 2 ^ k

abbrev pub ◌≫◌ : ℕ → ℕ → ℕ
n ≫ k = n / 2 ^ k

-- how many pairs the binary digits of n make, counted from its last digit, a single leading digit as a pair: so many trials there are.
-- 64 less the leading zeros is how many digits n has
unfoldable pub pairs_of : ℕ → ℕ
pairs_of n = (65 - count_leading_zeros 64 n) ≫ 1

-- the first line: the trial bit is the lower place of n's leading pair, the rest is n, the root is nought
unfoldable pub begun : ℕ → Trial
begun n = record { bit = (1 ≪ (pairs_of n ≪ 1)) ≫ 2; rest = n; root = 0 }

-- a trial: where root and trial bit together are at most the rest, they are taken from it, and the root halved gets the bit; where they are more, the
-- root is halved and no more. The next trial bit stands two places lower
unfoldable pub tried : Trial → Trial
tried t =
    let sum = t.root + t.bit in
    cond (leb sum t.rest)
    (record { bit = t.bit ≫ 2; rest = t.rest - sum; root = (t.root ≫ 1) + t.bit })
    (record { bit = t.bit ≫ 2; rest = t.rest; root = t.root ≫ 1 })

-- where no trial bit is left, nothing is tried any more
unfoldable pub next : Trial → Trial
next t = cond (eqb t.bit 0) t (tried t)

-- the line of n after j trials
unfoldable pub after : ℕ → ℕ → Trial
after zero n = begun n
after (suc j) n = next (after j n)

-- the root of n, below 2⁶⁴, on paper: 32 trials are enough
unfoldable pub rooted : ℕ → ℕ
rooted n = (after 32 n).root
