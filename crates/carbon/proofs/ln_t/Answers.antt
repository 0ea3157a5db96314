-- `carbon::ln_t` meets its contract: on each side of 300 K the sum or the difference is the definition's (proofs/Series). Assumes nothing.
use Prim.Native.Nat.{ℕ, ◌+◌, ◌*◌, ◌-◌, ◌≤◌}
use mathlib.Core.Path.{◌≡◌, ap, sym, ◌∙◌}
use native.Mathlib.Omega.{arith}
use Rattle.carbon.specs.Weiss.{odd}
use Rattle.carbon.proofs.Series.{Small, series_small, ln_t_cold, ln_t_warm}
use Rattle.carbon.proofs.ln_t.Goals.{After-odd_series-twice}
use Rattle.carbon.proofs.ln_t.Goals as goal

-- the distance from 300 K and n + 300,000 are small enough, and so is what the call gave
found_small : (c : After-odd_series-twice) → c.odd_series-twice.result ≤ 10_000_000_000
found_small c =
    let s : Small c.abs_diff.result (c.args.n.number + 300_000) = (omega (arith, c.abs_diff.ensures), (omega arith, omega arith)) in
    omega (arith, c.odd_series-twice.ensures, series_small c.abs_diff.result (c.args.n.number + 300_000) s)

-- what the call gave, x being the distance
series_is : (c : After-odd_series-twice) (x : ℕ) → c.abs_diff.result ≡ x → c.odd_series-twice.result ≡ odd x (c.args.n.number + 300_000) 4
series_is c x e = c.odd_series-twice.ensures ∙ ap (λ (y : ℕ). odd y (c.args.n.number + 300_000) 4) e

pub overflow_mul-twice : goal.overflow_mul-twice
overflow_mul-twice c = record { fits = omega (arith, found_small c) }

pub overflow_sub-result : goal.overflow_sub-result
overflow_sub-result c = omega (arith, found_small (goal.at.overflow_sub-result c).After-odd_series-twice)

pub returns-then-n-lt300000 : goal.returns-then-n-lt300000
returns-then-n-lt300000 c =
    let is = series_is (goal.at.returns-then-n-lt300000 c).After-odd_series-twice (300_000 - c.args.n.number) (omega (arith, c.abs_diff.ensures, c.if-n-lt300000.true)) in
    ap (λ (o : ℕ). 109_861_228_850 - 2 * o) is ∙ sym (ln_t_cold c.args.n.number c.if-n-lt300000.true)

pub overflow_add-result : goal.overflow_add-result
overflow_add-result c = record { fits = omega (arith, found_small (goal.at.overflow_add-result c).After-odd_series-twice) }

pub returns : goal.returns
returns c =
    let is = series_is (goal.at.returns c).After-odd_series-twice (c.args.n.number - 300_000) (omega (arith, c.abs_diff.ensures, c.if-n-lt300000.false)) in
    ap (λ (o : ℕ). 109_861_228_850 + 2 * o) is ∙ sym (ln_t_warm c.args.n.number c.if-n-lt300000.false)
