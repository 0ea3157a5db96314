-- `carbon::by_warmth` meets its contract. Assumes nothing.
use Prim.Native.Nat.{ℕ, ◌+◌, ◌*◌, ◌/◌}
use mathlib.Core.Path.{ap}
use native.Mathlib.Omega.{arith}
use Rattle.carbon.specs.Weiss.{by_cold, by_log}
use Rattle.carbon.proofs.Series.{ln_t_small, cold_small}
use Rattle.carbon.proofs.by_warmth.Goals as goal

pub overflow_mul-result : goal.overflow_mul-result
overflow_mul-result c = record { fits = omega (arith, c.ln_t.ensures, ln_t_small c.args.n.number c.args.n.in_range) }

pub overflow_add-result : goal.overflow_add-result
overflow_add-result c =
    let n = c.args.n.number in record { fits = omega (arith, c.ln_t.ensures, ln_t_small n c.args.n.in_range, cold_small n c.args.n.in_range) }

pub returns : goal.returns
unfolding by_cold by_log
returns c = ap (λ (l : ℕ). 934_517_000_000_000_000 / c.args.n.number + 233_585 * l / 10_000) c.ln_t.ensures
