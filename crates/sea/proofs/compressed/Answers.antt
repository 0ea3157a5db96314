-- `sea::compressed` meets its contract: its words are the recipe's m, N and what the pressure adds, which are small. Assumes nothing.
use mathlib.Core.Path.{◌≡◌, ap, ◌∙◌}
use Prim.Native.Nat.{ℕ, ◌*◌, ◌/◌, ◌-◌, ◌≤◌}
use native.Mathlib.Omega.{arith}
use native.Mathlib.Nat.{mul-le-mul}
use mir.Syntax.{w64}
use mir.ValLaws.{to_z-of_z}
use Rattle.whole.specs.Arith.{plus}
use Rattle.sea.specs.Recipe.{mass, net, gain, density, shown}
use Rattle.sea.proofs.Grid.{natural, natural_word}
use Rattle.sea.proofs.compressed.Goals.{After-unsigned, After-unsigned-m, After-unsigned-p}
use Rattle.sea.proofs.compressed.Goals as goal

π_is : (c : After-unsigned-p) → c.unsigned-p.result ≡ plus c.args.pi.number
π_is c = c.unsigned-p.ensures ∙ ap plus (natural_word (omega arith) c.args.pi.in_range)

d_is : (c : After-unsigned-m) → c.unsigned-m.result ≡ plus c.args.d
d_is c = c.unsigned-m.ensures ∙ ap plus (to_z-of_z w64 c.args.d c.ranges.d)

k_is : (c : After-unsigned) → c.unsigned.result ≡ plus c.args.k
k_is c = c.unsigned.ensures ∙ ap plus (to_z-of_z w64 c.args.k c.ranges.k)

-- the code's words
abbrev m : (c : After-unsigned) → ℕ
m c = c.unsigned-m.result / 1_000

abbrev p : (c : After-unsigned) → ℕ
p c = 1_000 * c.unsigned-p.result

abbrev n : (c : After-unsigned) → ℕ
n c = c.unsigned.result / 10_000 - p c

m_is : (c : After-unsigned) → m c ≡ mass c.args.d
unfolding mass
m_is c = ap (λ (x : ℕ). x / 1_000) (d_is c.before)

n_is : (c : After-unsigned) → let a = c.args in n c ≡ net a.k (plus a.pi.number)
unfolding net
n_is c = rw (k_is c, π_is c.before.before)

gain_is : (c : After-unsigned) → let a = c.args in m c * p c / n c ≡ gain (mass a.d) (plus a.pi.number) (net a.k (plus a.pi.number))
unfolding gain
gain_is c = rw (m_is c, n_is c, π_is c.before.before)

pub overflow_mul-result : goal.overflow_mul-result
overflow_mul-result c =
    let a : m c ≤ 1_040_000_000 = omega (arith, m_is c, c.requires.mass_high) in
    let d : p c ≤ 100_000_000 = omega (arith, π_is (goal.at.overflow_mul-result c).After-unsigned-p, (natural c.args.pi.in_range).most) in
    record { fits = omega (arith, mul-le-mul a d) }

pub overflow_cast-result : goal.overflow_cast-result
overflow_cast-result c = let r = c.requires in record { fits = omega (arith, m_is c, gain_is c, r.mass_high, r.gain_high) }

pub returns : goal.returns
unfolding shown density
returns c = rw (gain_is c, m_is c)
