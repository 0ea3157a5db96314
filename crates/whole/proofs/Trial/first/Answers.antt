-- `whole::Trial::first` meets its contract: below 2⁶² the first trial bit fits a word. Assumes nothing.
use mathlib.Core.Path.{◌≡◌}
use Prim.Native.Nat.{◌-◌, ◌/◌, ◌*◌, ◌≤◌, ◌^◌, ◌%◌}
use native.Mathlib.Omega.{arith}
use lib.Count.{count_leading_zeros}
use lib.Pow.{shl_exact}
use lib.Dec.{lit<}
use Rattle.whole.specs.Paper.{pairs_of, begun}
use Rattle.whole.proofs.Lines.{pairs_within}
use Rattle.whole.proofs.Trial.first.Goals.{Start}
use Rattle.whole.proofs.Trial.first.Goals as goal

few : (c : Start) → (65 - count_leading_zeros 64 c.args.n) / 2 ≤ 31
unfolding pairs_of
few c = pairs_within c.args.n 31 (omega (arith, c.requires)) c.requires

pub overflow_shl-bit-2 : goal.overflow_shl-bit-2
overflow_shl-bit-2 c = omega (arith, few c)

pub returns : goal.returns
unfolding begun pairs_of
returns c =
    let k = (65 - count_leading_zeros 64 c.args.n) / 2 in
    let e : (k * 2) % 2 ^ 32 ≡ k * 2 = omega (arith, few c) in
    rw (e, shl_exact 1 (k * 2) 64 (lit< tt) (omega (arith, few c)))
