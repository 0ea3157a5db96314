-- `sea::range::Within::of` meets its contract: what passes the check is in the range. Assumes nothing.
use mathlib.Core.Path.{◌≡◌}
use mathlib.Core.Bool.{true}
use lib.IntN.{pos}
use borrow.Author.Rules.{rules}
use Rattle.whole.specs.Arith.{neg}
use Rattle.sea.specs.Water.{range_of}
use Rattle.sea.proofs.Grid.{lies_word, inside_lies}
use Rattle.sea.proofs.range.Within.of.Goals as goal

pub invariant_of-result : goal.invariant_of-result
invariant_of-result g c =
    let e : range_of (neg g.row.BELOW) (pos g.row.ABOVE) c.args.number ≡ true = search rules in
    record { in_range = lies_word c.ranges.number (inside_lies _ _ _ e) }
