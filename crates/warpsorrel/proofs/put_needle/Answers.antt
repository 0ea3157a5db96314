-- `warpsorrel::put_needle` meets its contract: each word is the number that its function answers. Assumes nothing.
use mathlib.Core.Path.{◌∙◌}
use Rattle.whole.proofs.Words.{given}
use Rattle.channels.proofs.Cases.{value_given}
use Rattle.abi.specs.Abi.{comparison_words}
use Rattle.abi.proofs.Words.{whole_row}
use Rattle.warpsorrel.proofs.put_needle.Goals as goal

pub returns-clause-numbers : goal.returns-clause-numbers
returns-clause-numbers c =
    let row = whole_row c.args.out.now (comparison_words c.args.pair) c.told-out in
    rw (
      given c.from.type_inv c.from.ensures,
      given c.from-2.type_inv c.from-2.ensures,
      given c.unwrap_or.type_inv (c.unwrap_or.ensures ∙ value_given c.args.pair.needle),
    ) cc
