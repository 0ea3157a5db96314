-- `abi::put_pair` meets its contract: the row is as long as its words, and each word is the number that its function answers. Assumes nothing.
use Rattle.std.specs.Prelude.{Some}
use Rattle.whole.proofs.Words.{given}
use Rattle.abi.specs.Abi.{shown_words}
use Rattle.abi.proofs.Words.{whole_row}
use Rattle.abi.proofs.put_pair.Goals as goal

pub returns-in-Some : goal.returns-in-Some
returns-in-Some g c =
    let row = whole_row c.args.out.now (shown_words g.E.Reason.numbered (Some c.in-Some.pair)) c.told-out in
    rw (
      c.in-Some.is,
      given c.from.type_inv c.from.ensures,
      given c.from-in-Some.type_inv c.from-in-Some.ensures,
      given c.from-in-Some-2.type_inv c.from-in-Some-2.ensures,
      given c.from-in-Some-3.type_inv c.from-in-Some-3.ensures,
      given c.from-in-Some-4.type_inv c.from-in-Some-4.ensures,
      given c.from-in-Some-5.type_inv c.from-in-Some-5.ensures,
      given c.from-in-Some-6.type_inv c.from-in-Some-6.ensures,
      given c.unwrap_or.type_inv c.unwrap_or.ensures,
    ) cc

pub returns-in-None : goal.returns-in-None
returns-in-None g c = rw c.in-None.is (whole_row c.args.out.now _ c.told-out)
