-- `cells::put_word` meets its contract: the last letter is the end of the word without it (proofs/Decimal). Assumes nothing.
use mathlib.Core.Path.{sym}
use native.Mathlib.Omega.{arith}
use lib.ListN.{length-set}
use Rattle.cells.proofs.Decimal.{word_small, word_large}
use Rattle.cells.proofs.Ends.{one_longer, ended}
use Rattle.cells.proofs.Stores.{put_two, put_byte, put_same}
use Rattle.cells.proofs.+put_word.Goals as goal

pub bounds-buf-at-then-w-lt256 : goal.bounds-buf-at-then-w-lt256
bounds-buf-at-then-w-lt256 t c = simp length-set (omega (arith, one_longer c.args.end (sym (word_small c.args.w c.if-w-lt256.true))))

pub returns-then-w-lt256 : goal.returns-then-w-lt256
returns-then-w-lt256 t c = put_same (ended c.args.end (sym (word_small c.args.w c.if-w-lt256.true))) (put_two _ _ _ _)

pub put_word-past-requires : goal.put_word-past-requires
put_word-past-requires t c = (omega arith, omega (arith, one_longer c.args.end (sym (word_large c.args.w c.if-w-lt256.false))))

pub bounds-buf-past : goal.bounds-buf-past
bounds-buf-past t c =
    let e = sym (word_large c.args.w c.if-w-lt256.false) in
    omega (arith, one_longer c.args.end e, c.put_word-past.ensures.past, c.put_word-past.auto.buf)

pub overflow_add-result-2 : goal.overflow_add-result-2
overflow_add-result-2 t c =
    let e = sym (word_large c.args.w c.if-w-lt256.false) in omega (arith, one_longer c.args.end e, c.put_word-past.ensures.past)

pub returns : goal.returns
returns t c = put_byte _ (put_same (sym (word_large c.args.w c.if-w-lt256.false)) c.put_word-past.ensures)
