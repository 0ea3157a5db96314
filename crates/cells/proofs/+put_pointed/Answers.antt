-- `cells::put_pointed` meets its contract: the last digit is the end of a tenth with one place less. Assumes nothing.
use native.Mathlib.Omega.{arith}
use Rattle.cells.proofs.Ends.{one_longer, pointed_none, pointed_more}
use Rattle.cells.proofs.Stores.{put_byte, put_same}
use Rattle.cells.proofs.+put_pointed.Goals as goal

pub put_plain-past-requires : goal.put_plain-past-requires
put_plain-past-requires t c = omega (arith, one_longer c.args.end (pointed_none c.args.k c.args.n c.if-k-eq0.true))

pub bounds-buf-past : goal.bounds-buf-past
bounds-buf-past t c =
    let e = pointed_none c.args.k c.args.n c.if-k-eq0.true in
    omega (arith, one_longer c.args.end e, c.put_plain-past.ensures.past, c.put_plain-past.auto.buf)

pub overflow_add-result : goal.overflow_add-result
overflow_add-result t c =
    let e = pointed_none c.args.k c.args.n c.if-k-eq0.true in omega (arith, one_longer c.args.end e, c.put_plain-past.ensures.past)

pub returns-then-k-eq0 : goal.returns-then-k-eq0
returns-then-k-eq0 t c = put_byte _ (put_same (pointed_none c.args.k c.args.n c.if-k-eq0.true) c.put_plain-past.ensures)

pub put_pointed-past-requires : goal.put_pointed-past-requires
put_pointed-past-requires t c =
    (omega arith, omega (arith, one_longer c.args.end (pointed_more c.args.k c.args.n (omega arith))))

pub bounds-buf-past-2 : goal.bounds-buf-past-2
bounds-buf-past-2 t c =
    let e = pointed_more c.args.k c.args.n (omega arith) in
    omega (arith, one_longer c.args.end e, c.put_pointed-past.ensures.past, c.put_pointed-past.auto.buf)

pub overflow_add-result-2 : goal.overflow_add-result-2
overflow_add-result-2 t c =
    let e = pointed_more c.args.k c.args.n (omega arith) in omega (arith, one_longer c.args.end e, c.put_pointed-past.ensures.past)

pub returns : goal.returns
returns t c = put_byte _ (put_same (pointed_more c.args.k c.args.n (omega arith)) c.put_pointed-past.ensures)
