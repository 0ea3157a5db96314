-- `whole::row_value` meets its contract. The invariant: h is the value of the coefficients from the last one that was taken on. Assumes nothing.
use mathlib.Core.Path.{◌≡◌, refl, ap, ◌∙◌}
use Prim.Native.Nat.{ℕ, ◌≤◌, ◌<◌, ◌-◌}
use native.Mathlib.Omega.{arith}
use lib.IntN.{ℤ, pos, nat_abs, ◌+ℤ◌}
use lib.ListN.{length, get_or, drop, drop_of_length-le}
use mathlib.Core.List.{reverse, ◌∷◌, [], ◌++◌}
use mir.Syntax.{w64}
use mir.Val.{to_z, SFits}
use mir.ValLaws.{to_z-of_z}
use Rattle.whole.specs.Arith.{scaled, row_value}
use Rattle.std.proofs.lemmas.List.{get_or_read, get_or-reverse, length-reverse, length_push}
use Rattle.std.proofs.lemmas.Iterator.Consumers.{YieldsList-turn}
use Rattle.std.proofs.lemmas.Iterator.Adapters.{YieldsList-from_rev_slice}
use Rattle.whole.proofs.Words.{word, word_as, fits_as, fits_size, part_fits}
use Rattle.whole.proofs.Row.{row_step}
use Rattle.whole.proofs.row_value.Goals.{In-Some, After-scaled}
use Rattle.whole.proofs.row_value.Goals as goal

-- the type of the row says that it has six numbers
six : (c : In-Some) → length c.args.row ≡ 6
six c = c.well_formed.0.1.0.1

pub loop-c-init : goal.loop-c-init
unfolding row_value
loop-c-init c =
    let e : length c.args.row ≡ 6 = c.well_formed.0.1.0.1 in
    rw (drop_of_length-le c.args.row {i = 6} (omega (arith, e))) refl

-- a turn's coefficient is the next lower one
turn : (c : In-Some) → let n = length c.loop-c.yielded in (n < 6) × (c.in-Some.c.now ≡ get_or c.args.row (6 - n - 1) (pos 0))
turn c =
    let n = length c.loop-c.yielded in
    let t = YieldsList-turn (YieldsList-from_rev_slice c.args.row (cc)) c.loop-c.yielded _ c.loop-c.yielded_by _ _ c.in-Some.c c.in-Some.is c.next.ensures.steps in
    let few : n < 6 = omega (arith, t.0, length-reverse c.args.row, six c) in
    let at : length c.args.row - 1 - n ≡ 6 - n - 1 = omega (arith, six c) in
    let e = get_or_read (reverse c.args.row) n c.in-Some.c.now t.0 t.1 (pos 0) in
    (few, e ∙ get_or-reverse c.args.row n (pos 0) (omega (arith, few, six c)) ∙ ap (λ (k : ℕ). get_or c.args.row k (pos 0)) at)

-- so its sum is the row's value one place lower
abbrev value : In-Some → ℤ
value c = row_value (drop (6 - length c.loop-c.yielded - 1) c.args.row) (word c.args.t)

step : (c : In-Some) → get_or c.args.row (6 - length c.loop-c.yielded - 1) (pos 0) +ℤ scaled (to_z w64 c.loop-c.h-bits) (word c.args.t) ≡ value c
step c = rw c.loop-c.invariant (row_step c.args.row (6 - length c.loop-c.yielded) (word c.args.t) (omega (arith, (turn c).0)) (omega (arith, six c)))

sum : (c : After-scaled) → word c.in-Some.c.now +ℤ word c.scaled.result ≡ value c.before
sum c =
    let i = c.before in
    let z = get_or i.args.row (6 - length i.loop-c.yielded - 1) (pos 0) in
    let t = to_z-of_z w64 i.args.t i.ranges.t in
    let f = part_fits z (to_z w64 i.loop-c.h-bits) (word i.args.t) (rw (step i, t) (i.requires.partial_small _)) (rw (i.loop-c.invariant, t) (i.requires.partial_small _)) (rw t i.requires.t_small) in
    rw ((turn i).1, to_z-of_z w64 z f, to_z-of_z w64 c.scaled.result (record { sfits = c.scaled.type_inv }), c.scaled.ensures) (step i)

fits : (c : In-Some) → SFits w64 (value c)
fits c =
    let b : nat_abs (value c) ≤ 46_000_000_000_000 = rw (to_z-of_z w64 c.args.t c.ranges.t) (c.requires.partial_small (6 - length c.loop-c.yielded - 1)) in
    fits_size _ (omega (arith, b))

pub overflow_add-h : goal.overflow_add-h
overflow_add-h c = fits_as (sum c.before) (fits c.before.before)

pub loop-c-preserved : goal.loop-c-preserved
loop-c-preserved c =
    let i = c.before.before in
    let n = length i.loop-c.yielded in
    let e : 6 - n - 1 ≡ 6 - length (i.loop-c.yielded ++ i.in-Some.c ∷ []) = omega (arith, length_push i.loop-c.yielded i.in-Some.c) in
    word_as (sum c.before) (fits i) ∙ ap (λ (k : ℕ). row_value (drop k i.args.row) (word i.args.t)) e
