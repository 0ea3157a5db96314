-- `sea::surface` meets its contract: three steps, each small by Sizes. Assumes nothing.
use mathlib.Core.Path.{◌≡◌, ◌∙◌}
use native.Mathlib.Omega.{arith}
use lib.IntN.{pos, ◌+ℤ◌}
use Rattle.whole.specs.Arith.{plus, scaled}
use Rattle.whole.proofs.Words.{word, given, size_as, step_as}
use Rattle.sea.specs.Recipe.{surface}
use Rattle.sea.proofs.Sizes.{Fits, fits, rows_fit, RowsFit}
use Rattle.sea.proofs.Grid.{small_word, small_kept, natural, natural_word}
use Rattle.sea.proofs.surface.Goals.{After-step, After-step-rooted, Start}
use Rattle.sea.proofs.surface.Goals as goal

rows : (b : Start) → RowsFit b.args.r
rows b = rows_fit b.args.r b.requires

sums : (b : Start) → Fits b.args.r (plus b.args.sigma.number) (plus b.args.w.number) 0
sums b = fits b.args.r b.requires _ _ (natural b.args.sigma.in_range).most (natural b.args.w.in_range).most 0 (omega arith)

rooted_is : (c : After-step-rooted) → let a = c.args in word c.step-rooted.result ≡ a.r.Ds +ℤ scaled a.r.Dr (pos (plus a.w.number))
rooted_is c =
    let f = rows_fit c.args.r c.requires in
    given c.step-rooted.type_inv (c.step-rooted.ensures ∙ step_as (small_word c.args.r.Ds f.Ds) (small_word c.args.r.Dr f.Dr) (natural_word (omega arith) c.args.w.in_range))

inner_is : (c : After-step) → let a = c.args in word c.step-rooted.result ≡ a.r.Ds +ℤ scaled a.r.Dr (pos (plus a.w.number)) →
    word c.step.result ≡ a.r.Ds +ℤ scaled a.r.Dr (pos (plus a.w.number)) +ℤ scaled a.r.Dss (pos (plus a.sigma.number))
inner_is c rooted =
    let f = rows_fit c.args.r c.requires in
    given c.step.type_inv (c.step.ensures ∙ step_as rooted (small_word c.args.r.Dss f.Dss) (natural_word (omega arith) c.args.sigma.in_range))

pub step-rooted-requires-clause-c_small : goal.step-rooted-requires-clause-c_small
step-rooted-requires-clause-c_small c = small_kept c.args.r.Ds (rows (goal.at.step-rooted-requires-clause-c_small c).Start).Ds

pub step-rooted-requires-clause-h_small : goal.step-rooted-requires-clause-h_small
step-rooted-requires-clause-h_small c = small_kept c.args.r.Dr (rows (goal.at.step-rooted-requires-clause-h_small c).Start).Dr

pub step-requires-clause-c_small : goal.step-requires-clause-c_small
step-requires-clause-c_small c = let on = goal.at.step-requires-clause-c_small c in size_as (rooted_is on.After-step-rooted) (sums on.Start).dr_sum

pub step-requires-clause-h_small : goal.step-requires-clause-h_small
step-requires-clause-h_small c = small_kept c.args.r.Dss (rows (goal.at.step-requires-clause-h_small c).Start).Dss

pub step-requires-2-clause-c_small : goal.step-requires-2-clause-c_small
step-requires-2-clause-c_small c = small_kept c.args.r.Dw (rows (goal.at.step-requires-2-clause-c_small c).Start).Dw

pub step-requires-2-clause-h_small : goal.step-requires-2-clause-h_small
step-requires-2-clause-h_small c =
    let on = goal.at.step-requires-2-clause-h_small c in size_as (inner_is on.After-step (rooted_is on.After-step-rooted)) (sums on.Start).dss_sum

pub returns : goal.returns
unfolding surface
returns c =
    let on = goal.at.returns c in
    given c.step-2.type_inv
    (c.step-2.ensures ∙ step_as (small_word c.args.r.Dw (rows on.Start).Dw) (inner_is on.After-step (rooted_is on.After-step-rooted)) (natural_word (omega arith) c.args.sigma.in_range))
