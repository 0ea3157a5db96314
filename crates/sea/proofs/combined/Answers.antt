-- `sea::combined` meets its contract: K0 and A have one shape, B is a step; all are small by Sizes. Assumes nothing.
use mathlib.Core.Path.{◌≡◌, ◌∙◌}
use native.Mathlib.Omega.{arith}
use lib.IntN.{pos}
use Rattle.whole.specs.Arith.{plus}
use Rattle.whole.proofs.Words.{word, given, step_as}
use Rattle.sea.specs.Recipe.{surface, K0, A, B, parcel_of}
use Rattle.sea.proofs.Sizes.{Fits, fits, rows_fit, RowsFit}
use Rattle.sea.proofs.Grid.{small_word, small_kept, natural, natural_word, salted_asks, salted_gives}
use Rattle.sea.proofs.combined.Goals.{Start}
use Rattle.sea.proofs.combined.Goals as goal

rows : (b : Start) → RowsFit b.args.r
rows b = rows_fit b.args.r b.requires

sums : (b : Start) → Fits b.args.r (plus b.args.sigma.number) (plus b.args.w.number) 0
sums b = fits b.args.r b.requires _ _ (natural b.args.sigma.in_range).most (natural b.args.w.in_range).most 0 (omega arith)

σ_is : (b : Start) → word b.args.sigma.number ≡ pos (plus b.args.sigma.number)
σ_is b = natural_word (omega arith) b.args.sigma.in_range

pub salted-k0-requires : goal.salted-k0-requires
salted-k0-requires c =
    let r = c.args.r in
    let s = (goal.at.salted-k0-requires c).Start in
    salted_asks r.Kw r.Ks r.Kr c.args.sigma.in_range c.args.w.in_range (rows s).Kw (rows s).Ks (rows s).Kr (sums s).kr_sum

pub salted-a-requires : goal.salted-a-requires
salted-a-requires c =
    let r = c.args.r in
    let s = (goal.at.salted-a-requires c).Start in
    salted_asks r.Aw r.As r.Ar c.args.sigma.in_range c.args.w.in_range (rows s).Aw (rows s).As (rows s).Ar (sums s).ar_sum

pub step-b-requires-clause-c_small : goal.step-b-requires-clause-c_small
step-b-requires-clause-c_small c = small_kept c.args.r.Bw (rows (goal.at.step-b-requires-clause-c_small c).Start).Bw

pub step-b-requires-clause-h_small : goal.step-b-requires-clause-h_small
step-b-requires-clause-h_small c = small_kept c.args.r.Bs (rows (goal.at.step-b-requires-clause-h_small c).Start).Bs

pub returns : goal.returns
unfolding parcel_of K0 A B
returns c =
    let r = c.args.r in
    let b = (goal.at.returns c).Start in
    let s = c.surface-d in
    let k = c.salted-k0 in
    let a = c.salted-a in
    let d_is : word s.result ≡ surface r (plus c.args.sigma.number) (plus c.args.w.number) = given s.type_inv s.ensures in
    let k_is : word k.result ≡ K0 r (plus c.args.sigma.number) (plus c.args.w.number) =
    given k.type_inv (k.ensures ∙ salted_gives r.Kw r.Ks r.Kr c.args.sigma.in_range c.args.w.in_range (rows b).Kw (rows b).Ks (rows b).Kr) in
    let a-is : word a.result ≡ A r (plus c.args.sigma.number) (plus c.args.w.number) =
    given a.type_inv (a.ensures ∙ salted_gives r.Aw r.As r.Ar c.args.sigma.in_range c.args.w.in_range (rows b).Aw (rows b).As (rows b).Ar) in
    let b-is : word c.step-b.result ≡ B r (plus c.args.sigma.number) =
    given c.step-b.type_inv (c.step-b.ensures ∙ step_as (small_word r.Bw (rows b).Bw) (small_word r.Bs (rows b).Bs) (σ_is b)) in
    rw (d_is, k_is, a-is, b-is)
