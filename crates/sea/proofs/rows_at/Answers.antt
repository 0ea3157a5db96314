-- `sea::rows_at` meets its contract: each row asks and gives what Grid says of the i-th. Assumes nothing.
use mathlib.Core.Path.{◌≡◌, ◌∙◌}
use lib.IntN.{ℤ}
use Rattle.whole.specs.Arith.{row_value}
use Rattle.whole.proofs.Words.{word, given}
use Rattle.sea.specs.declared.Rows.{Rows}
use Rattle.sea.specs.Table.{table, Dw, Ds, Dr, Dss, Kw, Ks, Kr, Aw, As, Ar, Bw, Bs}
use Rattle.sea.specs.Recipe.{rows_at}
use Rattle.sea.proofs.Grid.{row_asks, row_gives}
use Rattle.sea.proofs.rows_at.Goals.{After-row_value, After-row_value-10, After-row_value-11, After-row_value-12, After-row_value-2, After-row_value-3, After-row_value-4, After-row_value-5, After-row_value-6, After-row_value-7, After-row_value-8, After-row_value-9}
use Rattle.sea.proofs.rows_at.Goals as goal

pub row_value-requires-clause-partial_small : goal.row_value-requires-clause-partial_small
unfolding table Dw Ds Dr Dss Kw Ks Kr Aw As Ar Bw Bs
row_value-requires-clause-partial_small c = row_asks 0 c.args.tau.in_range

pub row_value-requires-2-clause-partial_small : goal.row_value-requires-2-clause-partial_small
unfolding table Dw Ds Dr Dss Kw Ks Kr Aw As Ar Bw Bs
row_value-requires-2-clause-partial_small c = row_asks 1 c.args.tau.in_range

pub row_value-requires-3-clause-partial_small : goal.row_value-requires-3-clause-partial_small
unfolding table Dw Ds Dr Dss Kw Ks Kr Aw As Ar Bw Bs
row_value-requires-3-clause-partial_small c = row_asks 2 c.args.tau.in_range

pub row_value-requires-4-clause-partial_small : goal.row_value-requires-4-clause-partial_small
unfolding table Dw Ds Dr Dss Kw Ks Kr Aw As Ar Bw Bs
row_value-requires-4-clause-partial_small c = row_asks 3 c.args.tau.in_range

pub row_value-requires-5-clause-partial_small : goal.row_value-requires-5-clause-partial_small
unfolding table Dw Ds Dr Dss Kw Ks Kr Aw As Ar Bw Bs
row_value-requires-5-clause-partial_small c = row_asks 4 c.args.tau.in_range

pub row_value-requires-6-clause-partial_small : goal.row_value-requires-6-clause-partial_small
unfolding table Dw Ds Dr Dss Kw Ks Kr Aw As Ar Bw Bs
row_value-requires-6-clause-partial_small c = row_asks 5 c.args.tau.in_range

pub row_value-requires-7-clause-partial_small : goal.row_value-requires-7-clause-partial_small
unfolding table Dw Ds Dr Dss Kw Ks Kr Aw As Ar Bw Bs
row_value-requires-7-clause-partial_small c = row_asks 6 c.args.tau.in_range

pub row_value-requires-8-clause-partial_small : goal.row_value-requires-8-clause-partial_small
unfolding table Dw Ds Dr Dss Kw Ks Kr Aw As Ar Bw Bs
row_value-requires-8-clause-partial_small c = row_asks 7 c.args.tau.in_range

pub row_value-requires-9-clause-partial_small : goal.row_value-requires-9-clause-partial_small
unfolding table Dw Ds Dr Dss Kw Ks Kr Aw As Ar Bw Bs
row_value-requires-9-clause-partial_small c = row_asks 8 c.args.tau.in_range

pub row_value-requires-10-clause-partial_small : goal.row_value-requires-10-clause-partial_small
unfolding table Dw Ds Dr Dss Kw Ks Kr Aw As Ar Bw Bs
row_value-requires-10-clause-partial_small c = row_asks 9 c.args.tau.in_range

pub row_value-requires-11-clause-partial_small : goal.row_value-requires-11-clause-partial_small
unfolding table Dw Ds Dr Dss Kw Ks Kr Aw As Ar Bw Bs
row_value-requires-11-clause-partial_small c = row_asks 10 c.args.tau.in_range

pub row_value-requires-12-clause-partial_small : goal.row_value-requires-12-clause-partial_small
unfolding table Dw Ds Dr Dss Kw Ks Kr Aw As Ar Bw Bs
row_value-requires-12-clause-partial_small c = row_asks 11 c.args.tau.in_range

is_dw : (c : After-row_value) → word c.row_value.result ≡ row_value Dw c.args.tau.number
unfolding table Dw Ds Dr Dss Kw Ks Kr Aw As Ar Bw Bs
is_dw c = given c.row_value.type_inv (c.row_value.ensures ∙ row_gives 0 c.args.tau.in_range)

is_ds : (c : After-row_value-2) → word c.row_value-2.result ≡ row_value Ds c.args.tau.number
unfolding table Dw Ds Dr Dss Kw Ks Kr Aw As Ar Bw Bs
is_ds c = given c.row_value-2.type_inv (c.row_value-2.ensures ∙ row_gives 1 c.args.tau.in_range)

is_dr : (c : After-row_value-3) → word c.row_value-3.result ≡ row_value Dr c.args.tau.number
unfolding table Dw Ds Dr Dss Kw Ks Kr Aw As Ar Bw Bs
is_dr c = given c.row_value-3.type_inv (c.row_value-3.ensures ∙ row_gives 2 c.args.tau.in_range)

is_dss : (c : After-row_value-4) → word c.row_value-4.result ≡ row_value Dss c.args.tau.number
unfolding table Dw Ds Dr Dss Kw Ks Kr Aw As Ar Bw Bs
is_dss c = given c.row_value-4.type_inv (c.row_value-4.ensures ∙ row_gives 3 c.args.tau.in_range)

is_kw : (c : After-row_value-5) → word c.row_value-5.result ≡ row_value Kw c.args.tau.number
unfolding table Dw Ds Dr Dss Kw Ks Kr Aw As Ar Bw Bs
is_kw c = given c.row_value-5.type_inv (c.row_value-5.ensures ∙ row_gives 4 c.args.tau.in_range)

is_ks : (c : After-row_value-6) → word c.row_value-6.result ≡ row_value Ks c.args.tau.number
unfolding table Dw Ds Dr Dss Kw Ks Kr Aw As Ar Bw Bs
is_ks c = given c.row_value-6.type_inv (c.row_value-6.ensures ∙ row_gives 5 c.args.tau.in_range)

is_kr : (c : After-row_value-7) → word c.row_value-7.result ≡ row_value Kr c.args.tau.number
unfolding table Dw Ds Dr Dss Kw Ks Kr Aw As Ar Bw Bs
is_kr c = given c.row_value-7.type_inv (c.row_value-7.ensures ∙ row_gives 6 c.args.tau.in_range)

is_aw : (c : After-row_value-8) → word c.row_value-8.result ≡ row_value Aw c.args.tau.number
unfolding table Dw Ds Dr Dss Kw Ks Kr Aw As Ar Bw Bs
is_aw c = given c.row_value-8.type_inv (c.row_value-8.ensures ∙ row_gives 7 c.args.tau.in_range)

is_as : (c : After-row_value-9) → word c.row_value-9.result ≡ row_value As c.args.tau.number
unfolding table Dw Ds Dr Dss Kw Ks Kr Aw As Ar Bw Bs
is_as c = given c.row_value-9.type_inv (c.row_value-9.ensures ∙ row_gives 8 c.args.tau.in_range)

is_ar : (c : After-row_value-10) → word c.row_value-10.result ≡ row_value Ar c.args.tau.number
unfolding table Dw Ds Dr Dss Kw Ks Kr Aw As Ar Bw Bs
is_ar c = given c.row_value-10.type_inv (c.row_value-10.ensures ∙ row_gives 9 c.args.tau.in_range)

is_bw : (c : After-row_value-11) → word c.row_value-11.result ≡ row_value Bw c.args.tau.number
unfolding table Dw Ds Dr Dss Kw Ks Kr Aw As Ar Bw Bs
is_bw c = given c.row_value-11.type_inv (c.row_value-11.ensures ∙ row_gives 10 c.args.tau.in_range)

is_bs : (c : After-row_value-12) → word c.row_value-12.result ≡ row_value Bs c.args.tau.number
unfolding table Dw Ds Dr Dss Kw Ks Kr Aw As Ar Bw Bs
is_bs c = given c.row_value-12.type_inv (c.row_value-12.ensures ∙ row_gives 11 c.args.tau.in_range)

-- twelve values that are the rows' are the rows
rows_are : (τ : ℤ) {d-w d-s d-r d-ss k-w k-s k-r a-w a_s a_r b-w b_s : ℤ} → d-w ≡ row_value Dw τ → d-s ≡ row_value Ds τ → d-r ≡ row_value Dr τ → d-ss ≡ row_value Dss τ → k-w ≡ row_value Kw τ → k-s ≡ row_value Ks τ → k-r ≡ row_value Kr τ → a-w ≡ row_value Aw τ → a_s ≡ row_value As τ → a_r ≡ row_value Ar τ → b-w ≡ row_value Bw τ → b_s ≡ row_value Bs τ →
    ◌≡◌ {A = Rows} (record { Dw = d-w; Ds = d-s; Dr = d-r; Dss = d-ss; Kw = k-w; Ks = k-s; Kr = k-r; Aw = a-w; As = a_s; Ar = a_r; Bw = b-w; Bs = b_s }) (rows_at τ)
unfolding rows_at
rows_are τ e1 e2 e3 e4 e5 e6 e7 e8 e9 e10 e11 e12 = rw (e1, e2, e3, e4, e5, e6, e7, e8, e9, e10, e11, e12)

pub returns : goal.returns
returns c =
    rows_are c.args.tau.number
    (is_dw (goal.at.returns c).After-row_value)
    (is_ds (goal.at.returns c).After-row_value-2)
    (is_dr (goal.at.returns c).After-row_value-3)
    (is_dss (goal.at.returns c).After-row_value-4)
    (is_kw (goal.at.returns c).After-row_value-5)
    (is_ks (goal.at.returns c).After-row_value-6)
    (is_kr (goal.at.returns c).After-row_value-7)
    (is_aw (goal.at.returns c).After-row_value-8)
    (is_as (goal.at.returns c).After-row_value-9)
    (is_ar (goal.at.returns c).After-row_value-10)
    (is_bw (goal.at.returns c).After-row_value-11)
    (is_bs c)
