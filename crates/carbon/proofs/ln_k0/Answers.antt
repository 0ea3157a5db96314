-- `carbon::ln_k0` meets its contract: each step of its code is a step of proofs/Sum. Assumes nothing.
use Prim.Native.Nat.{ℕ, ◌+◌, ◌≤◌}
use mathlib.Core.Path.{◌≡◌, ap, ap₂, ◌∙◌}
use native.Mathlib.Omega.{arith}
use lib.IntN.{ℤ, pos, ◌+ℤ◌, ◌-ℤ◌}
use mir.Syntax.{w64}
use mir.ValLaws.{to_z-of_z}
use Rattle.whole.specs.Arith.{plus, scaled, row_value}
use Rattle.whole.proofs.Ints.{pos_plus}
use Rattle.whole.proofs.Words.{word, word_as, fits_as, fits_size, given}
use Rattle.carbon.specs.Weiss.{by_cold, by_log, salts, by_salt, kelvin}
use Rattle.carbon.proofs.Sum.{warmth, warmth_small, warmed, warmed_small, total, total_small, rounded}
use Rattle.carbon.proofs.ln_k0.Goals.{After-by_salt-salt, After-by_warmth, After-unsigned-number}
use Rattle.carbon.proofs.ln_k0.Goals as goal

mild : (τ : ℤ) → plus τ ≤ 40_000 → (273_150 ≤ kelvin τ) × (kelvin τ ≤ 313_150)
mild τ h = (omega arith, omega arith)

-- T, and what the temperature alone makes
n_is : (c : After-unsigned-number) → c.unsigned-number.result + 273_150 ≡ kelvin c.args.tau
n_is c = ap (λ (k : ℕ). k + 273_150) (c.unsigned-number.ensures ∙ ap plus (to_z-of_z w64 c.args.tau c.ranges.tau))

warmth_is : (c : After-by_warmth) → c.by_warmth.result + 50_000 ≡ warmth (kelvin c.args.tau)
warmth_is c = ap (λ (k : ℕ). k + 50_000) (c.by_warmth.ensures ∙ ap (λ (n : ℕ). by_cold n + by_log n) (n_is c.before.before))

pub overflow_add-by_warmth : goal.overflow_add-by_warmth
overflow_add-by_warmth c = record { fits = omega (arith, warmth_is c, warmth_small (kelvin c.args.tau) (mild c.args.tau c.requires.tau_most)) }

pub signed-warmth-requires : goal.signed-warmth-requires
signed-warmth-requires c = omega (arith, warmth_is c, warmth_small (kelvin c.args.tau) (mild c.args.tau c.requires.tau_most))

-- with what the salinity adds
warmed_is : (c : After-by_salt-salt) → word c.signed-warmth.result +ℤ word c.by_salt-salt.result ≡ warmed (plus c.args.sigma) (kelvin c.args.tau)
unfolding by_salt
warmed_is c =
    let n = ap pos (n_is c.before.before.before.before) in
    let σ = to_z-of_z w64 c.args.sigma c.ranges.sigma ∙ pos_plus c.args.sigma c.requires.sigma_whole in
    ap₂ (λ (a b : ℤ). a +ℤ b) (given c.signed-warmth.type_inv c.signed-warmth.ensures ∙ ap pos (warmth_is c.before.before))
    (given c.by_salt-salt.type_inv c.by_salt-salt.ensures ∙ ap₂ (λ (a b : ℤ). scaled (row_value salts a) b) n σ)

pub overflow_add-warmth : goal.overflow_add-warmth
overflow_add-warmth c =
    let w = warmed_small (plus c.args.sigma) (kelvin c.args.tau) c.requires.sigma_most (mild c.args.tau c.requires.tau_most) in
    fits_as (warmed_is c) (fits_size (warmed (plus c.args.sigma) (kelvin c.args.tau)) (omega (arith, w)))

-- and what is taken away
total_is : (c : After-by_salt-salt) → word (word c.signed-warmth.result +ℤ word c.by_salt-salt.result) -ℤ pos 6_024_090_000_000 ≡ total (plus c.args.sigma) (kelvin c.args.tau)
total_is c =
    let w = warmed_small (plus c.args.sigma) (kelvin c.args.tau) c.requires.sigma_most (mild c.args.tau c.requires.tau_most) in
    ap (λ (z : ℤ). z -ℤ pos 6_024_090_000_000) (word_as (warmed_is c) (fits_size (warmed (plus c.args.sigma) (kelvin c.args.tau)) (omega (arith, w))))

pub overflow_sub-warmth : goal.overflow_sub-warmth
overflow_sub-warmth c =
    let t = total_small (plus c.args.sigma) (kelvin c.args.tau) c.requires.sigma_most (mild c.args.tau c.requires.tau_most) in
    fits_as (total_is c) (fits_size (total (plus c.args.sigma) (kelvin c.args.tau)) (omega (arith, t)))

total_word : (c : After-by_salt-salt) → word (word (word c.signed-warmth.result +ℤ word c.by_salt-salt.result) -ℤ pos 6_024_090_000_000) ≡ total (plus c.args.sigma) (kelvin c.args.tau)
total_word c =
    let t = total_small (plus c.args.sigma) (kelvin c.args.tau) c.requires.sigma_most (mild c.args.tau c.requires.tau_most) in
    word_as (total_is c) (fits_size (total (plus c.args.sigma) (kelvin c.args.tau)) (omega (arith, t)))

pub scaled-requires : goal.scaled-requires
scaled-requires c = rw (total_word c) (omega (arith, total_small (plus c.args.sigma) (kelvin c.args.tau) c.requires.sigma_most (mild c.args.tau c.requires.tau_most)))

pub returns : goal.returns
returns c =
    given c.scaled.type_inv c.scaled.ensures ∙ ap (λ (z : ℤ). scaled z (pos 1)) (total_word (goal.at.returns c).After-by_salt-salt)
    ∙ rounded (plus c.args.sigma) (kelvin c.args.tau) c.requires.sigma_most (mild c.args.tau c.requires.tau_most)
