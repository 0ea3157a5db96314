-- `sea::pressed` meets its contract: K is not negative, and what is shown fits. Assumes nothing.
use mathlib.Core.Path.{◌≡◌, ap, ap₂, ◌∙◌}
use native.Mathlib.Omega.{arith}
use Prim.Native.Nat.{ℕ, ◌/◌}
use mir.Syntax.{w64}
use mir.ValLaws.{to_z-of_z}
use Rattle.whole.specs.Arith.{plus}
use Rattle.whole.proofs.Words.{word, given, fits_size}
use Rattle.whole.proofs.Ints.{size_is}
use Rattle.waters.specs.declared.Water.{Water}
use Rattle.sea.specs.Recipe.{bulk, hundredths, mass, pressed_of}
use Rattle.sea.proofs.pressed.Goals.{After-bulk-k, After-unsigned, Start}
use Rattle.sea.proofs.pressed.Goals as goal

k_is : (c : After-bulk-k) → let a = c.args in word c.bulk-k.result ≡ bulk a.x.k0 a.x.a a.x.b (plus a.pi.number)
k_is c = given c.bulk-k.type_inv c.bulk-k.ensures

d_is : (b : Start) → word b.args.x.d ≡ b.args.x.d
unfolding mass
d_is b =
    let r = b.requires.ranges in
    let d = b.args.x.d in
    to_z-of_z w64 d (fits_size d (omega (arith, size_is d, r.d_whole, r.mass_high)))

hundredths_is : (c : After-unsigned) → let a = c.args in
    c.unsigned.result / 10_000_000 ≡ hundredths (bulk a.x.k0 a.x.a a.x.b (plus a.pi.number))
unfolding hundredths
hundredths_is c = ap (λ (n : ℕ). n / 10_000_000) (c.unsigned.ensures ∙ ap plus (k_is c.before.before.before))

abbrev state : ℕ → ℕ → Water
state d k = record { density = d; bulk = k }

pub returns : goal.returns
unfolding pressed_of
returns c =
    let on = goal.at.returns c in
    ap₂ state (c.compressed-density.ensures ∙ rw (d_is on.Start, k_is on.After-bulk-k)) (hundredths_is c)
