-- What `shared_of` answers: yes exactly if both entries have one number, which is not 0. Assumes nothing.
use Rattle.std.specs.Prelude.{Ok, Err}
use Prim.Native.Nat.{ℕ}
use mathlib.Core.Path.{◌≡◌, refl, sym, ap}
use mathlib.Core.Bool.{Bool, true, false, cond}
use native.Mathlib.Omega.{arith}
use lib.Dec.{eqb}
use borrow.Author.Tests.{eqb-true, eqb-false, eq-eqb, ne_eqb}
use Rattle.readings.specs.Entry.{Entry, message}
use Rattle.panel.specs.Panel.{probe_of, shared_of}
use Rattle.panel.specs.Probes.{Shares}
use Rattle.panel.proofs.Samples.{fresh_of, salt_of}

by_tests : (a b : ℕ) → cond (eqb a 0) false (eqb a b) ≡ true → (a ≡ b) × ¬ (a ≡ 0)
by_tests a b = go (eqb a 0) (eqb a b) refl refl
  where
    go : (s t : Bool) → eqb a 0 ≡ s → eqb a b ≡ t → cond s false t ≡ true → (a ≡ b) × ¬ (a ≡ 0)
    go true t p q e = cc
    go false true p q e = (eqb-true a b q, eqb-false a 0 p)
    go false false p q e = cc

-- yes means what it says
pub shared_means : (l r : Entry) → shared_of l r ≡ true → Shares l r
shared_means (Ok x) (Ok y) e =
    let w = by_tests x.probe y.probe e in
    record { number = x.probe; own = w.1; left_report = x.report; left_is = refl; right_report = y.report; right_is = ap (λ (k : ℕ). message k y.report) (sym w.0) }
shared_means (Ok x) (Err u) e = let w = by_tests x.probe 0 e in absurd (w.1 w.0)
shared_means (Err u) r e = absurd ((by_tests 0 (probe_of r) e).1 refl)

pub means_shared : (l r : Entry) → Shares l r → shared_of l r ≡ true
means_shared l r s =
    let a : probe_of l ≡ s.number = ap probe_of s.left_is in
    let b : probe_of r ≡ s.number = ap probe_of s.right_is in
    rw (a, b, ne_eqb s.number 0 s.own, eq-eqb s.number s.number refl)

-- not empty: fresh and salt water by probe 17
pub shares_real : Shares (fresh_of 17) (salt_of 17)
shares_real = record { number = 17; own = λ e. absurd (omega (arith, e)); left_report = _; left_is = refl; right_report = _; right_is = refl }
