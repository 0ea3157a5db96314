-- Which floats can be on a grid: a float's denominator is a power of two, so that an odd factor of the steps makes no difference. On a grid of 0.001 it is
-- on exactly if it is a multiple of 1/8, on one of 0.01 exactly if it is one of 1/4. Assumes nothing.
use Prim.Native.Nat.{ℕ, zero, suc, ◌+◌, ◌-◌, ◌*◌, ◌^◌}
use mathlib.Core.Path.{◌≡◌, refl, sym, ap, ◌∙◌, subst}
use native.Mathlib.Nat.{pow-suc}
use native.Mathlib.Omega.{arith}
use lib.IntN.{ℤ, pos, negsuc, ◌-ℤ◌, ◌*ℤ◌}
use lib.Ieee.{Float, nan, inf, fin}
use Rattle.whole.specs.Arith.{plus, minus}
use Rattle.whole.proofs.Ints.{sub_is, mul_plus, mul_minus, same}
use Rattle.floats.specs.Grid.{numer, denom, grid_no, in_steps, point_of, remark_of}
use Rattle.floats.specs.declared.Remark.TheVariants.{On}
use Rattle.floats.proofs.Exact.{whole_on}
use Rattle.floats.proofs.Remarks.{on_whole}

record Power (n : ℕ) : Type 0 where
  exponent : ℕ
  is : n ≡ 2 ^ exponent

denom_power : (x : Float) → Power (denom x)
denom_power nan = record { exponent = 0; is = refl }
denom_power (inf s) = record { exponent = 0; is = refl }
denom_power (fin s m (pos k)) = record { exponent = 0; is = refl }
denom_power (fin s m (negsuc k)) = record { exponent = suc k; is = refl }

twice : (k : ℕ) → 2 ^ suc k ≡ 2 * 2 ^ k
twice k = pow-suc 2 k ∙ omega arith

-- an odd factor takes nothing from a power of two
record Multiple (m n : ℕ) : Type 0 where
  times : ℕ
  is : m ≡ times * n

halved : (d m n z : ℕ) → (2 * d + 1) * m ≡ z * (2 * n) → m ≡ 2 * (z * n - d * m)
halved d m n z h = omega arith

rest : (d h n z : ℕ) → (2 * d + 1) * (2 * h) ≡ z * (2 * n) → (2 * d + 1) * h ≡ z * n
rest d h n z e = omega arith

odd_factor : (d s m z : ℕ) → (2 * d + 1) * m ≡ z * 2 ^ s → Multiple m (2 ^ s)
odd_factor d zero m z h = record { times = m; is = omega arith }
odd_factor d (suc s) m z h =
    let n = 2 ^ s in
    let g : (2 * d + 1) * m ≡ z * (2 * n) = h ∙ ap (λ (x : ℕ). z * x) (twice s) in
    let half = z * n - d * m in
    let e : m ≡ 2 * half = halved d m n z g in
    let y = odd_factor d s half z (rest d half n z (sym (ap (λ (x : ℕ). (2 * d + 1) * x) e) ∙ g)) in
    record { times = y.times; is = e ∙ ap (λ (x : ℕ). 2 * x) y.is ∙ moved y.times n ∙ sym (ap (λ (x : ℕ). y.times * x) (twice s)) }
  where
    moved : (t n : ℕ) → 2 * (t * n) ≡ t * (2 * n)
    moved t n = omega arith

times_difference : (u v n : ℕ) → plus (pos u -ℤ pos v) * n + v * n ≡ minus (pos u -ℤ pos v) * n + u * n
times_difference u v n = omega (arith, ap (λ (m : ℕ). m * n) (sub_is (pos u) (pos v)))

-- ---- on a grid with an odd factor more: on exactly if on the one without it
module _ (d b : ℕ) (x : Float) where
  parts : (a z : ℕ) → a * ((2 * d + 1) * b) ≡ z * denom x → Multiple (a * b) (denom x)
  parts a z h =
      let p = denom_power x in
      subst (Multiple (a * b)) (sym p.is) (odd_factor d p.exponent (a * b) z (omega (arith, ap (λ (n : ℕ). z * n) p.is)))

  pub on_without : remark_of ((2 * d + 1) * b) x ≡ On → remark_of b x ≡ On
  on_without e =
      let k = (2 * d + 1) * b in
      let g = grid_no k x in
      let h = on_whole k x e in
      let u = parts (plus (numer x)) (plus g) (omega (arith, ap plus h, mul_plus (numer x) (pos k), mul_plus g (pos (denom x)))) in
      let v = parts (minus (numer x)) (minus g) (omega (arith, ap minus h, mul_minus (numer x) (pos k), mul_minus g (pos (denom x)))) in
      let z = pos u.times -ℤ pos v.times in
      (whole_on b x z (same (in_steps b x) (point_of z x) (
      omega (
        arith,
        mul_plus (numer x) (pos b),
        mul_minus (numer x) (pos b),
        mul_plus z (pos (denom x)),
        mul_minus z (pos (denom x)),
        u.is,
        v.is,
        times_difference u.times v.times (denom x),
      )))).1

  pub on_with : remark_of b x ≡ On → remark_of ((2 * d + 1) * b) x ≡ On
  on_with e =
      let c = 2 * d + 1 in
      let g = grid_no b x in
      let h = on_whole b x e in
      let z = g *ℤ pos c in
      (whole_on (c * b) x z (same (in_steps (c * b) x) (point_of z x) (
      omega (
        arith,
        mul_plus (numer x) (pos (c * b)),
        mul_minus (numer x) (pos (c * b)),
        mul_plus z (pos (denom x)),
        mul_minus z (pos (denom x)),
        ap (λ (n : ℕ). n * denom x) (mul_plus g (pos c)),
        ap (λ (n : ℕ). n * denom x) (mul_minus g (pos c)),
        ap (λ (n : ℤ). plus n * c) h,
        ap (λ (n : ℤ). minus n * c) h,
        ap (λ (n : ℕ). n * c) (mul_plus (numer x) (pos b)),
        ap (λ (n : ℕ). n * c) (mul_minus (numer x) (pos b)),
        ap (λ (n : ℕ). n * c) (mul_plus g (pos (denom x))),
        ap (λ (n : ℕ). n * c) (mul_minus g (pos (denom x))),
      )))).1

-- 1,000 is 125 times 8, and 100 is 25 times 4
pub on_eighths : (x : Float) → (remark_of 1000 x ≡ On → remark_of 8 x ≡ On) × (remark_of 8 x ≡ On → remark_of 1000 x ≡ On)
on_eighths x = (on_without 62 8 x, on_with 62 8 x)

pub on_quarters : (x : Float) → (remark_of 100 x ≡ On → remark_of 4 x ≡ On) × (remark_of 4 x ≡ On → remark_of 100 x ≡ On)
on_quarters x = (on_without 12 4 x, on_with 12 4 x)
