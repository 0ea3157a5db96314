-- What the salinity adds, as the code has it: the row's two steps stay small, and are the row's value. Assumes nothing.
use Prim.Native.Nat.{ℕ, ◌+◌, ◌*◌, ◌≤◌}
use mathlib.Core.Path.{◌≡◌, ap, sym}
use native.Mathlib.Omega.{arith}
use native.Mathlib.Nat.{mul-le-mul}
use lib.IntN.{ℤ, pos, nat_abs, ◌+ℤ◌, ◌*ℤ◌}
use Rattle.whole.specs.Arith.{neg, scaled, row_value}
use Rattle.whole.proofs.Ints.{size_is, add_is, mul_size, floor_size}
use Rattle.whole.proofs.Row.{row_one}
use Rattle.carbon.specs.Weiss.{salts}

-- a scaled product, and one step of a row
pub scaled_size : (h x : ℤ) (H X Q : ℕ) → nat_abs h ≤ H → nat_abs x ≤ X → H * X ≤ 100_000 * Q → nat_abs (scaled h x) ≤ Q + 1
unfolding scaled
scaled_size h x H X Q hh hx hq = omega (arith, floor_size (h *ℤ x), mul_size h x, mul-le-mul hh hx)

pub step_size : (c h x : ℤ) (H X Q : ℕ) → nat_abs h ≤ H → nat_abs x ≤ X → H * X ≤ 100_000 * Q → nat_abs (c +ℤ scaled h x) ≤ nat_abs c + Q + 1
step_size c h x H X Q hh hx hq =
    let q = scaled h x in
    let s = add_is c q in
    omega (arith, size_is (c +ℤ q), s.plus_small, s.minus_small, size_is c, size_is q, scaled_size h x H X Q hh hx hq)

abbrev pub inner : ℤ → ℤ
inner n = neg 236_560_000_000 +ℤ scaled (pos 47_036_000_000) n

abbrev pub row : ℤ → ℤ
row n = pos 235_170_000_000 +ℤ scaled (inner n) n

module _ (n : ℤ) (small : nat_abs n ≤ 313_150) where
  pub inner_small : nat_abs (inner n) ≤ 400_000_000_000
  inner_small = omega (arith, step_size (neg 236_560_000_000) (pos 47_036_000_000) n 47_036_000_000 313_150 147_293_234_000 (omega arith) small (omega arith))

  pub row_small : nat_abs (row n) ≤ 1_500_000_000_000
  row_small = omega (arith, step_size (pos 235_170_000_000) (inner n) n 400_000_000_000 313_150 1_252_600_000_000 inner_small small (omega arith))

  pub salt_small : (σ : ℤ) → nat_abs σ ≤ 42_000 → nat_abs (scaled (row n) σ) ≤ 700_000_000_000
  salt_small σ h = omega (arith, scaled_size (row n) σ 1_500_000_000_000 42_000 630_000_000_000 row_small h (omega arith))

pub row_is : (n : ℤ) → row n ≡ row_value salts n
unfolding salts row_value
row_is n = ap (λ (z : ℤ). pos 235_170_000_000 +ℤ scaled (neg 236_560_000_000 +ℤ scaled z n) n) (sym (row_one (pos 47_036_000_000) n))
