-- A row's value: a row of one coefficient is that coefficient, noughts at the top change nothing, and one place lower is one
-- step of the recipe. Assumes nothing.
use mathlib.Core.Path.{◌≡◌, refl, sym, ap}
use mathlib.Core.List.{List, [], ◌∷◌}
use Prim.Native.Nat.{ℕ, zero, suc, ◌-◌, ◌<◌, ◌≤◌}
use native.Mathlib.Omega.{arith}
use lib.IntN.{ℤ, pos, ◌+ℤ◌, zero-*ℤ, +ℤ_idr}
use lib.ListN.{length, get_or, drop}
use lib.Seq.{drop-cons}
use Rattle.whole.specs.Arith.{scaled, row_value}

scaled_zero : (t : ℤ) → scaled (pos 0) t ≡ pos 0
unfolding scaled
scaled_zero t = rw (zero-*ℤ t)

pub row_one : (c t : ℤ) → row_value (c ∷ []) t ≡ c
unfolding row_value
row_one c t = rw (scaled_zero t) (+ℤ_idr c)

-- noughts past a row's end, up to n coefficients
abbrev pub pad : ℕ → List ℤ → List ℤ
pad zero cs = cs
pad (suc n) [] = pos 0 ∷ pad n []
pad (suc n) (c ∷ cs) = c ∷ pad n cs

pub pad_row : (n : ℕ) (cs : List ℤ) (t : ℤ) → row_value (pad n cs) t ≡ row_value cs t
unfolding row_value
pad_row zero cs t = refl
pad_row (suc n) [] t = rw (pad_row n [] t, scaled_zero t)
pad_row (suc n) (c ∷ cs) t = rw (pad_row n cs t)

pub row_step : (cs : List ℤ) (k : ℕ) (t : ℤ) → 0 < k → k ≤ length cs → get_or cs (k - 1) (pos 0) +ℤ scaled (row_value (drop k cs) t) t ≡ row_value (drop (k - 1) cs) t
unfolding row_value
row_step cs k t h l =
    let e : suc (k - 1) ≡ k = omega arith in
    let b : k - 1 < length cs = omega arith in
    rw (drop-cons cs (k - 1) (pos 0) b) (ap (λ (j : ℕ). get_or cs (k - 1) (pos 0) +ℤ scaled (row_value (drop j cs) t) t) (sym e))
