-- Grid numbers and small numbers as the code has them: each comes back from its word unchanged, and one that is not negative is
-- the natural that the recipe speaks of. Assumes nothing.
use Prim.Native.Nat.{ℕ, zero, suc, ◌*◌, ◌≤◌}
use mathlib.Core.Path.{◌≡◌, refl, sym, ap, ap₂, ◌∙◌, subst}
use mathlib.Core.Bool.{Bool, true, false, cond}
use mathlib.Core.List.{List, [], ◌∷◌, map}
use native.Mathlib.Omega.{arith}
use lib.Dec.{T, le→leb}
use lib.IntN.{ℤ, pos, nat_abs, ◌+ℤ◌}
use lib.ListN.{get_or, drop}
use lib.Signed.{le_z, le_z_yes}
use mir.Syntax.{w64}
use mir.Val.{SFits}
use mir.ValLaws.{to_z-of_z}
use Rattle.whole.specs.Arith.{neg, plus, minus, scaled, row_value}
use Rattle.whole.proofs.Ints.{size_is, of_≤ℤ, below_minus, above_plus, pos_plus}
use Rattle.whole.proofs.Words.{word, fits_size, size_as}
use Rattle.whole.proofs.Row.{pad, pad_row}
use Rattle.whole.proofs.Roots.{root_is}
use Rattle.sea.specs.Table.{table}
use Rattle.sea.specs.Recipe.{rows_at, root_at, A, B, bulk, bulk_of, parcel_of, parcel_at}
use Rattle.sea.specs.Sizes.{Lies, Small, Salty, Stiff, Sizes, Ranges}
use Rattle.sea.specs.Water.{range_of}
use Rattle.sea.proofs.Sizes.{between, sizes, table_small, root_small, fits, ranges}

pub small_word : (z : ℤ) → Small z → word z ≡ z
small_word z h = to_z-of_z w64 z (fits_size z (omega arith))

pub small_kept : (z : ℤ) → Small z → Small (word z)
small_kept z h = size_as (small_word z h) h

-- ---- a number from 0 to n
pub record Natural (n : ℕ) (z : ℤ) : Type 0 where
  pub is : z ≡ pos (plus z)
  pub whole : minus z ≡ 0
  pub most : plus z ≤ n
  pub size : nat_abs z ≤ n

pub natural : {n : ℕ} {z : ℤ} → Lies (pos 0) (pos n) z → Natural n z
natural {n} {z} l =
    let a = below_minus (pos 0) z (of_≤ℤ (pos 0) z l.low) in
    let b = above_plus z (pos n) (of_≤ℤ z (pos n) l.high) in
    let w : minus z ≡ 0 = omega arith in
    record { is = pos_plus z w; whole = w; most = b; size = omega (arith, size_is z) }

pub wider : {m n : ℕ} {z : ℤ} → m ≤ n → Natural m z → Natural n z
wider h p = record { is = p.is; whole = p.whole; most = omega (arith, h, p.most); size = omega (arith, h, p.size) }

pub lies_natural : {m n : ℕ} → m ≤ n → Lies (pos 0) (pos n) (pos m)
lies_natural {m} {n} h = let z : 0 ≤ m = omega arith in record { low = le_z_yes (le→leb 0 m z); high = le_z_yes (le→leb m n h) }

-- as it comes back from its word
pub natural_same : {n : ℕ} {z : ℤ} → n ≤ 100_000 → Lies (pos 0) (pos n) z → word z ≡ z
natural_same {z = z} h l = small_word z (omega (arith, h, (natural l).size))

pub natural_word : {n : ℕ} {z : ℤ} → n ≤ 100_000 → Lies (pos 0) (pos n) z → word z ≡ pos (plus z)
natural_word h l = natural_same h l ∙ (natural l).is

pub lies_word : {lo hi z : ℤ} → SFits w64 z → Lies lo hi z → Lies lo hi (word z)
lies_word {lo} {hi} {z} f l = rw (to_z-of_z w64 z f) l

-- ---- what `salted` asks and gives, of small numbers at a salinity and its root
module _ (x y z : ℤ) {σ w : ℤ} (hσ : Lies (pos 0) (pos 42_000) σ) (hw : Lies (pos 0) (pos 64_807) w) (hx : Small x) (hy : Small y) (hz : Small z) where
  pub salted_asks : Small (y +ℤ scaled z (pos (plus w))) → Salty (word x) (word y) (word z) σ w
  salted_asks h =
      rw (small_word x hx, small_word y hy, small_word z hz)
      record {
        base = hx;
        salt = hy;
        root = hz;
        inner = subst (λ (v : ℤ). Small (y +ℤ scaled z v)) (sym (natural hw).is) h;
        by_σ = omega (arith, (natural hσ).size);
        by_w = omega (arith, (natural hw).size);
      }

  pub salted_gives : word x +ℤ scaled (word y +ℤ scaled (word z) w) σ ≡ x +ℤ scaled (y +ℤ scaled z (pos (plus w))) (pos (plus σ))
  salted_gives =
      rw (small_word x hx, small_word y hy, small_word z hz) (ap₂ (λ (u v : ℤ). x +ℤ scaled (y +ℤ scaled z u) v) (natural hw).is (natural hσ).is)

-- ---- what the range check shows
inside : (a b : Bool) → cond a b false ≡ true → T a × T b
inside true true e = (tt, tt)
inside true false e = cc
inside false b e = cc

pub inside_lies : (lo hi z : ℤ) → range_of lo hi z ≡ true → Lies lo hi z
unfolding range_of
inside_lies lo hi z e = let p = inside (le_z lo z) (le_z z hi) e in record { low = le_z_yes p.0; high = le_z_yes p.1 }

-- of a number that was passed on, as the check's answer r was found to be x
pub range_is : (lo hi : ℤ) {z : ℤ} {r x : Bool} → SFits w64 z → r ≡ range_of lo hi (word z) → r ≡ x → range_of lo hi z ≡ x
range_is lo hi {z} f e g = ap (λ (y : ℤ). range_of lo hi y) (sym (to_z-of_z w64 z f)) ∙ sym e ∙ g

-- ---- the i-th row, as six coefficients, at a temperature of the grid
abbrev pub padded : ℕ → List ℤ
padded i = get_or (map (pad 6) table) i []

-- a temperature comes back from its word
warm_word : {τ : ℤ} → Lies (neg 2_000) (pos 40_000) τ → word τ ≡ τ
warm_word {τ} l = let b = between 2_000 40_000 τ l.low l.high in small_word τ (omega (arith, size_is τ, b.down, b.up))

-- what `row_value` asks of it
pub row_asks : (i : ℕ) {τ : ℤ} → Lies (neg 2_000) (pos 40_000) τ → (k : ℕ) → nat_abs (row_value (drop k (padded i)) (word τ)) ≤ 46_000_000_000_000
row_asks i {τ} l = rw (warm_word l) (table_small τ (between 2_000 40_000 τ l.low l.high) i)

-- noughts past its end change nothing
pad_at : (rs : List (List ℤ)) (i : ℕ) (t : ℤ) → row_value (get_or (map (pad 6) rs) i []) t ≡ row_value (get_or rs i []) t
pad_at [] i t = refl
pad_at (r ∷ rs) zero t = pad_row 6 r t
pad_at (r ∷ rs) (suc i) t = pad_at rs i t

pub row_gives : (i : ℕ) {τ : ℤ} → Lies (neg 2_000) (pos 40_000) τ → row_value (padded i) (word τ) ≡ row_value (get_or table i []) τ
row_gives i {τ} l = ap (λ (t : ℤ). row_value (padded i) t) (warm_word l) ∙ pad_at table i τ

-- ---- a parcel on the grid is what `pressed` asks for
module _ (σ : ℕ) (τ π : ℤ) (hσ : σ ≤ 42_000) (hτ : Lies (neg 2_000) (pos 40_000) τ) (hπ : Natural 100_000 π) where
  warm : Sizes (rows_at τ)
  warm = sizes τ (between 2_000 40_000 τ hτ.low hτ.high)

  root_most : root_at σ ≤ 64_807
  unfolding root_at
  root_most = root_small σ (root_at σ) hσ (root_is (σ * 100_000) (omega arith))

  pub parcel_stiff : Stiff (parcel_at σ τ) π
  unfolding parcel_at parcel_of
  parcel_stiff =
      let f = fits (rows_at τ) warm σ (root_at σ) hσ root_most (plus π) hπ.most in
      record {
        k0 = f.k0_sum;
        a = f.a_sum;
        b = f.b_sum;
        inner = subst (λ (z : ℤ). Small (A (rows_at τ) σ (root_at σ) +ℤ scaled (B (rows_at τ) σ) z)) (sym hπ.is) f.ab_sum;
        by_π = hπ.size;
        whole = hπ.is;
      }

  pub parcel_ranges : let x = parcel_at σ τ in Ranges x.d (bulk x.k0 x.a x.b (plus π)) (plus π)
  unfolding parcel_at parcel_of bulk_of
  parcel_ranges = ranges (rows_at τ) warm σ (root_at σ) hσ root_most (plus π) hπ.most
