-- Where the recipe's numbers lie for every reading on the grid. The rows: one computed test over the table, and one law that
-- turns it into a box at each row. What comes after them: each step c + scaled(h; x) has a box made of the boxes of c and h.
-- Assumes nothing.
use Prim.Native.Nat.{ℕ, zero, suc, ◌+◌, ◌*◌, ◌/◌, ◌≤◌, ◌<◌}
use mathlib.Core.Bool.{Bool, true, false, cond}
use mathlib.Core.List.{List, [], ◌∷◌, map}
use native.Mathlib.Omega.{arith}
use native.Mathlib.Nat.{mul-le-mul, mul-le-mul_right, mul-le-mul_left, div-mul-le_self, le-div_iff_mul-le, lt-div-mul-add, le_of_lt}
use lib.Dec.{T}
use lib.IntN.{ℤ, pos, nat_abs, ◌+ℤ◌}
use lib.ListN.{get_or, drop}
use lib.Seq.{drop-nil}
use lib.Signed.{◌≤ℤ◌}
use Rattle.whole.specs.Arith.{neg, plus, minus, scaled, row_value}
use Rattle.whole.specs.Order.{Box, In}
use Rattle.whole.proofs.Ints.{neg_minus, of_≤ℤ, below_minus, above_plus, no_minus, add_is, scaled_n}
use Rattle.whole.proofs.Roots.{Root, root_below}
use Rattle.whole.proofs.Row.{pad}
use Rattle.whole.proofs.Interval.{both, Between, reach_down, reach_up, by, in_scaled, ◌⊞◌, in_add, only, enclose, enclosed, within, in_wider, upto, in_size}
use Rattle.sea.specs.declared.Rows.{Rows}
use Rattle.sea.specs.Table.{Dw, Ds, Dr, Dss, Kw, Ks, Kr, Aw, As, Ar, Bw, Bs, table}
use Rattle.sea.specs.Recipe.{rows_at, surface, K0, A, B, bulk, bulk_of, mass, net, gain, density, shown, hundredths}
use Rattle.sea.specs.Sizes.{Sizes, Small, Ranges, box_dw, box_ds, box_dr, box_dss, box_kw, box_ks, box_kr, box_aw, box_as, box_ar, box_bw, box_bs}

-- ---- a test that holds of every entry of a list holds of the i-th
module _ {X : Type 0} (test : X → Bool) where
  unfoldable pub every : List X → Bool
  every [] = true
  every (x ∷ xs) = cond (test x) (every xs) false

  pub every_at : (xs : List X) → T (every xs) → (d : X) → T (test d) → (i : ℕ) → T (test (get_or xs i d))
  unfolding every
  every_at [] h d k i = k
  every_at (x ∷ xs) h d k zero = (both (test x) (every xs) h).0
  every_at (x ∷ xs) h d k (suc i) = every_at xs (both (test x) (every xs) h).1 d k i

-- ---- the rows, at the temperatures of the grid
pub between : (n p : ℕ) (t : ℤ) → neg n ≤ℤ t → t ≤ℤ pos p → Between n p t
between n p t l u =
    record { down = omega (arith, below_minus (neg n) t (of_≤ℤ (neg n) t l), neg_minus (pos n)); up = above_plus t (pos p) (of_≤ℤ t (pos p) u) }

record Bound : Type 0 where
  row : List ℤ
  box : Box

bound : List ℤ → Box → Bound
bound cs b = record { row = cs; box = b }

keeps : Bound → Bool
keeps b = within (enclose 2_000 40_000 b.row) b.box

bounds : List Bound
bounds =
    bound Dw box_dw ∷ bound Ds box_ds ∷ bound Dr box_dr ∷ bound Dss box_dss ∷ bound Kw box_kw ∷ bound Ks box_ks ∷
    bound Kr box_kr ∷ bound Aw box_aw ∷ bound As box_as ∷ bound Ar box_ar ∷ bound Bw box_bw ∷ bound Bs box_bs ∷ []

all_keep : T (every keeps bounds)
unfolding every within enclose by reach_down reach_up only ◌⊞◌ Dw Ds Dr Dss Kw Ks Kr Aw As Ar Bw Bs box_dw box_ds box_dr box_dss box_kw box_ks box_kr box_aw box_as box_ar box_bw box_bs bounds bound keeps
all_keep = tt

-- a row with no coefficient, for places past the end
none : Bound
none = bound [] (only (pos 0))

pub sizes : (τ : ℤ) → Between 2_000 40_000 τ → Sizes (rows_at τ)
unfolding rows_at bounds bound keeps none within enclose only
sizes τ h =
    record {
      Dw = at 0;
      Ds = at 1;
      Dr = at 2;
      Dss = at 3;
      Kw = at 4;
      Ks = at 5;
      Kr = at 6;
      Aw = at 7;
      As = at 8;
      Ar = at 9;
      Bw = at 10;
      Bs = at 11;
    }
  where
    at : (i : ℕ) → In (get_or bounds i none).box (row_value (get_or bounds i none).row τ)
    at i =
        let b = get_or bounds i none in
        in_wider (enclose 2_000 40_000 b.row) b.box (every_at keeps bounds all_keep none tt i) (enclosed 2_000 40_000 b.row τ h)

-- ---- the steps after the rows
pub root_small : (σ w : ℕ) → σ ≤ 42_000 → Root w (σ * 100_000) → w ≤ 64_807
root_small σ w h r = root_below w 64_807 (σ * 100_000) r (omega arith)

-- the box of c + scaled(h; x), for x up to X
unfoldable pub step : ℕ → Box → Box → Box
step X c h = c ⊞ by 0 X h

pub in_step : {b d : Box} {c h : ℤ} {X : ℕ} (x : ℕ) → x ≤ X → In b c → In d h → In (step X b d) (c +ℤ scaled h (pos x))
unfolding step
in_step x k i j = in_add i (in_scaled j (pos x) (record { down = omega arith; up = k }))

-- small enough that a product by a grid number fits 64 bits
pub small : {z : ℤ} (b : Box) → T (within b (upto 46_000_000_000_000)) → In b z → Small z
small {z} b h i = in_size 46_000_000_000_000 z (in_wider b (upto 46_000_000_000_000) h i)

-- every row's value
pub record RowsFit (r : Rows) : Type 0 where
  pub Dw : Small r.Dw
  pub Ds : Small r.Ds
  pub Dr : Small r.Dr
  pub Dss : Small r.Dss
  pub Kw : Small r.Kw
  pub Ks : Small r.Ks
  pub Kr : Small r.Kr
  pub Aw : Small r.Aw
  pub As : Small r.As
  pub Ar : Small r.Ar
  pub Bw : Small r.Bw
  pub Bs : Small r.Bs

pub rows_fit : (r : Rows) → Sizes r → RowsFit r
unfolding within upto box_dw box_ds box_dr box_dss box_kw box_ks box_kr box_aw box_as box_ar box_bw box_bs
rows_fit r z =
    record {
      Dw = small box_dw tt z.Dw;
      Ds = small box_ds tt z.Ds;
      Dr = small box_dr tt z.Dr;
      Dss = small box_dss tt z.Dss;
      Kw = small box_kw tt z.Kw;
      Ks = small box_ks tt z.Ks;
      Kr = small box_kr tt z.Kr;
      Aw = small box_aw tt z.Aw;
      As = small box_as tt z.As;
      Ar = small box_ar tt z.Ar;
      Bw = small box_bw tt z.Bw;
      Bs = small box_bs tt z.Bs;
    }

-- Ds + scaled(w; Dr), and that + scaled(v; Dss)
unfoldable box_ds' : Box
box_ds' = step 64_807 box_ds box_dr

unfoldable box_dv : Box
box_dv = step 42_000 box_ds' box_dss

unfoldable box_d : Box
box_d = step 42_000 box_dw box_dv

-- Ks + scaled(w; Kr)
unfoldable box_kv : Box
box_kv = step 64_807 box_ks box_kr

unfoldable box_k0 : Box
box_k0 = step 42_000 box_kw box_kv

-- As + scaled(w; Ar)
unfoldable box_av : Box
box_av = step 64_807 box_as box_ar

unfoldable box_a : Box
box_a = step 42_000 box_aw box_av

unfoldable box_b : Box
box_b = step 42_000 box_bw box_bs

-- A + scaled(q; B)
unfoldable box_ab : Box
box_ab = step 100_000 box_a box_b

unfoldable box_k : Box
box_k = step 100_000 box_k0 box_ab

-- every sum of the recipe
pub record Fits (r : Rows) (σ w π : ℕ) : Type 0 where
  pub dr_sum : Small (r.Ds +ℤ scaled r.Dr (pos w))
  pub dss_sum : Small (r.Ds +ℤ scaled r.Dr (pos w) +ℤ scaled r.Dss (pos σ))
  pub d_sum : Small (surface r σ w)
  pub kr_sum : Small (r.Ks +ℤ scaled r.Kr (pos w))
  pub k0_sum : Small (K0 r σ w)
  pub ar_sum : Small (r.As +ℤ scaled r.Ar (pos w))
  pub a_sum : Small (A r σ w)
  pub b_sum : Small (B r σ)
  pub ab_sum : Small (A r σ w +ℤ scaled (B r σ) (pos π))
  pub k_sum : Small (bulk_of r σ w π)

module _ (r : Rows) (z : Sizes r) (σ w : ℕ) (hσ : σ ≤ 42_000) (hw : w ≤ 64_807) where
  in_ds' : In box_ds' (r.Ds +ℤ scaled r.Dr (pos w))
  unfolding box_ds'
  in_ds' = in_step w hw z.Ds z.Dr

  in_dv : In box_dv (r.Ds +ℤ scaled r.Dr (pos w) +ℤ scaled r.Dss (pos σ))
  unfolding box_dv
  in_dv = in_step σ hσ in_ds' z.Dss

  in_d : In box_d (surface r σ w)
  unfolding box_d surface
  in_d = in_step σ hσ z.Dw in_dv

  in_kv : In box_kv (r.Ks +ℤ scaled r.Kr (pos w))
  unfolding box_kv
  in_kv = in_step w hw z.Ks z.Kr

  in_k0 : In box_k0 (K0 r σ w)
  unfolding box_k0 K0
  in_k0 = in_step σ hσ z.Kw in_kv

  in_av : In box_av (r.As +ℤ scaled r.Ar (pos w))
  unfolding box_av
  in_av = in_step w hw z.As z.Ar

  in_a : In box_a (A r σ w)
  unfolding box_a A
  in_a = in_step σ hσ z.Aw in_av

  in_b : In box_b (B r σ)
  unfolding box_b B
  in_b = in_step σ hσ z.Bw z.Bs

  module _ (π : ℕ) (hπ : π ≤ 100_000) where
    in_ab : In box_ab (A r σ w +ℤ scaled (B r σ) (pos π))
    unfolding box_ab
    in_ab = in_step π hπ in_a in_b

    in_k : In box_k (bulk_of r σ w π)
    unfolding box_k bulk_of bulk
    in_k = in_step π hπ in_k0 in_ab

    pub fits : Fits r σ w π
    unfolding within upto box_ds' box_dv box_d box_kv box_k0 box_av box_a box_b box_ab box_k step ◌⊞◌ by reach_down reach_up box_dw box_ds box_dr box_dss box_kw box_ks box_kr box_aw box_as box_ar box_bw box_bs
    fits =
        record {
          dr_sum = small box_ds' tt in_ds';
          dss_sum = small box_dv tt in_dv;
          d_sum = small box_d tt in_d;
          kr_sum = small box_kv tt in_kv;
          k0_sum = small box_k0 tt in_k0;
          ar_sum = small box_av tt in_av;
          a_sum = small box_a tt in_a;
          b_sum = small box_b tt in_b;
          ab_sum = small box_ab tt in_ab;
          k_sum = small box_k tt in_k;
        }

-- ---- D, K and the density, as omega uses them
pub record DSize (d : ℤ) : Type 0 where
  pub low : 987_000_000_000 + minus d ≤ plus d
  pub high : plus d ≤ 1_040_000_000_000 + minus d

pub record KSize (k a b : ℤ) : Type 0 where
  pub k_low : 19_345_000_000_000 + minus k ≤ plus k
  pub k_high : plus k ≤ 28_400_000_000_000 + minus k
  pub a_low : 3_197_000_000_000 + minus a ≤ plus a
  pub a_high : plus a ≤ 3_640_000_000_000 + minus a
  pub b_low : minus b ≤ plus b + 211_000_000_000
  pub b_high : plus b ≤ 153_000_000_000 + minus b

module _ (r : Rows) (z : Sizes r) (σ w : ℕ) (hσ : σ ≤ 42_000) (hw : w ≤ 64_807) where
  pub d_size : DSize (surface r σ w)
  unfolding box_d box_dv box_ds' step ◌⊞◌ by reach_down reach_up box_dw box_ds box_dr box_dss
  d_size = let i = in_d r z σ w hσ hw in record { low = omega (arith, i); high = omega (arith, i) }

  pub k_size : KSize (K0 r σ w) (A r σ w) (B r σ)
  unfolding box_k0 box_kv box_a box_av box_b step ◌⊞◌ by reach_down reach_up box_kw box_ks box_kr box_aw box_as box_ar box_bw box_bs
  k_size =
      let i = in_k0 r z σ w hσ hw in
      let j = in_a r z σ w hσ hw in
      let k = in_b r z σ w hσ hw in
      record { k_low = omega (arith, i); k_high = omega (arith, i); a_low = omega (arith, j); a_high = omega (arith, j); b_low = omega (arith, k); b_high = omega (arith, k) }

-- for any pressure, scaled(q; B) is from −0.211 to 0.153 of 10¹²
module _ (b : ℤ) (π : ℕ) (hπ : π ≤ 100_000) where
  pub inner_low : minus b ≤ plus b + 211_000_000_000 → minus (scaled b (pos π)) ≤ plus (scaled b (pos π)) + 211_000_000_001
  inner_low l = omega (arith, (scaled_n b π).high, mul-le-mul_right π l)

  pub inner_high : plus b ≤ 153_000_000_000 + minus b → plus (scaled b (pos π)) ≤ 153_000_000_000 + minus (scaled b (pos π))
  inner_high u = omega (arith, (scaled_n b π).low, mul-le-mul_right π u)

module _ (k a b : ℤ) (z : KSize k a b) (π : ℕ) (hπ : π ≤ 100_000) where
  -- K is above the pressure by 19,340 bar at least
  pub bulk_low : 1_934_000_000 + 1_000 * π ≤ plus (bulk k a b π) / 10_000
  unfolding bulk
  bulk_low =
      let q = scaled b (pos π) in
      let c = a +ℤ q in
      let i = inner_low b π hπ z.b_low in
      let e : 2_980_000_000_000 + minus c ≤ plus c = omega (arith, (add_is a q).is, z.a_low) in
      let p = scaled c (pos π) in
      let f : 10_000_000 * π + minus p ≤ plus p + 1 = omega (arith, (scaled_n c π).high, mul-le-mul_right π e) in
      omega (arith, (add_is k p).is, z.k_low)

  pub bulk_high : plus (bulk k a b π) ≤ 28_400_000_000_001 + 38_000_000 * π + minus (bulk k a b π)
  unfolding bulk
  bulk_high =
      let q = scaled b (pos π) in
      let c = a +ℤ q in
      let i = inner_high b π hπ z.b_high in
      let e : plus c ≤ 3_793_000_000_000 + minus c = omega (arith, (add_is a q).is, z.a_high) in
      omega (arith, (scaled_n c π).low, mul-le-mul_right π e, (add_is k (scaled c (pos π))).is, z.k_high)

-- gain is the greatest t with t·N ≤ m·1,000·π
module _ (m π N : ℕ) where
  pub gain_mul : gain m π N * N ≤ m * (1_000 * π)
  unfolding gain
  gain_mul = div-mul-le_self (m * (1_000 * π)) N

  pub gain_least : (t : ℕ) → 0 < N → t * N ≤ m * (1_000 * π) → t ≤ gain m π N
  unfolding gain
  gain_least t h e = (le-div_iff_mul-le {k = N} h).1 e

  pub gain_top : 0 < N → m * (1_000 * π) ≤ gain m π N * N + N
  unfolding gain
  gain_top h = le_of_lt (lt-div-mul-add h)

module _ (r : Rows) (z : Sizes r) (σ w : ℕ) (hσ : σ ≤ 42_000) (hw : w ≤ 64_807) (π : ℕ) (hπ : π ≤ 100_000) where
  pub ranges : Ranges (surface r σ w) (bulk_of r σ w π) π
  unfolding bulk_of mass net shown density hundredths
  ranges =
      let d = surface r σ w in
      let k = bulk_of r σ w π in
      let ds = d_size r z σ w hσ hw in
      let ks = k_size r z σ w hσ hw in
      let l : 1_934_000_000 + 1_000 * π ≤ plus k / 10_000 = bulk_low (K0 r σ w) (A r σ w) (B r σ) ks π hπ in
      let u : plus k ≤ 28_400_000_000_001 + 38_000_000 * π + minus k = bulk_high (K0 r σ w) (A r σ w) (B r σ) ks π hπ in
      let dw = no_minus d (omega (arith, ds.low)) in
      let kw = no_minus k (omega arith) in
      let m : mass d ≤ 1_040_000_000 = omega (arith, ds.high) in
      let N : 1_934_000_000 ≤ net k π = omega arith in
      let g : gain (mass d) π (net k π) ≤ 54_000_000 = omega (arith, gain_mul (mass d) π (net k π), mul-le-mul_left (gain (mass d) π (net k π)) N, mul-le-mul m hπ) in
      record {
        d_whole = dw;
        k_whole = kw;
        mass_low = omega (arith, ds.low);
        mass_high = m;
        net_is = omega arith;
        net_low = N;
        net_high = omega arith;
        gain_high = g;
        shown_low = omega (arith, ds.low);
        shown_high = omega arith;
        hundredths_low = omega arith;
        hundredths_high = omega arith;
      }

-- ---- the rows as the code has them, six coefficients each
-- every step of a row is small: from each coefficient upwards
unfoldable pub steps_small : List ℤ → Bool
steps_small [] = true
steps_small (c ∷ cs) = cond (within (enclose 2_000 40_000 (c ∷ cs)) (upto 46_000_000_000_000)) (steps_small cs) false

module _ (τ : ℤ) (h : Between 2_000 40_000 τ) where
  pub step_small : (cs : List ℤ) → T (steps_small cs) → (k : ℕ) → nat_abs (row_value (drop k cs) τ) ≤ 46_000_000_000_000
  unfolding steps_small
  step_small [] t k = rw drop-nil (unfold row_value in omega arith)
  step_small (c ∷ cs) t zero =
      let b = enclose 2_000 40_000 (c ∷ cs) in
      small b (both (within b (upto 46_000_000_000_000)) (steps_small cs) t).0 (enclosed 2_000 40_000 (c ∷ cs) τ h)
  step_small (c ∷ cs) t (suc k) =
      let b = enclose 2_000 40_000 (c ∷ cs) in
      step_small cs (both (within b (upto 46_000_000_000_000)) (steps_small cs) t).1 k

  -- of the twelve rows, each as six coefficients
  pub table_small : (i k : ℕ) → nat_abs (row_value (drop k (get_or (map (pad 6) table) i [])) τ) ≤ 46_000_000_000_000
  unfolding every steps_small within enclose by reach_down reach_up only ◌⊞◌ upto table Dw Ds Dr Dss Kw Ks Kr Aw As Ar Bw Bs
  table_small i k = step_small (get_or (map (pad 6) table) i []) (every_at steps_small (map (pad 6) table) tt [] tt i) k
