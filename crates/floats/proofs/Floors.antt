-- The place of a fraction, its remark with it, from three quotients rounded down: of the number, of its negation, and of its double. So equal
-- fractions have one place, and so have all fractions of a number that is far below their denominators. ℤ is read as a difference of naturals. Assumes nothing.
use Prim.Native.Nat.{ℕ, ◌+◌, ◌*◌, ◌^◌, ◌≤◌, ◌<◌}
use mathlib.Core.Path.{◌≡◌, refl, sym, ap, ◌∙◌}
use mathlib.Core.Bool.{Bool, true, false, cond, ◌&&◌}
use native.Mathlib.Nat.{mul-le-mul_left, mul-lt-mul_of_pos_right, div-eq_of_lt}
use native.Mathlib.Omega.{arith}
use native.Mathlib.Decide.{dec_le}
use lib.IntN.{ℤ, pos, negsuc, nat_abs, neg_ℤ, ◌+ℤ◌, ◌-ℤ◌, ◌*ℤ◌}
use lib.Signed.{le_z, le_z_yes}
use lib.Dec.{T, lit<}
use mir.Syntax.{w64}
use mir.Val.{SFits}
use Rattle.whole.specs.Arith.{plus, minus, floor_div}
use Rattle.whole.specs.Order.{◌≼◌}
use Rattle.whole.proofs.Ints.{size_is, neg_plus, neg_minus, add_is, sub_is, mul_plus, mul_minus, mul_size, Floored, floored, to_≤ℤ, of_≤ℤ, same}
use Rattle.whole.proofs.Words.{fits_size}
use Rattle.std.specs.Prelude.{Option, Some, None}
use Rattle.floats.specs.Grid.{seen_from}
use Rattle.floats.specs.Pattern.{place_at}
use Rattle.floats.specs.declared.Remark.TheVariants.{Below, On, Above}
use Rattle.floats.specs.declared.Place.{Place}

-- products by naturals, compared
pub across : (a c : ℤ) (d b : ℕ) → (a *ℤ pos d) ≼ (c *ℤ pos b) → plus a * d + minus c * b ≤ plus c * b + minus a * d
across a c d b h = omega (arith, h, mul_plus a (pos d), mul_minus a (pos d), mul_plus c (pos b), mul_minus c (pos b))

-- more by less than one in b-ths is not more
pub under : (b x y : ℕ) → b * x < b * y + b → x ≤ y
under b x y h = go (dec_le x y)
  where
    go : Dec (x ≤ y) → x ≤ y
    go (yes p) = p
    go (no p) =
        let f : y + 1 ≤ x = omega arith in
        absurd (omega (arith, mul-le-mul_left b f))

-- ---- quotients keep the order of fractions, which is that of products across
pub floor_order : (w v q r : ℤ) (d e : ℕ) → 0 < d → Floored w d q → Floored v e r → plus w * e + minus v * d ≤ plus v * d + minus w * e → q ≼ r
floor_order w v q r d e D f g h =
    let above : plus v + e * minus r + 1 ≤ e * plus r + minus v + e = omega (arith, g.high) in
    under (d * e) (plus q + minus r) (plus r + minus q) (omega (arith, D, mul-le-mul_left e f.low, mul-le-mul_left d above, h))

quotients_same : (w v q r : ℤ) (d e : ℕ) → 0 < d → 0 < e → Floored w d q → Floored v e r → plus w * e + minus v * d ≡ plus v * d + minus w * e → q ≡ r
quotients_same w v q r d e D E f g h =
    same q r (omega (arith, floor_order w v q r d e D f g (omega arith), floor_order v w r q e d E g f (omega arith)))

floor_same : (w v : ℤ) (d e : ℕ) → 0 < d → 0 < e → plus w * e + minus v * d ≡ plus v * d + minus w * e → floor_div w d ≡ floor_div v e
floor_same w v d e D E h = quotients_same w v (floor_div w d) (floor_div v e) d e D E (floored w d D) (floored v e E) h

-- ---- a whole number and a fraction
same_test : (a b : Bool) → (T a → T b) → (T b → T a) → a ≡ b
same_test true true f g = refl
same_test true false f g = absurd (f tt)
same_test false true f g = absurd (g tt)
same_test false false f g = refl

order_test : (a b c d : ℤ) → (a ≼ b → c ≼ d) → (c ≼ d → a ≼ b) → le_z a b ≡ le_z c d
order_test a b c d f g =
    same_test (le_z a b) (le_z c d) (λ t. (to_≤ℤ c d (f (of_≤ℤ a b (le_z_yes t)))).le) (λ t. (to_≤ℤ a b (g (of_≤ℤ c d (le_z_yes t)))).le)

module _ (w : ℤ) (d : ℕ) (D : 0 < d) where
  low_end : (lo : ℤ) → le_z (lo *ℤ pos d) w ≡ le_z lo (floor_div w d)
  low_end lo =
      let q = floor_div w d in
      let f = floored w d D in
      order_test (lo *ℤ pos d) w lo q
      (λ h. under d (plus lo + minus q) (plus q + minus lo) (omega (arith, h, mul_plus lo (pos d), mul_minus lo (pos d), f.high)))
      (λ h. omega (arith, mul-le-mul_left d h, mul_plus lo (pos d), mul_minus lo (pos d), f.low))

  halved : floor_div (pos 2 *ℤ w +ℤ pos d) (2 * d) ≡ floor_div (floor_div (pos 2 *ℤ w) d +ℤ pos 1) 2
  halved =
      let z = pos 2 *ℤ w in
      let q = floor_div z d in
      let g = floor_div (q +ℤ pos 1) 2 in
      let f = floored z d D in
      let h = floored (q +ℤ pos 1) 2 (lit< tt) in
      let s = (add_is z (pos d)).is in
      let t = (add_is q (pos 1)).is in
      let below : 2 * plus g + minus q ≤ plus q + 1 + 2 * minus g = omega (arith, h.low, t) in
      let above : plus q + 2 * minus g ≤ 2 * plus g + minus q = omega (arith, h.high, t) in
      let fit : Floored (z +ℤ pos d) (2 * d) g = record {
        low = omega (arith, f.low, s, mul-le-mul_left d below);
        high = omega (arith, f.high, s, mul-le-mul_left d above);
      } in
      let m : 0 < 2 * d = omega arith in
      quotients_same (z +ℤ pos d) (z +ℤ pos d) _ g (2 * d) (2 * d) m m (floored (z +ℤ pos d) (2 * d) m) fit (omega arith)

high_end : (w : ℤ) (d : ℕ) → 0 < d → (hi : ℤ) → le_z w (hi *ℤ pos d) ≡ le_z (pos 0 -ℤ hi) (floor_div (pos 0 -ℤ w) d)
high_end w d D hi =
    let n = pos 0 -ℤ hi in
    let v = sub_is (pos 0) w in
    let u = ap (λ (m : ℕ). d * m) (sub_is (pos 0) hi) in
    order_test w (hi *ℤ pos d) (n *ℤ pos d) (pos 0 -ℤ w)
    (λ h. omega (arith, h, u, v, mul_plus hi (pos d), mul_minus hi (pos d), mul_plus n (pos d), mul_minus n (pos d)))
    (λ h. omega (arith, h, u, v, mul_plus hi (pos d), mul_minus hi (pos d), mul_plus n (pos d), mul_minus n (pos d)))
    ∙ low_end (pos 0 -ℤ w) d D n

-- ---- the place of w / d
abbrev pub by_floors : ℤ → ℤ → ℤ → ℤ → ℤ → Option Place
by_floors lo hi a b c =
    let g = floor_div (c +ℤ pos 1) 2 in
    cond (le_z lo a && le_z (pos 0 -ℤ hi) b) (Some (record { number = g; remark = cond (le_z g a) (cond (le_z (pos 0 -ℤ g) b) On Above) Below })) None

pub by_floors_lem : (lo hi w : ℤ) (d : ℕ) → 0 < d → place_at lo hi w d ≡ by_floors lo hi (floor_div w d) (floor_div (pos 0 -ℤ w) d) (floor_div (pos 2 *ℤ w) d)
unfolding place_at
by_floors_lem lo hi w d D =
    let g = floor_div (floor_div (pos 2 *ℤ w) d +ℤ pos 1) 2 in
    rw (halved w d D, low_end w d D lo, high_end w d D hi, low_end w d D g, high_end w d D g)

pub place_same : (lo hi w v : ℤ) (d e : ℕ) → 0 < d → 0 < e → w *ℤ pos e ≡ v *ℤ pos d → place_at lo hi w d ≡ place_at lo hi v e
place_same lo hi w v d e D E h =
    let p : plus w * e + minus v * d ≡ plus v * d + minus w * e = omega (arith, ap plus h, ap minus h, mul_plus w (pos e), mul_minus w (pos e), mul_plus v (pos d), mul_minus v (pos d)) in
    let n = floor_same (pos 0 -ℤ w) (pos 0 -ℤ v) d e D E (omega (arith, p, times e (sub_is (pos 0) w), times d (sub_is (pos 0) v))) in
    let t = floor_same (pos 2 *ℤ w) (pos 2 *ℤ v) d e D E
    (omega (arith, p, times e (mul_plus (pos 2) w), times e (mul_minus (pos 2) w), times d (mul_plus (pos 2) v), times d (mul_minus (pos 2) v))) in
    cc (by_floors_lem lo hi w d D, by_floors_lem lo hi v e E, floor_same w v d e D E p, n, t)
  where
    times : (c : ℕ) {a b : ℕ} → a ≡ b → c * a ≡ c * b
    times c h = ap (λ (m : ℕ). c * m) h

-- ---- a negated number is no larger, and fits a word
neg_size : (z : ℤ) → nat_abs (pos 0 -ℤ z) ≤ nat_abs z
neg_size z =
    let p = add_is (pos 0) (neg_ℤ z) in
    omega (arith, size_is z, size_is (pos 0 -ℤ z), p.plus_small, p.minus_small, neg_plus z, neg_minus z)

pub neg_fits : (z : ℤ) → nat_abs z < 2 ^ 63 → SFits w64 (pos 0 -ℤ z)
neg_fits z h = fits_size (pos 0 -ℤ z) (omega (arith, neg_size z))

-- ---- a number below the denominator: the quotient is 0 or −1, by the sign alone
floor_small : (z : ℤ) (d e : ℕ) → nat_abs z < d → nat_abs z < e → floor_div z d ≡ floor_div z e
floor_small (pos n) d e h k = ap pos (div-eq_of_lt h ∙ sym (div-eq_of_lt k))
floor_small (negsuc n) d e h k = ap negsuc (div-eq_of_lt (omega arith) ∙ sym (div-eq_of_lt (omega arith)))

pub place_small : (lo hi w : ℤ) (d e : ℕ) → 2 * nat_abs w < d → 2 * nat_abs w < e → place_at lo hi w d ≡ place_at lo hi w e
place_small lo hi w d e h k =
    let n = pos 0 -ℤ w in
    let t = pos 2 *ℤ w in
    let nl = neg_size w in
    let tl : nat_abs t ≡ 2 * nat_abs w = omega (arith, mul_size (pos 2) w) in
    cc (by_floors_lem lo hi w d (omega arith), by_floors_lem lo hi w e (omega arith), floor_small w d e (omega arith) (omega arith), floor_small n d e (omega (arith, nl)) (omega (arith, nl)), floor_small t d e (omega (arith, tl)) (omega (arith, tl)))

-- ---- a fraction from e on, up or down, is beyond ends that are below e
between : (a b w : ℤ) (s : ℕ) → nat_abs a < s → nat_abs b < s → a ≼ w → w ≼ b → nat_abs w < s
between a b (pos n) s h k l u = omega (arith, size_is b)
between a b (negsuc n) s h k l u = omega (arith, size_is a)

pub place_far : (lo hi w : ℤ) (d e : ℕ) → 0 < d → nat_abs lo < e → nat_abs hi < e → e * d ≤ nat_abs w → None ≡ place_at lo hi w d
unfolding place_at
place_far lo hi w d e D l h f = go (le_z (lo *ℤ pos d) w) (le_z w (hi *ℤ pos d)) (λ t. of_≤ℤ (lo *ℤ pos d) w (le_z_yes t)) (λ t. of_≤ℤ w (hi *ℤ pos d) (le_z_yes t))
  where
    g : ℤ
    g = floor_div (pos 2 *ℤ w +ℤ pos d) (2 * d)

    near : (z : ℤ) → nat_abs z < e → nat_abs (z *ℤ pos d) < e * d
    near z h = omega (arith, mul_size z (pos d), mul-lt-mul_of_pos_right h D)

    there : Option Place
    there = Some (record { number = g; remark = seen_from (g *ℤ pos d) w })

    go : (a b : Bool) → (T a → (lo *ℤ pos d) ≼ w) → (T b → w ≼ (hi *ℤ pos d)) → None ≡ cond (a && b) there None
    go false b g u = refl
    go true false g u = refl
    go true true g u = absurd (omega (arith, f, between (lo *ℤ pos d) (hi *ℤ pos d) w (e * d) (near lo l) (near hi h) (g tt) (u tt)))
