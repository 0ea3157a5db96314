-- How far a fraction that is made by sums, differences, products and inverses moves while one number that it is made of moves: where it lies, and how
-- steep it is, as boxes that are computed along with it. Assumes nothing.
use Prim.Native.Nat.{ℕ, ◌+◌, ◌*◌, ◌-◌, ◌/◌, max, ◌≤◌, ◌<◌}
use mathlib.Core.Path.{◌≡◌, refl, sym, ap}
use mathlib.Core.List.{List, [], ◌∷◌}
use native.Mathlib.Omega.{arith}
use native.Mathlib.Decide.{dec_le}
use native.Mathlib.Nat.{add-mul, mul-le-mul_right, mul-le-mul_left, mul-pos, le_of_mul-le-mul_left, div-mul-le_self, lt-div-mul-add}
use lib.IntN.{ℤ, pos}
use Rattle.whole.specs.Arith.{plus, minus}
use Rattle.whole.specs.Order.{Box}
use Rattle.whole.specs.Fraction.{Frac, units, ◌⊕◌, ◌⊖◌, ◌⊗◌, row_f}
use Rattle.whole.proofs.Ints.{mul_plus, mul_minus, no_minus}
use Rattle.whole.proofs.Interval.{◌⊞◌, only}
use Rattle.whole.proofs.Near.{Near, near_wider, sum_is, difference_is}
use Rattle.drift.proofs.Boxes.{Lies, flip, times, ◌⊠◌, least_parts, most_parts, lies_in, lies_as, lies_add, lies_turn, lies_by, lies_for, lies_mul}

infixl 6 ◌⊹◌ ◌⊹-◌
infixl 7 ◌⊛◌
-- ---- courses
-- where a number lies and how steep it is, in 10⁻⁹
pub record Course : Type 0 where
  pub box : Box
  pub slope : Box

unfoldable pub ◌⊹◌ : Course → Course → Course
e ⊹ f = record { box = e.box ⊞ f.box; slope = e.slope ⊞ f.slope }

unfoldable pub ◌⊹-◌ : Course → Course → Course
e ⊹- f = record { box = e.box ⊞ flip f.box; slope = e.slope ⊞ flip f.slope }

unfoldable pub ◌⊛◌ : Course → Course → Course
e ⊛ f = record { box = e.box ⊠ f.box; slope = f.box ⊠ e.slope ⊞ e.box ⊠ f.slope }

-- a number that stands still, and the one that moves: it is as steep as itself
unfoldable pub still : Box → Course
still b = record { box = b; slope = only (pos 0) }

unfoldable pub moving : Box → Course
moving b = record { box = b; slope = only (pos 1_000_000_000) }

-- a row, its argument on the course u
unfoldable pub along : List ℤ → Course → Course
along [] u = still (only (pos 0))
along (c ∷ cs) u = still (only c) ⊹ u ⊛ along cs u

-- one over a number above 0: from rl to rh
unfoldable pub within : ℕ → ℕ → Box → Course
within rl rh s = record { box = record { lo = pos rl; hi = pos rh }; slope = times rl rh (times rl rh (flip s)) }

unfoldable pub inverted : Course → Course
inverted e = within (1_000_000_000_000_000_000 / plus e.box.hi) (1_000_000_000_000_000_000 / plus e.box.lo + 1) e.slope

unfoldable pub inverse : Frac → Frac
inverse y = record { num = pos y.den; den = plus y.num }

-- ---- what is on a course
pub record Stands (b : Box) (f : Frac) : Type 0 where
  pub above : 0 < f.den
  pub lies : Lies 1_000_000_000 f.den b (plus f.num) (minus f.num)

-- g − f is rise f g − rise g f, over both lower numbers
abbrev pub rise : Frac → Frac → ℕ
rise f g = plus g.num * f.den + minus f.num * g.den

-- from f to g, while the number that moves rises by H/M: g − f is H/M times a number of the slope's box
pub record Runs (M H : ℕ) (e : Course) (f g : Frac) : Type 0 where
  pub from : Stands e.box f
  pub to : Stands e.box g
  pub moved : Lies (1_000_000_000 * M) (H * (f.den * g.den)) e.slope (rise f g) (rise g f)

pub runs_still : {M H : ℕ} {b : Box} {f : Frac} → Stands b f → Runs M H (still b) f f
unfolding still only
runs_still s = record { from = s; to = s; moved = record { low = omega arith; high = omega arith } }

runs_only : {M H : ℕ} (c : ℤ) → Runs M H (still (only c)) (units 1_000_000_000 c) (units 1_000_000_000 c)
unfolding units only
runs_only c = runs_still (record { above = omega arith; lies = record { low = omega arith; high = omega arith } })

-- where the moving number is, not moving
pub runs_here : {b : Box} {x : Frac} → Stands b x → Runs 0 0 (moving b) x x
unfolding moving
runs_here s = record { from = s; to = s; moved = record { low = omega arith; high = omega arith } }

stands_sum : {b c : Box} {f s : Frac} {C D d : ℕ} → Stands b f → 0 < d → Lies 1_000_000_000 d c C D →
    plus s.num + (minus f.num * d + D * f.den) ≡ minus s.num + (plus f.num * d + C * f.den) → s.den ≡ f.den * d → Stands (b ⊞ c) s
stands_sum {b} {c} {f} {s} {C} {D} {d} x d0 y e i =
    record { above = rw i (mul-pos x.above d0); lies = lies_as (lies_add (lies_by x.lies d) (lies_in (lies_by y f.den) (omega arith))) (sym i) (omega (arith, e)) }

-- ---- sums and differences: S − T over a·b is the sum of F − E over a and C − D over b
module _ (F E a C D b S T F' E' a' C' D' b' S' T' : ℕ) (e : S + (E * b + D * a) ≡ T + (F * b + C * a)) (e' : S' + (E' * b' + D' * a') ≡ T' + (F' * b' + C' * a')) where
  sums_move : (F' * a + E * a') * (b * b') + (C' * b + D * b') * (a * a') + (S * (a' * b') + T' * (a * b)) ≡ (F * a' + E' * a) * (b * b') + (C * b' + D' * b) * (a * a') + (S' * (a * b) + T * (a' * b'))
  sums_move =
      let m1 : (F' * a + E * a') * (b * b') ≡ F' * b' * (a * b) + E * b * (a' * b') = omega arith in
      let m2 : (C' * b + D * b') * (a * a') ≡ C' * a' * (a * b) + D * a * (a' * b') = omega arith in
      let m3 : (F * a' + E' * a) * (b * b') ≡ F * b * (a' * b') + E' * b' * (a * b) = omega arith in
      let m4 : (C * b' + D' * b) * (a * a') ≡ C * a * (a' * b') + D' * a' * (a * b) = omega arith in
      rw (m1, m2, m3, m4)
      (linear (F' * b' * (a * b)) (E * b * (a' * b')) (C' * a' * (a * b)) (D * a * (a' * b')) (F * b * (a' * b')) (E' * b' * (a * b)) (C * a * (a' * b')) (D' * a' * (a * b)) _ _ _ _
      (omega (arith, ap (◌* (a' * b')) e)) (omega (arith, ap (◌* (a * b)) e')))
    where
      linear : (F' E C' D F E' C D' S T S' T' : ℕ) → S + (E + D) ≡ T + (F + C) → S' + (E' + D') ≡ T' + (F' + C') → F' + E + (C' + D) + (S + T') ≡ F + E' + (C + D') + (S' + T)
      linear F' E C' D F E' C D' S T S' T' x y = omega arith

module _ {M H : ℕ} {e k : Course} {f f' g g' : Frac} (x : Runs M H e f f') (y : Runs M H k g g') where
  pub runs_add : Runs M H (e ⊹ k) (f ⊕ g) (f' ⊕ g')
  unfolding ◌⊹◌ ◌⊕◌
  runs_add =
      record {
        from = stands_sum x.from y.from.above y.from.lies (sum_is f g) refl;
        to = stands_sum x.to y.to.above y.to.lies (sum_is f' g') refl;
        moved = lies_as (lies_add (lies_by x.moved (g.den * g'.den)) (lies_in (lies_by y.moved (f.den * f'.den)) (omega arith))) (omega arith)
            (sums_move (plus f.num) (minus f.num) f.den (plus g.num) (minus g.num) g.den _ _ (plus f'.num) (minus f'.num) f'.den (plus g'.num) (minus g'.num) g'.den _ _ (sum_is f g) (sum_is f' g'));
      }

  pub runs_less : Runs M H (e ⊹- k) (f ⊖ g) (f' ⊖ g')
  unfolding ◌⊹-◌ ◌⊖◌
  runs_less =
      record {
        from = stands_sum x.from y.from.above (lies_turn y.from.lies) (difference_is f g) refl;
        to = stands_sum x.to y.to.above (lies_turn y.to.lies) (difference_is f' g') refl;
        moved = lies_as (lies_add (lies_by x.moved (g.den * g'.den)) (lies_in (lies_by (lies_as (lies_turn y.moved) refl (omega arith)) (f.den * f'.den)) (omega arith))) (omega arith)
            (sums_move (plus f.num) (minus f.num) f.den (minus g.num) (plus g.num) g.den _ _ (plus f'.num) (minus f'.num) f'.den (minus g'.num) (plus g'.num) g'.den _ _ (difference_is f g) (difference_is f' g'));
      }

-- ---- products: x'·f' − x·f is f'·(x' − x) + x·(f' − f)
products_move : (X W y X' W' y' F E g F' E' g' : ℕ) →
    (F' * (X' * y + W * y') + E' * (X * y' + W' * y)) * g + (X * (F' * g + E * g') + W * (F * g' + E' * g)) * y' + ((X * F + W * E) * (y' * g') + (X' * E' + W' * F') * (y * g)) ≡
    (F' * (X * y' + W' * y) + E' * (X' * y + W * y')) * g + (X * (F * g' + E' * g) + W * (F' * g + E * g')) * y' + ((X' * F' + W' * E') * (y * g) + (X * E + W * F) * (y' * g'))
products_move X W y X' W' y' F E g F' E' g' =
    rw (
      by_left F' X' W E' X W' y y' g,
      by_right X F' E W F E' g g' y',
      by_left F' X W' E' X' W y' y g,
      by_right X F E' W F' E g' g y',
      add-mul (X * F) (W * E) (y' * g'),
      add-mul (X' * E') (W' * F') (y * g),
      add-mul (X' * F') (W' * E') (y * g),
      add-mul (X * E) (W * F) (y' * g'),
    ) (omega arith)
  where
    by_left : (A B C D E F c d k : ℕ) → (A * (B * c + C * d) + D * (E * d + F * c)) * k ≡ B * A * (c * k) + C * A * (d * k) + (E * D * (d * k) + F * D * (c * k))
    by_left A B C D E F c d k = omega arith

    by_right : (A B C D E F c d k : ℕ) → (A * (B * c + C * d) + D * (E * d + F * c)) * k ≡ A * B * (k * c) + A * C * (k * d) + (D * E * (k * d) + D * F * (k * c))
    by_right A B C D E F c d k = omega arith

stands_mul : {b c : Box} {x f : Frac} → Stands b x → Stands c f → Stands (b ⊠ c) (x ⊗ f)
unfolding ◌⊗◌
stands_mul {b} {c} {x} {f} s t =
    record { above = mul-pos s.above t.above; lies = lies_as (lies_mul x.num s.lies t.lies) (omega arith) (omega (arith, mul_plus x.num f.num, mul_minus x.num f.num)) }

module _ {M H : ℕ} {k e : Course} {x x' f f' : Frac} (i : Runs M H k x x') (j : Runs M H e f f') where
  pub runs_mul : Runs M H (k ⊛ e) (x ⊗ f) (x' ⊗ f')
  unfolding ◌⊛◌ ◌⊗◌
  runs_mul =
      let p = products_move (plus x.num) (minus x.num) x.den (plus x'.num) (minus x'.num) x'.den (plus f.num) (minus f.num) f.den (plus f'.num) (minus f'.num) f'.den in
      record {
        from = stands_mul i.from j.from;
        to = stands_mul i.to j.to;
        moved = lies_as (lies_add (lies_by (lies_mul f'.num j.to.lies i.moved) f.den) (lies_in (lies_by (lies_mul x.num i.from.lies j.moved) x'.den) (omega arith))) (omega arith)
            (rw (mul_plus x.num f.num, mul_minus x.num f.num, mul_plus x'.num f'.num, mul_minus x'.num f'.num) p);
      }

-- a row of any length
pub runs_row : {M H : ℕ} {k : Course} {u u' : Frac} (cs : List ℤ) → Runs M H k u u' → Runs M H (along cs k) (row_f 1_000_000_000 cs u) (row_f 1_000_000_000 cs u')
unfolding along row_f
runs_row [] i = runs_only (pos 0)
runs_row (c ∷ cs) i = runs_add (runs_only c) (runs_mul i (runs_row cs i))

-- ---- inverses: Z/d is from l to h, in 10⁻⁹
record Inverse (l h Z d : ℕ) : Type 0 where
  above : 0 < Z
  low : 1_000_000_000_000_000_000 / h * Z ≤ 1_000_000_000 * d
  high : 1_000_000_000 * d ≤ (1_000_000_000_000_000_000 / l + 1) * Z

inverse_is : (l h Z d : ℕ) → 0 < l → 0 < d → l * d ≤ 1_000_000_000 * Z → 1_000_000_000 * Z ≤ h * d → Inverse l h Z d
inverse_is l h Z d l0 d0 lo hi =
    let rl = 1_000_000_000_000_000_000 / h in
    let rh = 1_000_000_000_000_000_000 / l + 1 in
    let a : rl * h ≤ 1_000_000_000_000_000_000 = div-mul-le_self 1_000_000_000_000_000_000 h in
    let b : 1_000_000_000_000_000_000 < 1_000_000_000_000_000_000 / l * l + l = lt-div-mul-add l0 in
    let c : 1_000_000_000_000_000_000 ≤ rh * l = omega arith in
    record {
      above = omega (arith, mul-pos l0 d0);
      low = omega (arith, mul-le-mul_left rl hi, mul-le-mul_right d a);
      high = omega (arith, mul-le-mul_left rh lo, mul-le-mul_right d c);
    }

module _ {M H : ℕ} {e : Course} {y y' : Frac} (i : Runs M H e y y') (firm : 0 < plus e.box.lo) where
  inverse_of : {z : Frac} → Stands e.box z → Inverse (plus e.box.lo) (plus e.box.hi) (plus z.num) z.den
  inverse_of {z} s =
      inverse_is (plus e.box.lo) (plus e.box.hi) (plus z.num) z.den firm s.above
      (least_parts 1_000_000_000 z.den e.box.lo z.num s.lies.low).0 (most_parts 1_000_000_000 z.den e.box.hi z.num s.lies.high).0

  pub runs_inverse : Runs M H (inverted e) (inverse y) (inverse y')
  unfolding inverted within inverse
  runs_inverse =
      let v = inverse_of i.from in
      let v' = inverse_of i.to in
      let rl = 1_000_000_000_000_000_000 / plus e.box.hi in
      let rh = 1_000_000_000_000_000_000 / plus e.box.lo + 1 in
      let n = ap (◌* y'.den) (no_minus y.num v.above) in
      let n' = ap (◌* y.den) (no_minus y'.num v'.above) in
      let first = lies_for (H * y'.den) y.den (plus y.num) rl rh (lies_in (lies_turn i.moved) (omega arith)) v.low v.high in
      let second = lies_for (H * plus y.num) y'.den (plus y'.num) rl rh (lies_in first (omega arith)) v'.low v'.high in
      record {
        from = record { above = v.above; lies = record { low = omega (arith, v.low); high = omega (arith, v.high) } };
        to = record { above = v'.above; lies = record { low = omega (arith, v'.low); high = omega (arith, v'.high) } };
        moved = lies_as second (omega arith) (omega (arith, n, n'));
      }

-- ---- how far two fractions are apart: at most n, of which u make 1
pub record Apart (u n : ℕ) (f g : Frac) : Type 0 where
  pub up : u * rise f g ≤ u * rise g f + n * (f.den * g.den)
  pub down : u * rise g f ≤ u * rise f g + n * (f.den * g.den)

apart_turned : {u n : ℕ} {f g : Frac} → Apart u n f g → Apart u n g f
apart_turned a = record { up = omega (arith, a.down); down = omega (arith, a.up) }

-- what is near f is near g. (One end: f is (P − N)/a, and g is (Q − S)/b.)
carry_end : (u P N a Q S b R T d n : ℕ) → 0 < a → R * a + u * N ≤ u * P + T * a + d * a → u * (P * b + S * a) ≤ u * (Q * a + N * b) + n * (a * b) → R * b + u * S ≤ u * Q + T * b + (d + n) * b
carry_end u P N a Q S b R T d n a0 h k = le_of_mul-le-mul_left {k = a} (omega (arith, mul-le-mul_right b h, k)) a0

pub near_on : {u n : ℕ} {f g : Frac} {r : ℤ} {a b : ℕ} → 0 < g.den → Near u f r a b → Apart u n f g → Near u g r (a + n) (b + n)
near_on {u} {n} {f} {g} {r} {a} {b} above h k =
    let F = plus f.num in
    let E = minus f.num in
    let G = plus g.num in
    let D = minus g.num in
    record {
      above = above;
      low = carry_end u F E f.den G D g.den (plus r) (minus r) a n h.above h.low (omega (arith, k.down));
      high = omega (arith, carry_end u E F f.den D G g.den (minus r) (plus r) b n h.above (omega (arith, h.high)) (omega (arith, k.up)));
    }

-- and no less near, if both have one value
pub near_same : {u : ℕ} {f g : Frac} {r : ℤ} {a b : ℕ} → 0 < g.den → rise f g ≡ rise g f → Near u f r a b → Near u g r a b
near_same {u} {a = a} {b = b} above e n =
    let t = ap (u *◌) e in
    near_wider a b (omega arith) (omega arith) (near_on {n = 0} above n (record { up = omega (arith, t); down = omega (arith, t) }))

-- ---- a fraction made of x, when y takes the place of x: as steep as it gets, in 10⁻⁹, times how far x and y are apart, in 10⁻⁷, is in 10⁻¹⁶
unfoldable pub steepest : Box → ℕ
steepest s = max (minus s.lo) (plus s.hi)

reach : (P N l c n k H M : ℕ) → 0 < M → 1_000_000_000 * M * N ≤ 1_000_000_000 * M * P + l * (H * k) → l ≤ c → 10_000_000 * H ≤ n * M → 10_000_000_000_000_000 * N ≤ 10_000_000_000_000_000 * P + c * n * k
reach P N l c n k H M M0 a b h =
    let x : 10_000_000 * (l * (H * k)) ≤ l * k * (n * M) = omega (arith, mul-le-mul_left (l * k) h) in
    le_of_mul-le-mul_left {k = M} (omega (arith, a, x, mul-le-mul_right (k * n * M) b)) M0

module _
    (F : Frac → Frac) {b : Box} {e : Course} (course : (M H : ℕ) (f f' : Frac) → Runs M H (moving b) f f' → Runs M H e (F f) (F f')) {n : ℕ} where
  -- y is not below x
  rises : (x y : Frac) → Stands b x → Stands b y → rise y x ≤ rise x y → Apart 10_000_000 n x y → Apart 10_000_000_000_000_000 (steepest e.slope * n) (F x) (F y)
  unfolding steepest moving only
  rises x y s t more h =
      let M = x.den * y.den in
      let H = rise x y - rise y x in
      let is : H + rise y x ≡ rise x y = omega arith in
      let z = ap (1_000_000_000 * M *◌) is in
      let r = course M H x y (record { from = s; to = t; moved = record { low = omega (arith, z); high = omega (arith, z) } }) in
      let c = e.slope in
      let k = (F x).den * (F y).den in
      let far : 10_000_000 * H ≤ n * M = omega (arith, h.up, is) in
      record {
        up = reach (rise (F y) (F x)) (rise (F x) (F y)) (plus c.hi) _ n k H M (mul-pos s.above t.above) (omega (arith, r.moved.high)) (omega arith) far;
        down = reach (rise (F x) (F y)) (rise (F y) (F x)) (minus c.lo) _ n k H M (mul-pos s.above t.above) (omega (arith, r.moved.low)) (omega arith) far;
      }

  pub near_moved : (x y : Frac) → Stands b x → Stands b y → Apart 10_000_000 n x y → {r : ℤ} {a c : ℕ} → Near 10_000_000_000_000_000 (F x) r a c →
      Near 10_000_000_000_000_000 (F y) r (a + steepest e.slope * n) (c + steepest e.slope * n)
  near_moved x y s t h near = near_on (course 0 0 y y (runs_here t)).to.above near (go (dec_le (rise y x) (rise x y)))
    where
      go : Dec (rise y x ≤ rise x y) → Apart 10_000_000_000_000_000 (steepest e.slope * n) (F x) (F y)
      go (yes k) = rises x y s t k h
      go (no k) = apart_turned (rises y x t s (omega arith) (apart_turned h))
