-- What a line of the paper means, and that the last one has the root. With k trials left, d is what the root's binary digits but the last k make,
-- and w is d with k noughts at its end; the trial bit is a quarter of 4ᵏ, the root so far is w·2ᵏ, and the rest is n less the square of w: so a
-- trial's square is tested by a sum. Assumes nothing.
use mathlib.Core.Path.{◌≡◌, sym, ap, ◌∙◌, subst}
use Prim.Native.Nat.{ℕ, zero, suc, ◌+◌, ◌*◌, ◌-◌, ◌/◌, ◌^◌, ◌<◌, ◌≤◌}
use native.Mathlib.Omega.{arith}
use native.Mathlib.Decide.{dec_le}
use native.Mathlib.Nat.{mul-le-mul, mul-add, add-mul, mul_comm, mul_assoc, mul-one, one-mul}
use lib.Count.{count_leading_zeros, leading_length, leading_top}
use lib.Pow.{pow_pos, pow_mono, pow-add, high as shr_high}
use lib.Dec.{leb, leb→le, nleb→lt}
use borrow.Author.Tests.{eq-eqb, ne_eqb}
use Rattle.whole.specs.declared.Trial.{Trial}
use Rattle.whole.specs.Arith.{root_of}
use Rattle.whole.specs.Paper.{◌≪◌, ◌≫◌, pairs_of, begun, tried, next, after, rooted}
use Rattle.whole.proofs.Roots.{Root, Settled, settled_start, settled_kept, settled_left, settled_end, twice, either, root_is, root_greatest, root_only, square_less, next_square}

pub record Line (n k : ℕ) (t : Trial) : Type 0 where
  pub d : ℕ
  pub w : ℕ
  pub digits : w ≡ d * 2 ^ k
  pub settled : Settled n k w
  pub bit_is : t.bit ≡ 2 ^ k * 2 ^ k / 4
  pub root_is : t.root ≡ w * 2 ^ k
  pub rest_is : t.rest + w * w ≡ n

-- ---- the first line
length_within : (m j n : ℕ) → n < 2 ^ j → 2 ^ m ≤ 2 * n + 1 → m ≤ j
length_within m j n h p = go (dec_le m j)
  where
    go : Dec (m ≤ j) → m ≤ j
    go (yes q) = q
    go (no q) =
        let g : suc j ≤ m = omega arith in
        absurd (omega (arith, pow_mono g, twice j))

-- a number of 2k binary digits has k pairs at most
pub pairs_within : (n k : ℕ) → n < 2 ^ 64 → n < 2 ^ (k + k) → pairs_of n ≤ k
unfolding pairs_of
pairs_within n k h p =
    let l = leading_length 64 n h in
    omega (arith, l.1, length_within l.0 (k + k) n p l.3)

-- twice the pairs is the number of digits, or one more
pairs_length : (n j : ℕ) → count_leading_zeros 64 n + suc j ≡ 64 → (suc j ≤ pairs_of n + pairs_of n) × (pairs_of n + pairs_of n ≤ suc (suc j))
unfolding pairs_of
pairs_length n j e = (omega arith, omega arith)

pairs_hold : (n : ℕ) → n < 2 ^ 64 → n < 2 ^ (pairs_of n + pairs_of n)
unfolding pairs_of
pairs_hold n h =
    let l = leading_length 64 n h in
    let far : l.0 ≤ pairs_of n + pairs_of n = omega (arith, l.1) in
    omega (arith, l.2, pow_mono far)

line_begun : (n : ℕ) → n < 2 ^ 64 → Line n (pairs_of n) (begun n)
unfolding begun
line_begun n h =
    let k = pairs_of n in
    let e : k ≪ 1 ≡ k + k = omega arith in
    record {
      d = 0;
      w = 0;
      digits = omega arith;
      settled = settled_start n k (pairs_hold n h) (pairs_within n 32 h h);
      bit_is = rw (e, one-mul (2 ^ (k + k)), pow-add 2 k k);
      root_is = omega arith;
      rest_is = omega arith;
    }

-- ---- a trial, with h for 2 to the k
double_square : (h : ℕ) → (h + h) * (h + h) ≡ 4 * (h * h)
double_square h = omega (arith, mul-add (h + h) h h, add-mul h h h)

sum_square : (w h : ℕ) → (w + h) * (w + h) ≡ w * w + (2 * (w * h) + h * h)
sum_square w h = omega (arith, mul-add (w + h) w h, add-mul w h w, add-mul w h h, mul_comm h w)

module _ (n k : ℕ) (t : Trial) (l : Line n (suc k) t) where
  abbrev h : ℕ
  h = 2 ^ k

  pub bit_square : t.bit ≡ h * h
  bit_square = omega (arith, l.bit_is ∙ ap (λ (m : ℕ). m * m / 4) (twice k), double_square h)

  root_double : t.root ≡ 2 * (l.w * h)
  root_double = l.root_is ∙ ap (λ (m : ℕ). l.w * m) (twice k) ∙ (mul-add l.w h h ∙ omega arith)

  w_double : l.w ≡ 2 * (l.d * h)
  w_double = l.digits ∙ ap (λ (m : ℕ). l.d * m) (twice k) ∙ (mul-add l.d h h ∙ omega arith)

  -- the trial's square, by a sum
  square : (l.w + h) * (l.w + h) ≡ l.w * l.w + (t.root + t.bit)
  square = omega (arith, sum_square l.w h, bit_square, root_double)

  pub line_tried : Line n k (tried t)
  unfolding tried
  line_tried =
      let sum = t.root + t.bit in
      either (leb sum t.rest) _ _ (Line n k)
      (λ y.
      let fits : sum ≤ t.rest = leb→le sum t.rest y in
      record {
        d = 2 * l.d + 1;
        w = l.w + h;
        digits = omega (arith, w_double, add-mul (2 * l.d) 1 h, mul_assoc 2 l.d h);
        settled = settled_kept n k l.w l.settled (omega (arith, square, l.rest_is));
        bit_is = rw bit_square;
        root_is = omega (arith, root_double, bit_square, add-mul l.w h h);
        rest_is = omega (arith, square, l.rest_is);
      })
      (λ y.
      let short : t.rest < sum = nleb→lt sum t.rest y in
      record {
        d = 2 * l.d;
        w = l.w;
        digits = omega (arith, w_double, mul_assoc 2 l.d h);
        settled = settled_left n k l.w l.settled (omega (arith, square, l.rest_is));
        bit_is = rw bit_square;
        root_is = omega (arith, root_double);
        rest_is = l.rest_is;
      })

-- the leading bit fixes the first trial bit, which is the greatest power of four that is at most n
pub first_bit : (n : ℕ) → n < 2 ^ 64 → 0 < n → ((k : ℕ) × ((begun n).bit ≡ 2 ^ k * 2 ^ k)) × (((begun n).bit ≤ n) × (n < 4 * (begun n).bit))
first_bit n h p =
    let k = pairs_of n - 1 in
    let t = leading_top 64 n p h in
    let some : pairs_of n ≡ suc k = omega (arith, pairs_length n t.0 t.1) in
    let b : (begun n).bit ≡ 2 ^ k * 2 ^ k = bit_square n k (begun n) (subst (λ (m : ℕ). Line n m (begun n)) some (line_begun n h)) in
    let low : 2 ^ (k + k) ≤ 2 ^ t.0 = pow_mono (omega (arith, pairs_length n t.0 t.1)) in
    let e : pairs_of n + pairs_of n ≡ suc (suc (k + k)) = omega arith in
    let high : n < 2 ^ suc (suc (k + k)) = rw e at (pairs_hold n h) in
    ((k, b), (omega (arith, b, pow-add 2 k k, low, t.2), omega (arith, b, pow-add 2 k k, twice (suc (k + k)), twice (k + k))))

-- ---- every line
no_bit : (n : ℕ) (t : Trial) → Line n 0 t → t.bit ≡ 0
no_bit n t l = l.bit_is

some_bit : (n k : ℕ) (t : Trial) → Line n (suc k) t → 0 < t.bit
some_bit n k t l =
    let p : 1 ≤ 2 ^ k = pow_pos k in
    omega (arith, bit_square n k t l, mul-le-mul p p)

pub next_ended : (t : Trial) → t.bit ≡ 0 → next t ≡ t
unfolding next
next_ended t e = rw (eq-eqb t.bit 0 e)

pub next_tried : (t : Trial) → 0 < t.bit → next t ≡ tried t
unfolding next
next_tried t p = rw (ne_eqb t.bit 0 (λ (e : t.bit ≡ 0). omega arith))

line_next : (n k : ℕ) (t : Trial) → Line n k t → Line n (k - 1) (next t)
line_next n zero t l = rw (next_ended t (no_bit n t l)) l
line_next n (suc k) t l =
    let e : suc k - 1 ≡ k = omega arith in
    rw (e, next_tried t (some_bit n k t l)) (line_tried n k t l)

pub line_after : (n : ℕ) → n < 2 ^ 64 → (j : ℕ) → Line n (pairs_of n - j) (after j n)
unfolding after
line_after n h zero =
    let e : pairs_of n - 0 ≡ pairs_of n = omega arith in
    rw e (line_begun n h)
line_after n h (suc j) =
    let e : pairs_of n - suc j ≡ pairs_of n - j - 1 = omega arith in
    rw e (line_next n (pairs_of n - j) (after j n) (line_after n h j))

-- so n and its root tell every number of a line
line_digits : (n k : ℕ) (t : Trial) → n < 2 ^ 64 → (l : Line n k t) → l.d ≡ (root_of n ≫ k)
line_digits n k t h l =
    let r = root_of n in
    let low : l.w ≤ r = root_greatest n h l.w l.settled.low in
    let high : r < l.w + 2 ^ k = square_less r (l.w + 2 ^ k) n (root_is n h).low l.settled.high in
    let e : l.d * 2 ^ k + (r - l.w) ≡ r = omega (arith, l.digits) in
    sym (ap (λ (m : ℕ). m ≫ k) (sym e) ∙ shr_high l.d k (omega arith))

pub line_is :
    (n : ℕ) → n < 2 ^ 64 → (j : ℕ) →
    let k = pairs_of n - j in
    let w = (root_of n ≫ k) ≪ k in
    ((after j n).bit ≡ (1 ≪ (k + k)) ≫ 2) × (((after j n).root ≡ w ≪ k) × ((after j n).rest + w * w ≡ n))
line_is n h j =
    let k = pairs_of n - j in
    let l = line_after n h j in
    let e : l.w ≡ (root_of n ≫ k) ≪ k = l.digits ∙ ap (λ (d : ℕ). d ≪ k) (line_digits n k (after j n) h l) in
    (l.bit_is ∙ rw (one-mul (2 ^ (k + k)), pow-add 2 k k), rw (← e) (l.root_is, l.rest_is))

-- past the last trial nothing changes
still : (n j i : ℕ) → (after j n).bit ≡ 0 → after (i + j) n ≡ after j n
unfolding after
still n j zero e =
    let z : 0 + j ≡ j = omega arith in
    rw z
still n j (suc i) e =
    let s : suc i + j ≡ suc (i + j) = omega arith in
    rw (s, still n j i e) (next_ended (after j n) e)

pub after_ended : (n j i : ℕ) → (after j n).bit ≡ 0 → j ≤ i → after i n ≡ after j n
after_ended n j i e l =
    let s : i ≡ i - j + j = omega arith in
    ap (λ (m : ℕ). after m n) s ∙ still n j (i - j) e

-- ---- the last line
pub line_end : (n k : ℕ) (t : Trial) → Line n k t → t.bit ≡ 0 → Root t.root n
line_end n zero t l e =
    let r : t.root ≡ l.w = l.root_is ∙ mul-one l.w in
    rw r (settled_end n l.w l.settled)
line_end n (suc k) t l e = absurd (omega (arith, some_bit n k t l))

-- no trial bit is left after as many trials as n has pairs
pub ends : (n : ℕ) → n < 2 ^ 64 → (j : ℕ) → pairs_of n ≤ j → (after j n).bit ≡ 0
ends n h j f =
    let e : pairs_of n - j ≡ 0 = omega arith in
    no_bit n (after j n) (subst (λ (k : ℕ). Line n k (after j n)) e (line_after n h j))

-- and then the root's square and the rest make n, and the rest is at most twice the root
pub last_line : (n : ℕ) → n < 2 ^ 64 → (j : ℕ) → pairs_of n ≤ j → ((after j n).root * (after j n).root + (after j n).rest ≡ n) × ((after j n).rest ≤ 2 * (after j n).root)
last_line n h j f =
    let e : pairs_of n - j ≡ 0 = omega arith in
    let l = subst (λ (k : ℕ). Line n k (after j n)) e (line_after n h j) in
    let w = l.w in
    let r : (after j n).root ≡ w = l.root_is ∙ mul-one w in
    rw r (omega (arith, l.rest_is), omega (arith, l.rest_is, (settled_end n w l.settled).high, next_square w))

-- the root on paper is the root
pub rooted_is : (n : ℕ) → n < 2 ^ 64 → rooted n ≡ root_of n
unfolding rooted
rooted_is n h = root_only _ _ n (line_end n _ (after 32 n) (line_after n h 32) (ends n h 32 (pairs_within n 32 h h))) (root_is n h)

-- ---- for the loops over the lines
pub sum_small : (n j : ℕ) → n < 2 ^ 64 → (after j n).root + (after j n).bit < 2 ^ 64
sum_small n j h = go (pairs_of n - j) (line_after n h j)
  where
    go : (k : ℕ) → Line n k (after j n) → (after j n).root + (after j n).bit < 2 ^ 64
    go zero l =
        let r = l.root_is ∙ mul-one l.w in
        omega (arith, r, no_bit n (after j n) l, l.settled.top)
    go (suc k) l =
        let top : l.w + 2 ^ k ≤ 4_294_967_295 = omega (arith, twice k, l.settled.top, pow_pos k) in
        omega (arith, square n k (after j n) l, mul-le-mul top top)

pub after_next : (n j : ℕ) → 0 < (after j n).bit → after (suc j) n ≡ tried (after j n)
unfolding after
after_next n j p = next_tried (after j n) p

pub lower : (t : Trial) → 0 < t.bit → (tried t).bit < t.bit
unfolding tried
lower t p =
    let e : (t.bit ≫ 2) < t.bit = omega arith in
    either (leb (t.root + t.bit) t.rest) _ _ (λ (u : Trial). u.bit < t.bit) (λ y. e) (λ y. e)

pub ended_rooted : (n j : ℕ) → n < 2 ^ 64 → (after j n).bit ≡ 0 → (after j n).root ≡ rooted n
ended_rooted n j h e = root_only _ _ n (line_end n _ (after j n) (line_after n h j) e) (root_is n h) ∙ sym (rooted_is n h)
