-- The formula's course: where its density lies and how steep it is, while one of v, x, u and q moves, computed step by step as the formula is made.
-- D·K/(K − P) is taken as D + D·P/(K − P), so that what is large in D·K and in K − P does not stand against itself. Assumes nothing.
use Prim.Native.Nat.{ℕ, ◌+◌, ◌*◌, ◌<◌}
use mathlib.Core.Path.{◌≡◌, sym, ap}
use mathlib.Core.List.{List}
use native.Mathlib.Omega.{arith}
use native.Mathlib.Nat.{mul-pos}
use lib.IntN.{ℤ, pos, ◌*ℤ◌}
use Rattle.whole.specs.Arith.{plus, minus}
use Rattle.whole.specs.Fraction.{Frac, ◌⊕◌, ◌⊖◌, ◌⊗◌, ◌⊘◌}
use Rattle.whole.proofs.Ints.{mul_plus, mul_minus, no_minus}
use Rattle.whole.proofs.Interval.{only}
use Rattle.whole.proofs.Near.{Near, times_is, sum_is, difference_is}
use Rattle.sea.specs.Table.{Dw, Ds, Dr, Dss, Kw, Ks, Kr, Aw, As, Ar, Bw, Bs}
use Rattle.promises.specs.Formula.{surface_f, salted_f, b_f, bulk_f, pressure_f, compressed_f, density_at}
use Rattle.drift.proofs.Slopes.{Course, ◌⊹◌, ◌⊹-◌, ◌⊛◌, still, along, inverse, inverted, rise, Runs, runs_still, runs_add, runs_less, runs_mul, runs_row, runs_inverse, near_same}

-- ---- the courses, each as the formula's own line
unfoldable pub surface_c : Course → Course → Course → Course
surface_c v x u = along Dw u ⊹ v ⊛ (along Ds u ⊹ x ⊛ along Dr u ⊹ v ⊛ along Dss u)

unfoldable pub salted_c : List ℤ → List ℤ → List ℤ → Course → Course → Course → Course
salted_c water salt root v x u = along water u ⊹ v ⊛ (along salt u ⊹ x ⊛ along root u)

unfoldable pub bulk_c : Course → Course → Course → Course → Course
bulk_c v x u q = salted_c Kw Ks Kr v x u ⊹ q ⊛ (salted_c Aw As Ar v x u ⊹ q ⊛ (along Bw u ⊹ v ⊛ along Bs u))

unfoldable pub pressure_c : Course → Course
pressure_c q = still (only (pos 1_000_000_000_000)) ⊛ q

-- D + D·P/N, where N is K − P
unfoldable pub gained_c : Course → Course → Course → Course
gained_c D P N = D ⊹ D ⊛ (P ⊛ inverted N)

abbrev pub net_c : Course → Course → Course → Course → Course
net_c v x u q = bulk_c v x u q ⊹- pressure_c q

abbrev pub density_c : Course → Course → Course → Course → Course
density_c v x u q = gained_c (surface_c v x u) (pressure_c q) (net_c v x u q)

-- ---- the formula in that form
abbrev pub net_f : Frac → Frac → Frac → Frac → Frac
net_f v x u q = bulk_f v x u q ⊖ pressure_f q

unfoldable pub gained_f : Frac → Frac → Frac → Frac
gained_f D P N = D ⊕ D ⊗ (P ⊗ inverse N)

abbrev pub gained_at : Frac → Frac → Frac → Frac → Frac
gained_at v x u q = gained_f (surface_f v x u) (pressure_f q) (net_f v x u q)

module _ {M H : ℕ} {cv cx cu cq : Course} {v v' x x' u u' q q' : Frac} (iv : Runs M H cv v v') (ix : Runs M H cx x x') (iu : Runs M H cu u u') (iq : Runs M H cq q q') where
  pub runs_surface : Runs M H (surface_c cv cx cu) (surface_f v x u) (surface_f v' x' u')
  unfolding surface_c surface_f
  runs_surface = runs_add (runs_row Dw iu) (runs_mul iv (runs_add (runs_add (runs_row Ds iu) (runs_mul ix (runs_row Dr iu))) (runs_mul iv (runs_row Dss iu))))

  runs_salted : (water salt root : List ℤ) → Runs M H (salted_c water salt root cv cx cu) (salted_f water salt root v x u) (salted_f water salt root v' x' u')
  unfolding salted_c salted_f
  runs_salted water salt root = runs_add (runs_row water iu) (runs_mul iv (runs_add (runs_row salt iu) (runs_mul ix (runs_row root iu))))

  pub runs_bulk : Runs M H (bulk_c cv cx cu cq) (bulk_f v x u q) (bulk_f v' x' u' q')
  unfolding bulk_c bulk_f b_f
  runs_bulk = runs_add (runs_salted Kw Ks Kr) (runs_mul iq (runs_add (runs_salted Aw As Ar) (runs_mul iq (runs_add (runs_row Bw iu) (runs_mul iv (runs_row Bs iu))))))

  runs_pressure : Runs M H (pressure_c cq) (pressure_f q) (pressure_f q')
  unfolding pressure_c pressure_f only
  runs_pressure = runs_mul (runs_still (record { above = omega arith; lies = record { low = omega arith; high = omega arith } })) iq

  pub runs_net : Runs M H (net_c cv cx cu cq) (net_f v x u q) (net_f v' x' u' q')
  runs_net = runs_less runs_bulk runs_pressure

  pub runs_density : 0 < plus (net_c cv cx cu cq).box.lo → Runs M H (density_c cv cx cu cq) (gained_at v x u q) (gained_at v' x' u' q')
  unfolding gained_c gained_f
  runs_density firm = runs_add runs_surface (runs_mul runs_surface (runs_mul runs_pressure (runs_inverse runs_net firm)))

-- ---- both forms have one value: of D = (d − e)/a, K = (k − l)/b, P = (s − t)/c and K − P = Z/(b·c)
one_value : (a b c Z d e k l s t S T : ℕ) → Z + (l * c + s * b) ≡ k * c + t * b →
    S + (e * (a * (c * Z)) + (d * (t * (b * c)) + e * (s * (b * c))) * a) ≡ T + (d * (a * (c * Z)) + (d * (s * (b * c)) + e * (t * (b * c))) * a) →
    S * (a * b * Z) + (d * l + e * k) * (b * c) * (a * (a * (c * Z))) ≡ (d * k + e * l) * (b * c) * (a * (a * (c * Z))) + T * (a * b * Z)
one_value a b c Z d e k l s t S T net sum =
    let W = a * a * b * c * Z in
    let N = a * b * Z in
    let out = times_out S T (e * (a * (c * Z))) ((d * (t * (b * c)) + e * (s * (b * c))) * a) (d * (a * (c * Z))) ((d * (s * (b * c)) + e * (t * (b * c))) * a) N sum in
    let x : e * (a * (c * Z)) * N ≡ e * Z * W = omega arith in
    let y : d * (a * (c * Z)) * N ≡ d * Z * W = omega arith in
    let i : (d * (t * (b * c)) + e * (s * (b * c))) * a * N ≡ d * t * b * W + e * s * b * W = omega arith in
    let j : (d * (s * (b * c)) + e * (t * (b * c))) * a * N ≡ d * s * b * W + e * t * b * W = omega arith in
    let f : (d * l + e * k) * (b * c) * (a * (a * (c * Z))) ≡ d * l * c * W + e * k * c * W = omega arith in
    let g : (d * k + e * l) * (b * c) * (a * (a * (c * Z))) ≡ d * k * c * W + e * l * c * W = omega arith in
    rw (f, g)
    (linear (S * N) (T * N) (d * Z * W) (e * Z * W) (d * s * b * W) (d * t * b * W) (e * s * b * W) (e * t * b * W) (d * k * c * W) (d * l * c * W) (e * k * c * W) (e * l * c * W)
    (omega (arith, ap (◌* (d * W)) net)) (omega (arith, ap (◌* (e * W)) net)) (rw (← x, ← y, ← i, ← j) out))
  where
    times_out : (S T E F D G N : ℕ) → S + (E + F) ≡ T + (D + G) → S * N + (E * N + F * N) ≡ T * N + (D * N + G * N)
    times_out S T E F D G N h = omega (arith, ap (◌* N) h)

    linear : (S T dZ eZ ds dt es et dk dl ek el : ℕ) → dZ + (dl + ds) ≡ dk + dt → eZ + (el + es) ≡ ek + et → S + (eZ + (dt + es)) ≡ T + (dZ + (ds + et)) → S + (dl + ek) ≡ dk + el + T
    linear S T dZ eZ ds dt es et dk dl ek el x y z = omega arith

module _ (D K P : Frac) (firm : 0 < plus (K ⊖ P).num) where
  one : rise (compressed_f D K P) (gained_f D P (K ⊖ P)) ≡ rise (gained_f D P (K ⊖ P)) (compressed_f D K P)
  unfolding gained_f compressed_f inverse ◌⊕◌ ◌⊖◌ ◌⊗◌ ◌⊘◌
  one =
      let N = (K ⊖ P).num in
      let z = no_minus N firm in
      let net : plus N + (minus K.num * P.den + plus P.num * K.den) ≡ plus K.num * P.den + minus P.num * K.den = omega (arith, difference_is K P) in
      let S = gained_f D P (K ⊖ P) in
      let T = P.num *ℤ pos (K.den * P.den) in
      let t = times_is P.num (K.den * P.den) in
      let p = rw (t.0, t.1) at (mul_plus D.num T) in
      let m = rw (t.0, t.1) at (mul_minus D.num T) in
      let sum = rw (p, m) at (sum_is D (D ⊗ (P ⊗ inverse (K ⊖ P)))) in
      let g = times_is (D.num *ℤ K.num) (K.den * P.den) in
      rw (g.0, g.1, mul_plus D.num K.num, mul_minus D.num K.num)
      (one_value D.den K.den P.den (plus N) (plus D.num) (minus D.num) (plus K.num) (minus K.num) (plus P.num) (minus P.num) (plus S.num) (minus S.num) net sum)

-- so what is near the one is near the other, where K is above P
module _ (v x u q : Frac) (firm : 0 < plus (net_f v x u q).num) {k : ℕ} {r : ℤ} {a b : ℕ} where
  pub to_gained : 0 < (gained_at v x u q).den → Near k (density_at v x u q) r a b → Near k (gained_at v x u q) r a b
  unfolding density_at
  to_gained above n = near_same above (one (surface_f v x u) (bulk_f v x u q) (pressure_f q) firm) n

  pub of_gained : 0 < (surface_f v x u).den → 0 < (bulk_f v x u q).den → Near k (gained_at v x u q) r a b → Near k (density_at v x u q) r a b
  unfolding density_at compressed_f ◌⊗◌ ◌⊘◌
  of_gained D0 K0 n = near_same (mul-pos (mul-pos D0 K0) firm) (sym (one (surface_f v x u) (bulk_f v x u q) (pressure_f q) firm)) n
