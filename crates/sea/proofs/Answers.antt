-- What an answer says of its grid numbers: a water is known exactly if all three lie in their ranges, and then it is the recipe's;
-- it is refused by a number exactly if the first of them outside its range is that number's. Assumes nothing.
use Prim.Native.Nat.{ℕ, ◌≤◌, ◌<◌}
use mathlib.Core.Path.{◌≡◌, refl, sym, ap, ◌∙◌, subst}
use mathlib.Core.Bool.{Bool, true, false, cond}
use Rattle.std.specs.Prelude.{Result, Ok, Err}
use native.Mathlib.Omega.{arith}
use lib.Dec.{T}
use lib.IntN.{ℤ, pos}
use lib.Signed.{le_z}
use Rattle.whole.specs.Arith.{neg, plus}
use Rattle.refusals.specs.declared.Refusal.{Refusal}
use Rattle.refusals.specs.declared.Refusal.TheVariants.{Salinity, Temperature, Pressure}
use Rattle.waters.specs.declared.Water.{Water}
use Rattle.waters.specs.Numbers.{known, water_density, water_bulk}
use Rattle.sea.specs.Recipe.{bulk_of, shown_of, shown_at, modulus_at, parcel_of, parcel_at}
use Rattle.sea.specs.Sizes.{Lies, OnTable}
use Rattle.sea.specs.Water.{range_of, unless, water_of, sounding, sounding_of}
use Rattle.sea.proofs.Grid.{natural, inside_lies, parcel_ranges}

-- ---- in range means true
yes : (a b : Bool) → T a → T b → cond a b false ≡ true
yes true true p q = refl
yes true false p q = absurd q
yes false b p q = absurd p

pub lies_inside : (lo hi z : ℤ) → Lies lo hi z → range_of lo hi z ≡ true
unfolding range_of
lies_inside lo hi z l = yes (le_z lo z) (le_z z hi) l.low.le l.high.le

-- a water on the table is known
pub known_on_table : (σ τ π : ℤ) → OnTable σ τ π → water_of σ τ π ≡ known (shown_at (plus σ) τ (plus π)) (modulus_at (plus σ) τ (plus π))
unfolding water_of
known_on_table σ τ π t =
    rw (lies_inside (pos 0) (pos 42_000) σ t.salinity, lies_inside (neg 2_000) (pos 40_000) τ t.temperature, lies_inside (pos 0) (pos 100_000) π t.pressure)

-- so is its sounding under any pressure of the table
pub sounding_on_table : (σ τ π π' : ℤ) → OnTable σ τ π → Lies (pos 0) (pos 100_000) π' →
    sounding_of σ τ π π' ≡ Ok (sounding (shown_at (plus σ) τ (plus π)) (modulus_at (plus σ) τ (plus π)) (shown_at (plus σ) τ (plus π')))
unfolding sounding_of
sounding_on_table σ τ π π' t d =
    let u : OnTable σ τ π' = record { salinity = t.salinity; temperature = t.temperature; pressure = d } in rw (known_on_table σ τ π t, known_on_table σ τ π' u)

-- a water that is refused has no sounding, nor is there one under a pressure off the table
pub sounding_refused : (σ τ π π' : ℤ) (r : Refusal) → water_of σ τ π ≡ Err r → sounding_of σ τ π π' ≡ Err r
unfolding sounding_of
sounding_refused σ τ π π' r e = rw (e) refl

pub sounding_off_table : (σ τ π π' : ℤ) (d k : ℕ) (r : Refusal) → water_of σ τ π ≡ known d k → water_of σ τ π' ≡ Err r → sounding_of σ τ π π' ≡ Err r
unfolding sounding_of
sounding_off_table σ τ π π' d k r e f = rw (e, f) refl

-- ---- a known water is on the table
apart : {r : Refusal} {d k : ℕ} → Err r ≡ known d k → ⊥
apart e = let z : ◌≡◌ {A = ℕ} 0 1 = cc in omega arith

passed : (a b c : Bool) (w : Result Water Refusal) {d k : ℕ} → unless a Salinity (unless b Temperature (unless c Pressure w)) ≡ known d k → (a ≡ true) × ((b ≡ true) × (c ≡ true))
passed true true true w e = (refl, (refl, refl))
passed true true false w e = absurd (apart e)
passed true false c w e = absurd (apart e)
passed false b c w e = absurd (apart e)

pub known_is_on_table : (σ τ π : ℤ) {d k : ℕ} → water_of σ τ π ≡ known d k → OnTable σ τ π
unfolding water_of
known_is_on_table σ τ π e =
    let p = passed (range_of (pos 0) (pos 42_000) σ) (range_of (neg 2_000) (pos 40_000) τ) (range_of (pos 0) (pos 100_000) π) (known (shown_at (plus σ) τ (plus π)) (modulus_at (plus σ) τ (plus π))) e in
    record {
      salinity = inside_lies (pos 0) (pos 42_000) σ p.0;
      temperature = inside_lies (neg 2_000) (pos 40_000) τ p.1.0;
      pressure = inside_lies (pos 0) (pos 100_000) π p.1.1;
    }

-- ---- what is shown of it is small
pub record Shown (σ τ π : ℤ) (d k : ℕ) : Type 0 where
  pub density_is : d ≡ shown_at (plus σ) τ (plus π)
  pub bulk_is : k ≡ modulus_at (plus σ) τ (plus π)
  pub density_low : 900_000 < d
  pub density_high : d ≤ 1_100_000
  pub bulk_low : plus π < k
  pub bulk_high : k ≤ 4_000_000

ranges_at : (σ τ π : ℤ) → OnTable σ τ π → (900_000 < shown_at (plus σ) τ (plus π)) × ((shown_at (plus σ) τ (plus π) ≤ 1_100_000) × ((plus π < modulus_at (plus σ) τ (plus π)) × (modulus_at (plus σ) τ (plus π) ≤ 4_000_000)))
unfolding shown_at shown_of modulus_at bulk_of parcel_at parcel_of
ranges_at σ τ π t =
    let r = parcel_ranges (plus σ) τ π (natural t.salinity).most t.temperature (natural t.pressure) in
    (r.shown_low, (r.shown_high, (r.hundredths_low, r.hundredths_high)))

same_density : {d k d' k' : ℕ} → known d k ≡ known d' k' → d ≡ d'
same_density e = ap water_density e

same_bulk : {d k d' k' : ℕ} → known d k ≡ known d' k' → k ≡ k'
same_bulk e = ap water_bulk e

pub known_shows : (σ τ π : ℤ) {d k : ℕ} → water_of σ τ π ≡ known d k → Shown σ τ π d k
known_shows σ τ π {d} {k} e =
    let t = known_is_on_table σ τ π e in
    let q : known d k ≡ known (shown_at (plus σ) τ (plus π)) (modulus_at (plus σ) τ (plus π)) = sym e ∙ known_on_table σ τ π t in
    let r = ranges_at σ τ π t in
    let a = same_density q in
    let b = same_bulk q in
    record {
      density_is = a;
      bulk_is = b;
      density_low = omega (arith, a, r.0);
      density_high = omega (arith, a, r.1.0);
      bulk_low = omega (arith, b, r.1.1.0);
      bulk_high = omega (arith, b, r.1.1.1);
    }

-- ---- a refusal is for its reason alone: the first number outside its range
pub data Reason (σ τ π : ℤ) : Refusal → Type 0 where
  salinity : ¬ (Lies (pos 0) (pos 42_000) σ) → Reason σ τ π Salinity
  temperature : Lies (pos 0) (pos 42_000) σ → ¬ (Lies (neg 2_000) (pos 40_000) τ) → Reason σ τ π Temperature
  pressure : Lies (pos 0) (pos 42_000) σ → Lies (neg 2_000) (pos 40_000) τ → ¬ (Lies (pos 0) (pos 100_000) π) → Reason σ τ π Pressure

sides : true ≡ false → ⊥
sides e = let z : ◌≡◌ {A = ℕ} 0 1 = cc in omega arith

outside_not : (lo hi z : ℤ) → range_of lo hi z ≡ false → ¬ (Lies lo hi z)
outside_not lo hi z e l = sides (sym (lies_inside lo hi z l) ∙ e)

same_refusal : {r s : Refusal} → ◌≡◌ {A = Result Water Refusal} (Err r) (Err s) → r ≡ s
same_refusal e = cc

unknown : {d k : ℕ} {r : Refusal} → known d k ≡ Err r → ⊥
unknown e = let z : ◌≡◌ {A = ℕ} 0 1 = cc in omega arith

pub refused_only : (σ τ π : ℤ) (r : Refusal) → water_of σ τ π ≡ Err r → Reason σ τ π r
unfolding water_of
refused_only σ τ π r e = go (range_of (pos 0) (pos 42_000) σ) (range_of (neg 2_000) (pos 40_000) τ) (range_of (pos 0) (pos 100_000) π) refl refl refl e
  where
    go : (a b c : Bool) → range_of (pos 0) (pos 42_000) σ ≡ a → range_of (neg 2_000) (pos 40_000) τ ≡ b → range_of (pos 0) (pos 100_000) π ≡ c →
        unless a Salinity (unless b Temperature (unless c Pressure (known (shown_at (plus σ) τ (plus π)) (modulus_at (plus σ) τ (plus π))))) ≡ Err r → Reason σ τ π r
    go false b c p q s e = subst (Reason σ τ π) (same_refusal e) (salinity (outside_not (pos 0) (pos 42_000) σ p))
    go true false c p q s e = subst (Reason σ τ π) (same_refusal e) (temperature (inside_lies (pos 0) (pos 42_000) σ p) (outside_not (neg 2_000) (pos 40_000) τ q))
    go true true false p q s e =
        subst (Reason σ τ π) (same_refusal e) (pressure (inside_lies (pos 0) (pos 42_000) σ p) (inside_lies (neg 2_000) (pos 40_000) τ q) (outside_not (pos 0) (pos 100_000) π s))
    go true true true p q s e = absurd (unknown e)

-- and a reason is enough
pub not_outside : (lo hi z : ℤ) → ¬ (Lies lo hi z) → range_of lo hi z ≡ false
not_outside lo hi z n = go (range_of lo hi z) refl
  where
    go : (x : Bool) → range_of lo hi z ≡ x → x ≡ false
    go false e = refl
    go true e = absurd (n (inside_lies lo hi z e))

pub reason_refuses : (σ τ π : ℤ) {r : Refusal} → Reason σ τ π r → water_of σ τ π ≡ Err r
unfolding water_of
reason_refuses σ τ π (salinity n) = rw (not_outside (pos 0) (pos 42_000) σ n)
reason_refuses σ τ π (temperature s n) = rw (lies_inside (pos 0) (pos 42_000) σ s, not_outside (neg 2_000) (pos 40_000) τ n)
reason_refuses σ τ π (pressure s t n) = rw (lies_inside (pos 0) (pos 42_000) σ s, lies_inside (neg 2_000) (pos 40_000) τ t, not_outside (pos 0) (pos 100_000) π n)
