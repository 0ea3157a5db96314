-- The published formula as SPEC puts it for demand 3: the same rows and K/(K − P), in fractions and with no rounding, of any fractions: v is
-- salinity/100, u is °C/100, q is bar/1,000; x stands in place of √v. A reading on the grid has them in steps of 1/100,000.
use Rattle.std.specs.Prelude.{ℕ, List, ℤ, pos}
use Rattle.whole.specs.Fraction.{Frac, over, units, ◌⊕◌, ◌⊖◌, ◌⊗◌, ◌⊘◌, row_f}
use Rattle.sea.specs.Table.{Dw, Ds, Dr, Dss, Kw, Ks, Kr, Aw, As, Ar, Bw, Bs}

-- a row's exact value; its coefficients are in units of 10⁻⁹
abbrev pub exact : List ℤ → Frac → Frac
exact row u = row_f 1_000_000_000 row u

-- surface density D = Dw + v·(Ds + √v·Dr + v·Dss), kg/m³
unfoldable pub surface_f : Frac → Frac → Frac → Frac
surface_f v x u = exact Dw u ⊕ v ⊗ (exact Ds u ⊕ x ⊗ exact Dr u ⊕ v ⊗ exact Dss u)

-- K0 = Kw + v·(Ks + √v·Kr), and A = Aw + v·(As + √v·Ar)
unfoldable pub salted_f : List ℤ → List ℤ → List ℤ → Frac → Frac → Frac → Frac
salted_f water salt root v x u = exact water u ⊕ v ⊗ (exact salt u ⊕ x ⊗ exact root u)

-- B = Bw + v·Bs
unfoldable pub b_f : Frac → Frac → Frac
b_f v u = exact Bw u ⊕ v ⊗ exact Bs u

-- bulk modulus K = K0 + q·(A + q·B), bar
unfoldable pub bulk_f : Frac → Frac → Frac → Frac → Frac
bulk_f v x u q = salted_f Kw Ks Kr v x u ⊕ q ⊗ (salted_f Aw As Ar v x u ⊕ q ⊗ b_f v u)

-- the pressure P, bar
unfoldable pub pressure_f : Frac → Frac
pressure_f q = over 1_000 1 ⊗ q

-- D under the pressure P: D·K/(K − P)
unfoldable pub compressed_f : Frac → Frac → Frac → Frac
compressed_f D K P = D ⊗ K ⊘ (K ⊖ P)

-- density, kg/m³
unfoldable pub density_at : Frac → Frac → Frac → Frac → Frac
density_at v x u q = compressed_f (surface_f v x u) (bulk_f v x u q) (pressure_f q)

-- a grid number as v, u or q
abbrev pub grid : ℤ → Frac
grid z = units 100_000 z

-- density at grid numbers. (A fraction for every reading on the grid, its lower number above 0, so that K is above P: `formula_fraction` of proofs/Promises.)
unfoldable pub density_f : ℕ → Frac → ℤ → ℕ → Frac
density_f σ x τ π = density_at (grid (pos σ)) x (grid τ) (grid (pos π))
