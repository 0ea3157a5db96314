-- SPEC, "The recipe in whole numbers": D, K and the density from the grid numbers σ, τ, π. Rows, D and K are in units of 10⁻⁹.
-- (D is above 0 and K above the pressure for every reading on the grid, so that `plus` and `-` cut nothing off: `ranges` of proofs/Sizes.)
use Rattle.std.specs.Prelude.{ℕ, ◌+◌, ◌*◌, ◌-◌, ◌/◌, ℤ, pos, ◌+ℤ◌}
use Rattle.whole.specs.Arith.{plus, scaled, row_value, root_of}
use Rattle.sea.specs.declared.Rows.{Rows}
use Rattle.sea.specs.declared.Parcel.{Parcel}
use Rattle.waters.specs.declared.Water.{Water}
use Rattle.sea.specs.Table.{Dw, Ds, Dr, Dss, Kw, Ks, Kr, Aw, As, Ar, Bw, Bs}

-- the values of the twelve rows at τ
unfoldable pub rows_at : ℤ → Rows
rows_at τ =
    record {
      Dw = row_value Dw τ;
      Ds = row_value Ds τ;
      Dr = row_value Dr τ;
      Dss = row_value Dss τ;
      Kw = row_value Kw τ;
      Ks = row_value Ks τ;
      Kr = row_value Kr τ;
      Aw = row_value Aw τ;
      As = row_value As τ;
      Ar = row_value Ar τ;
      Bw = row_value Bw τ;
      Bs = row_value Bs τ;
    }

-- the root w: the greatest whole number whose square is at most σ·100,000
unfoldable pub root_at : ℕ → ℕ
root_at σ = root_of (σ * 100_000)

-- surface density D = Dw + scaled(v; Ds + scaled(w; Dr) + scaled(v; Dss))
unfoldable pub surface : Rows → ℕ → ℕ → ℤ
surface r σ w = r.Dw +ℤ scaled (r.Ds +ℤ scaled r.Dr (pos w) +ℤ scaled r.Dss (pos σ)) (pos σ)

-- K0 = Kw + scaled(v; Ks + scaled(w; Kr))
unfoldable pub K0 : Rows → ℕ → ℕ → ℤ
K0 r σ w = r.Kw +ℤ scaled (r.Ks +ℤ scaled r.Kr (pos w)) (pos σ)

-- A = Aw + scaled(v; As + scaled(w; Ar))
unfoldable pub A : Rows → ℕ → ℕ → ℤ
A r σ w = r.Aw +ℤ scaled (r.As +ℤ scaled r.Ar (pos w)) (pos σ)

-- B = Bw + scaled(v; Bs)
unfoldable pub B : Rows → ℕ → ℤ
B r σ = r.Bw +ℤ scaled r.Bs (pos σ)

-- bulk modulus K = K0 + scaled(q; A + scaled(q; B))
unfoldable pub bulk : ℤ → ℤ → ℤ → ℕ → ℤ
bulk k0 a b π = k0 +ℤ scaled (a +ℤ scaled b (pos π)) (pos π)

-- K in hundredths of a bar, rounded down
unfoldable pub hundredths : ℤ → ℕ
hundredths k = plus k / 10_000_000

-- m: D/1,000 rounded down, in 10⁻⁶ kg/m³
unfoldable pub mass : ℤ → ℕ
mass d = plus d / 1_000

-- N: K in units of 10⁻⁵ bar, rounded down, less 1,000·π
unfoldable pub net : ℤ → ℕ → ℕ
net k π = plus k / 10_000 - 1_000 * π

-- what the pressure adds to m: m·1,000·π/N rounded down
unfoldable pub gain : ℕ → ℕ → ℕ → ℕ
gain m π n = m * (1_000 * π) / n

-- the density in 10⁻⁶
unfoldable pub density : ℤ → ℤ → ℕ → ℕ
density d k π = mass d + gain (mass d) π (net k π)

-- shown: that plus 500, divided by 1,000, rounded down; units 0.001 kg/m³
unfoldable pub shown : ℤ → ℤ → ℕ → ℕ
shown d k π = (density d k π + 500) / 1_000

-- ---- at the rows' values r, the grid numbers and the root
unfoldable pub bulk_of : Rows → ℕ → ℕ → ℕ → ℤ
bulk_of r σ w π = bulk (K0 r σ w) (A r σ w) (B r σ) π

unfoldable pub shown_of : Rows → ℕ → ℕ → ℕ → ℕ
shown_of r σ w π = shown (surface r σ w) (bulk_of r σ w π) π

-- what salinity and temperature alone decide
unfoldable pub parcel_of : Rows → ℕ → ℕ → Parcel
parcel_of r σ w = record { d = surface r σ w; k0 = K0 r σ w; a = A r σ w; b = B r σ }

-- ---- at the grid numbers σ, τ, π: the shown density, and the bulk modulus in hundredths of a bar
unfoldable pub shown_at : ℕ → ℤ → ℕ → ℕ
shown_at σ τ π = shown_of (rows_at τ) σ (root_at σ) π

unfoldable pub modulus_at : ℕ → ℤ → ℕ → ℕ
modulus_at σ τ π = hundredths (bulk_of (rows_at τ) σ (root_at σ) π)

unfoldable pub parcel_at : ℕ → ℤ → Parcel
parcel_at σ τ = parcel_of (rows_at τ) σ (root_at σ)

-- a parcel under a pressure
unfoldable pub pressed_of : Parcel → ℕ → Water
pressed_of x π = let k = bulk x.k0 x.a x.b π in record { density = shown x.d k π; bulk = hundredths k }
