-- Fractions, in which SPEC puts the published formula: a pair of whole numbers, the lower one above 0; two are compared by multiplying across.
use Rattle.std.specs.Prelude.{ℕ, ◌*◌, ◌<◌, List, [], ◌∷◌, ℤ, pos, ◌+ℤ◌, ◌*ℤ◌, ◌-ℤ◌, ◌≤ℤ◌}
use Rattle.whole.specs.Arith.{plus}

infixl 6 ◌⊕◌ ◌⊖◌
infixl 7 ◌⊗◌ ◌⊘◌
infix 4 ◌≤F◌
pub record Frac : Type 0 where
  pub num : ℤ
  pub den : ℕ

-- n/m
abbrev pub over : ℕ → ℕ → Frac
over n m = record { num = pos n; den = m }

-- a number of units of which u make 1
unfoldable pub units : ℕ → ℤ → Frac
units u z = record { num = z; den = u }

unfoldable pub ◌≤F◌ : Frac → Frac → Type 0
a ≤F b = (a.num *ℤ pos b.den) ≤ℤ (b.num *ℤ pos a.den)

unfoldable pub ◌⊕◌ : Frac → Frac → Frac
a ⊕ b = record { num = a.num *ℤ pos b.den +ℤ b.num *ℤ pos a.den; den = a.den * b.den }

unfoldable pub ◌⊖◌ : Frac → Frac → Frac
a ⊖ b = record { num = a.num *ℤ pos b.den -ℤ b.num *ℤ pos a.den; den = a.den * b.den }

unfoldable pub ◌⊗◌ : Frac → Frac → Frac
a ⊗ b = record { num = a.num *ℤ b.num; den = a.den * b.den }

-- for b above 0
unfoldable pub ◌⊘◌ : Frac → Frac → Frac
a ⊘ b = record { num = a.num *ℤ pos b.den; den = a.den * plus b.num }

-- a row's exact value at x, its coefficients in units of which u make 1, lowest power first
unfoldable pub row_f : ℕ → List ℤ → Frac → Frac
row_f u [] x = units u (pos 0)
row_f u (c ∷ cs) x = units u c ⊕ x ⊗ row_f u cs x

-- z units, of which u make 1, are within e of f, a fraction whose lower number is above 0
pub record Agree (u : ℕ) (e : Frac) (z : ℤ) (f : Frac) : Type 0 where
  pub fraction : 0 < f.den
  pub upper : f ≤F units u z ⊕ e
  pub lower : units u z ≤F f ⊕ e
