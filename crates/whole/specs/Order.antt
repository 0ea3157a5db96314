-- Where whole numbers lie: for the contracts of private functions, and for the laws.
use Rattle.std.specs.Prelude.{◌+◌, ◌≤◌, ℤ, ◌≤ℤ◌}
use Rattle.whole.specs.Arith.{plus, minus}

infix 4 ◌≼◌
-- a is at most b, said of naturals
abbrev pub ◌≼◌ : ℤ → ℤ → Type 0
a ≼ b = plus a + minus b ≤ plus b + minus a

-- the numbers from lo to hi
pub record Box : Type 0 where
  pub lo : ℤ
  pub hi : ℤ

pub record In (b : Box) (z : ℤ) : Type 0 where
  pub above : b.lo ≼ z
  pub below : z ≼ b.hi

-- z is from lo to hi, in the order that contracts have
pub record Lies (lo hi z : ℤ) : Type 0 where
  pub low : lo ≤ℤ z
  pub high : z ≤ℤ hi
