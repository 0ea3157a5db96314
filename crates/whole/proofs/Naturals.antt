-- A number that lies from 0 to n is a natural, as contracts have it and as it comes back from its word. Assumes nothing.
use Prim.Native.Nat.{ℕ, ◌≤◌}
use mathlib.Core.Path.{◌≡◌, ◌∙◌}
use native.Mathlib.Omega.{arith}
use lib.Dec.{le→leb}
use lib.IntN.{ℤ, pos, nat_abs}
use lib.Signed.{le_z_yes}
use mir.Syntax.{w64}
use mir.Val.{SFits}
use mir.ValLaws.{to_z-of_z}
use Rattle.whole.specs.Arith.{plus, minus}
use Rattle.whole.specs.Order.{Lies}
use Rattle.whole.proofs.Ints.{size_is, pos_plus, of_≤ℤ, below_minus, above_plus}
use Rattle.whole.proofs.Words.{word}

pub record Natural (n : ℕ) (z : ℤ) : Type 0 where
  pub is : z ≡ pos (plus z)
  pub whole : minus z ≡ 0
  pub most : plus z ≤ n
  pub size : nat_abs z ≤ n

pub natural : {n : ℕ} {z : ℤ} → Lies (pos 0) (pos n) z → Natural n z
natural {n} {z} l =
    let a = below_minus (pos 0) z (of_≤ℤ (pos 0) z l.low) in
    let b = above_plus z (pos n) (of_≤ℤ z (pos n) l.high) in
    let w : minus z ≡ 0 = omega arith in
    record { is = pos_plus z w; whole = w; most = b; size = omega (arith, size_is z) }

pub lies_natural : {m n : ℕ} → m ≤ n → Lies (pos 0) (pos n) (pos m)
lies_natural {m} {n} h = let z : 0 ≤ m = omega arith in record { low = le_z_yes (le→leb 0 m z); high = le_z_yes (le→leb m n h) }

-- as it comes back from its word
pub natural_word : {n : ℕ} {z : ℤ} → SFits w64 z → Lies (pos 0) (pos n) z → word z ≡ pos (plus z)
natural_word {z = z} f l = to_z-of_z w64 z f ∙ (natural l).is

pub lies_word : {lo hi z : ℤ} → SFits w64 z → Lies lo hi z → Lies lo hi (word z)
lies_word {lo} {hi} {z} f l = rw (to_z-of_z w64 z f) l
