-- What two sides, each worked out beside the other, say of their channels: the channel of each is its own, and the needle between them is the needle of
-- the channels. Assumes nothing.
use Rattle.std.specs.Prelude.{Result, Ok, Err}
use Prim.Native.Nat.{ℕ, ◌≤◌, max}
use mathlib.Core.Path.{◌≡◌, refl, sym, ap, ap₂, ◌∙◌}
use mathlib.Core.Bool.{Bool, true, false, cond}
use native.Mathlib.Omega.{arith}
use borrow.Author.Tests.{ltb-true, ltb-false}
use lib.Dec.{ltb}
use lib.IntN.{ℤ, pos, negsuc, ◌-ℤ◌}
use lib.Signed.{lt_z}
use Rattle.whole.specs.Arith.{plus, minus}
use Rattle.sea.specs.Sizes.{OnTable}
use Rattle.sea.specs.Recipe.{modulus_at}
use Rattle.sea.proofs.Answers.{known_on_table, sounding_on_table}
use Rattle.sea.proofs.Grid.{natural, lies_natural}
use Rattle.refusals.specs.declared.Refusal.{Refusal}
use Rattle.readings.specs.declared.Point.{Point}
use Rattle.readings.specs.declared.Remarks.{Remarks}
use Rattle.readings.specs.declared.Purpose.{Purpose}
use Rattle.readings.specs.Check.{Checked, taken_at}
use Rattle.readings.specs.Entry.{Entry}
use Rattle.readings.proofs.Answers.{taken_on_grid}
use Rattle.channels.specs.Answer.{channel_at}
use Rattle.panel.specs.declared.Side.{Side}
use Rattle.panel.specs.Panel.{filled, watered_of, entered, checked_channel, channel_of, common, shown_under, shared_of, needle_of, comparison_of}
use Rattle.panel.specs.Pairing.{pressure_of, common_of, beside_of, channel_beside, needle_between, compared_from}
use Rattle.panel.proofs.Answers.{on_table}
use Rattle.panel.proofs.Needles.{common_either}

-- what stands in a channel, put on the grid: a point of the table, or a refusal
data Placed : Checked → Type 0 where
  at : (p : Point) (m : Remarks) → OnTable p.sigma p.tau p.pi → Placed (taken_at p m)
  nowhere : (r : Refusal) → Placed (Err r)

by_check : (c : Checked) → ((p : Point) (m : Remarks) → c ≡ taken_at p m → OnTable p.sigma p.tau p.pi) → Placed c
by_check (Ok a) t = at a.at a.remarks (t a.at a.remarks refl)
by_check (Err r) t = nowhere r

placed : (e : Entry) → Placed (entered e)
placed (Ok a) = by_check _ (λ p m e. on_table p (taken_on_grid Purpose.Density a.report p m e))
placed (Err u) = nowhere _

-- a point on the table is accepted
accepted_on : (p : Point) (m : Remarks) → OnTable p.sigma p.tau p.pi
    → watered_of p m ≡ channel_at p (shown_under (plus p.pi) p) (modulus_at (plus p.sigma) p.tau (plus p.pi)) m
unfolding watered_of
accepted_on p m t = ap (filled p m) (known_on_table p.sigma p.tau p.pi t)

-- the greater of two pressures that are not negative
greater : (x y : ℤ) → minus x ≡ 0 → minus y ≡ 0 → cond (lt_z x y) y x ≡ pos (max (plus x) (plus y))
greater (pos m) (pos n) e f = go (ltb m n) refl
  where
    go : (b : Bool) → ltb m n ≡ b → cond b (pos n) (pos m) ≡ pos (max m n)
    go true h = ap pos (let g : n ≡ max m n = omega (arith, ltb-true m n h) in g)
    go false h = ap pos (let g : m ≡ max m n = omega (arith, ltb-false m n h) in g)
greater (pos m) (negsuc n) e f = absurd (let g : ⊥ = omega arith in g)
greater (negsuc m) y e f = absurd (let g : ⊥ = omega arith in g)

whole : {c : Checked} → Placed c → minus (pressure_of c) ≡ 0
whole (at p m t) = (natural t.pressure).whole
whole (nowhere r) = refl

most : {c : Checked} → Placed c → plus (pressure_of c) ≤ 100_000
most (at p m t) = (natural t.pressure).most
most (nowhere r) = omega arith

common_is : {a b : Checked} → Placed a → Placed b → common_of a b ≡ pos (max (plus (pressure_of a)) (plus (pressure_of b)))
unfolding common_of
common_is {a} {b} h g = greater (pressure_of a) (pressure_of b) (whole h) (whole g)

-- a side whose reading was taken
beside_taken : (p : Point) (m : Remarks) {b : Checked} (t : OnTable p.sigma p.tau p.pi) → Placed b →
    beside_of (taken_at p m) b ≡
    Ok (record {
      accepted = record { at = p; water = record { density = shown_under (plus p.pi) p; bulk = modulus_at (plus p.sigma) p.tau (plus p.pi) }; remarks = m };
      under = shown_under (max (plus p.pi) (plus (pressure_of b))) p;
    })
unfolding beside_of
beside_taken p m {b} t g =
    let n = max (plus p.pi) (plus (pressure_of b)) in
    let h : n ≤ 100_000 = omega (arith, most (at p m t), most g) in
    rw (common_is (at p m t) g, sounding_on_table p.sigma p.tau p.pi (pos n) t (lies_natural h))

beside_refused : (r : Refusal) (b : Checked) → beside_of (Err r) b ≡ Err r
unfolding beside_of
beside_refused r b = refl

needle_placed : {a b : Checked} → Placed a → Placed b → (s : Bool) → needle_between (beside_of a b) (beside_of b a) s ≡ needle_of (checked_channel a) (checked_channel b) s
needle_placed (nowhere r) g s = rw (beside_refused r _) refl
needle_placed (at p m t) (nowhere r) s = rw (beside_taken p m t (nowhere r), beside_refused r (taken_at p m), accepted_on p m t) refl
needle_placed (at p m t) (at q n u) true =
    rw (beside_taken p m t (at q n u), beside_taken q n u (at p m t), accepted_on p m t, accepted_on q n u) refl
needle_placed (at p m t) (at q n u) false =
    rw (beside_taken p m t (at q n u), beside_taken q n u (at p m t), accepted_on p m t, accepted_on q n u) (
    ap (λ (n : ℕ). Ok (pos (shown_under n q) -ℤ pos (shown_under (common p q) p))) (common_either p q)
    )

channel_placed : {a b : Checked} → Placed a → Placed b → channel_beside (beside_of a b) ≡ checked_channel a
channel_placed (at p m t) g = ap channel_beside (beside_taken p m t g) ∙ sym (accepted_on p m t)
channel_placed (nowhere r) g = ap channel_beside (beside_refused r _)

compared_beside : (l r : Entry) → compared_from (beside_of (entered l) (entered r)) (beside_of (entered r) (entered l)) (shared_of l r) ≡ comparison_of l r
unfolding comparison_of channel_of
compared_beside l r = rw (needle_placed (placed l) (placed r) (shared_of l r), channel_placed (placed l) (placed r), channel_placed (placed r) (placed l))

-- ---- of what calls gave, as who makes a pair has it: a and b are what `entered` gave for l and r, x and y what `beside` gave for each beside the other,
-- f what `shares` gave for both
pub compared :
    {a b : Checked} {x y : Result Side Refusal} {f : Bool} (l r : Entry) → a ≡ entered l → b ≡ entered r → x ≡ beside_of a b → y ≡ beside_of b a → f ≡ shared_of l r →
    compared_from x y f ≡ comparison_of l r
compared l r p q g h s = rw (g ∙ ap₂ beside_of p q, h ∙ ap₂ beside_of q p, s) (compared_beside l r)

-- and of one alone
pub alone : {c : Checked} {x : Result Side Refusal} (e : Entry) → c ≡ entered e → x ≡ beside_of c c → channel_beside x ≡ channel_of e
unfolding channel_of
alone e p f = ap channel_beside (f ∙ ap₂ beside_of p p) ∙ channel_placed (placed e) (placed e)
