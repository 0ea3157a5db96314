-- The needle of each pair of answers, in numbers: what a definition and its code would have to get wrong together is held to literals here. The
-- waters are those of SPEC's check points: salinity 0 and 35, 5 and 25 °C, 0 and 1,000 bar. Assumes nothing.
use Rattle.std.specs.Prelude.{Bool, true, false, Ok, Err}
use mathlib.Core.Path.{◌≡◌, refl}
use Prim.Native.Nat.{ℕ}
use lib.IntN.{pos}
use Rattle.whole.specs.Arith.{neg, scaled, row_value, root_from, root_of}
use Rattle.sea.specs.Table.{Dw, Ds, Dr, Dss, Kw, Ks, Kr, Aw, As, Ar, Bw, Bs}
use Rattle.sea.specs.Recipe.{rows_at, root_at, surface, K0, A, B, bulk, mass, net, gain, density, shown, bulk_of, shown_of, shown_at}
use Rattle.refusals.specs.declared.Refusal.{Refusal}
use Rattle.refusals.specs.declared.Unread.{Unread}
use Rattle.readings.specs.declared.Report.{Report}
use Rattle.readings.specs.Entry.{message}
use Rattle.readings.specs.declared.Point.{Point}
use Rattle.readings.specs.declared.Remarks.{Remarks}
use Rattle.channels.specs.Answer.{Channel, Needle, channel_at}
use Rattle.channels.specs.declared.Stop.{Stop}
use Rattle.channels.specs.Numbers.{needle_number}
use Rattle.panel.specs.Panel.{shared_of, needle_of}

-- at a pressure in 0.01 bar: salt water of 5 °C, fresh water of 25 °C
abbrev salt : ℕ → Point
salt π = record { sigma = pos 35_000; tau = pos 5_000; pi = pos π }

abbrev warm : ℕ → Point
warm π = record { sigma = pos 0; tau = pos 25_000; pi = pos π }

-- whatever the channels show and remark: 1,037,902 − 1,069,489 wherever one of the two stands at 1,000 bar, 997,048 − 1,027,675 where both are at the
-- surface; and the other way round
pub needles :
    (d k c j : ℕ) (m n : Remarks) →
    (needle_of (channel_at (salt 100_000) d k m) (channel_at (warm 0) c j n) false ≡ Ok (neg 31_587))
    × ((needle_of (channel_at (salt 0) d k m) (channel_at (warm 100_000) c j n) false ≡ Ok (neg 31_587))
    × ((needle_of (channel_at (salt 0) d k m) (channel_at (warm 0) c j n) false ≡ Ok (neg 30_627))
    × ((needle_of (channel_at (warm 0) d k m) (channel_at (salt 100_000) c j n) false ≡ Ok (pos 31_587))
    × ((needle_of (channel_at (warm 100_000) d k m) (channel_at (salt 0) c j n) false ≡ Ok (pos 31_587))
    × (needle_of (channel_at (salt 0) d k m) (channel_at (salt 100_000) c j n) false ≡ Ok (pos 0))))))
unfolding scaled row_value root_from root_of Dw Ds Dr Dss Kw Ks Kr Aw As Ar Bw Bs rows_at root_at surface K0 A B bulk mass net gain density shown bulk_of shown_of shown_at
needles d k c j m n = (refl, (refl, (refl, (refl, (refl, refl)))))

abbrev no : Channel
no = Err Refusal.Temperature

-- a needle is refused, by what stops it and by its number
abbrev pub Refuses : Needle → Stop → ℕ → Type 0
Refuses v s n = (v ≡ Err s) × (needle_number v ≡ n)

-- refused on the left, on the right, on both
pub no_needles :
    (p : Point) (d k : ℕ) (m : Remarks) (s : Bool) →
    Refuses (needle_of no (channel_at p d k m) s) (Stop.Left Refusal.Temperature) 104 × (Refuses (needle_of (channel_at p d k m) no s) (Stop.Right Refusal.Temperature) 204
    × Refuses (needle_of (Err Refusal.Missing) no s) (Stop.Left Refusal.Missing) 101)
no_needles p d k m s = ((refl, refl), ((refl, refl), (refl, refl)))

-- both accepted, of one probe
pub same_probe :
    (p q : Point) (d k c j : ℕ) (m n : Remarks) → (needle_of (channel_at p d k m) (channel_at q c j n) true ≡ Err Stop.SameProbe) × (needle_number (needle_of (channel_at p d k m) (channel_at q c j n) true) ≡ 32)
same_probe p q d k c j m n = (refl, refl)

-- numbers: the same, other than 0. One that has the bytes of another, turned round, is another; 0 is nobody's, on both sides too; and a record that gave no
-- reading has none
pub numbers :
    (a b : Report) (u : Unread) →
    (shared_of (message 17 a) (message 17 b) ≡ true) × ((shared_of (message 65_535 a) (message 65_535 b) ≡ true)
    × ((shared_of (message 17 a) (message 18 b) ≡ false) × ((shared_of (message 1 a) (message 256 b) ≡ false)
    × ((shared_of (message 255 a) (message 65_535 b) ≡ false) × ((shared_of (message 0 a) (message 0 b) ≡ false)
    × ((shared_of (message 0 a) (message 17 b) ≡ false) × ((shared_of (message 17 a) (message 0 b) ≡ false)
    × ((shared_of (Err u) (Err u) ≡ false) × ((shared_of (message 17 a) (Err u) ≡ false)
    × (shared_of (Err u) (message 17 b) ≡ false))))))))))
numbers a b u = (refl, (refl, (refl, (refl, (refl, (refl, (refl, (refl, (refl, (refl, refl))))))))))
