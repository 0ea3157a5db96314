-- Refusal numbers: each is from 1 to 32, and no two refusals share one, since the number gives the refusal back. A record's are 6, 7
-- and 8. Assumes nothing.
use mathlib.Core.Path.{◌≡◌, refl, sym, ap, ◌∙◌}
use mathlib.Core.Bool.{cond}
use Prim.Native.Nat.{ℕ, ◌<◌, ◌≤◌}
use lib.Dec.{eqb, lit<, lit≤}
use Rattle.refusals.specs.declared.Refusal.{Refusal}
use Rattle.refusals.specs.declared.Refusal.TheVariants.{Missing, NotFinite, Salinity, Temperature, Pressure, Cut, Kind, Length, Room, PairNumber, SameProbe}
use Rattle.refusals.specs.declared.Unread.{Unread}
use Rattle.refusals.specs.Number.{number_of, refusal_of}

pub number_range : (r : Refusal) → (0 < number_of r) × (number_of r ≤ 32)
number_range Missing = (lit< tt, lit≤ tt)
number_range NotFinite = (lit< tt, lit≤ tt)
number_range Salinity = (lit< tt, lit≤ tt)
number_range Temperature = (lit< tt, lit≤ tt)
number_range Pressure = (lit< tt, lit≤ tt)
number_range Cut = (lit< tt, lit≤ tt)
number_range Kind = (lit< tt, lit≤ tt)
number_range Length = (lit< tt, lit≤ tt)
number_range Room = (lit< tt, lit≤ tt)
number_range PairNumber = (lit< tt, lit≤ tt)
number_range SameProbe = (lit< tt, lit≤ tt)

refusal_with : ℕ → Refusal
refusal_with n =
    cond (eqb n 1) Missing
    (cond (eqb n 2) NotFinite
    (cond (eqb n 3) Salinity
    (cond (eqb n 4) Temperature
    (cond (eqb n 5) Pressure
    (cond (eqb n 6) Cut
    (cond (eqb n 7) Kind
    (cond (eqb n 8) Length
    (cond (eqb n 30) Room
    (cond (eqb n 31) PairNumber SameProbe)))))))))

back : (r : Refusal) → refusal_with (number_of r) ≡ r
unfolding refusal_with
back Missing = refl
back NotFinite = refl
back Salinity = refl
back Temperature = refl
back Pressure = refl
back Cut = refl
back Kind = refl
back Length = refl
back Room = refl
back PairNumber = refl
back SameProbe = refl

pub number_only : (r s : Refusal) → number_of r ≡ number_of s → r ≡ s
number_only r s e = sym (back r) ∙ ap refusal_with e ∙ back s

pub unread_numbers : (number_of (refusal_of Unread.Cut) ≡ 6) × ((number_of (refusal_of Unread.Kind) ≡ 7) × (number_of (refusal_of Unread.Length) ≡ 8))
unread_numbers = (refl, (refl, refl))
