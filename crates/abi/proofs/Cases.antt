-- What the C ABI's numbers stand for, in numbers: what a definition and its code would have to get wrong together is held to literals here.
-- Assumes nothing.
use mathlib.Core.Path.{◌≡◌, refl, ap, ◌∙◌}
use mathlib.Core.List.{[], ◌∷◌}
use Prim.Native.Nat.{ℕ}
use borrow.Author.Tests.{ne_eqb}
use lib.IntN.{pos}
use lib.Ieee.{Float}
use Rattle.std.specs.Prelude.{Some, None, Ok, Err}
use Rattle.whole.specs.Arith.{neg}
use Rattle.refusals.specs.declared.Refusal.{Refusal}
use Rattle.refusals.specs.declared.Unread.{Unread}
use Rattle.floats.specs.declared.Remark.TheVariants.{Below, On, Above}
use Rattle.readings.specs.declared.Report.{Report}
use Rattle.readings.specs.Entry.{message}
use Rattle.kinds.proofs.Rows.{no_other}
use Rattle.channels.specs.Answer.{Channel, channel_at}
use Rattle.channels.specs.Numbers.{stop_number, needle_number}
use Rattle.channels.proofs.Cases.{value_given}
use Rattle.channels.specs.declared.Stop.{Stop}
use Rattle.channels.specs.declared.Comparison.{Comparison}
use Rattle.abi.specs.Abi.{entry_by, entry_of, channel_words, comparison_words, found_number, found_words, row_words, shown_of, shown_words}

-- the kinds of the header: each of a report's two with any number
pub six_kinds :
    (n : ℕ) (s t p : Float) →
    (entry_of 1 n s t p ≡ message n (Report.Deep s t p)) × ((entry_of 2 n s t p ≡ message n (Report.Surface s t)) × ((entry_of 3 n s t p ≡ message n Report.Missing)
    × ((entry_of 17 n s t p ≡ message n (Report.Deep s t p)) × ((entry_of 18 n s t p ≡ message n (Report.Surface s t)) × (entry_of 19 n s t p ≡ message n Report.Missing)))))
unfolding entry_of
six_kinds n s t p = (refl, (refl, (refl, (refl, (refl, refl)))))

-- so that a report's two kinds mean the same to a call
pub either_kind :
    (n : ℕ) (s t p : Float) → (entry_of 17 n s t p ≡ entry_of 1 n s t p) × ((entry_of 18 n s t p ≡ entry_of 2 n s t p) × (entry_of 19 n s t p ≡ entry_of 3 n s t p))
unfolding entry_of
either_kind n s t p = (refl, (refl, refl))

pub unread_kinds :
    (n : ℕ) (s t p : Float) →
    (entry_of 65542 n s t p ≡ Err Unread.Cut) × ((entry_of 65543 n s t p ≡ Err Unread.Kind) × ((entry_of 65544 n s t p ≡ Err Unread.Length)
    × ((entry_of 0 n s t p ≡ Err Unread.Kind) × ((entry_of 4 n s t p ≡ Err Unread.Kind) × ((entry_of 16 n s t p ≡ Err Unread.Kind) × (entry_of 20 n s t p ≡ Err Unread.Kind))))))
unfolding entry_of
unread_kinds n s t p = (refl, (refl, (refl, (refl, (refl, (refl, refl))))))

-- and every kind but these is refused by 7
pub other_kinds :
    (kind n : ℕ) (s t p : Float) → ¬ (kind ≡ 1) → ¬ (kind ≡ 2) → ¬ (kind ≡ 3) → ¬ (kind ≡ 17) → ¬ (kind ≡ 18) → ¬ (kind ≡ 19) → ¬ (kind ≡ 65542) → ¬ (kind ≡ 65544) →
    entry_of kind n s t p ≡ Err Unread.Kind
unfolding entry_of
other_kinds kind n s t p a b c d e f g h = ap (entry_by kind n s t p) (no_other kind a b c d e f) ∙ simp (ne_eqb kind 65542 g, ne_eqb kind 65544 h)

-- salinity 35 at 10 bar and -1 °C, in made-up numbers that are all different; so is the needle below, also from the difference of the two densities
abbrev deep : Channel
deep = channel_at (record { sigma = pos 35_000; tau = neg 1_000; pi = pos 1_001 }) 1_028_642 2_219_593 (record { salinity = Above; temperature = Below; pressure = On })

abbrev no : Channel
no = Err Refusal.Temperature

pub channel_words_lem :
    (channel_words deep ≡ pos 35_000 ∷ neg 1_000 ∷ pos 1_001 ∷ pos 1_028_642 ∷ pos 2_219_593 ∷ pos 3 ∷ pos 1 ∷ pos 2 ∷ [])
    × (channel_words no ≡ pos 0 ∷ pos 0 ∷ pos 0 ∷ pos 0 ∷ pos 0 ∷ pos 0 ∷ pos 0 ∷ pos 0 ∷ [])
channel_words_lem = (refl, refl)

abbrev beside : Channel
beside = channel_at (record { sigma = pos 34_000; tau = pos 5_000; pi = pos 0 }) 1_026_883 2_213_222 (record { salinity = On; temperature = On; pressure = On })

abbrev both : Comparison
both = record { left = deep; right = beside; needle = Ok (neg 1_293) }

abbrev one : Comparison
one = record { left = no; right = beside; needle = Err (Stop.Left Refusal.Temperature) }

-- of one probe
abbrev same : Comparison
same = record { left = deep; right = beside; needle = Err Stop.SameProbe }

pub comparison_words_lem :
    (comparison_words both ≡ pos 1_028_642 ∷ pos 1_026_883 ∷ neg 1_293 ∷ []) × ((comparison_words one ≡ pos 0 ∷ pos 1_026_883 ∷ pos 0 ∷ [])
    × (comparison_words same ≡ pos 1_028_642 ∷ pos 1_026_883 ∷ pos 0 ∷ []))
comparison_words_lem = (refl, (refl, refl))

pub found_words_lem :
    (found_words (Some both) ≡ pos 0 ∷ pos 1_028_642 ∷ pos 2_219_593 ∷ pos 0 ∷ pos 1_026_883 ∷ pos 2_213_222 ∷ pos 0 ∷ neg 1_293 ∷ [])
    × ((found_words (Some one) ≡ pos 4 ∷ pos 0 ∷ pos 0 ∷ pos 0 ∷ pos 1_026_883 ∷ pos 2_213_222 ∷ pos 104 ∷ pos 0 ∷ [])
    × ((found_words (Some same) ≡ pos 0 ∷ pos 1_028_642 ∷ pos 2_219_593 ∷ pos 0 ∷ pos 1_026_883 ∷ pos 2_213_222 ∷ pos 32 ∷ pos 0 ∷ [])
    × (found_words None ≡ pos 0 ∷ pos 0 ∷ pos 0 ∷ pos 0 ∷ pos 0 ∷ pos 0 ∷ pos 0 ∷ pos 0 ∷ [])))
found_words_lem = (refl, (refl, (refl, refl)))

pub found_numbers : (found_number (Some both) ≡ 1) × (found_number None ≡ 0)
found_numbers = (refl, refl)

-- a comparison is shown as `found_words` has it, whatever it is
pub comparison_shown : (x : Comparison) → shown_words stop_number (Some (shown_of x)) ≡ found_words (Some x)
comparison_shown x = ap (row_words x.left x.right (needle_number x.needle)) (value_given x.needle)

-- and whatever has a number stops a needle by it, a number too that no `Stop` has
pub any_number :
    (n : ℕ) → shown_words (λ (k : ℕ). k) (Some (record { left = deep; right = no; needle = Err n })) ≡ pos 0 ∷ pos 1_028_642 ∷ pos 2_219_593 ∷ pos 4 ∷ pos 0 ∷ pos 0 ∷ pos n ∷ pos 0 ∷ []
any_number n = refl
