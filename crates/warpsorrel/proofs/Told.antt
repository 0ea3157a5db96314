-- What the C call for a needle tells is what `panel::paired` tells of the same two reports, so that all that is pledged of its needle holds of the
-- third word. `Learnt` is a contract as the checker reads it off the source. Assumes nothing.
use Rattle.std.specs.Prelude.{Option, Some, None, Result}
use Rattle.refusals.specs.declared.Refusal.{Refusal}
use Prim.Native.Nat.{ℕ}
use mathlib.Core.List.{List}
use mathlib.Core.Path.{◌≡◌, refl, sym, ap, ap₂, ◌∙◌}
use contract.Lifetimes
use lib.Seq.{sets}
use lib.IntN.{ℤ}
use lib.Ieee.{Float}
use Rattle.readings.specs.declared.Report.{Report}
use Rattle.readings.specs.Entry.{Entry, message}
use Rattle.kinds.specs.declared.Row.{Row}
use Rattle.kinds.specs.Kinds.{kind_of, report_of}
use Rattle.channels.specs.Answer.{Channel}
use Rattle.channels.specs.declared.Comparison.{Comparison}
use Rattle.channels.specs.Numbers.{channel_number, needle_number}
use Rattle.panel.specs.Panel.{channel_of, comparison_of}
use Rattle.panel.proofs.Answers as panel
use Rattle.panel.proofs.answer.Reads as panel-answer
use Rattle.panel.proofs.paired.Reads as paired
use Rattle.abi.specs.Abi.{entry_by, entry_of, channel_words, comparison_words}
use Rattle.cells.specs.Cells.{row_text, written}
use Rattle.texts.specs.Text.{line_of, line_cells}
use Rattle.texts.proofs.Row.{line_told}
use Rattle.roots.specs.Search.{search_of, search_number, search_words}
use Rattle.roots.specs.declared.Search.{Search}
use Rattle.roots.proofs.search_at.Reads as search-at
use Rattle.carbon.specs.Carbon.{solubility_of, solubility_number, solubility_value}
use Rattle.carbon.proofs.Answers as carbon
use Rattle.carbon.proofs.answer.Reads as answer
use Rattle.warpsorrel.proofs.warpsorrel_channel.Reads as channel
use Rattle.warpsorrel.proofs.warpsorrel_co2.Reads as co2
use Rattle.warpsorrel.proofs.warpsorrel_line.Reads as line
use Rattle.warpsorrel.proofs.warpsorrel_needle.Reads as needle
use Rattle.warpsorrel.proofs.warpsorrel_root.Reads as root

pub needle_told :
    (κs : Lifetimes.Lfts 1) (a : _) (r : _) (s : _) → needle.Learnt κs a r s → (κs' : Lifetimes.Lfts 0) (b : _) (m : _) (t : _) → paired.Learnt κs' b m t →
    b.0 ≡ entry_of a.0 a.1.0 a.1.1.0 a.1.1.1.0 a.1.1.1.1.0 →
    b.1.0 ≡ entry_of a.1.1.1.1.1.0 a.1.1.1.1.1.1.0 a.1.1.1.1.1.1.1.0 a.1.1.1.1.1.1.1.1.0 a.1.1.1.1.1.1.1.1.1.0 →
    (r ≡ needle_number m.needle) × (s.1.1.1.1.1.1.1.1.1.1.0.now ≡ sets a.1.1.1.1.1.1.1.1.1.1.0.now 0 (comparison_words m))
needle_told κs a r s told κs' b m t paired-told left right =
    let e = sym (paired-told ∙ ap₂ comparison_of left right) in
    let out = a.1.1.1.1.1.1.1.1.1.1.0.now in
    (told.0 ∙ ap (λ (x : Comparison). needle_number x.needle) e, told.1 ∙ ap (λ (x : Comparison). sets out 0 (comparison_words x)) e)

-- so does the call for a channel what `panel::answer` tells of the same report: its number, and its words with the remarks last
pub channel_told :
    (κs : Lifetimes.Lfts 1) (a : _) (r : _) (s : _) → channel.Learnt κs a r s → (κs' : Lifetimes.Lfts 0) (b : _) (c : _) (t : _) → panel-answer.Learnt κs' b c t →
    b.0 ≡ entry_of a.0 a.1.0 a.1.1.0 a.1.1.1.0 a.1.1.1.1.0 →
    (r ≡ channel_number c) × (s.1.1.1.1.1.0.now ≡ sets a.1.1.1.1.1.0.now 0 (channel_words c))
channel_told κs a r s told κs' b c t answered e =
    let f = sym (answered ∙ ap channel_of e) in
    (told.0 ∙ ap channel_number f, told.1 ∙ ap (λ (x : Channel). sets a.1.1.1.1.1.0.now 0 (channel_words x)) f)

-- what does not look at a reading's number does not look at the one that a call is given
unread :
    {A : Type 0} (f : Entry → A) → ((n n' : ℕ) (report : Report) → f (message n report) ≡ f (message n' report)) →
    (kind n n' : ℕ) (s t p : Float) → f (entry_of kind n s t p) ≡ f (entry_of kind n' s t p)
unfolding entry_of
unread f same kind n n' s t p = go (kind_of kind)
  where
    go : (k : Option Row) → f (entry_by kind n s t p k) ≡ f (entry_by kind n' s t p k)
    go (Some row) = same n n' (report_of row.holds s t p)
    go None = refl

-- so a channel: two calls with one kind and the same floats answer alike, whatever the numbers
pub channel_of_any_probe :
    (κs κs' : Lifetimes.Lfts 1) (a b : _) (r r' : _) (s s' : _) → channel.Learnt κs a r s → channel.Learnt κs' b r' s' →
    a.0 ≡ b.0 → a.1.1.0 ≡ b.1.1.0 → a.1.1.1.0 ≡ b.1.1.1.0 → a.1.1.1.1.0 ≡ b.1.1.1.1.0 → a.1.1.1.1.1.0.now ≡ b.1.1.1.1.1.0.now →
    (r ≡ r') × (s.1.1.1.1.1.0.now ≡ s'.1.1.1.1.1.0.now)
channel_of_any_probe κs κs' a b r r' s s' one other e f g h i =
    let d : entry_of a.0 b.1.0 a.1.1.0 a.1.1.1.0 a.1.1.1.1.0 ≡ entry_of b.0 b.1.0 b.1.1.0 b.1.1.1.0 b.1.1.1.1.0 = rw (e, f, g, h) in
    let c = unread channel_of panel.number_unread a.0 a.1.0 b.1.0 a.1.1.0 a.1.1.1.0 a.1.1.1.1.0 ∙ ap channel_of d in (
      one.0 ∙ ap channel_number c ∙ sym other.0,
      one.1 ∙ ap₂ (λ (o : List ℤ) (x : Channel). sets o 0 (channel_words x)) i c ∙ sym other.1,
    )

-- so does the call for a line show what `panel::paired` tells of the same two reports, as a row of cells
pub line_shown :
    (κs : Lifetimes.Lfts 2) (a : _) (r : _) (s : _) → line.Learnt κs a r s → (κs' : Lifetimes.Lfts 0) (b : _) (m : _) (t : _) → paired.Learnt κs' b m t →
    b.0 ≡ entry_of a.1.0 a.1.1.0 a.1.1.1.0 a.1.1.1.1.0 a.1.1.1.1.1.0 →
    b.1.0 ≡ entry_of a.1.1.1.1.1.1.0 a.1.1.1.1.1.1.1.0 a.1.1.1.1.1.1.1.1.0 a.1.1.1.1.1.1.1.1.1.0 a.1.1.1.1.1.1.1.1.1.1.0 →
    s.1.1.1.1.1.1.1.1.1.1.1.0.now ≡ written s.1.1.1.1.1.1.1.1.1.1.1.1.0.now (row_text 32 (line_cells a.0 m.left m.right m.needle)) a.1.1.1.1.1.1.1.1.1.1.1.0.now
line_shown κs a r s told κs' b m t paired-told left right =
    told.1.1 ∙ ap (λ (x : List ℕ). written s.1.1.1.1.1.1.1.1.1.1.1.1.0.now x a.1.1.1.1.1.1.1.1.1.1.1.0.now) (sym (ap₂ (line_of a.0) left right) ∙ line_told a.0 κs' b m t paired-told)

-- and the call for carbon dioxide what `carbon::answer` tells of the same report, whatever its probe's number
pub co2_told :
    (κs : Lifetimes.Lfts 1) (a : _) (r : _) (s : _) → co2.Learnt κs a r s → (κs' : Lifetimes.Lfts 0) (b : _) (g : _) (t : _) → answer.Learnt κs' b g t →
    (n : ℕ) → b.0 ≡ entry_of a.0 n a.1.0 a.1.1.0 a.1.1.1.0 → (r ≡ solubility_number g) × (s.1.1.1.1.0.now ≡ solubility_value g)
co2_told κs a r s told κs' b g t answered n e =
    let f = sym (answered ∙ ap solubility_of e ∙ unread solubility_of carbon.number_unread a.0 n 0 a.1.0 a.1.1.0 a.1.1.1.0) in
    (told.0 ∙ ap solubility_number f, told.1 ∙ ap solubility_value f)

-- and the call for a root what `roots::search_at` tells of the same salinity and trials
pub root_told :
    (κs : Lifetimes.Lfts 1) (a : _) (r : _) (s : _) → root.Learnt κs a r s → (κs' : Lifetimes.Lfts 0) (b : _) (g : _) (t : _) → search-at.Learnt κs' b g t →
    b.0 ≡ a.0 → b.1.0 ≡ a.1.0 → (r ≡ search_number g) × (s.1.1.0.now ≡ sets a.1.1.0.now 0 (search_words g))
root_told κs a r s told κs' b g t found σ j =
    let e = sym (found ∙ ap₂ search_of σ j) in
    (told.0 ∙ ap search_number e, told.1 ∙ ap (λ (x : Result Search Refusal). sets a.1.1.0.now 0 (search_words x)) e)
