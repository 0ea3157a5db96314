-- `warpsorrel_channel` meets its contract: the channel is the entry's, and its row takes the place of what was lent. Assumes nothing.
use mathlib.Core.Path.{◌≡◌, sym, ap, ◌∙◌}
use borrow.Author.Rules.{rules}
use lib.ListN.{length}
use lib.Seq.{sets}
use Rattle.panel.specs.Panel.{channel_of}
use Rattle.abi.specs.Abi.{channel_words}
use Rattle.abi.proofs.Words.{whole_row}
use Rattle.warpsorrel.proofs.warpsorrel_channel.Goals as goal

-- (That a row has its length has only names that may change: the search finds it.)
pub returns-clause-numbers : goal.returns-clause-numbers
returns-clause-numbers c =
    let row : length c.channel_row.result ≡ 8 = search rules in
    let e = c.channel_row.ensures ∙ ap channel_words (c.answer-channel.ensures ∙ ap channel_of c.entry_of.ensures) in
    whole_row c.args.out.now c.channel_row.result (c.told-out ∙ sym row) ∙ ap (sets c.args.out.now 0) e
