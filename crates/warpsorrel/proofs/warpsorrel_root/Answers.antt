-- `warpsorrel_root` meets its contract: the root's row takes the place of what was lent. Assumes nothing.
use mathlib.Core.Path.{◌≡◌, sym, ap, ◌∙◌}
use borrow.Author.Rules.{rules}
use lib.ListN.{length}
use lib.Seq.{sets}
use mir.Syntax.{w64}
use mir.ValLaws.{to_z-of_z}
use Rattle.roots.specs.Search.{search_words}
use Rattle.abi.proofs.Words.{whole_row}
use Rattle.warpsorrel.proofs.warpsorrel_root.Goals as goal

-- (That a row has its length has only names that may change: the search finds it.)
pub returns-clause-numbers : goal.returns-clause-numbers
returns-clause-numbers c =
    let row : length c.root_row.result ≡ 4 = search rules in
    let e = c.root_row.ensures ∙ ap search_words (c.search_at-found.ensures ∙ rw (to_z-of_z w64 c.args.sigma c.ranges.sigma)) in
    whole_row c.args.out.now c.root_row.result (c.told-out ∙ sym row) ∙ ap (sets c.args.out.now 0) e
