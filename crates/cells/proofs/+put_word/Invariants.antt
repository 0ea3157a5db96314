-- `cells::put_word` calls itself with the word without its last letter, a smaller number. Assumes nothing.
use Rattle.cells.proofs.+put_word.Given as goal

abbrev pub decreases-put_word : goal.decreases-put_word
decreases-put_word l = l.w
