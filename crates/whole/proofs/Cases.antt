-- The steps of the paper in numbers, and small roots: what the steps and the code would have to get wrong together is held to literals here. (Whole
-- papers: `paper_points` of roots/proofs/Points.) Assumes nothing.
use mathlib.Core.Path.{◌≡◌, refl}
use lib.Count.{count_leading_zeros}
use Rattle.whole.specs.Paper.{pairs_of, begun, tried, next, after, rooted}

-- the first line of 9, in binary digits 1001: the trial bit is 100
pub first_of_nine : begun 9 ≡ record { bit = 4; rest = 9; root = 0 }
unfolding count_leading_zeros pairs_of begun
first_of_nine = refl

-- a sum that is less than the rest, one that equals it, one that is more
pub trials :
    (tried (record { bit = 4; rest = 9; root = 0 }) ≡ record { bit = 1; rest = 5; root = 4 })
    × ((tried (record { bit = 1; rest = 5; root = 4 }) ≡ record { bit = 0; rest = 0; root = 3 })
    × (tried (record { bit = 1; rest = 4; root = 4 }) ≡ record { bit = 0; rest = 4; root = 2 }))
unfolding tried
trials = (refl, (refl, refl))

pub second_of_nine : after 1 9 ≡ record { bit = 1; rest = 5; root = 4 }
unfolding count_leading_zeros pairs_of begun tried next after
second_of_nine = refl

pub no_more_trials : next (record { bit = 0; rest = 4; root = 2 }) ≡ record { bit = 0; rest = 4; root = 2 }
unfolding next
no_more_trials = refl

pub small_roots : (rooted 0 ≡ 0) × ((rooted 1 ≡ 1) × ((rooted 8 ≡ 2) × ((rooted 9 ≡ 3) × ((rooted 15 ≡ 3) × (rooted 16 ≡ 4)))))
unfolding count_leading_zeros pairs_of begun tried next after rooted
small_roots = (refl, (refl, (refl, (refl, (refl, refl)))))
