-- `carbon::odd_series` meets its contract: its powers fit, and its sum is the series (proofs/Series). Assumes nothing.
use native.Mathlib.Omega.{arith}
use Rattle.carbon.proofs.Series.{Small, first_small, third_small, fifth_small, seventh_small, product_fits, series_is}
use Rattle.carbon.proofs.odd_series.Goals.{Start}
use Rattle.carbon.proofs.odd_series.Goals as goal

small : (c : Start) → Small c.args.x c.args.y
small c = (c.requires.x_most, (c.requires.y_least, c.requires.y_most))

pub overflow_mul-fifth : goal.overflow_mul-fifth
overflow_mul-fifth c = let s = small (goal.at.overflow_mul-fifth c).Start in record { fits = product_fits _ _ s _ (third_small _ _ s) }

pub overflow_mul-seventh : goal.overflow_mul-seventh
overflow_mul-seventh c = let s = small (goal.at.overflow_mul-seventh c).Start in record { fits = product_fits _ _ s _ (fifth_small _ _ s) }

pub overflow_add-result-2 : goal.overflow_add-result-2
overflow_add-result-2 c =
    let s = small (goal.at.overflow_add-result-2 c).Start in record { fits = omega (arith, first_small _ _ s, third_small _ _ s, fifth_small _ _ s) }

pub overflow_add-result-3 : goal.overflow_add-result-3
overflow_add-result-3 c =
    let s = small (goal.at.overflow_add-result-3 c).Start in record { fits = omega (arith, first_small _ _ s, third_small _ _ s, fifth_small _ _ s, seventh_small _ _ s) }

pub returns : goal.returns
returns c = series_is _ _ (small (goal.at.returns c).Start)
