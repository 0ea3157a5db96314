-- `sea::water_at` meets its contract: a water sounded under its own pressure is the water. Assumes nothing.
use mathlib.Core.Path.{◌≡◌, ◌∙◌}
use borrow.Author.Rules.{rules}
use mir.Syntax.{w64}
use mir.ValLaws.{to_z-of_z}
use Rattle.std.specs.Prelude.{Result, Ok, Err}
use Rattle.refusals.specs.declared.Refusal.{Refusal}
use Rattle.waters.specs.declared.Water.{Water}
use Rattle.sea.specs.Water.{water_of, sounded, sounding_of}
use Rattle.sea.proofs.water_at.Goals as goal

pub returns : goal.returns
unfolding sounding_of
returns c =
    by_water (water_of c.args.sigma c.args.tau c.args.pi)
    (c.sounding_at.ensures ∙ rw (to_z-of_z w64 c.args.sigma c.ranges.sigma, to_z-of_z w64 c.args.tau c.ranges.tau, to_z-of_z w64 c.args.pi c.ranges.pi))
  where
    by_water : (w : Result Water Refusal) → c.sounding_at.result ≡ sounded w w → c.map.result ≡ w
    by_water (Ok w) e = search rules
    by_water (Err r) e = search rules
