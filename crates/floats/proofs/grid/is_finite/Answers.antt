-- `is_finite` meets its contract: of all floats only a finite one is between the infinities. Assumes nothing.
use mathlib.Core.Path.{◌≡◌, refl, sym}
use mathlib.Core.Bool.{true, false}
use lib.Ieee.{Float, nan, inf, fin, lt, of_bits}
use Rattle.floats.specs.Grid.{finite}
use Rattle.floats.proofs.grid.is_finite.Goals as goal

below : (x : Float) → lt (inf true) x ≡ true → lt x (inf false) ≡ finite x
unfolding lt
below nan h = refl
below (inf true) h = sym h
below (inf false) h = refl
below (fin s m e) h = refl

above : (x : Float) → lt (inf true) x ≡ false → lt (inf true) x ≡ finite x
unfolding lt
above nan h = refl
above (inf true) h = refl
above (inf false) h = h
above (fin s m e) h = refl

pub returns-then-x : goal.returns-then-x
unfolding of_bits
returns-then-x c = below c.args.x c.if-x.true

pub returns-else-x : goal.returns-else-x
unfolding of_bits
returns-else-x c = above c.args.x c.if-x.false
