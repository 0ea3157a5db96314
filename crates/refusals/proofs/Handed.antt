-- `?` hands on the very refusal: what the library says of the answer that it makes, in one equation. Assumes nothing.
use mathlib.Core.Path.{◌≡◌, ap}
use Rattle.std.specs.Prelude.{Result, Ok, Err, IsErr, IsErrAnd}

pub handed_on : {T E : Type 0} {r : Result T E} {x : E} → IsErr r × IsErrAnd r (λ (y : E). y ≡ x) → r ≡ Err x
handed_on {r = Ok a} h = absurd h.1
handed_on {r = Err y} h = ap Err h.1
