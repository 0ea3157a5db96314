-- What a channel and a needle answer: each a value, or why there is none.
use Rattle.std.specs.Prelude.{ℕ, ℤ, Result, Ok}
use Rattle.refusals.specs.declared.Refusal.{Refusal}
use Rattle.readings.specs.declared.Point.{Point}
use Rattle.readings.specs.declared.Remarks.{Remarks}
use Rattle.channels.specs.declared.Accepted.{Accepted}
use Rattle.channels.specs.declared.Stop.{Stop}

abbrev pub Channel : Type 0
Channel = Result Accepted Refusal

abbrev pub channel_at : Point → ℕ → ℕ → Remarks → Channel
channel_at p d k m = Ok (record { at = p; water = record { density = d; bulk = k }; remarks = m })

abbrev pub Needle : Type 0
Needle = Result ℤ Stop
