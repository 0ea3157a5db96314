-- One answer: two answers that a contract allows are equal. `Learnt` is the contract itself, as the checker reads it off the source, so that a
-- dropped clause breaks these laws. Assumes nothing.
use mathlib.Core.Path.{◌≡◌, sym, ◌∙◌}
use contract.Lifetimes
use Rattle.channels.proofs.StopReason.number.Reads as stop-number
use Rattle.channels.proofs.water.Reads as channel-water

pub one_stop_number : (κs : Lifetimes.Lfts 0) (a : _) (r r' : _) (s s' : _) → stop-number.Learnt κs a r s → stop-number.Learnt κs a r' s' → r ≡ r'
one_stop_number κs a r r' s s' e f = e ∙ sym f

pub one_channel_water : (κs : Lifetimes.Lfts 0) (a : _) (r r' : _) (s s' : _) → channel-water.Learnt κs a r s → channel-water.Learnt κs a r' s' → r ≡ r'
one_channel_water κs a r r' s s' e f = e ∙ sym f

-- ---- nothing is asked of the caller: `Asked` is what a contract requires
pub free_stop_number : (κs : Lifetimes.Lfts 0) (a : _) → stop-number.Asked κs a
free_stop_number κs a = tt

pub free_channel_water : (κs : Lifetimes.Lfts 0) (a : _) → channel-water.Asked κs a
free_channel_water κs a = tt
