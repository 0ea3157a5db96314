-- `panel::answer` meets its contract: a side beside itself has the channel of what stands in it. Assumes nothing.
use mathlib.Core.Path.{◌∙◌}
use Rattle.panel.proofs.Pairing.{alone}
use Rattle.panel.proofs.answer.Goals as goal

pub returns : goal.returns
returns c = c.channel.ensures ∙ alone c.args.entry c.entered-c.ensures c.beside.ensures
