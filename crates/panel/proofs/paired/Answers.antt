-- `panel::paired` meets its contract: two sides, each beside the other, are the comparison. Assumes nothing.
use Rattle.panel.proofs.Pairing.{compared}
use Rattle.panel.proofs.paired.Goals as goal

pub returns : goal.returns
returns c =
    rw (c.channel.ensures, c.channel-2.ensures, c.needle.ensures)
    (compared c.args.left c.args.right c.entered-l.ensures c.entered-r.ensures c.beside-a.ensures c.beside-b.ensures c.shares-shared.ensures)
