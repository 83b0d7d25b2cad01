-- Each item counts.
use Rattle.dm_einitial.proofs.LengthLemmas.{count-length}
use Rattle.dm_einitial.proofs.lengths.count_items.Goals as goal

pub returns : goal.returns
returns c = count-length c.args.items.now
