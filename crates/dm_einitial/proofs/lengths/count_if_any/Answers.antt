-- Where there are items, they are counted.
use Rattle.dm_einitial.proofs.LengthLemmas.{count-some}
use Rattle.dm_einitial.proofs.lengths.count_if_any.Goals as goal

pub returns-then-items-gt0-clause-length : goal.returns-then-items-gt0-clause-length
returns-then-items-gt0-clause-length c = (count-some c.args.items.now c.count_items.result c.if-items-gt0.true c.count_items.ensures).0

pub returns-then-items-gt0-clause-some : goal.returns-then-items-gt0-clause-some
returns-then-items-gt0-clause-some c = (count-some c.args.items.now c.count_items.result c.if-items-gt0.true c.count_items.ensures).1
