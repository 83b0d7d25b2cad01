-- The parts of a value are those of which it is made.
use Rattle.std.proofs.Common.{rules}
use Rattle.dm_value.proofs.ValueLemmas.{found-part}
use Rattle.dm_value.proofs.value.Value.inner.Goals as goal

pub returns-in-Parts : goal.returns-in-Parts
returns-in-Parts c = found-part c.args.self.now c.in-Parts.parts c.items.result.now c.args.number c.nth.result c.in-Parts.is (search rules) c.nth.ensures
