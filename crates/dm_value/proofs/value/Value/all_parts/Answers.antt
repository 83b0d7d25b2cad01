-- The parts of a value are those of which it is made.
use Rattle.std.proofs.Common.{rules}
use Rattle.dm_value.proofs.ValueLemmas.{parts-of}
use Rattle.dm_value.proofs.value.Value.all_parts.Goals as goal

pub returns-in-Parts : goal.returns-in-Parts
returns-in-Parts c = parts-of c.args.self.now c.in-Parts.parts c.items.result.now c.in-Parts.is (search rules)
