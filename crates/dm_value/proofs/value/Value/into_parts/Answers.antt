-- The parts of a value are those of which it is made, shared or not.
use Rattle.std.proofs.Common.{rules, ◌∙◌}
use Rattle.dm_value.proofs.ValueLemmas.{parts-of}
use Rattle.dm_value.proofs.value.Value.into_parts.Goals as goal

pub returns-in-Ok : goal.returns-in-Ok
returns-in-Ok c = parts-of c.args.self c.in-Parts.parts c.into_vec.result.items c.in-Parts.is (search rules)

pub returns-in-Parts : goal.returns-in-Parts
returns-in-Parts c = c.in_ok-copies-in-Err.ensures ∙ parts-of c.args.self c.in-Parts.parts c.items.result.now c.in-Parts.is (search rules)
