-- What is looked up stays so, whatever is broken then.
use Rattle.dm_judge.specs.Units.{AreReady}
use Rattle.dm_judge.proofs.SlotLemmas.{if-none}
use Rattle.dm_judge.proofs.rules.broken_from_5.Goals as goal

pub returns-clause-ready : goal.returns-clause-ready
returns-clause-ready c = if-none (AreReady c.args.definition.now c.look_up.new.self) c.broken_from_9.result c.in_ok-look_up.ensures.ready
