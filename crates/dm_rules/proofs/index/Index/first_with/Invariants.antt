-- Of none of the expansions up to here there is a run.
use Rattle.std.proofs.Common.{◌≡◌, List, drop}
use Rattle.dm_runs.specs.declared.run.Run.{Run}
use Rattle.dm_rules.specs.Instances.{AreOf}
use Rattle.dm_rules.specs.Listing.{first_name}
use Rattle.dm_rules.specs.Uses.{first_with, has_run}
use Rattle.dm_rules.proofs.index.Index.first_with.Given as goal

abbrev pub invariant-loop-number : goal.invariant-loop-number
invariant-loop-number l = (runs : List Run) → AreOf runs l.fn.instances
    → first_name (has_run runs) l.fn.self.reading.now.pp.expansions (drop l.number-index l.numbers) ≡ first_with l.fn.definition runs l.fn.self.reading.now
