-- The values are those of the definitions so far.
use Rattle.std.proofs.Common.{◌≡◌, map, take}
use Rattle.serde_json.specs.View.{view}
use Rattle.dm_report.specs.JsonReport.{entry_data}
use Rattle.dm_report.proofs.values.plan_value.Given as goal

abbrev pub invariant-loop-entry : goal.invariant-loop-entry
invariant-loop-entry l = map view l.definitions.items ≡ map (entry_data l.plan.names) (take l.entry-index l.entries)
