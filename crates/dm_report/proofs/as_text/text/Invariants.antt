-- The bytes are the lines so far.
use Rattle.std.proofs.Common.{◌≡◌, take}
use Rattle.std.specs.List.{flat_map}
use Rattle.dm_report.specs.Lines.{entry_line}
use Rattle.dm_report.proofs.as_text.text.Given as goal

abbrev pub invariant-loop-entry : goal.invariant-loop-entry
invariant-loop-entry l = l.bytes.items ≡ flat_map (entry_line l.plan.names) (take l.entry-index l.entries)
