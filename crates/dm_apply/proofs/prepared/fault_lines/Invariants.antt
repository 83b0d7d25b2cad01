-- The lines are those of the files so far.
use Rattle.std.proofs.Common.{◌≡◌, map, take}
use Rattle.dm_edit.specs.declared.plan.Changed.{Changed}
use Rattle.dm_lines.specs.Lines.{write_fault_line}
use Rattle.dm_apply.proofs.prepared.fault_lines.Given as goal

abbrev pub invariant-loop-file : goal.invariant-loop-file
invariant-loop-file l = l.lines ≡ map (λ (file : Changed). write_fault_line file.name) (take l.file-index l.files)
