use Rattle.std.proofs.Common.{codes}
use Rattle.dm_manifest.specs.Paths.{unit_path, under}
use Rattle.dm_manifest.specs.Units.{folder_at}
use Rattle.dm_manifest.proofs.Each.{GoesOn}
use Rattle.dm_manifest.proofs.unit.each_folder.Given as goal

abbrev pub invariant-loop-value : goal.invariant-loop-value
invariant-loop-value l = GoesOn (folder_at (under (unit_path l.unit) (codes "include"))) l.values l.value-index l.folders
