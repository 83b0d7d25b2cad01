-- The unit of a main file is looked for among the project's.
use Rattle.std.proofs.Common.{subst}
use Rattle.dm_sources.specs.Sources.{AreSought}
use Rattle.dm_sources.proofs.Short.{short-unit}
use Rattle.dm_sources.proofs.SourceSteps.{of_units}
use Rattle.dm_sources.proofs.finding.find_unit.Goals as goal

pub returns-in-Found-clause-sought : goal.returns-in-Found-clause-sought
returns-in-Found-clause-sought g c =
    of_units (g.F.Folder.files c.args.folder.now) c.args.project.now c.args.file.now _ _ c.in-Found.units c.unit_in.result
    (subst (AreSought (g.F.Folder.files c.args.folder.now) c.args.project.now _ _) c.in-Found.is c.in_ok-units.ensures.sought) c.unit_in.ensures.sought

pub returns-in-Found-clause-short : goal.returns-in-Found-clause-short
returns-in-Found-clause-short g c = short-unit c.unit_in.result c.unit_in.ensures.lawful
