-- The definitions behind the one that is next have outcomes.
use Rattle.std.proofs.Common.{◌-◌, length, None}
use Rattle.dm_subjects.specs.Tables.{AreKnown}
use Rattle.dm_planning.specs.Steps.{AreGood, HasJudged, LeavesProject, project_of}
use Rattle.dm_planning.proofs.judging.judge_all.Given as goal

abbrev pub invariant-loop-entries : goal.invariant-loop-entries
invariant-loop-entries g l = record {
  judged : HasJudged (g.F.Folder.files l.initial.folder) l.units (project_of l.initial.loader l.initial.kept l.initial.readings) l.subjects l.entries (project_of l.loader l.kept l.readings);
  good : AreGood l.units l.kept;
  known : AreKnown l.kept l.known;
  leaves : LeavesProject (g.F.Folder.files l.initial.folder) (g.F.Folder.files l.folder) (g.F.Folder.room l.initial.folder) (g.F.Folder.room l.folder)
      (g.F.Folder.faults l.initial.folder) (g.F.Folder.faults l.folder) l.initial.loader l.loader None;
}

abbrev pub decreases-loop-entries : goal.decreases-loop-entries
decreases-loop-entries g l = length l.subjects - length l.entries
