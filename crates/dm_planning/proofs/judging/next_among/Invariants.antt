-- The definitions that were passed have outcomes, in a project that stays as it is.
use Rattle.std.proofs.Common.{◌≡◌, ◌≤◌, ℕ, List, length, Option}
use Rattle.dm_token.specs.declared.unit.Unit.{Unit as Source}
use Rattle.dm_io.specs.Files.{Files}
use Rattle.dm_judge.specs.Units.{AreWhole}
use Rattle.dm_rules.specs.Indexes.{readings_of}
use Rattle.dm_planning.specs.Judging.{Project}
use Rattle.dm_planning.specs.Steps.{HasJudged, project_of}
use Rattle.dm_planning.proofs.judging.next_among.Given as goal

abbrev pub invariant-loop-judged : goal.invariant-loop-judged
invariant-loop-judged l = record {
  counted : length l.entries ≡ l.judged;
  whole : AreWhole l.project;
  indexes : l.project.indexes.now ≡ l.by_unit;
  loader : l.lines.loader.now ≡ l.loader;
  more : length l.initial.entries ≤ length l.entries;
  judged : (told : Option Files) (units : List Source) (first : Project) (count : ℕ) → HasJudged told units first l.subjects l.initial.entries (project_of l.loader (readings_of l.by_unit) count)
      → HasJudged told units first l.subjects l.entries (project_of l.loader (readings_of l.by_unit) count);
}
