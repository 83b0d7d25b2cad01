-- What the units that are left come to, behind those that were read again, all of them come to.
use Rattle.std.proofs.Common.{◌≡◌, ◌+◌, ◌≤◌, ◌++◌, All, Option, None, Some, IfSome, Result, is_some, drop, map}
use Rattle.dm_token.specs.declared.stop.Stop.{Stop}
use Rattle.dm_io.specs.Files.{Files}
use Rattle.dm_search.specs.Loaded.{Loaded}
use Rattle.dm_reading.specs.declared.reading.Reading.{Reading}
use Rattle.dm_reading.specs.Layered.{IsLayered}
use Rattle.dm_readings.specs.Again.{ReadsAgain, put_in, reader_count, reads}
use Rattle.dm_readings.specs.Leaves.{LeavesKnown}
use Rattle.dm_readings.specs.Units.{IsTyped, most_project_tokens, token_count}
use Rattle.dm_project.proofs.AgainLemmas.{News, all_before}
use Rattle.dm_project.proofs.again.read_readers.Given as goal

abbrev pub invariant-loop-at : goal.invariant-loop-at
invariant-loop-at g l = record {
  spent : (rest : News) → l.spent + token_count (put_in (drop l.at l.kept) rest) ≡ token_count (put_in l.kept (l.news ++ rest));
  within : l.spent ≤ most_project_tokens;
  readers : map is_some l.news ++ map (reads l.file) (drop l.at l.kept) ≡ map (reads l.file) l.kept;
  counted : l.readings + reader_count l.file (drop l.at l.kept) ≡ l.initial.readings + reader_count l.file l.kept;
  rises : l.initial.readings ≤ l.readings;
  layers : All (λ (new : Option Reading). IfSome new IsLayered) l.news;
  typed : All (λ (new : Option Reading). IfSome new IsTyped) l.news;
  leaves : LeavesKnown (g.F.Folder.files l.initial.folder) (g.F.Folder.files l.folder) (g.F.Folder.room l.initial.folder) (g.F.Folder.room l.folder)
      (g.F.Folder.faults l.initial.folder) (g.F.Folder.faults l.folder) l.initial.loader l.loader None;
  leads : (files : Files) → g.F.Folder.files l.initial.folder ≡ Some files → (others : Result News Stop) (last : Loaded)
      → ReadsAgain files l.file (drop l.at l.units) (drop l.at l.kept) l.spent l.loader others last → ReadsAgain files l.file l.units l.kept 0 l.initial.loader (all_before l.news others) last;
}
