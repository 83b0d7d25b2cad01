-- What the search among the names that are left finds, the whole search finds; it needs no reading where the whole search doesn't.
use Rattle.std.proofs.Common.{◌≡◌, ◌<◌, ◌≤◌, ℕ, List, Option, Result, length, drop}
use Rattle.dm_token.specs.declared.stop.Stop.{Stop}
use Rattle.dm_search.specs.Loaded.{Loaded}
use Rattle.dm_search.specs.Searching.{Finds, IsSettled}
use Rattle.dm_search.proofs.loader.Loader.find_first.Given as goal

abbrev pub invariant-loop-name : goal.invariant-loop-name
invariant-loop-name g l = record {
  room : length l.self.names < 4294967295;
  rest : (result : Result (Option ℕ) Stop) (new : Loaded) → Finds (g.F.Folder.files l.initial.folder) l.header (drop l.name-index l.names) l.self result new → Finds (g.F.Folder.files l.initial.folder) l.header l.names l.initial.self result new;
  settled : IsSettled l.names l.initial.self → IsSettled (drop l.name-index l.names) l.self × (l.folder ≡ l.initial.folder);
  files : g.F.Folder.files l.folder ≡ g.F.Folder.files l.initial.folder;
  rooms : (other : List ℕ) → g.F.Folder.room l.folder other ≡ g.F.Folder.room l.initial.folder other;
  later : g.F.Folder.faults l.initial.folder ≤ g.F.Folder.faults l.folder;
}
