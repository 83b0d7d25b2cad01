-- The items from the first that passes a test on.
use Rattle.std.specs.Prelude.{◌≡◌, Bool, List, map, Option, None, Some, MatchOption}
use Rattle.std.proofs.Common.{Bor}
use Rattle.dm_type.specs.Tables.{Table}
use Rattle.dm_tree.specs.declared.tree.Core.{Core}
use Rattle.dm_tree.specs.Trees.{Tree}
use Rattle.dm_tree.specs.Views.{view}
use Rattle.dm_meaning.specs.Statements.{from_first}
use Rattle.dm_frame.specs.Tasks.{TreesFit}

abbrev pub IsFound : Table → (Tree → Bool) → List Core → Option (Bor (List Core)) → Type 0
IsFound table test items result = MatchOption result (from_first test (map (view table) items) ≡ None)
    (λ found. (from_first test (map (view table) items) ≡ Some (map (view table) found.now)) × TreesFit table found.now)
