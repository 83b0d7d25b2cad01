-- The names so far are those in the folders passed.
use Rattle.std.proofs.Common.{◌≡◌, take}
use Rattle.dm_search.specs.Joining.{candidates, places}
use Rattle.dm_search.proofs.joining.candidates.Given as goal

abbrev pub invariant-loop-folder : goal.invariant-loop-folder
invariant-loop-folder l = l.found.items ≡ candidates l.name (places l.from l.quoted (take l.folder-index l.include))
