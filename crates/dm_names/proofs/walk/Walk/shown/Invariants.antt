-- What was shown so far, and then what the rest shows, is what all show.
use Rattle.std.proofs.Common.{◌≡◌, ◌++◌, drop, map}
use Rattle.dm_syn.specs.Views as view
use Rattle.dm_names.specs.Meanings as meanings
use Rattle.dm_names.specs.Walks.{source_in}
use Rattle.dm_names.proofs.walk.Walk.shown.Given as goal

abbrev pub invariant-loop-external : goal.invariant-loop-external
invariant-loop-external l =
    l.all ++ meanings.shown_from (source_in l.self) l.so_far (map view.external (drop l.external-index l.externals)) ≡ meanings.shown_by (source_in l.self) (map view.external l.externals)
