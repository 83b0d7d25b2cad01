-- What is seen of the rest behind what is seen so far is what is seen of the whole.
use Rattle.std.proofs.Common.{◌≡◌, drop, map}
use Rattle.dm_syn.specs.Views as view
use Rattle.dm_names.specs.Seen as seen
use Rattle.dm_names.specs.Walks.{source_in}
use Rattle.dm_names.proofs.walk.Walk.+initialisers.Given as goal

abbrev pub invariant-initialisers-loop-initialiser : goal.invariant-initialisers-loop-initialiser
invariant-initialisers-loop-initialiser l = seen.initialisers (source_in l.self) l.so_far (view.initialisers (map view.initialiser (drop l.initialiser-index l.initialisers))) ≡ seen.initialisers (source_in l.self) l.fn.so_far (view.initialisers (map view.initialiser l.initialisers))
