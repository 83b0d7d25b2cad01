use Rattle.std.proofs.Common.{◌≡◌, drop, map, max}
use Rattle.dm_syn.specs.Heights as height
use Rattle.dm_syn.specs.Views as view
use Rattle.dm_syn.specs.Capped.{capped}
use Rattle.dm_syn.proofs.heights.+initialisers_heights.Given as goal

-- the highest so far and the highest of the rest are the highest
abbrev pub invariant-initialisers_height-loop-initialiser : goal.invariant-initialisers_height-loop-initialiser
invariant-initialisers_height-loop-initialiser l = max l.greatest (capped (height.initialisers_height (view.initialisers (map view.initialiser (drop l.initialiser-index l.initialisers))))) ≡ capped (height.initialisers_height (view.initialisers (map view.initialiser l.initialisers)))
