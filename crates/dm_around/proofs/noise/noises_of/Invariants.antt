-- What isn't quiet is known round the places so far.
use Rattle.std.proofs.Common.{◌-◌, length}
use Rattle.dm_type.specs.Tables.{no_type}
use Rattle.dm_around.proofs.NoiseLemmas.{NoisesSoFar}
use Rattle.dm_around.proofs.ParentLemmas.{all_of}
use Rattle.dm_around.proofs.noise.noises_of.Given as goal

abbrev pub invariant-loop-site : goal.invariant-loop-site
invariant-loop-site l = NoisesSoFar l.sites l.parents l.noises.items

abbrev pub decreases-loop-site : goal.decreases-loop-site
decreases-loop-site l = length (all_of no_type l.sites) - length l.noises.items
