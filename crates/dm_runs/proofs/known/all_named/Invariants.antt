-- Those of the definitions up to here.
use Rattle.std.proofs.Common.{◌≡◌, map, take}
use Rattle.dm_token.specs.declared.unit.Read.{Read}
use Rattle.dm_runs.specs.Names.{named_in}
use Rattle.dm_runs.proofs.known.all_named.Given as goal

abbrev pub invariant-loop-one : goal.invariant-loop-one
invariant-loop-one l = l.named.items ≡ map (λ (one : Read). named_in one.definition) (take l.one-index l.read)
