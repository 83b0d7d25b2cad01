use Rattle.std.proofs.Common.{◌≡◌, length}
use Rattle.dm_ctok.specs.Escapes.{elements, put_behind}
use Rattle.dm_ctok.proofs.escape.append_elements.Given as goal

abbrev pub invariant-loop-rest : goal.invariant-loop-rest
invariant-loop-rest l = put_behind l.initial.values.items (elements l.bytes) ≡ put_behind l.values.items (elements l.rest)

abbrev pub decreases-loop-rest : goal.decreases-loop-rest
decreases-loop-rest l = length l.rest
