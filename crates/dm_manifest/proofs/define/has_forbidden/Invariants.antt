use Rattle.std.proofs.Common.{◌≡◌, length}
use Rattle.dm_manifest.specs.Defines.{somewhere, opens_forbidden}
use Rattle.dm_manifest.proofs.define.has_forbidden.Given as goal

abbrev pub invariant-loop-others : goal.invariant-loop-others
invariant-loop-others l = somewhere opens_forbidden l.rest ≡ somewhere opens_forbidden l.fn.body

abbrev pub decreases-loop-others : goal.decreases-loop-others
decreases-loop-others l = length l.rest
