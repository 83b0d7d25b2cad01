use Rattle.std.proofs.Common.{◌≡◌, take}
use Rattle.dm_macro.specs.Roles.{AreCounts}
use Rattle.dm_macro.proofs.role.counts_of.Given as goal

abbrev pub invariant-loop-token : goal.invariant-loop-token
invariant-loop-token l = AreCounts l.parameters (take l.token-index l.body) l.counts.items
