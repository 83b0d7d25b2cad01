use Rattle.std.proofs.Common.{take}
use Rattle.dm_macro.specs.Roles.{HavePositions}
use Rattle.dm_macro.proofs.named.positions_of.Given as goal

abbrev pub invariant-loop-position : goal.invariant-loop-position
invariant-loop-position l = HavePositions (take l.position l.names) l.positions
