use Rattle.std.proofs.Common.{◌≡◌, take, length}
use Rattle.dm_macro.specs.Roles.{AreCounts, AreRolesOf}
use Rattle.dm_macro.proofs.role.token_roles.Given as goal

abbrev pub invariant-tokens : goal.invariant-tokens
invariant-tokens l =
    AreCounts l.parameters (take l.index l.body) l.seen.items × AreRolesOf l.parameters l.body l.roles.items × (length l.roles.items ≡ l.index)
