use Rattle.std.proofs.Common.{◌≡◌, map, take}
use Rattle.dm_expand.specs.Items.{of_source}
use Rattle.dm_expand.proofs.source_items.Given as goal

abbrev pub invariant-loop-token : goal.invariant-loop-token
invariant-loop-token l = l.items.items ≡ map of_source (take l.token-index l.group)
