use Rattle.std.proofs.Common.{◌≡◌, ◌++◌, map, length}
use Rattle.dm_expand.specs.Pastes as pastes
use Rattle.dm_expand.specs.Views.{piece_value}
use Rattle.dm_expand.proofs.paste.add_tokens.Given as goal

abbrev pub invariant-tokens : goal.invariant-tokens
invariant-tokens l =
    map piece_value l.to.items ++ map pastes.token l.queue.items ≡ map piece_value l.fn.to.items ++ map pastes.token l.fn.tokens.items

abbrev pub decreases-tokens : goal.decreases-tokens
decreases-tokens l = length l.queue.items
