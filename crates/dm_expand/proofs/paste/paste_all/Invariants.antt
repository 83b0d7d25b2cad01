use Rattle.std.proofs.Common.{◌≡◌, map, length}
use Rattle.dm_expand.specs.Views.{piece_value, tokens_left, tokens_behind, all_before}
use Rattle.dm_expand.proofs.paste.paste_all.Given as goal

abbrev pub invariant-pieces : goal.invariant-pieces
invariant-pieces l =
    tokens_left l.site (map piece_value l.fn.pieces.items) ≡ all_before l.done.items (tokens_behind l.site (piece_value l.left) (map piece_value l.queue.items))

abbrev pub decreases-pieces : goal.decreases-pieces
decreases-pieces l = length l.queue.items
