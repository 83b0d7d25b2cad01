-- The answer is that for the operands that are left.
use Rattle.std.proofs.Common.{◌≡◌, suc}
use Rattle.std.specs.Option.{option_map_or}
use Rattle.dm_type.specs.Tables.{Table}
use Rattle.dm_tree.specs.Views.{view}
use Rattle.dm_effect.specs.Doubts.{is_doubted_beside}
use Rattle.dm_effect.specs.Operands.{others_by}
use Rattle.dm_effect.proofs.around.any_other.Given as goal

abbrev pub invariant-loop-left : goal.invariant-loop-left
invariant-loop-left l =
    (types : Table) → is_doubted_beside types l.doubt (view types l.tree) (others_by l.number l.left) ≡ is_doubted_beside types l.doubt (view types l.tree) (others_by l.number l.fn.last)

abbrev pub decreases-loop-left : goal.decreases-loop-left
decreases-loop-left l = option_map_or suc l.left 0
