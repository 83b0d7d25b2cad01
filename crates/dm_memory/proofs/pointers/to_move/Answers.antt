-- It is null and moves, leaves its array, or can't be used.
use Rattle.std.proofs.Common.{◌&&◌, not, pos, ap, ◌∙◌}
use Rattle.std.proofs.lemmas.Int.{to_z-of_z}
use mir.Syntax.{w128}
use Rattle.dm_int.specs.Operators.{int_eq}
use Rattle.dm_meaning.specs.declared.cause.Cause.TheVariants.{Null, Bounds}
use Rattle.dm_meaning.specs.Causes.{earliest, is_null, when}
use Rattle.dm_value.specs.Sooner.{joined}
use Rattle.dm_value.specs.Views.{view_of_pointer}
use Rattle.dm_memory.proofs.pointers.to_move.Goals as goal

pub returns : goal.returns
returns c =
    let moves = c.moves_from_null.ensures
    ∙ ap (λ count. is_null (view_of_pointer c.args.pointer.now) && not (int_eq count (pos 0))) (to_z-of_z w128 c.args.count c.ranges.count) in
    λ types. c.sooner.ensures ∙ joined _ _ _ _
    (c.sooner-two.ensures ∙ joined _ _ _ _ (c.when-null.ensures ∙ ap (λ b. earliest (when Null b)) moves)
    (c.when-bounds.ensures ∙ ap (λ b. earliest (when Bounds b)) c.is_missing.ensures))
    (c.to_use-used.ensures types)
