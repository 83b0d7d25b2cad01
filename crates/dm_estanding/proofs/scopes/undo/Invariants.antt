-- What is left to undo gives what all changes since the mark do.
use Rattle.std.specs.Prelude.{◌≡◌, take, drop, length}
use Rattle.dm_estanding.specs.Undoing.{undone}
use Rattle.dm_estanding.proofs.scopes.undo.Given as goal

abbrev pub invariant-loop-mark : goal.invariant-loop-mark
invariant-loop-mark l =
    (take l.mark.declared (undone (drop l.mark.retyped l.retyped.items) l.entries) ≡ take l.mark.declared (undone (drop l.mark.retyped l.fn.retyped.items) l.fn.entries))
    × (drop l.mark.declared l.entries ≡ drop l.mark.declared l.fn.entries)
    × (take l.mark.retyped l.retyped.items ≡ take l.mark.retyped l.fn.retyped.items)

abbrev pub decreases-loop-mark : goal.decreases-loop-mark
decreases-loop-mark l = length l.retyped.items
