-- So many braces are round the expression.
use Rattle.std.specs.Prelude.{◌≡◌, ◌≤◌, ◌-◌, ℕ, List}
use Rattle.dm_type.specs.declared.shape.Shape.{Shape}
use Rattle.dm_tree.specs.TypeNumbers.{are_known}
use Rattle.dm_typing.specs.Views.{view_over}
use Rattle.dm_edecl.specs.Initialising.{single, braced}
use Rattle.dm_einitial.specs.Steps.{initial_over, are_known_in_initial}
use Rattle.dm_einitial.proofs.scalars.braced.Given as goal

abbrev pub invariant-loop-braces : goal.invariant-loop-braces
invariant-loop-braces l =
    ((later : List Shape) → initial_over later l.whole ≡ braced l.braces (single (view_over later l.fn.tree)))
    × ((n : ℕ) → are_known_in_initial n l.whole ≡ are_known n l.fn.tree)
    × (l.braces ≤ l.depth)

abbrev pub decreases-loop-braces : goal.decreases-loop-braces
decreases-loop-braces l = l.depth - l.braces
