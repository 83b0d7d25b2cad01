-- All of them are, if the rest are.
use Rattle.std.specs.Prelude.{◌≡◌, List, drop}
use Rattle.dm_type.specs.declared.shape.Shape.{Shape}
use Rattle.dm_typing.specs.Views.{known_over}
use Rattle.dm_edeclaration.specs.Steps.{are_functions_in}
use Rattle.dm_edeclaration.proofs.declarations.are_functions.Given as goal

abbrev pub invariant-loop-local : goal.invariant-loop-local
invariant-loop-local l =
    (later : List Shape) → are_functions_in (known_over later l.known) l.locals ≡ are_functions_in (known_over later l.known) (drop l.local-index l.locals)
