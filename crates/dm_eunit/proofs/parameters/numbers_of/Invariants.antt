use Rattle.std.specs.Prelude.{◌≡◌, ◌++◌, List as Sequence, map, drop}
use Rattle.dm_type.specs.declared.shape.Shape.{Shape}
use Rattle.dm_edeclarator.specs.Steps.{parameter_over}
use Rattle.dm_edecl.specs.Units as units
use Rattle.dm_eunit.proofs.parameters.numbers_of.Given as goal

-- the numbers so far, and those of the rest, are all
abbrev pub invariant-loop-parameter : goal.invariant-loop-parameter
invariant-loop-parameter l = (later : Sequence Shape) →
    l.numbers ++ units.numbers_of (map (parameter_over later) (drop l.parameter-index l.parameters)) ≡ units.numbers_of (map (parameter_over later) l.parameters)
