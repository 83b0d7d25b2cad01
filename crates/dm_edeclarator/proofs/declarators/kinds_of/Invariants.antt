use Rattle.std.proofs.Common.{◌≡◌, map, take}
use Rattle.dm_edeclarator.specs.Steps.{kind_in}
use Rattle.dm_edeclarator.proofs.declarators.kinds_of.Given as goal

-- the types so far
abbrev pub invariant-loop-parameter : goal.invariant-loop-parameter
invariant-loop-parameter l = l.kinds ≡ map kind_in (take l.parameter-index l.parameters)
