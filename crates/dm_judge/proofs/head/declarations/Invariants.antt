use Rattle.std.proofs.Common.{◌≡◌, ◌++◌, drop, map}
use Rattle.std.specs.Prelude.{option_map}
use Rattle.dm_judge.specs.Changes as changes
use Rattle.dm_judge.proofs.head.declarations.Given as goal

abbrev pub invariant-loop-parameter : goal.invariant-loop-parameter
invariant-loop-parameter l =
    option_map (λ texts. l.texts ++ texts) (changes.declarations l.fn.types l.fn.visible (map (changes.parameter_over l.fn.types) (drop l.parameter-index l.parameters)))
    ≡ changes.declarations l.fn.types l.fn.visible (map (changes.parameter_over l.fn.types) l.fn.parameters)
