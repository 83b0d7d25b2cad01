-- What is behind the rest is what is behind the whole.
use Rattle.std.proofs.Common.{◌≡◌, ◌++◌, drop, map}
use Rattle.dm_tree.specs.Views.{declarators_of, view_of_local}
use Rattle.dm_names.specs.Declarations as declarations
use Rattle.dm_names.proofs.numbers.Declarators.here.Given as goal

abbrev pub invariant-loop-local : goal.invariant-loop-local
invariant-loop-local l = l.all ++ declarations.numbers_of (declarators_of (map (view_of_local l.self.types.now) (drop l.local-index l.locals))) ≡ l.fn.all ++ declarations.numbers_of (declarators_of (map (view_of_local l.self.types.now) l.locals))
