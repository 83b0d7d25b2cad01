-- What is behind the rest is what is behind the whole.
use Rattle.std.proofs.Common.{◌≡◌, [], drop, map}
use Rattle.dm_tree.specs.Views.{view_of_external}
use Rattle.dm_names.specs.Declarations as declarations
use Rattle.dm_names.proofs.numbers.Declarators.numbers.Given as goal

abbrev pub invariant-loop-external : goal.invariant-loop-external
invariant-loop-external l = declarations.numbers_declared l.all (map (view_of_external l.self.types.now) (drop l.external-index l.externals)) ≡ declarations.numbers_declared [] (map (view_of_external l.self.types.now) l.externals)
