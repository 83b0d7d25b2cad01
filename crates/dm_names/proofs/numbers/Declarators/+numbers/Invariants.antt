-- What is behind the rest is what is behind the whole.
use Rattle.std.proofs.Common.{◌≡◌, drop, map}
use Rattle.dm_tree.specs.Trees.{trees}
use Rattle.dm_tree.specs.Views.{view}
use Rattle.dm_names.specs.Declarations as declarations
use Rattle.dm_names.proofs.numbers.Declarators.+numbers.Given as goal

abbrev pub invariant-inside_all-loop-item : goal.invariant-inside_all-loop-item
invariant-inside_all-loop-item l = declarations.numbers_in_all l.all (trees (map (view l.self.types.now) (drop l.item-index l.items))) ≡ declarations.numbers_in_all l.fn.all (trees (map (view l.self.types.now) l.items))
