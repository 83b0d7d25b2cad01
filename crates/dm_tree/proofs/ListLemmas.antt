-- Lists of trees: a list of trees and the same in the form that a node has them.
use Rattle.std.specs.Prelude.{◌≡◌, List, [], ◌∷◌}
use Rattle.std.proofs.Common.{refl, ap}
use Rattle.dm_tree.specs.Trees.{Tree, trees, listed}

pub listed-trees : (all : List Tree) → listed (trees all) ≡ all
listed-trees [] = refl
listed-trees (first ∷ rest) = ap (λ others. first ∷ others) (listed-trees rest)
