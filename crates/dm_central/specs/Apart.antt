-- Trees that read objects by their names alone, none of which trees with these effects write.
--     ReadsFreeNames stage effects tree      each read in the tree is of a name, and there is no effect on its object
use Rattle.std.specs.Prelude.{◌≡◌, ℕ, List, Some}
use Rattle.dm_tree.specs.Trees.{Label, object, read, Tree, Trees, node, no_trees, more_trees}
use Rattle.dm_meaning.specs.Operations.{object_named}
use Rattle.dm_rewrite.specs.Effects.{Effect, Stage, IsFree}

-- what a read reads
abbrev pub ReadsFreeName : Stage → List Effect → Label → Trees → Type 0
ReadsFreeName stage effects read (more_trees (node (object d) kind spans no_trees) no_trees) =
    (n : ℕ) → object_named stage.scene.objects d ≡ Some n → IsFree stage.closed effects n
ReadsFreeName stage effects read parts = ⊥
ReadsFreeName stage effects label parts = Unit {0}

abbrev mutual
  pub ReadsFreeNames : Stage → List Effect → Tree → Type 0
  ReadsFreeNames stage effects (node label kind spans parts) = ReadsFreeName stage effects label parts × AllReadFreeNames stage effects parts

  pub AllReadFreeNames : Stage → List Effect → Trees → Type 0
  AllReadFreeNames stage effects no_trees = Unit {0}
  AllReadFreeNames stage effects (more_trees first rest) = ReadsFreeNames stage effects first × AllReadFreeNames stage effects rest
