-- Trees that are built from some leaves by some nodes.
--     is_built rule tree      a tree is, by a rule for nodes
use Rattle.std.specs.Prelude.{Bool, false, ◌&&◌, List, [], ◌∷◌}
use Rattle.std.specs.List.{list_all}
use Rattle.dm_type.specs.CTypes.{CType}
use Rattle.dm_tree.specs.Trees.{Label, Tree, Trees, node, no_trees, more_trees}

-- what a rule says of a node: it is settled by itself, or it is as its first part is, or as all its parts are, of which it has some
pub data Ruling : Type 0 where
  settled : Bool → Ruling
  by_operand : Ruling
  by_parts : Ruling

abbrev pub all_there : List Bool → Bool
all_there [] = false
all_there (passed ∷ others) = passed && list_all (λ other. other) others

abbrev pub first_there : List Bool → Bool
first_there [] = false
first_there (passed ∷ others) = passed

abbrev pub ruled : Ruling → List Bool → Bool
ruled (settled passed) parts = passed
ruled by_operand parts = first_there parts
ruled by_parts parts = all_there parts

abbrev mutual
  pub is_built : (Label → CType → Trees → Ruling) → Tree → Bool
  is_built rule (node label kind spans parts) = ruled (rule label kind parts) (are_built rule parts)

  pub are_built : (Label → CType → Trees → Ruling) → Trees → List Bool
  are_built rule no_trees = []
  are_built rule (more_trees first rest) = is_built rule first ∷ are_built rule rest
