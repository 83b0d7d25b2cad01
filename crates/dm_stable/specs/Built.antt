-- What a rule for nodes says of the code.
--     ruling_of answer      a node is settled by itself, if there is an answer, or it is as its parts are
--     is_built_form rule kind form      a node of this form and type is built by the rule
--     are_built_all rule trees      all of some trees are; `are_there` if there are some
use Rattle.std.specs.Prelude.{Bool, true, false, List, [], ◌∷◌, Option, Some, None}
use Rattle.std.specs.List.{list_all}
use Rattle.dm_type.specs.CTypes.{CType}
use Rattle.dm_tree.specs.Trees.{Label, Tree, Trees, trees}
use Rattle.dm_tree.specs.Views.{Opened}
use Rattle.dm_effect.specs.Forms.{Ruling, settled, by_parts, ruled, all_there, are_built}

abbrev pub ruling_of : Option Bool → Ruling
ruling_of (Some passed) = settled passed
ruling_of None = by_parts

abbrev pub is_built_form : (Label → CType → Trees → Ruling) → CType → Opened → Bool
is_built_form rule kind form = ruled (rule form.label kind (trees form.parts)) (are_built rule (trees form.parts))

abbrev pub are_built_all : (Label → CType → Trees → Ruling) → List Tree → Bool
are_built_all rule all = list_all (λ passed. passed) (are_built rule (trees all))

abbrev pub are_there : (Label → CType → Trees → Ruling) → List Tree → Bool
are_there rule all = all_there (are_built rule (trees all))

abbrev pub is_some_tree : List Tree → Bool
is_some_tree [] = false
is_some_tree (first ∷ rest) = true
