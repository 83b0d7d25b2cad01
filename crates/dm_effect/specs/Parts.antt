-- The trees directly below a node of the code.
--     parts_in types parts      them, in order
--     AreBelow depth parts      none is deeper
--     found_in types found rest      what a search for a part comes to, with the parts that are still to be searched
use Rattle.std.specs.Prelude.{ℕ, ◌≤◌, List, ◌++◌, map, Option, Some, option_map}
use Rattle.std.specs.Option.{option_copied, option_map_or}
use denote.Param.Weighed.{most}
use Rattle.dm_type.specs.Tables.{Table}
use Rattle.dm_tree.specs.declared.tree.Core.{size-Core}
use Rattle.dm_tree.specs.declared.tree.Local.{size-Local}
use Rattle.dm_tree.specs.Paths.{tree_in}
use Rattle.dm_tree.specs.Trees.{Tree, trees}
use Rattle.dm_tree.specs.Views.{if_there, expressions_of_locals, view, view_of_local}
use Rattle.dm_effect.specs.declared.parts.Parts.{Parts}
use Rattle.dm_effect.specs.declared.parts.Search.{Search}
use Rattle.dm_effect.specs.declared.parts.Search.TheVariants.{Found, Left}

abbrev pub parts_in : Table → Parts → List Tree
parts_in types parts =
    if_there (option_map (view types) (option_copied parts.first))
    ++ (if_there (option_map (view types) (option_copied parts.second))
    ++ (if_there (option_map (view types) (option_copied parts.third))
    ++ (if_there (option_map (view types) (option_copied parts.fourth))
    ++ (map (view types) parts.items.now ++ expressions_of_locals (map (view_of_local types) parts.locals.now)))))

pub record AreBelow (depth : ℕ) (parts : Parts) : Type 0 where
  pub first : option_map_or size-Core (option_copied parts.first) 0 ≤ depth
  pub second : option_map_or size-Core (option_copied parts.second) 0 ≤ depth
  pub third : option_map_or size-Core (option_copied parts.third) 0 ≤ depth
  pub fourth : option_map_or size-Core (option_copied parts.fourth) 0 ≤ depth
  pub items : most size-Core parts.items.now ≤ depth
  pub locals : most size-Local parts.locals.now ≤ depth

abbrev pub found_in : Table → Search → List Tree → Option Tree
found_in types (Found core) rest = Some (view types core.now)
found_in types (Left n) rest = tree_in (trees rest) n
