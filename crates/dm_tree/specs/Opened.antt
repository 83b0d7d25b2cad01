-- What a form of the code is, by its label and parts.
use Rattle.std.specs.Prelude.{Bool}
use Rattle.dm_tree.specs.Constants.{is_constant_part, constant_forms}
use Rattle.dm_tree.specs.Trees.{trees}
use Rattle.dm_tree.specs.Views.{Opened}

-- the form of an integer constant expression, its own type apart
abbrev pub is_constant_view : Opened → Bool
is_constant_view form = is_constant_part form.label (constant_forms (trees form.parts))
