-- What the call for a whole unit gives on the way.
--     typed_by setting shapes externals      a unit in a setting
use Rattle.std.specs.Prelude.{List}
use Rattle.dm_type.specs.declared.shape.Shape.{Shape}
use Rattle.dm_syn.specs.Trees.{External}
use Rattle.dm_tree.specs.Units.{TypedUnit}
use Rattle.dm_typing.specs.Known.{Setting, Outcome}
use Rattle.dm_edecl.specs.Units.{typed_externals, beginning, unit_of}

-- a unit in a setting
abbrev pub typed_by : Setting → List Shape → List External → Outcome TypedUnit
typed_by setting shapes externals = unit_of (typed_externals setting (beginning shapes) externals)
