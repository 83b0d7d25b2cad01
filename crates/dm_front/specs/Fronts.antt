-- A front of external declarations that are typed.
--     IsFront setting standing front others end made      the front is typed, and the others behind it, to all that is made
use Rattle.std.specs.Prelude.{◌≡◌, List, ◌++◌}
use Rattle.dm_syn.specs.Trees.{External}
use Rattle.dm_tree.specs.Units as unit
use Rattle.dm_typing.specs.Known.{Setting}
use Rattle.dm_edecl.specs.Standing.{Standing, goes_on}
use Rattle.dm_edecl.specs.Units.{typed_externals}

abbrev pub IsFront : Setting → Standing → List External → List External → Standing → List unit.External → Type 0
IsFront setting standing front others end made =
    (behind : Standing) × (first : List unit.External) × (more : List unit.External) × (typed_externals setting standing front ≡ goes_on behind first)
    × (typed_externals setting behind others ≡ goes_on end more) × (made ≡ first ++ more)
