-- Small units in which a name stands in the scope of its declaration, and in which it doesn't.
use Rattle.std.specs.Prelude.{ℕ, true, false, List, [], ◌∷◌, None}
use Rattle.dm_token.specs.declared.place.Place.{Place}
use Rattle.dm_int.specs.declared.Kind.TheVariants.{Int}
use Rattle.dm_type.specs.CTypes.{integer, void}
use Rattle.dm_tree.specs.declared.unit.Sort.{Sort}
use Rattle.dm_tree.specs.declared.unit.Sort.TheVariants.{Object, Function}
use Rattle.dm_tree.specs.declared.unit.Linkage.TheVariants.{Absent}
use Rattle.dm_tree.specs.Trees.{object, read, block, declare, full, Spans, Tree, node, trees}
use Rattle.dm_tree.specs.Units.{Declaration, External, defines_function, TypedUnit}

abbrev first_place : Place
first_place = record { file = 0; byte = 0; line = 0; column = 0 }

abbrev spans : Spans
spans = record { inner = record { first = 0; after = 1 }; outer = record { first = 0; after = 1 }; place = first_place }

abbrev entry : Sort → Declaration
entry sort = record { name = []; sort = sort; kind = integer Int; linkage = Absent; place = first_place }

-- a function, a local object, and another function
abbrev entries : List Declaration
entries = entry Function ∷ entry (Object false) ∷ entry Function ∷ []

-- `int x;` and `x;`
abbrev declaring : Tree
declaring = node (declare 0 (record { declared = 1; defines = true; initialiser = None } ∷ [])) void spans (trees [])

abbrev naming : Tree
naming = node full void spans (trees (node read (integer Int) spans (trees (node (object 1) (integer Int) spans (trees []) ∷ [])) ∷ []))

abbrev enclosed : List Tree → Tree
enclosed items = node block void spans (trees items)

abbrev defined : ℕ → List Tree → External
defined f items = record { span = spans.inner; constants = []; form = defines_function f [] (enclosed items) }

abbrev unit_of : List External → TypedUnit
unit_of externals = record { declared = entries; externals = externals }

-- behind its declaration, before it, behind its block, and in another function
abbrev pub own : TypedUnit
own = unit_of (defined 0 (declaring ∷ naming ∷ []) ∷ [])

abbrev pub early : TypedUnit
early = unit_of (defined 0 (naming ∷ declaring ∷ []) ∷ [])

abbrev pub late : TypedUnit
late = unit_of (defined 0 (enclosed (declaring ∷ []) ∷ naming ∷ []) ∷ [])

abbrev pub foreign : TypedUnit
foreign = unit_of (defined 0 (declaring ∷ []) ∷ defined 2 (naming ∷ []) ∷ [])
