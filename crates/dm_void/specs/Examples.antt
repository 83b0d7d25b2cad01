-- void f(void) { (void)0; }
--     unit, program      it, and its program
--     value      the expression whose value f drops
--     functions      the same function, which returns that value
use Rattle.std.specs.Prelude.{List, [], ◌∷◌, pos, codes}
use Rattle.dm_type.specs.CTypes.{CType, void, function as function_type, no_types}
use Rattle.dm_type.specs.Tables.{no_type}
use Rattle.dm_tree.specs.declared.unit.Linkage.TheVariants.{External as Outer}
use Rattle.dm_tree.specs.declared.unit.Sort.TheVariants.{Function}
use Rattle.dm_tree.specs.Trees.{Label, number, convert, block, full, return, Tree, node, no_trees, more_trees}
use Rattle.dm_tree.specs.Units.{Declaration, External, defines_function, TypedUnit}
use Rattle.dm_meaning.specs.Programs.{Definition, Program}
use Rattle.dm_meaning.specs.Units.{program_of}
use Rattle.dm_sound.specs.Examples.{int, no_span, somewhere, spans}

abbrev of_one : Label → CType → Tree → Tree
of_one label kind part = node label kind spans (more_trees part no_trees)

abbrev pub value : Tree
value = of_one convert void (node (number (pos 0)) int spans no_trees)

abbrev pub body : Tree
body = of_one block void (of_one full void value)

abbrev pub entry : Declaration
entry = record { name = codes "f"; sort = Function; kind = function_type void no_types; linkage = Outer; place = somewhere }

abbrev pub external : External
external = record { span = no_span; constants = []; form = defines_function 0 [] body }

abbrev pub unit : TypedUnit
unit = record { declared = entry ∷ []; externals = external ∷ [] }

abbrev pub program : Program
program = program_of no_type unit

abbrev pub functions : List Definition
functions = record { function = 0; parameters = []; body = of_one block void (of_one return void value) } ∷ []
