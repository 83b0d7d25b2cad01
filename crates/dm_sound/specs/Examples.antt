-- A small program that meets the premises of the laws: `int c;`, the expression `c++` where `c` has the value 5, and the negative of a call.
use Rattle.std.specs.Prelude.{ℕ, ◌+◌, true, false, List, [], ◌∷◌, Some, None, pos, codes}
use Rattle.dm_token.specs.declared.place.Place.{Place}
use Rattle.dm_token.specs.declared.place.Span.{Span}
use Rattle.dm_int.specs.declared.Kind.TheVariants.{Char, Int}
use Rattle.dm_type.specs.CTypes.{CType, void, integer, array, function as function_type, no_types}
use Rattle.dm_type.specs.declared.shape.Shape.TheVariants as shape
use Rattle.dm_type.specs.declared.shape.Struct.{Struct}
use Rattle.dm_type.specs.Tables.{Table, no_type}
use Rattle.dm_tree.specs.declared.tree.Core.{Core, roll-Core}
use Rattle.dm_tree.specs.declared.tree.Form.{roll-Form}
use Rattle.dm_tree.specs.declared.tree.Form.TheOpen as layer
use Rattle.dm_tree.specs.declared.unit.CoreExternalForm.TheVariants as code
use Rattle.dm_tree.specs.declared.unit.CoreUnit.{CoreUnit}
use Rattle.dm_tree.specs.declared.tree.Sign.TheVariants.{Minus}
use Rattle.dm_tree.specs.declared.unit.Linkage.TheVariants.{External as Outer}
use Rattle.dm_tree.specs.declared.unit.Sort.TheVariants.{Object, Function}
use Rattle.dm_tree.specs.Trees.{Label, object, function, count, unary, call, block, Spans, Tree, Trees, node, no_trees, more_trees}
use Rattle.dm_tree.specs.Units.{Declaration, External, declares, defines_function, TypedUnit}
use Rattle.dm_tree.specs.Views.{view, view_of_unit}
use Rattle.dm_meaning.specs.Machines.{going}
use Rattle.dm_meaning.specs.Values.{At, numbered, Value, integer_value, parts, unset, no_values, more_values}
use Rattle.dm_meaning.specs.Programs.{Definition, Program}
use Rattle.dm_meaning.specs.Operations.{designates, Operand, World, Scene, whole}
use Rattle.dm_meaning.specs.Running.{evaluates, Run, done, to_do, no_runs, more_runs, Hole, here, within, in_first}
use Rattle.dm_meaning.specs.States.{Task, begins, ends, State}
use Rattle.dm_meaning.specs.Units.{program_of, start}

abbrev pub somewhere : Place
somewhere = record { file = 0; byte = 0; line = 1; column = 1 }

abbrev pub no_span : Span
no_span = record { first = 0; after = 0 }

abbrev pub spans : Spans
spans = record { inner = no_span; outer = no_span; place = somewhere }

abbrev pub int : CType
int = integer Int

-- int c;
abbrev pub entry : Declaration
entry = record { name = codes "c"; sort = Object true; kind = int; linkage = Outer; place = somewhere }

abbrev pub external : External
external = record { span = no_span; constants = []; form = declares (record { declared = 0; defines = true; initialiser = None } ∷ []) [] }

abbrev pub unit : TypedUnit
unit = record { declared = entry ∷ []; externals = external ∷ [] }

abbrev pub program : Program
program = program_of no_type unit

-- c++
abbrev pub counting : Label
counting = count true false

abbrev pub name : Trees
name = more_trees (node (object 0) int spans no_trees) no_trees

abbrev pub counted : Tree
counted = node counting int spans name

-- c has the number 7
abbrev pub scene : Scene
scene = record { program = program; objects = (0, 7) ∷ [] }

abbrev pub world_with : ℕ → World
world_with n = record {
  memory = (7, record { kind = int; contents = integer_value Int (pos n); alive = true; writable = true }) ∷ [];
  input = [];
  output = [];
}

abbrev pub place : At
place = whole (numbered 7)

abbrev pub operands : List Operand
operands = record { kind = int; result = designates place } ∷ []

-- c++ where c is evaluated
abbrev pub counting_run : Run
counting_run = to_do (evaluates counting) int somewhere (more_runs (done int (designates place) []) no_runs)

-- the negative of a call, and the same with the call left out
abbrev pub negated : Tree
negated = node (unary Minus) int spans (more_trees (node call int spans (more_trees (node (function 1) (function_type int no_types) spans no_trees) no_trees)) no_trees)

abbrev pub negation : Hole
negation = within (evaluates (unary Minus)) int somewhere (in_first here no_runs)

-- an array of two ints, of which the first is 1 and the second isn't set
abbrev pub two : CType
two = array int (Some 2)

abbrev pub one_of_two : Value
one_of_two = parts (more_values (integer_value Int (pos 1)) (more_values unset no_values))

-- int c; int main(void) {}
abbrev pub main_entry : Declaration
main_entry = record { name = codes "main"; sort = Function; kind = function_type int no_types; linkage = Outer; place = somewhere }

abbrev pub body : Tree
body = node block void spans no_trees

abbrev pub main_external : External
main_external = record { span = no_span; constants = []; form = defines_function 1 [] body }

abbrev pub running_unit : TypedUnit
running_unit = record { declared = entry ∷ main_entry ∷ []; externals = external ∷ main_external ∷ [] }

abbrev pub running : Program
running = program_of no_type running_unit

-- the body begins as a statement, and behind it the block ends
abbrev state_with : List Task → State
state_with tasks = record { standing = going; frame = record { function = 1; objects = []; tasks = tasks }; callers = []; statics = (0, 7) ∷ []; world = world_with 5 }

abbrev pub beginning : State
beginning = state_with (begins body ∷ [])

abbrev pub behind : State
behind = state_with (ends [] ∷ [])

-- a run of it on no input begins so, where the objects have the numbers from 8 on
abbrev pub main_definition : Definition
main_definition = record { function = 1; parameters = []; body = body }

abbrev pub started : State
started = start (λ i. 8 + i) running main_definition []

-- int main(void) {} as the code has it; its types by number are char, char *, char *[1], int, int(void) and void
abbrev pub types : Table
types = record { shapes = shape.Integer Char ∷ shape.Pointer 0 ∷ shape.Array 1 (Some 1) ∷ shape.Integer Int ∷ shape.Function 3 [] ∷ shape.Void ∷ []; structs = [] }

abbrev pub core_body : Core
core_body = roll-Core (record { form = roll-Form (layer.Block []); kind = 5; inner = no_span; outer = no_span; place = somewhere })

abbrev pub core_unit : CoreUnit
core_unit = record {
  argv = 2;
  declared = record { name = codes "main"; sort = Function; kind = 4; linkage = Outer; place = somewhere } ∷ [];
  externals = record { span = no_span; constants = []; form = code.Function 0 [] core_body } ∷ [];
}

abbrev pub core_program : Program
core_program = program_of types (view_of_unit types core_unit)

abbrev pub core_started : State
core_started = start (λ i. i) core_program (record { function = 0; parameters = []; body = view types core_body }) []

-- struct { int m; } in two tables, of which the first has int as its first type, and the second char
abbrev pub struct_with : ℕ → List Struct
struct_with int_number = record { tag = None; content = Some (record { members = record { name = codes "m"; kind = int_number } ∷ []; layout = Some (record { size = 4; alignment = 4 }) }) } ∷ []

abbrev pub one_table : Table
one_table = record { shapes = shape.Integer Int ∷ []; structs = struct_with 0 }

abbrev pub other_table : Table
other_table = record { shapes = shape.Integer Char ∷ shape.Integer Int ∷ []; structs = struct_with 1 }
