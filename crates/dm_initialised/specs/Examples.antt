-- A small program that meets the premises of the laws: int main(void) { int x = 1; return x; }, of which x needs to be set.
use Rattle.std.specs.Prelude.{ℕ, ◌==◌, Bool, true, false, [], ◌∷◌, Some, pos, codes}
use Rattle.dm_type.specs.CTypes.{void}
use Rattle.dm_type.specs.Tables.{no_type}
use Rattle.dm_tree.specs.declared.unit.Linkage.TheVariants.{Absent}
use Rattle.dm_tree.specs.declared.unit.Sort.TheVariants.{Object}
use Rattle.dm_tree.specs.Trees.{number, object, read, block, declare, return, one_expression, Tree, node, no_trees, more_trees}
use Rattle.dm_tree.specs.Units.{Declaration, External, defines_function, TypedUnit}
use Rattle.dm_meaning.specs.Programs.{Definition, Program}
use Rattle.dm_meaning.specs.States.{begins, State}
use Rattle.dm_meaning.specs.Statements.{begin_declarator}
use Rattle.dm_meaning.specs.Steps.{turned}
use Rattle.dm_meaning.specs.Units.{program_of, start}
use Rattle.dm_sound.specs.Examples.{somewhere, no_span, spans, int, main_entry}

abbrev pub entry : Declaration
entry = record { name = codes "x"; sort = Object false; kind = int; linkage = Absent; place = somewhere }

-- int x = 1;
abbrev pub one : Tree
one = node (number (pos 1)) int spans no_trees

abbrev pub declaration : Tree
declaration = node (declare 0 (record { declared = 1; defines = true; initialiser = Some one_expression } ∷ [])) void spans (more_trees one no_trees)

-- return x;
abbrev pub named : Tree
named = node (object 1) int spans no_trees

abbrev pub reading : Tree
reading = node read int spans (more_trees named no_trees)

abbrev pub back : Tree
back = node return void spans (more_trees reading no_trees)

abbrev pub body : Tree
body = node block void spans (more_trees declaration (more_trees back no_trees))

abbrev pub external : External
external = record { span = no_span; constants = []; form = defines_function 0 [] body }

abbrev pub unit : TypedUnit
unit = record { declared = main_entry ∷ entry ∷ []; externals = external ∷ [] }

abbrev pub program : Program
program = program_of no_type unit

abbrev pub needs : ℕ → Bool
needs d = d == 1

abbrev pub no_needs : ℕ → Bool
no_needs d = false

abbrev pub main : Definition
main = record { function = 0; parameters = []; body = body }

-- the beginning of a run on no input, where the objects have the numbers in order
abbrev pub beginning : State
beginning = start (λ i. i) program main []

-- the state behind its first step, in which the declarator of x begins
abbrev pub behind : State
behind =
    turned beginning
    (begin_declarator program beginning.frame.objects (begins back ∷ []) beginning.world.memory (record { declared = 1; defines = true; initialiser = Some one_expression }) (one ∷ []))
