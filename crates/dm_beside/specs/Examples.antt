-- Small units with runs of macros: the examples of `src/examples.rt`. Tokens are counted from 0 in each unit.
use Rattle.std.specs.Prelude.{ℕ, ◌+◌, ◌-◌, Bool, true, false, List, [], ◌∷◌, Option, Some, None, pos, codes}
use Rattle.dm_int.specs.declared.Kind.TheVariants.{Int, UInt}
use Rattle.dm_int.specs.declared.Op.TheVariants.{Add, Mul, Greater}
use Rattle.dm_token.specs.declared.place.Place.{Place}
use Rattle.dm_token.specs.declared.place.Span.{Span}
use Rattle.dm_type.specs.CTypes.{CType, void, integer, pointer, function as function_type, no_types}
use Rattle.dm_runs.specs.declared.run.Occurrence.{Occurrence}
use Rattle.dm_runs.specs.declared.run.Run.{Run}
use Rattle.dm_tree.specs.declared.unit.Linkage.TheVariants.{External, Absent}
use Rattle.dm_tree.specs.declared.unit.Sort.TheVariants.{Object, Function}
use Rattle.dm_tree.specs.Trees.{Label, number, object, function, read, follow, binary, both, choose, store, count, call, sizeof_tree, block, declare, return, Initialiser, one_expression, Tree, node, trees}
use Rattle.dm_tree.specs.Units.{Declaration, defines_function, TypedUnit}

-- ---- trees

abbrev place : Place
place = record { file = 0; byte = 0; line = 1; column = 1 }

abbrev span : ℕ → ℕ → Span
span first after = record { first = first; after = after }

-- a node by its own tokens and the pairs of parentheses round them
abbrev tree : Label → CType → ℕ → ℕ → ℕ → List Tree → Tree
tree label kind first after pairs parts =
    node label kind (record { inner = span first after; outer = span (first - pairs) (after + pairs); place = place }) (trees parts)

abbrev int : CType
int = integer Int

-- the value of an object, and a constant, at a token
abbrev value : ℕ → ℕ → ℕ → Tree
value d n pairs = tree read int n (n + 1) pairs (tree (object d) int n (n + 1) pairs [] ∷ [])

abbrev constant_of : CType → ℕ → ℕ → ℕ → Tree
constant_of kind z n pairs = tree (number (pos z)) kind n (n + 1) pairs []

-- what a pointer points to, from a token on
abbrev pub pointed : ℕ → ℕ → ℕ → Tree
pointed d n pairs =
    tree read int n (n + 2) pairs
    (tree follow int n (n + 2) pairs (tree read (pointer int) (n + 1) (n + 2) 0 (tree (object d) (pointer int) (n + 1) (n + 2) 0 [] ∷ []) ∷ []) ∷ [])

-- x++ from a token on
abbrev pub counted : ℕ → ℕ → ℕ → Tree
counted d n pairs = tree (count true false) int n (n + 2) pairs (tree (object d) int n (n + 1) 0 [] ∷ [])

-- ---- units

abbrev no_parameters : CType
no_parameters = function_type int no_types

abbrev object_entry : Bool → CType → Declaration
object_entry fixed kind = record { name = codes "x"; sort = Object fixed; kind = kind; linkage = Absent; place = place }

abbrev function_entry : Declaration
function_entry = record { name = codes "f"; sort = Function; kind = no_parameters; linkage = External; place = place }

-- a function of the number 3, whose body has these items; the object 0 and 1 have storage of such a duration and this type
abbrev pub unit_with : Bool → CType → List Tree → TypedUnit
unit_with fixed kind items = record {
  declared = object_entry fixed kind ∷ object_entry fixed kind ∷ function_entry ∷ function_entry ∷ [];
  externals = record { span = span 0 60; constants = []; form = defines_function 3 [] (tree block void 8 60 0 items) } ∷ [];
}

abbrev returned : Tree → Tree
returned expression = tree return void 9 59 0 (expression ∷ [])

abbrev pub returning : Bool → Tree → TypedUnit
returning fixed expression = unit_with fixed int (returned expression ∷ [])

-- pointers to int
abbrev pub returning_at : Tree → TypedUnit
returning_at expression = unit_with false (pointer int) (returned expression ∷ [])

-- g() at a token
abbrev called : ℕ → Tree
called n = tree call int n (n + 3) 0 (tree (function 2) no_parameters n (n + 1) 0 [] ∷ [])

-- ---- runs

abbrev pub occurrence : ℕ → ℕ → ℕ → ℕ → Occurrence
occurrence parameter n first after = record { parameter = parameter; occurrence = n; span = span first after }

abbrev pub run : ℕ → ℕ → List Occurrence → Run
run first after occurrences = record { instance = 0; prefix = []; span = span first after; occurrences = occurrences }

-- ---- `#define MAX(a,b) ((a)>(b)?(a):(b))`: `MAX(x,y)` from the token 11 on, alone and in `MAX(x,y)+g()`

abbrev pub greater : Tree
greater =
    tree choose int 12 27 1 (tree (binary Greater) int 12 19 0 (value 0 13 1 ∷ value 1 17 1 ∷ []) ∷ value 0 21 1 ∷ value 1 25 1 ∷ [])

abbrev pub greater_and_call : Tree
greater_and_call = tree (binary Add) int 11 32 0 (greater ∷ called 29 ∷ [])

-- `MAX(*p,*q)+g()`, where each argument has two tokens
abbrev pub pointed_and_call : Tree
pointed_and_call =
    tree (binary Add) int 11 36 0
    (tree choose int 12 31 1 (tree (binary Greater) int 12 21 0 (pointed 0 13 1 ∷ pointed 1 18 1 ∷ []) ∷ pointed 0 23 1 ∷ pointed 1 28 1 ∷ []) ∷ called 33 ∷ [])

abbrev pub run_of_max : Run
run_of_max = run 11 28 (occurrence 0 0 13 14 ∷ occurrence 1 0 17 18 ∷ occurrence 0 1 21 22 ∷ occurrence 1 1 25 26 ∷ [])

abbrev pub run_of_pointed : Run
run_of_pointed = run 11 32 (occurrence 0 0 13 15 ∷ occurrence 1 0 18 20 ∷ occurrence 0 1 23 25 ∷ occurrence 1 1 28 30 ∷ [])

-- ---- `#define AND(a,b) ((a)&&(b))` in `AND(1,x)`, in a body with `int x = 1;` or `int x;`

abbrev pub and_unit : Option Initialiser → List Tree → TypedUnit
and_unit initialiser expressions =
    unit_with false int
    (tree (declare 0 (record { declared = 0; defines = true; initialiser = initialiser } ∷ [])) void 9 14 0 expressions
    ∷ tree return void 14 30 0 (tree both int 16 23 1 (constant_of int 1 17 1 ∷ value 0 21 1 ∷ []) ∷ []) ∷ [])

abbrev pub set_unit : TypedUnit
set_unit = and_unit (Some one_expression) (constant_of int 1 12 0 ∷ [])

abbrev pub unset_unit : TypedUnit
unset_unit = and_unit None []

abbrev pub run_of_and : Run
run_of_and = run 15 24 (occurrence 0 0 17 18 ∷ occurrence 1 0 21 22 ∷ [])

-- ---- `#define SQUARE(a) ((a)*(a))` in `SQUARE(x++)`, and `#define ONCE(a) ((a)*2)` in `ONCE(x++)`

abbrev pub squared : Tree
squared = tree (binary Mul) int 11 20 1 (counted 0 12 1 ∷ counted 0 17 1 ∷ [])

abbrev pub run_of_square : Run
run_of_square = run 10 21 (occurrence 0 0 12 14 ∷ occurrence 0 1 17 19 ∷ [])

abbrev pub once : Tree
once = tree (binary Mul) int 11 17 1 (counted 0 12 1 ∷ constant_of int 2 16 0 ∷ [])

abbrev pub run_of_once : Run
run_of_once = run 10 18 (occurrence 0 0 12 14 ∷ [])

-- ---- `#define SUM(a,b) a+b` in `SUM(1,2)*3`

abbrev pub sum_and_product : Tree
sum_and_product =
    tree (binary Add) int 10 15 0 (constant_of int 1 10 0 ∷ tree (binary Mul) int 12 15 0 (constant_of int 2 12 0 ∷ constant_of int 3 14 0 ∷ []) ∷ [])

abbrev pub run_of_sum : Run
run_of_sum = run 10 13 (occurrence 0 0 10 11 ∷ occurrence 1 0 12 13 ∷ [])

-- ---- `#define CLEAR(a) ((a)=0)` in `CLEAR(x)`

abbrev pub cleared : Tree
cleared = tree store int 11 16 1 (tree (object 0) int 12 13 1 [] ∷ constant_of int 0 15 0 ∷ [])

abbrev pub run_of_clear : Run
run_of_clear = run 10 17 (occurrence 0 0 12 13 ∷ [])

-- ---- `#define TEN 10` and `#define TEN 10u` in `sizeof TEN` and in `TEN`

abbrev pub ten : CType → Tree
ten kind = constant_of kind 10 11 0

abbrev pub size_of_ten : CType → Tree
size_of_ten kind = tree sizeof_tree (integer UInt) 10 12 0 (ten kind ∷ [])

abbrev pub unsigned : CType
unsigned = integer UInt

abbrev pub signed : CType
signed = int

abbrev pub run_of_ten : Run
run_of_ten = run 11 12 []
