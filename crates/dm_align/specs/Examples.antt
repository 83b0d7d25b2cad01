-- Small units before and after the edit of a macro: the examples of `src/examples.rt`. Tokens are counted from 0 in each unit.
use Rattle.std.specs.Prelude.{ℕ, ◌+◌, ◌-◌, true, false, List, [], ◌∷◌, Some, None, pos, codes}
use Rattle.dm_int.specs.declared.Kind.TheVariants.{Int, UInt, Char}
use Rattle.dm_int.specs.declared.Op.TheVariants.{Add, Greater}
use Rattle.dm_token.specs.declared.place.Place.{Place}
use Rattle.dm_token.specs.declared.place.Span.{Span}
use Rattle.dm_type.specs.CTypes.{CType, void, integer, function as function_type, no_types, more_types, const as const_type}
use Rattle.dm_type.specs.Tables.{no_type}
use Rattle.dm_runs.specs.declared.run.Occurrence.{Occurrence}
use Rattle.dm_runs.specs.declared.run.Run.{Run}
use Rattle.dm_tree.specs.declared.unit.Linkage.TheVariants.{External, Internal, Absent}
use Rattle.dm_tree.specs.declared.unit.Sort.TheVariants.{Object, Function, Enumerator}
use Rattle.dm_tree.specs.Trees.{Label, number, enumerator, object, function, read, convert, binary, choose, call, sizeof_tree, block, full, return, one_expression, Tree, node, trees}
use Rattle.dm_tree.specs.Units.{Declaration, External as Outer, declares, defines_function, TypedUnit}
use Rattle.dm_agree.specs.Agreement.{added_function, added_enumerator, added_constant, Rewriting}
use Rattle.dm_align.specs.Units.{Insertion, rewriting_of}

-- ---- trees

abbrev place : Place
place = record { file = 0; byte = 0; line = 1; column = 1 }

abbrev span : ℕ → ℕ → Span
span first after = record { first = first; after = after }

-- a node by its own tokens and the pairs of parentheses round them
abbrev tree : Label → CType → ℕ → ℕ → ℕ → List Tree → Tree
tree label kind first after pairs parts =
    node label kind (record { inner = span first after; outer = span (first - pairs) (after + pairs); place = place }) (trees parts)

abbrev pub int : CType
int = integer Int

-- the value of an object, and a constant, at a token
abbrev pub value_of : CType → ℕ → ℕ → ℕ → Tree
value_of kind d n pairs = tree read kind n (n + 1) pairs (tree (object d) kind n (n + 1) pairs [] ∷ [])

abbrev pub value : ℕ → ℕ → ℕ → Tree
value d n pairs = value_of int d n pairs

abbrev pub constant_of : CType → ℕ → ℕ → Tree
constant_of kind z n = tree (number (pos z)) kind n (n + 1) 0 []

-- f(arguments) from one token to another
abbrev pub called : CType → CType → ℕ → ℕ → ℕ → List Tree → Tree
called kind type f first after arguments = tree call kind first after 0 (tree (function f) type first (first + 1) 0 [] ∷ arguments)

-- ---- units

abbrev entry : List ℕ → CType → Declaration
entry name kind = record { name = name; sort = Object false; kind = kind; linkage = Absent; place = place }

abbrev of_function : List ℕ → CType → Declaration
of_function name kind = record { name = name; sort = Function; kind = kind; linkage = External; place = place }

abbrev of_added : List ℕ → CType → Declaration
of_added name kind = record { name = name; sort = Function; kind = kind; linkage = Internal; place = place }

abbrev no_parameters : CType
no_parameters = function_type int no_types

abbrev pub one_parameter : CType
one_parameter = function_type int (more_types int no_types)

abbrev two_parameters : CType
two_parameters = function_type int (more_types int (more_types int no_types))

-- the definition of a function from one token to another, with the items of its body from the brace on
abbrev defined : ℕ → List ℕ → ℕ → ℕ → ℕ → List Tree → Outer
defined f parameters first brace after items =
    record { span = span first after; constants = []; form = defines_function f parameters (tree block void brace after 0 items) }

abbrev returned : ℕ → ℕ → Tree → Tree
returned first after expression = tree return void first after 0 (expression ∷ [])

abbrev statement : ℕ → ℕ → Tree → Tree
statement first after expression = tree full void first after 0 (expression ∷ [])

-- ---- runs

abbrev occurrence : ℕ → ℕ → ℕ → ℕ → Occurrence
occurrence parameter n first after = record { parameter = parameter; occurrence = n; span = span first after }

abbrev run_with : ℕ → ℕ → List Occurrence → Run
run_with first after occurrences = record { instance = 0; prefix = []; span = span first after; occurrences = occurrences }

-- ---- `#define MAX(a,b) ((a)>(b)?(a):(b))` in `int f(int x, int y) { return MAX(x, y); }`

-- ((x)>(y)?(x):(y)) from a token on
abbrev greater : ℕ → ℕ → ℕ → Tree
greater x y n =
    tree choose int (n + 1) (n + 16) 1 (tree (binary Greater) int (n + 1) (n + 8) 0 (value x (n + 2) 1 ∷ value y (n + 6) 1 ∷ []) ∷ value x (n + 10) 1 ∷ value y (n + 14) 1 ∷ [])

abbrev pub run_of_max : Run
run_of_max = run_with 11 28 (occurrence 0 0 13 14 ∷ occurrence 1 0 17 18 ∷ occurrence 0 1 21 22 ∷ occurrence 1 1 25 26 ∷ [])

abbrev pub max_old : TypedUnit
max_old = record {
  declared = entry (codes "x") int ∷ entry (codes "y") int ∷ of_function (codes "f") two_parameters ∷ [];
  externals = defined 2 (0 ∷ 1 ∷ []) 0 9 30 (returned 10 29 (greater 0 1 11) ∷ []) ∷ [];
}

-- static inline int MAX(int a, int b) { return ((a)>(b)?(a):(b)); }
abbrev pub max_body : Tree
max_body = greater 0 1 13

abbrev max_added : Outer
max_added = defined 2 (0 ∷ 1 ∷ []) 0 11 32 (returned 12 31 max_body ∷ [])

-- the call with these arguments
abbrev pub max_called : ℕ → ℕ → Tree
max_called x y = called int two_parameters 2 43 49 (value x 45 0 ∷ value y 47 0 ∷ [])

abbrev pub max_new : TypedUnit
max_new = record {
  declared = entry (codes "a") int ∷ entry (codes "b") int ∷ of_added (codes "MAX") two_parameters
      ∷ entry (codes "x") int ∷ entry (codes "y") int ∷ of_function (codes "f") two_parameters ∷ [];
  externals = max_added ∷ defined 5 (3 ∷ 4 ∷ []) 32 41 51 (returned 42 50 (max_called 3 4) ∷ []) ∷ [];
}

abbrev pub max_put : Insertion
max_put = record { external = 0; first = 0; count = 3; name = codes "MAX"; added = added_function 2 (0 ∷ 1 ∷ []) max_body }

abbrev pub max_rewriting : Rewriting
max_rewriting = rewriting_of no_type max_old (run_of_max ∷ []) (Some max_put)

abbrev pub max_tree : Tree
max_tree = greater 0 1 11

-- ---- `#define NEXT(x) ((x)+1)` in `int f(int y) { return NEXT(y); }`

-- ((d)+z) from a token on
abbrev pub next : ℕ → ℕ → ℕ → Tree
next d z n = tree (binary Add) int (n + 1) (n + 6) 1 (value d (n + 2) 1 ∷ constant_of int z (n + 5) ∷ [])

abbrev pub next_tree : Tree
next_tree = next 0 1 8

abbrev next_old : TypedUnit
next_old = record {
  declared = entry (codes "y") int ∷ of_function (codes "f") one_parameter ∷ [];
  externals = defined 1 (0 ∷ []) 0 6 17 (returned 7 16 next_tree ∷ []) ∷ [];
}

-- the function has the numbers 0 and 1, with this body
abbrev pub next_rewriting : Tree → Rewriting
next_rewriting body =
    rewriting_of no_type next_old (run_with 8 15 (occurrence 0 0 10 11 ∷ []) ∷ [])
    (Some (record { external = 0; first = 0; count = 2; name = codes "NEXT"; added = added_function 1 (0 ∷ []) body }))

-- a call of a function of this type
abbrev pub next_called : ℕ → CType → Tree
next_called f kind = called kind one_parameter f 27 31 (value 2 29 0 ∷ [])

-- ---- `#define ID(x) (x)` in `int f(int y) { return ID(ID(y)); }`: both runs and the occurrences in them stand at one node

-- ((y))
abbrev pub id_tree : Tree
id_tree = value 0 10 2

abbrev id_old : TypedUnit
id_old = record {
  declared = entry (codes "y") int ∷ of_function (codes "f") one_parameter ∷ [];
  externals = defined 1 (0 ∷ []) 0 6 15 (returned 7 14 id_tree ∷ []) ∷ [];
}

abbrev pub id_rewriting : Rewriting
id_rewriting =
    rewriting_of no_type id_old (run_with 8 13 (occurrence 0 0 9 12 ∷ []) ∷ run_with 9 12 (occurrence 0 0 10 11 ∷ []) ∷ [])
    (Some (record { external = 0; first = 0; count = 2; name = codes "ID"; added = added_function 1 (0 ∷ []) (value 0 11 1) }))

abbrev pub id_called : ℕ → ℕ → Tree → Tree
id_called first after argument = called int one_parameter 1 first after (argument ∷ [])

-- ---- `#define ID(x) (x)` in `ID(c)+1` with a `char c`, and the function of a char

abbrev as_int : ℕ → ℕ → ℕ → Tree → Tree
as_int first after pairs operand = tree convert int first after pairs (operand ∷ [])

abbrev char_type : CType
char_type = function_type (integer Char) (more_types (integer Char) no_types)

abbrev pub char_old : Tree
char_old = tree (binary Add) int 8 13 0 (as_int 9 10 1 (value_of (integer Char) 0 9 1) ∷ constant_of int 1 12 ∷ [])

abbrev pub char_new : Tree
char_new = tree (binary Add) int 22 28 0 (as_int 22 26 0 (called (integer Char) char_type 1 22 26 (value_of (integer Char) 2 24 0 ∷ [])) ∷ constant_of int 1 27 ∷ [])

abbrev pub char_rewriting : Rewriting
char_rewriting = record {
  runs = run_with 8 11 (occurrence 0 0 9 10 ∷ []) ∷ [];
  added = added_function 1 (0 ∷ []) (value_of (integer Char) 0 11 1);
  rename = λ d. d + 2;
  value = λ tree. None;
}

-- ---- `#define TWO (1+1)` in `int f(void) { return TWO; }`, and `enum { TWO = (1+1) };`

abbrev sum_of_ones : ℕ → Tree
sum_of_ones n = tree (binary Add) int (n + 1) (n + 4) 1 (constant_of int 1 (n + 1) ∷ constant_of int 1 (n + 3) ∷ [])

abbrev pub two_old : TypedUnit
two_old = record {
  declared = of_function (codes "f") no_parameters ∷ [];
  externals = defined 0 [] 0 5 14 (returned 6 13 (sum_of_ones 7) ∷ []) ∷ [];
}

abbrev pub run_of_two : Run
run_of_two = run_with 7 12 []

abbrev pub two_new : TypedUnit
two_new = record {
  declared = record { name = codes "TWO"; sort = Enumerator (pos 2); kind = int; linkage = Absent; place = place } ∷ of_function (codes "f") no_parameters ∷ [];
  externals = record { span = span 0 11; constants = sum_of_ones 4 ∷ []; form = declares [] [] }
      ∷ defined 1 [] 11 16 21 (returned 17 20 (tree (enumerator 0) int 18 19 0 []) ∷ []) ∷ [];
}

-- with an enumerator of this value
abbrev pub two_put : ℕ → Insertion
two_put z = record { external = 0; first = 0; count = 1; name = codes "TWO"; added = added_enumerator 0 (pos z) }

-- ---- `#define TEN 10u` in `unsigned f(void) { return TEN; }`, and `static const unsigned TEN = 10u;`

abbrev unsigned : CType
unsigned = integer UInt

abbrev unsigned_function : CType
unsigned_function = function_type unsigned no_types

abbrev pub ten_old : TypedUnit
ten_old = record {
  declared = of_function (codes "f") unsigned_function ∷ [];
  externals = defined 0 [] 0 5 10 (returned 6 9 (constant_of unsigned 10 7) ∷ []) ∷ [];
}

abbrev pub run_of_ten : Run
run_of_ten = run_with 7 8 []

abbrev pub ten_new : TypedUnit
ten_new = record {
  declared = record { name = codes "TEN"; sort = Object true; kind = const_type unsigned; linkage = Internal; place = place } ∷ of_function (codes "f") unsigned_function ∷ [];
  externals = record {
    span = span 0 7;
    constants = [];
    form = declares (record { declared = 0; defines = true; initialiser = Some one_expression } ∷ []) (constant_of unsigned 10 5 ∷ []);
  } ∷ defined 1 [] 7 12 17 (returned 13 16 (tree read unsigned 14 15 0 (tree (object 0) (const_type unsigned) 14 15 0 [] ∷ [])) ∷ []) ∷ [];
}

abbrev pub ten_put : Insertion
ten_put = record { external = 0; first = 0; count = 1; name = codes "TEN"; added = added_constant 0 (pos 10) }

-- ---- `#define SKIP(a) ((void)(a))` in `int f(int y) { SKIP(y); return 0; }`, and `static inline void SKIP(int a) { ((void)(a)); }`

-- ((void)(d)) from a token on
abbrev skip : ℕ → ℕ → Tree
skip d n = tree convert void (n + 1) (n + 7) 1 (value d (n + 5) 1 ∷ [])

abbrev skip_type : CType
skip_type = function_type void (more_types int no_types)

abbrev pub skip_old : TypedUnit
skip_old = record {
  declared = entry (codes "y") int ∷ of_function (codes "f") one_parameter ∷ [];
  externals = defined 1 (0 ∷ []) 0 6 20 (statement 7 16 (skip 0 7) ∷ returned 16 19 (constant_of int 0 17) ∷ []) ∷ [];
}

abbrev pub run_of_skip : Run
run_of_skip = run_with 7 15 (occurrence 0 0 12 13 ∷ [])

-- the added function, with the form of its body
abbrev skip_with : Tree → TypedUnit
skip_with item = record {
  declared = entry (codes "a") int ∷ of_added (codes "SKIP") skip_type ∷ entry (codes "y") int ∷ of_function (codes "f") one_parameter ∷ [];
  externals = defined 1 (0 ∷ []) 0 8 19 (item ∷ [])
      ∷ defined 3 (2 ∷ []) 19 25 35 (statement 26 31 (called void skip_type 1 26 30 (value 2 28 0 ∷ [])) ∷ returned 31 34 (constant_of int 0 32) ∷ []) ∷ [];
}

abbrev pub skip_new : TypedUnit
skip_new = skip_with (statement 9 18 (skip 0 9))

-- with a `return` in front of the expression
abbrev pub skip_returned : TypedUnit
skip_returned = skip_with (returned 9 18 (skip 0 9))

abbrev pub skip_put : Insertion
skip_put = record { external = 0; first = 0; count = 2; name = codes "SKIP"; added = added_function 1 (0 ∷ []) (skip 0 9) }

-- ---- `#define SIZE(a) (sizeof(a)+1)` in `SIZE(y)`: the occurrence isn't evaluated; and `sizeof(y)` itself as an argument

-- sizeof(y) from a token on
abbrev size : ℕ → Tree
size n = tree sizeof_tree int n (n + 4) 0 (value 0 (n + 2) 1 ∷ [])

abbrev pub sized_unit : TypedUnit
sized_unit = record {
  declared = entry (codes "y") int ∷ of_function (codes "f") one_parameter ∷ [];
  externals = defined 1 (0 ∷ []) 0 6 18 (returned 7 17 (tree (binary Add) int 9 15 1 (size 9 ∷ constant_of int 1 14 ∷ [])) ∷ []) ∷ [];
}

abbrev pub run_of_size : Run
run_of_size = run_with 8 16 (occurrence 0 0 11 12 ∷ [])

-- the run of `#define NEXT(x) (x+1)` in NEXT(sizeof(y)), which has the same tokens
abbrev pub run_with_size : Run
run_with_size = run_with 8 16 (occurrence 0 0 9 13 ∷ [])
