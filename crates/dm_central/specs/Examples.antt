-- Small changes: `int y = 2; return y + y;` becomes `int twice(int x) { return x + x; }` and `int y = 2; return twice(y);`; and one in which a function
-- is called between the reads.
use Rattle.std.specs.Prelude.{ℕ, zero, suc, Bool, true, false, List, [], ◌∷◌, ◌++◌, Some, pos, codes}
use Rattle.dm_int.specs.declared.Kind.TheVariants.{Int}
use Rattle.dm_int.specs.declared.Op.TheVariants.{Add}
use Rattle.dm_type.specs.CTypes.{CType, void, integer, function as function_type, no_types, more_types}
use Rattle.dm_tree.specs.declared.unit.Linkage.TheVariants.{External, Absent}
use Rattle.dm_tree.specs.declared.unit.Sort.TheVariants.{Object, Function}
use Rattle.dm_tree.specs.Trees.{function, binary, block, call, declare, return, one_expression, Spans, Tree, node, trees}
use Rattle.dm_tree.specs.Units.{Declaration}
use Rattle.dm_meaning.specs.Programs.{Definition}
use Rattle.dm_meaning.specs.Operations.{Objects, World}
use Rattle.dm_meaning.specs.Values.{integer_value}
use Rattle.dm_meaning.specs.Called.{Called}
use Rattle.dm_meaning.specs.Examples.{at, types, constant, reading}
use Rattle.dm_rewrite.specs.Effects.{Stage}
use Rattle.dm_central.specs.Agreement.{Mode, outside}
use Rattle.dm_central.specs.NodeSteps.{old_stage}

abbrev int : CType
int = integer Int

abbrev spans : Spans
spans = record { inner = record { first = 0; after = 0 }; outer = record { first = 0; after = 0 }; place = at 0 }

-- ---- trees

abbrev sum_of : ℕ → Tree
sum_of d = node (binary Add) int spans (trees (reading d ∷ reading d ∷ []))

-- y + y, x + x and twice(y), where the declarations of y, twice and x have the numbers 1, 2 and 3
abbrev pub sum : Tree
sum = sum_of 1

abbrev pub body : Tree
body = sum_of 3

abbrev int_of_int : CType
int_of_int = function_type int (more_types int no_types)

abbrev pub calling : Tree
calling = node call int spans (trees (node (function 2) int_of_int spans (trees []) ∷ reading 1 ∷ []))

-- ---- programs

abbrev pub main_with : Tree → Definition
main_with tree = record {
  function = 0;
  parameters = [];
  body = node block void spans (trees (
      node (declare 0 (record { declared = 1; defines = true; initialiser = Some one_expression } ∷ [])) void spans (trees (constant 2 ∷ []))
      ∷ node return void spans (trees (tree ∷ [])) ∷ []));
}

abbrev pub twice : Definition
twice = record { function = 2; parameters = 3 ∷ []; body = node block void spans (trees (node return void spans (trees (body ∷ [])) ∷ [])) }

abbrev old_declared : List Declaration
old_declared =
    record { name = codes "main"; sort = Function; kind = function_type int no_types; linkage = External; place = at 0 }
    ∷ record { name = codes "y"; sort = Object false; kind = int; linkage = Absent; place = at 0 } ∷ []

-- the numbers of the old declarations
abbrev pub beyond_twice : ℕ → ℕ
beyond_twice zero = 0
beyond_twice (suc zero) = 1
beyond_twice (suc (suc d)) = suc (suc (suc (suc d)))

abbrev pub calling_twice : Called
calling_twice = record {
  old = record { declared = old_declared; functions = main_with sum ∷ []; statics = []; table = types };
  declared =
      old_declared ++ record { name = codes "twice"; sort = Function; kind = int_of_int; linkage = External; place = at 0 }
      ∷ record { name = codes "x"; sort = Object false; kind = int; linkage = Absent; place = at 0 } ∷ [];
  functions = twice ∷ main_with calling ∷ [];
  statics = [];
  rename = beyond_twice;
  added = twice;
  body = body;
}

-- ---- a function that is called between two reads: `int y = 2; return (y + g()) + y;` becomes `return around(y);`

abbrev int_of_nothing : CType
int_of_nothing = function_type int no_types

-- x + g() + x, where the declarations of x and g have these numbers
abbrev pub around_of : ℕ → ℕ → Tree
around_of d g =
    node (binary Add) int spans (trees (
    node (binary Add) int spans (trees (reading d ∷ node call int spans (trees (node (function g) int_of_nothing spans (trees []) ∷ [])) ∷ []))
    ∷ reading d ∷ []))

abbrev pub around : Definition
around = record { function = 2; parameters = 3 ∷ []; body = node block void spans (trees (node return void spans (trees (around_of 3 4 ∷ [])) ∷ [])) }

-- int g(void) { return 3; }
abbrev pub giving_three : ℕ → Definition
giving_three g = record { function = g; parameters = []; body = node block void spans (trees (node return void spans (trees (constant 3 ∷ [])) ∷ [])) }

abbrev declared_g : Declaration
declared_g = record { name = codes "g"; sort = Function; kind = int_of_nothing; linkage = External; place = at 0 }

abbrev pub calling_around : Called
calling_around = record {
  old = record { declared = old_declared ++ declared_g ∷ []; functions = main_with (around_of 1 2) ∷ giving_three 2 ∷ []; statics = []; table = types };
  declared =
      old_declared ++ record { name = codes "around"; sort = Function; kind = int_of_int; linkage = External; place = at 0 }
      ∷ record { name = codes "x"; sort = Object false; kind = int; linkage = Absent; place = at 0 } ∷ declared_g ∷ [];
  functions = around ∷ main_with calling ∷ giving_three 4 ∷ [];
  statics = [];
  rename = beyond_twice;
  added = around;
  body = around_of 3 4;
}

-- ---- where the trees stand: y is the object 1, and nothing is known of it

abbrev pub objects : Objects
objects = (1, 1) ∷ []

abbrev pub stage : Stage
stage = old_stage calling_twice objects [] (λ f. false)

abbrev pub nowhere_safe : Tree → Bool
nowhere_safe tree = false

abbrev pub in_main : Mode
in_main = outside nowhere_safe

-- y holds 2
abbrev pub world : World
world = record { memory = (1, record { kind = int; contents = integer_value Int (pos 2); alive = true; writable = true }) ∷ []; input = []; output = [] }
