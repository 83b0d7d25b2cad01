-- Small programs as typed trees: the examples of `src/examples.rt`.
--     by_choice choice steps input program      how the program stands after so many steps that take the same choice, and what it has written
use Rattle.std.specs.Prelude.{ℕ, zero, suc, true, false, List, [], ◌∷◌, replicate, Option, Some, None, option_map, pos, codes}
use Rattle.dm_token.specs.declared.place.Place.{Place}
use Rattle.dm_token.specs.declared.place.Span.{Span}
use Rattle.dm_int.specs.declared.Kind.TheVariants.{Char, Int}
use Rattle.dm_int.specs.declared.Op.{Op}
use Rattle.dm_int.specs.declared.Op.TheVariants.{Add, Sub, Mul, Div, Less, Equal}
use Rattle.dm_type.specs.declared.shape.Shape.TheVariants.{Integer as IntegerShape}
use Rattle.dm_type.specs.CTypes.{CType, void, integer, pointer, array, struct, function as function_type, const, no_types, more_types}
use Rattle.dm_type.specs.Layouts.{contained}
use Rattle.dm_type.specs.Tables.{Table, with_struct, with_content}
use Rattle.dm_tree.specs.declared.unit.Sort.TheVariants.{Object, Function, Enumerator}
use Rattle.dm_tree.specs.declared.unit.Linkage.TheVariants.{External as ExternalLinkage, Absent}
use Rattle.dm_tree.specs.Trees.{Label, number, enumerator, literal, object, function, read, decay, convert, address, follow, member, binary, both, choose, comma, store, update, count, call, block, declare, full, if_statement, switch, case, default, while_loop, do_loop, for_loop, break, continue, return, Tree, node, trees, Initialiser, one_expression, in_braces, no_items, more_items}
use Rattle.dm_tree.specs.Units.{Declaration, External, declares, defines_function, TypedUnit}
use Rattle.dm_meaning.specs.Machines.{Standing}
use Rattle.dm_meaning.specs.Replaced.{Replaced}
use Rattle.dm_meaning.specs.ReplacedUnits.{change_of}
use Rattle.dm_meaning.specs.Programs.{Program}
use Rattle.dm_meaning.specs.Units.{program_of}
use Rattle.dm_meaning.specs.Choices.{run_by}
use Rattle.dm_meaning.specs.States.{State}

-- ---- trees

-- a place by a number; most nodes of the examples are at 0
abbrev pub at : ℕ → Place
at n = record { file = 0; byte = n; line = 1; column = 1 }

abbrev no_span : Span
no_span = record { first = 0; after = 0 }

abbrev tree : ℕ → Label → CType → List Tree → Tree
tree n label kind parts = node label kind (record { inner = no_span; outer = no_span; place = at n }) (trees parts)

abbrev int : CType
int = integer Int

abbrev pub constant : ℕ → Tree
constant z = tree 0 (number (pos z)) int []

-- an object, and its value
abbrev named : CType → ℕ → Tree
named kind d = tree 0 (object d) kind []

abbrev value_at : ℕ → CType → Tree → Tree
value_at n kind lvalue = tree n read kind (lvalue ∷ [])

abbrev pub reading : ℕ → Tree
reading d = value_at 0 int (named int d)

abbrev assigned : ℕ → CType → Tree → Tree → Tree
assigned n kind left right = tree n store kind (left ∷ right ∷ [])

-- d = right; d++; d op= right
abbrev set_to : ℕ → Tree → Tree
set_to d right = assigned 0 int (named int d) right

abbrev pub counted : ℕ → Tree
counted d = tree 0 (count true false) int (named int d ∷ [])

abbrev operated : ℕ → Op → Tree → Tree → Tree
operated n op left right = tree n (binary op) int (left ∷ right ∷ [])

-- f(arguments)
abbrev called : ℕ → ℕ → CType → List Tree → Tree
called n f kind arguments = tree n call kind (tree 0 (function f) void [] ∷ arguments)

-- array[index]
abbrev element : ℕ → ℕ → Tree → Tree
element n d index =
    tree n follow int (tree n (binary Add) (pointer int) (tree 0 decay (pointer int) (named (array int (Some 2)) d ∷ []) ∷ index ∷ []) ∷ [])

-- ---- statements

abbrev statement : Tree → Tree
statement expression = tree 0 full void (expression ∷ [])

abbrev returned : Tree → Tree
returned expression = tree 0 return void (expression ∷ [])

abbrev braced : List Tree → Tree
braced items = tree 0 block void items

-- a declaration of one object, with an initialiser or without
abbrev declared_with : ℕ → Option Initialiser → List Tree → Tree
declared_with d initialiser expressions = tree 0 (declare 0 (record { declared = d; defines = true; initialiser = initialiser } ∷ [])) void expressions

abbrev declared_as : ℕ → Tree → Tree
declared_as d expression = declared_with d (Some one_expression) (expression ∷ [])

abbrev declared_only : ℕ → Tree
declared_only d = declared_with d None []

-- ---- units

abbrev local : List ℕ → CType → Declaration
local name kind = record { name = name; sort = Object false; kind = kind; linkage = Absent; place = at 0 }

abbrev fixed : List ℕ → CType → Declaration
fixed name kind = record { name = name; sort = Object true; kind = kind; linkage = ExternalLinkage; place = at 0 }

abbrev of_function : List ℕ → CType → Declaration
of_function name kind = record { name = name; sort = Function; kind = kind; linkage = ExternalLinkage; place = at 0 }

abbrev int_of_nothing : CType
int_of_nothing = function_type int no_types

abbrev int_of_int : CType
int_of_int = function_type int (more_types int no_types)

abbrev putchar : Declaration
putchar = of_function (codes "putchar") int_of_int

-- the definition of a function, with the items of its body, which stands at 9
abbrev defined : ℕ → List ℕ → List Tree → External
defined f parameters items = record { span = no_span; constants = []; form = defines_function f parameters (tree 9 block void items) }

-- an object in file scope
abbrev external : ℕ → Option Initialiser → List Tree → External
external d initialiser expressions =
    record { span = no_span; constants = []; form = declares (record { declared = d; defines = true; initialiser = initialiser } ∷ []) expressions }

-- struct { int a; int b; }, which has the number 0
abbrev pub types : Table
types =
    let bare : Table = with_struct (record { shapes = IntegerShape Int ∷ []; structs = [] }) None in
    with_content bare 0 (contained bare (record { name = codes "a"; kind = 0 } ∷ record { name = codes "b"; kind = 0 } ∷ []))

-- a unit whose declaration 0 is `int main(void)`
abbrev unit : List Declaration → List External → TypedUnit
unit declared externals = record { declared = of_function (codes "main") int_of_nothing ∷ declared; externals = externals }

-- its program
abbrev program : List Declaration → List External → Program
program declared externals = program_of types (unit declared externals)

-- a program of `main` alone
abbrev alone : List Declaration → List Tree → Program
alone declared items = program declared (defined 0 [] items ∷ [])

abbrev pub stands : Option State → Option (Standing × List ℕ)
stands state = option_map (λ (s : State). (s.standing, s.world.output)) state

abbrev pub by_choice : ℕ → ℕ → List ℕ → Program → Option (Standing × List ℕ)
by_choice choice steps input example = stands (run_by example (replicate steps choice) input)

-- ---- the examples

-- return 0;
abbrev pub nothing : Program
nothing = alone [] (returned (constant 0) ∷ [])

-- int i = 0; i = i++; return i;
abbrev pub assigned_count : Program
assigned_count = alone (local (codes "i") int ∷ [])
    (declared_as 1 (constant 0) ∷ statement (assigned 7 int (named int 1) (counted 1)) ∷ returned (reading 1) ∷ [])

-- int i = 0; int a[2]; a[i] = i++; return i;
abbrev pub indexed_count : Program
indexed_count = alone (local (codes "i") int ∷ local (codes "a") (array int (Some 2)) ∷ [])
    (declared_as 1 (constant 0) ∷ declared_only 2 ∷ statement (assigned 0 int (element 0 2 (value_at 7 int (named int 1))) (counted 1)) ∷ returned (reading 1) ∷ [])

-- int f(void) { putchar('f'); return 1; } int g(void) { putchar('g'); return 2; } return f() + g();
abbrev writer : ℕ → ℕ → ℕ → External
writer f byte result = defined f [] (statement (called 0 1 int (constant byte ∷ [])) ∷ returned (constant result) ∷ [])

abbrev pub two_writers : Program
two_writers = program (putchar ∷ of_function (codes "f") int_of_nothing ∷ of_function (codes "g") int_of_nothing ∷ [])
    (writer 2 102 1 ∷ writer 3 103 2 ∷ defined 0 [] (returned (operated 0 Add (called 0 2 int []) (called 0 3 int [])) ∷ []) ∷ [])

-- int x = first; int y = 5; x && y++; return y;
abbrev pub and_count : ℕ → Program
and_count first = alone (local (codes "x") int ∷ local (codes "y") int ∷ [])
    (declared_as 1 (constant first) ∷ declared_as 2 (constant 5) ∷ statement (tree 0 both int (reading 1 ∷ counted 2 ∷ [])) ∷ returned (reading 2) ∷ [])

-- int i = 0; return i++, i;
abbrev pub counted_comma : Program
counted_comma = alone (local (codes "i") int ∷ [])
    (declared_as 1 (constant 0) ∷ returned (tree 0 comma int (counted 1 ∷ reading 1 ∷ [])) ∷ [])

-- int i = 0; return i++ + i;
abbrev pub counted_sum : Program
counted_sum = alone (local (codes "i") int ∷ [])
    (declared_as 1 (constant 0) ∷ returned (operated 0 Add (counted 1) (value_at 7 int (named int 1))) ∷ [])

-- int h(int a) { return a + a; } return h(h(3));
abbrev pub nested_call : Program
nested_call = program (of_function (codes "h") int_of_int ∷ local (codes "a") int ∷ [])
    (defined 1 (2 ∷ []) (returned (operated 0 Add (reading 2) (reading 2)) ∷ []) ∷
    defined 0 [] (returned (called 0 1 int (called 0 1 int (constant 3 ∷ []) ∷ [])) ∷ []) ∷ [])

-- int i = 0; while (1) { if (i == 3) break; i++; } return i;
abbrev pub loop_with_break : Program
loop_with_break = alone (local (codes "i") int ∷ [])
    (declared_as 1 (constant 0) ∷
    tree 0 while_loop void (constant 1 ∷
    braced (tree 0 if_statement void (operated 0 Equal (reading 1) (constant 3) ∷ tree 0 break void [] ∷ []) ∷ statement (counted 1) ∷ []) ∷ []) ∷
    returned (reading 1) ∷ [])

-- int s = 0; for (int i = 0; i < 5; i++) { if (i == 2) continue; s = s + i; } return s;
abbrev pub loop_with_continue : Program
loop_with_continue = alone (local (codes "s") int ∷ local (codes "i") int ∷ [])
    (declared_as 1 (constant 0) ∷
    tree 0 (for_loop true true true) void (declared_as 2 (constant 0) ∷ operated 0 Less (reading 2) (constant 5) ∷ counted 2 ∷
    braced (tree 0 if_statement void (operated 0 Equal (reading 2) (constant 2) ∷ tree 0 continue void [] ∷ []) ∷
    statement (set_to 1 (operated 0 Add (reading 1) (reading 2))) ∷ []) ∷ []) ∷
    returned (reading 1) ∷ [])

-- int i = 0; switch (operand) { case 1: i = 1; case 2: i = i + 10; break; default: i = 7; } return i;
abbrev pub switched : ℕ → Program
switched operand = alone (local (codes "i") int ∷ [])
    (declared_as 1 (constant 0) ∷
    tree 0 switch void (constant operand ∷
    tree 0 case void (constant 1 ∷ statement (set_to 1 (constant 1)) ∷ []) ∷
    tree 0 case void (constant 2 ∷ statement (set_to 1 (operated 0 Add (reading 1) (constant 10))) ∷ []) ∷
    tree 0 break void [] ∷
    tree 0 default void (statement (set_to 1 (constant 7)) ∷ []) ∷ []) ∷
    returned (reading 1) ∷ [])

-- struct { int a; int b; } s, t; s.a = 5; t = s; return t.b or t.a;
abbrev pub struct_copy : ℕ → Program
struct_copy part = alone (local (codes "s") (struct 0) ∷ local (codes "t") (struct 0) ∷ [])
    (declared_only 1 ∷ declared_only 2 ∷
    statement (assigned 0 int (tree 0 (member 0) int (named (struct 0) 1 ∷ [])) (constant 5)) ∷
    statement (assigned 0 (struct 0) (named (struct 0) 2) (value_at 0 (struct 0) (named (struct 0) 1))) ∷
    returned (value_at 7 int (tree 0 (member part) int (named (struct 0) 2 ∷ []))) ∷ [])

-- int a[2] = { 4, 5 }; struct { int a; int b; } *p = (void *)&a; return p->b;
abbrev pub struct_over_array : Program
struct_over_array = alone (local (codes "a") (array int (Some 2)) ∷ local (codes "p") (pointer (struct 0)) ∷ [])
    (declared_with 1 (Some (in_braces (more_items one_expression (more_items one_expression no_items)))) (constant 4 ∷ constant 5 ∷ []) ∷
    declared_as 2 (tree 0 convert (pointer (struct 0)) (tree 0 convert (pointer void) (tree 0 address (pointer (array int (Some 2))) (named (array int (Some 2)) 1 ∷ []) ∷ []) ∷ [])) ∷
    returned (value_at 8 int (tree 7 (member 1) int (tree 6 follow (struct 0) (value_at 0 (pointer (struct 0)) (named (pointer (struct 0)) 2) ∷ []) ∷ []))) ∷ [])

-- int *p; int *q; { int x = 1; p = &x; } q = p; return 0; or return *q;
abbrev dead_pointer : Tree → Program
dead_pointer result = alone (local (codes "p") (pointer int) ∷ local (codes "q") (pointer int) ∷ local (codes "x") int ∷ [])
    (declared_only 1 ∷ declared_only 2 ∷
    braced (declared_as 3 (constant 1) ∷ statement (assigned 0 (pointer int) (named (pointer int) 1) (tree 0 address (pointer int) (named int 3 ∷ []))) ∷ []) ∷
    statement (assigned 0 (pointer int) (named (pointer int) 2) (value_at 0 (pointer int) (named (pointer int) 1))) ∷
    returned result ∷ [])

abbrev pub dead_pointer_carried : Program
dead_pointer_carried = dead_pointer (constant 0)

abbrev pub dead_pointer_followed : Program
dead_pointer_followed = dead_pointer (value_at 0 int (tree 7 follow int (value_at 0 (pointer int) (named (pointer int) 2) ∷ [])))

-- for (;;) putchar('x');
abbrev pub endless_writer : Program
endless_writer = program (putchar ∷ [])
    (defined 0 [] (tree 0 (for_loop false false false) void (statement (called 0 1 int (constant 120 ∷ [])) ∷ []) ∷ []) ∷ [])

-- int a[2] = { first, second }; return a[index];
abbrev pub listed : ℕ → Program
listed index = alone (local (codes "a") (array int (Some 2)) ∷ [])
    (declared_with 1 (Some (in_braces (more_items one_expression no_items))) (constant 4 ∷ []) ∷ returned (value_at 7 int (element 8 1 (constant index))) ∷ [])

-- int n = 3; static object in file scope; return n;
abbrev pub fixed_object : Program
fixed_object = program (fixed (codes "n") int ∷ fixed (codes "p") (pointer int) ∷ [])
    (external 1 (Some one_expression) (constant 3 ∷ []) ∷ external 2 (Some one_expression) (tree 0 address (pointer int) (named int 1 ∷ []) ∷ []) ∷
    defined 0 [] (returned (value_at 0 int (tree 0 follow int (value_at 0 (pointer int) (named (pointer int) 2) ∷ []))) ∷ []) ∷ [])

-- int puts(const char *s); puts("hi"); return 0;
abbrev pub put_text : Program
put_text = program (of_function (codes "puts") (function_type int (more_types (pointer (const (integer Char))) no_types)) ∷ [])
    (defined 0 [] (statement (called 0 1 int (tree 0 convert (pointer (const (integer Char))) (tree 0 decay (pointer (integer Char)) (tree 0 (literal (codes "hi") 0) (array (integer Char) (Some 3)) [] ∷ []) ∷ []) ∷ [])) ∷ returned (constant 0) ∷ []) ∷ [])

-- int getchar(void); return getchar() op getchar();
abbrev pub two_readers : Program
two_readers = program (of_function (codes "getchar") int_of_nothing ∷ [])
    (defined 0 [] (returned (operated 0 Sub (called 0 1 int []) (called 0 1 int [])) ∷ []) ∷ [])

-- return left / right; where the constants are of type int
abbrev pub quotient : ℕ → ℕ → Program
quotient left right = alone [] (returned (operated 7 Div (constant left) (constant right)) ∷ [])

-- return 2147483647 + 1;
abbrev pub overflow : Program
overflow = alone [] (returned (operated 7 Add (constant 2147483647) (constant 1)) ∷ [])

-- int f(void) { } f(); return 0;
abbrev pub no_value : Program
no_value = program (of_function (codes "f") int_of_nothing ∷ [])
    (defined 1 [] [] ∷ defined 0 [] (statement (called 0 1 int []) ∷ returned (constant 0) ∷ []) ∷ [])

-- int g(void); return g();
abbrev pub not_defined : Program
not_defined = program (of_function (codes "g") int_of_nothing ∷ []) (defined 0 [] (returned (called 7 1 int []) ∷ []) ∷ [])

-- const int c = 1; c can't be stored into, as by *(int *)&c = 2;
abbrev pub stored_const : Program
stored_const = alone (local (codes "c") (const int) ∷ [])
    (declared_as 1 (constant 1) ∷
    statement (assigned 7 int (tree 0 follow int (tree 0 convert (pointer int) (tree 0 address (pointer (const int)) (named (const int) 1 ∷ []) ∷ []) ∷ [])) (constant 2)) ∷
    returned (constant 0) ∷ [])

-- int f(int n) { return n < 2 ? 1 : n * f(n - 1); } return f(4);
abbrev pub factorial : Program
factorial = program (of_function (codes "f") int_of_int ∷ local (codes "n") int ∷ [])
    (defined 1 (2 ∷ []) (returned (tree 0 choose int (operated 0 Less (reading 2) (constant 2) ∷ constant 1 ∷
    operated 0 Mul (reading 2) (called 0 1 int (operated 0 Sub (reading 2) (constant 1) ∷ [])) ∷ [])) ∷ []) ∷
    defined 0 [] (returned (called 0 1 int (constant 4 ∷ [])) ∷ []) ∷ [])

-- int f(void) { static int n = 1; return ++n; } f(); f(); return f();
abbrev pub static_local : Program
static_local = program (of_function (codes "f") int_of_nothing ∷ fixed (codes "n") int ∷ [])
    (defined 1 [] (declared_as 2 (constant 1) ∷ returned (tree 0 (count true true) int (named int 2 ∷ [])) ∷ []) ∷
    defined 0 [] (statement (called 0 1 int []) ∷ statement (called 0 1 int []) ∷ returned (called 0 1 int []) ∷ []) ∷ [])

-- int f(int a, int b) { return a; } int i = 0; return f(i++, i++);
abbrev pub counted_arguments : Program
counted_arguments = program (of_function (codes "f") (function_type int (more_types int (more_types int no_types))) ∷ local (codes "a") int ∷ local (codes "b") int ∷ local (codes "i") int ∷ [])
    (defined 1 (2 ∷ 3 ∷ []) (returned (reading 2) ∷ []) ∷
    defined 0 [] (declared_as 4 (constant 0) ∷ returned (called 0 1 int (counted 4 ∷ tree 7 (count true false) int (named int 4 ∷ []) ∷ [])) ∷ []) ∷ [])

-- int f(int *p) { *p = 5; return 1; } int i = 0; return f(&i) + i;
abbrev pub stored_through : Program
stored_through = program (of_function (codes "f") (function_type int (more_types (pointer int) no_types)) ∷ local (codes "p") (pointer int) ∷ local (codes "i") int ∷ [])
    (defined 1 (2 ∷ []) (statement (assigned 0 int (tree 0 follow int (value_at 0 (pointer int) (named (pointer int) 2) ∷ [])) (constant 5)) ∷ returned (constant 1) ∷ []) ∷
    defined 0 [] (declared_as 3 (constant 0) ∷ returned (operated 0 Add (called 0 1 int (tree 0 address (pointer int) (named int 3 ∷ []) ∷ [])) (reading 3)) ∷ []) ∷ [])

-- int a[2]; return &a[m] - &a[n]; or their order
abbrev address_in : ℕ → ℕ → Tree
address_in d index = tree 0 address (pointer int) (element 0 d (constant index) ∷ [])

abbrev pub pointers : Op → CType → ℕ → ℕ → Program
pointers op kind m n = alone (local (codes "a") (array int (Some 2)) ∷ [])
    (declared_only 1 ∷ returned (tree 7 (binary op) kind (address_in 1 m ∷ address_in 1 n ∷ [])) ∷ [])

-- int a[2], b[2]; return &a[0] < &b[0]; or ==
abbrev pub apart_pointers : Op → Program
apart_pointers op = alone (local (codes "a") (array int (Some 2)) ∷ local (codes "b") (array int (Some 2)) ∷ [])
    (declared_only 1 ∷ declared_only 2 ∷ returned (tree 7 (binary op) int (address_in 1 0 ∷ address_in 2 0 ∷ [])) ∷ [])

-- return *(int *)0;
abbrev pub null_followed : Program
null_followed = alone [] (returned (value_at 0 int (tree 7 follow int (tree 0 convert (pointer int) (constant 0 ∷ []) ∷ []))) ∷ [])

-- char s[4] = "hi"; return s[index];
abbrev pub text_copied : ℕ → Program
text_copied index = alone (local (codes "s") (array (integer Char) (Some 4)) ∷ [])
    (declared_as 1 (tree 0 (literal (codes "hi") 0) (array (integer Char) (Some 3)) []) ∷
    returned (tree 0 convert int (value_at 7 (integer Char) (tree 0 follow (integer Char) (tree 0 (binary Add) (pointer (integer Char)) (tree 0 decay (pointer (integer Char)) (named (array (integer Char) (Some 4)) 1 ∷ []) ∷ constant index ∷ []) ∷ [])) ∷ [])) ∷ [])

-- char c = 100; c += 100; return c;
abbrev pub narrow_update : Program
narrow_update = alone (local (codes "c") (integer Char) ∷ [])
    (declared_as 1 (tree 0 convert (integer Char) (constant 100 ∷ [])) ∷
    statement (tree 0 (update Add int) (integer Char) (named (integer Char) 1 ∷ constant 100 ∷ [])) ∷
    returned (tree 0 convert int (value_at 0 (integer Char) (named (integer Char) 1) ∷ [])) ∷ [])

-- int i = 0, n = 0; do { i++; if (i == 2) continue; if (i == 4) break; n += i; } while (i < 9); return n;
abbrev pub do_with_both : Program
do_with_both = alone (local (codes "i") int ∷ local (codes "n") int ∷ [])
    (declared_as 1 (constant 0) ∷ declared_as 2 (constant 0) ∷
    tree 0 do_loop void (braced (statement (counted 1) ∷
    tree 0 if_statement void (operated 0 Equal (reading 1) (constant 2) ∷ tree 0 continue void [] ∷ []) ∷
    tree 0 if_statement void (operated 0 Equal (reading 1) (constant 4) ∷ tree 0 break void [] ∷ []) ∷
    statement (tree 0 (update Add int) int (named int 2 ∷ reading 1 ∷ [])) ∷ []) ∷ operated 0 Less (reading 1) (constant 9) ∷ []) ∷
    returned (reading 2) ∷ [])

-- void exit(int status); void f(void) { exit(3); } f(); return 0;
abbrev pub exiting : Program
exiting = program (of_function (codes "exit") (function_type void (more_types int no_types)) ∷ of_function (codes "f") (function_type void no_types) ∷ [])
    (defined 2 [] (statement (called 0 1 void (constant 3 ∷ [])) ∷ []) ∷
    defined 0 [] (statement (called 0 2 void []) ∷ returned (constant 0) ∷ []) ∷ [])

-- int x; return x;
abbrev pub unset_read : Program
unset_read = alone (local (codes "x") int ∷ []) (declared_only 1 ∷ returned (value_at 7 int (named int 1)) ∷ [])

abbrev pub doubled : Tree → Tree
doubled operand = operated 0 Mul operand (constant 2)

-- int main(void) { return 3 * 2; }
abbrev pub six_unit : TypedUnit
six_unit = unit [] (defined 0 [] (returned (doubled (constant 3)) ∷ []) ∷ [])

-- the numbers of the declarations where a second one is added
abbrev pub beyond_six : ℕ → ℕ
beyond_six zero = 0
beyond_six (suc d) = suc (suc d)

-- const void f(void) { } int main(void) { f(); return 0; }
abbrev pub const_void : Program
const_void = program (of_function (codes "f") (function_type (const void) no_types) ∷ [])
    (defined 1 [] [] ∷ defined 0 [] (statement (called 0 1 void []) ∷ returned (constant 0) ∷ []) ∷ [])

-- int puts(const char *s); extern char t[3]; const char *p = t; int main(void) { puts(p); return 0; }
abbrev text : CType
text = pointer (const (integer Char))

abbrev pub put_elsewhere : Program
put_elsewhere =
    program (of_function (codes "puts") (function_type int (more_types text no_types)) ∷ fixed (codes "t") (array (integer Char) (Some 3)) ∷ fixed (codes "p") text ∷ [])
    (external 3 (Some one_expression) (tree 0 convert text (tree 0 decay (pointer (integer Char)) (named (array (integer Char) (Some 3)) 2 ∷ []) ∷ []) ∷ []) ∷
    defined 0 [] (statement (called 7 1 int (value_at 0 text (named text 3) ∷ [])) ∷ returned (constant 0) ∷ []) ∷ [])

-- an array of two, and an element of such a one: pointer[index]
abbrev pair : CType
pair = array int (Some 2)

abbrev pairs : CType
pairs = array pair (Some 2)

abbrev element_at : CType → ℕ → Tree → ℕ → Tree
element_at kind n pointed index = tree 0 follow kind (tree 0 (binary Add) (pointer kind) (tree n decay (pointer kind) (pointed ∷ []) ∷ constant index ∷ []) ∷ [])

abbrev element_of : ℕ → ℕ → ℕ → Tree
element_of matrix outer inner = element_at int 0 (element_at pair 0 (named pairs matrix) outer) inner

-- int m[2][2] = { { m[1][0] = 3, 5 }, { m[1][0] } }; return m[1][n];
abbrev pub listed_again : ℕ → Program
listed_again n = alone (local (codes "m") pairs ∷ [])
    (declared_with 1 (Some (in_braces (more_items (in_braces (more_items one_expression (more_items one_expression no_items))) (more_items (in_braces (more_items one_expression no_items)) no_items))))
    (assigned 0 int (element_of 1 1 0) (constant 3) ∷ constant 5 ∷ value_at 0 int (element_of 1 1 0) ∷ []) ∷
    returned (value_at 0 int (element_of 1 1 n)) ∷ [])

-- int m[2][2] = { { 1, 2 }, { 3, 4 } }; const int (*p)[2] = (const int (*)[2])m; return (*(p + 1))[0];
abbrev const_row : CType
const_row = array (const int) (Some 2)

abbrev pub const_rows : Program
const_rows = alone (local (codes "m") pairs ∷ local (codes "p") (pointer const_row) ∷ [])
    (declared_with 1 (Some (in_braces (more_items (in_braces (more_items one_expression (more_items one_expression no_items))) (more_items (in_braces (more_items one_expression (more_items one_expression no_items))) no_items))))
    (constant 1 ∷ constant 2 ∷ constant 3 ∷ constant 4 ∷ []) ∷
    declared_as 2 (tree 0 convert (pointer const_row) (tree 0 decay (pointer pair) (named pairs 1 ∷ []) ∷ [])) ∷
    returned (value_at 0 int (element_at (const int) 0 (tree 0 follow const_row (tree 0 (binary Add) (pointer const_row) (value_at 0 (pointer const_row) (named (pointer const_row) 2) ∷ constant 1 ∷ []) ∷ [])) 0)) ∷ [])

-- int i = 1; int (*p)[2] = (void *)&i; return (*p)[0];
abbrev pub array_over_int : Program
array_over_int = alone (local (codes "i") int ∷ local (codes "p") (pointer pair) ∷ [])
    (declared_as 1 (constant 1) ∷
    declared_as 2 (tree 0 convert (pointer pair) (tree 0 convert (pointer void) (tree 0 address (pointer int) (named int 1 ∷ []) ∷ []) ∷ [])) ∷
    returned (value_at 0 int (element_at int 7 (tree 0 follow pair (value_at 0 (pointer pair) (named (pointer pair) 2) ∷ [])) 0)) ∷ [])

-- enum { SIX = 6 }; int main(void) { return SIX; }
abbrev pub six : Tree
six = tree 0 (enumerator 1) int []

abbrev named_six : Declaration
named_six = record { name = codes "SIX"; sort = Enumerator (pos 6); kind = int; linkage = Absent; place = at 0 }

abbrev pub enumerated_unit : TypedUnit
enumerated_unit = unit (named_six ∷ []) (record { span = no_span; constants = constant 6 ∷ []; form = declares [] [] } ∷ defined 0 [] (returned six ∷ []) ∷ [])

-- the change between its program and that of `return 3 * 2;`
abbrev pub enumerating_six : Replaced
enumerating_six = change_of types enumerated_unit six_unit beyond_six
