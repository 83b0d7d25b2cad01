-- Small trees and units: the examples of `src/examples.rt`. A node stands at a token by its number.
use Rattle.std.specs.Prelude.{ℕ, ◌+◌, true, false, List, [], ◌∷◌, Option, Some, None, pos, codes}
use Rattle.dm_token.specs.declared.place.Place.{Place}
use Rattle.dm_token.specs.declared.place.Span.{Span}
use Rattle.dm_int.specs.declared.Kind.TheVariants.{Int, UInt}
use Rattle.dm_int.specs.declared.Op.{Op}
use Rattle.dm_int.specs.declared.Op.TheVariants.{Add, Greater}
use Rattle.dm_type.specs.CTypes.{CType, void, integer, pointer, struct, function as function_type, no_types}
use Rattle.dm_tree.specs.declared.tree.Sign.TheVariants.{Minus}
use Rattle.dm_tree.specs.declared.unit.Sort.TheVariants.{Object, Function}
use Rattle.dm_tree.specs.declared.unit.Linkage.TheVariants.{External as ExternalLinkage, Absent}
use Rattle.dm_tree.specs.Trees.{Label, number, object, function, read, address, follow, member, unary, binary, both, choose, store, call, sizeof_tree, block, declare, full, return, Tree, node, trees, Initialiser, one_expression}
use Rattle.dm_tree.specs.Units.{Declaration, External, declares, defines_function, TypedUnit}

-- ---- trees

abbrev at : ℕ → Label → CType → List Tree → Tree
at n label kind parts =
    let tokens : Span = record { first = n; after = n + 1 } in
    let place : Place = record { file = 0; byte = n; line = 1; column = 1 } in
    node label kind (record { inner = tokens; outer = tokens; place = place }) (trees parts)

abbrev int : CType
int = integer Int

abbrev pub constant : ℕ → ℕ → Tree
constant n z = at n (number (pos z)) int []

-- an object, and its value
abbrev named : ℕ → CType → ℕ → Tree
named n kind d = at n (object d) kind []

abbrev value_of : ℕ → CType → Tree → Tree
value_of n kind lvalue = at n read kind (lvalue ∷ [])

abbrev pub reading : ℕ → ℕ → Tree
reading n d = value_of n int (named n int d)

abbrev operated : Op → CType → Tree → Tree → Tree
operated op kind left right = at 20 (binary op) kind (left ∷ right ∷ [])

-- f(arguments)
abbrev pub called : ℕ → ℕ → List Tree → Tree
called n f arguments = at n call int (at n (function f) (function_type int no_types) [] ∷ arguments)

-- d = right
abbrev pub set_to : ℕ → ℕ → Tree → Tree
set_to n d right = at n store int (named n int d ∷ right ∷ [])

abbrev pub size_of : ℕ → Tree → Tree
size_of n operand = at n sizeof_tree (integer UInt) (operand ∷ [])

-- a > b ? a : b
abbrev pub greater : Tree → Tree → Tree
greater a b = at 20 choose int (operated Greater int a b ∷ a ∷ b ∷ [])

abbrev pub sum : Tree → Tree → Tree
sum a b = operated Add int a b

abbrev pub and : Tree → Tree → Tree
and a b = at 20 both int (a ∷ b ∷ [])

-- ---- units

abbrev place_of : ℕ → Place
place_of n = record { file = 0; byte = n; line = 1; column = 1 }

abbrev pub global : CType → Declaration
global kind = record { name = codes "x"; sort = Object true; kind = kind; linkage = ExternalLinkage; place = place_of 0 }

abbrev pub local : CType → Declaration
local kind = record { name = codes "x"; sort = Object false; kind = kind; linkage = Absent; place = place_of 0 }

abbrev of_function : Declaration
of_function = record { name = codes "f"; sort = Function; kind = function_type int no_types; linkage = ExternalLinkage; place = place_of 0 }

abbrev statement : Tree → Tree
statement expression = at 5 full void (expression ∷ [])

abbrev returned : Tree → Tree
returned expression = at 5 return void (expression ∷ [])

-- the definition of a function from one token to another, with the items of its body
abbrev defined : ℕ → ℕ → ℕ → List ℕ → List Tree → External
defined first after f parameters items =
    record { span = record { first = first; after = after }; constants = []; form = defines_function f parameters (at first block void items) }

-- int d = initialiser; or without one
abbrev declared : ℕ → ℕ → Option Initialiser → List Tree → Tree
declared n d initialiser expressions = at n (declare 0 (record { declared = d; defines = true; initialiser = initialiser } ∷ [])) void expressions

-- in file scope
abbrev external : ℕ → External
external d = record { span = record { first = 0; after = 1 }; constants = []; form = declares (record { declared = d; defines = true; initialiser = None } ∷ []) [] }

-- ---- who calls whom: int x; int one(void) { return 1; } int set(void) { x = 9; return 1; } int main(void) { .. } int last(void) { return 1; },
-- with numbers from 0 to 4; `main` has the tokens from 30 to 59
abbrev pub calls : TypedUnit
calls = record {
  declared = global int ∷ of_function ∷ of_function ∷ of_function ∷ of_function ∷ [];
  externals = external 0 ∷ defined 1 10 1 [] (returned (constant 6 1) ∷ []) ∷ defined 10 30 2 [] (statement (set_to 15 0 (constant 16 9)) ∷ returned (constant 17 1) ∷ [])
      ∷ defined 30 60 3 [] (returned (constant 40 0) ∷ []) ∷ defined 60 70 4 [] (returned (constant 61 1) ∷ []) ∷ [];
}

-- ---- the order between two reads: `set` stores in `x`, and the two operands are objects of one storage duration
abbrev pub with_objects : Declaration → TypedUnit
with_objects entry = record {
  declared = entry ∷ entry ∷ of_function ∷ of_function ∷ [];
  externals = defined 10 20 2 [] (statement (set_to 15 0 (constant 16 9)) ∷ returned (constant 17 1) ∷ []) ∷ defined 20 60 3 [] (returned (constant 50 0) ∷ []) ∷ [];
}

-- MAX(x, y) + f()
abbrev pub sum_with_call : Tree
sum_with_call = sum (greater (reading 21 0) (reading 22 1)) (called 23 2 [])

-- *p of the pointer 0, and its address with &
abbrev pub followed : Tree
followed = value_of 21 int (at 21 follow int (value_of 21 (pointer int) (named 21 (pointer int) 0) ∷ []))

abbrev pub address_of : Tree
address_of = at 21 address (pointer int) (named 21 int 0 ∷ [])

-- sizeof of the object 1
abbrev pub size : Tree
size = size_of 21 (named 22 int 1)

-- s.m of the struct 0, its value and its address
abbrev member_of : Tree
member_of = at 21 (member 0) int (named 21 (struct 0) 0 ∷ [])

abbrev pub member_value : Tree
member_value = value_of 21 int member_of

abbrev pub member_address : Tree
member_address = at 21 address (pointer int) (member_of ∷ [])

-- ---- what is set: int main(void) { T k = 1; .. k .. }, or without the initialiser, where `k` stands at a token
abbrev pub with_local : CType → Option Initialiser → List Tree → TypedUnit
with_local kind initialiser expressions = record {
  declared = of_function ∷ local kind ∷ [];
  externals = defined 0 60 0 [] (declared 10 1 initialiser expressions ∷ returned (constant 50 0) ∷ []) ∷ [];
}

abbrev pub set_local : CType → TypedUnit
set_local kind = with_local kind (Some one_expression) (constant 11 1 ∷ [])

abbrev pub unset_local : TypedUnit
unset_local = with_local int None []

abbrev pub plus_one : CType → Tree
plus_one kind = operated Add kind (value_of 40 kind (named 40 kind 1)) (at 41 (number (pos 1)) kind [])

abbrev pub minus : ℕ → Tree
minus d = at 40 (unary Minus) int (reading 40 d ∷ [])
