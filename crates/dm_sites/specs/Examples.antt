-- Small units: the examples of `src/examples.rt`. A tree stands at tokens by their numbers.
use Rattle.std.specs.Prelude.{ℕ, ◌+◌, ◌-◌, Bool, true, false, List, [], ◌∷◌, Some, pos, codes}
use Rattle.dm_token.specs.declared.place.Place.{Place}
use Rattle.dm_token.specs.declared.place.Span.{Span}
use Rattle.dm_int.specs.declared.Kind.TheVariants.{Int, Long, ULong}
use Rattle.dm_int.specs.declared.Op.TheVariants.{Add}
use Rattle.dm_type.specs.CTypes.{CType, void, integer, pointer, array}
use Rattle.dm_tree.specs.declared.unit.Sort.TheVariants.{Object}
use Rattle.dm_tree.specs.declared.unit.Linkage.TheVariants.{Absent}
use Rattle.dm_tree.specs.Paths.{Path}
use Rattle.dm_tree.specs.Trees.{Label, number, object, read, decay, convert, follow, binary, comma, sizeof_tree, block, declare, full, case, return, Spans, Tree, node, trees, one_expression}
use Rattle.dm_tree.specs.Units.{Declaration, External, declares, defines_function, TypedUnit}
use Rattle.dm_sites.specs.Sites.{Site}

-- ---- trees

abbrev pub span : ℕ → ℕ → Span
span first after = record { first = first; after = after }

abbrev place : ℕ → Place
place n = record { file = 0; byte = n; line = 1; column = 1 }

abbrev spans : ℕ → ℕ → Spans
spans first after = record { inner = span first after; outer = span first after; place = place first }

abbrev at : ℕ → ℕ → Label → CType → List Tree → Tree
at first after label kind parts = node label kind (spans first after) (trees parts)

abbrev int : CType
int = integer Int

abbrev pub constant : ℕ → ℕ → Tree
constant n z = at n (n + 1) (number (pos z)) int []

abbrev pub reading : ℕ → Tree
reading n = at n (n + 1) read int (at n (n + 1) (object 0) int [] ∷ [])

-- in parentheses
abbrev enclosed : Spans → Spans
enclosed spans = record { inner = spans.inner; outer = span (spans.inner.first - 1) (spans.inner.after + 1); place = spans.place }

abbrev pub enclosed_reading : ℕ → Tree
enclosed_reading n = node read int (enclosed (spans n (n + 1))) (trees (node (object 0) int (enclosed (spans n (n + 1))) (trees []) ∷ []))

-- 1 + (x), from a token on
abbrev pub sum : ℕ → Tree
sum n = at n (n + 5) (binary Add) int (constant n 1 ∷ enclosed_reading (n + 3) ∷ [])

-- x, converted to long
abbrev pub converted : ℕ → Tree
converted n = at n (n + 1) convert (integer Long) (reading n ∷ [])

-- a[1]
abbrev pub first_element : ℕ → Tree
first_element n = at n (n + 1) decay (pointer int) (at n (n + 1) (object 0) (array int (Some 2)) [] ∷ [])

abbrev element : ℕ → Tree
element n = at n (n + 4) follow int (at n (n + 4) (binary Add) (pointer int) (first_element n ∷ constant (n + 2) 1 ∷ []) ∷ [])

abbrev pub subscripted : ℕ → Tree
subscripted n = at n (n + 4) read int (element n ∷ [])

-- 1, 2, 3
abbrev pub commas : ℕ → Tree
commas n = at n (n + 5) comma int (at n (n + 5) comma int (constant n 1 ∷ constant (n + 2) 2 ∷ []) ∷ constant (n + 4) 3 ∷ [])

-- sizeof x
abbrev pub size : ℕ → Tree
size n = at n (n + 2) sizeof_tree (integer ULong) (reading (n + 1) ∷ [])

-- ---- units: two objects, the first automatic and the second static, and one external declaration from the token 0 to 60

abbrev entry : Bool → Declaration
entry fixed = record { name = codes "x"; sort = Object fixed; kind = int; linkage = Absent; place = place 0 }

abbrev one_external : External → TypedUnit
one_external external = record { declared = entry false ∷ entry true ∷ []; externals = external ∷ [] }

abbrev pub with_body : List Tree → TypedUnit
with_body items = one_external (record { span = span 0 60; constants = []; form = defines_function 9 [] (at 5 60 block void items) })

abbrev pub returned : Tree → Tree
returned value = at 10 50 return void (value ∷ [])

abbrev pub statement : Tree → Tree
statement expression = at 10 50 full void (expression ∷ [])

-- int d = value; and int d[length] = value;
abbrev declaration : ℕ → ℕ → List Tree → Tree
declaration d lengths parts = at 10 50 (declare lengths (record { declared = d; defines = true; initialiser = Some one_expression } ∷ [])) void parts

abbrev pub declared : ℕ → Tree → Tree
declared d value = declaration d 0 (value ∷ [])

abbrev pub declared_array : ℕ → Tree → Tree → Tree
declared_array d length value = declaration d 1 (length ∷ value ∷ [])

abbrev pub labelled : Tree → Tree → Tree
labelled value expression = at 10 50 case void (value ∷ statement expression ∷ [])

-- in file scope, where each object is static
abbrev pub with_external : Tree → TypedUnit
with_external value = one_external (record { span = span 0 60; constants = []; form = declares (record { declared = 1; defines = true; initialiser = Some one_expression } ∷ []) (value ∷ []) })

-- ---- places

-- an expression that is evaluated, and where no constant is wanted
abbrev pub plain : Tree → Path → Tree → Site
plain root path tree = record { tree = tree; full = root; path = path; apart = true; constant = false; fixed = false; unevaluated = false }

abbrev pub wanting_constant : Tree → Site
wanting_constant tree = record { tree = tree; full = tree; path = []; apart = true; constant = true; fixed = false; unevaluated = false }

abbrev pub initialising_static : Tree → Site
initialising_static tree = record { tree = tree; full = tree; path = []; apart = true; constant = false; fixed = true; unevaluated = false }

abbrev pub not_evaluated : Tree → Path → Tree → Site
not_evaluated root path tree = record { tree = tree; full = root; path = path; apart = true; constant = false; fixed = false; unevaluated = true }
