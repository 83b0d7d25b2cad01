-- int n;
-- int f(void) { return LATEST(); }
-- with `#define LATEST() n`. Tokens are counted from 0.
--     old      the unit
--     run      the macro's run in it
use Rattle.std.specs.Prelude.{ℕ, ◌+◌, true, List, [], ◌∷◌, None, codes}
use Rattle.dm_int.specs.declared.Kind.TheVariants.{Int}
use Rattle.dm_token.specs.declared.place.Place.{Place}
use Rattle.dm_token.specs.declared.place.Span.{Span}
use Rattle.dm_type.specs.CTypes.{CType, integer, void, function as function_type, no_types}
use Rattle.dm_runs.specs.declared.run.Run.{Run}
use Rattle.dm_tree.specs.declared.unit.Linkage.{Linkage}
use Rattle.dm_tree.specs.declared.unit.Linkage.TheVariants.{External as Outer}
use Rattle.dm_tree.specs.declared.unit.Sort.TheVariants.{Object, Function}
use Rattle.dm_tree.specs.Trees.{Label, object, read, block, return, Tree, node, trees}
use Rattle.dm_tree.specs.Units.{Declaration, External, declares, defines_function, TypedUnit}

abbrev place : Place
place = record { file = 0; byte = 0; line = 1; column = 1 }

abbrev span : ℕ → ℕ → Span
span first after = record { first = first; after = after }

-- a node by its tokens
abbrev tree : Label → CType → ℕ → ℕ → List Tree → Tree
tree label kind first after parts = node label kind (record { inner = span first after; outer = span first after; place = place }) (trees parts)

abbrev int : CType
int = integer Int

abbrev plain_function : CType
plain_function = function_type int no_types

-- ---- declarations

abbrev entry : Declaration
entry = record { name = codes "n"; sort = Object true; kind = int; linkage = Outer; place = place }

abbrev of_function : List ℕ → Linkage → Declaration
of_function name linkage = record { name = name; sort = Function; kind = plain_function; linkage = linkage; place = place }

abbrev declared : External
declared = record { span = span 0 3; constants = []; form = declares (record { declared = 0; defines = true; initialiser = None } ∷ []) [] }

-- a function of this number, whose brace stands here, returns a value
abbrev defined : ℕ → ℕ → ℕ → Tree → ℕ → External
defined f first brace value after = record {
  span = span first after;
  constants = [];
  form = defines_function f [] (tree block void brace after (tree return void (brace + 1) (brace + 4) (value ∷ []) ∷ []));
}

-- the value of the object, at a token
abbrev pub value_at : ℕ → Tree
value_at n = tree read int n (n + 1) (tree (object 0) int n (n + 1) [] ∷ [])

-- ---- the units

abbrev pub old : TypedUnit
old = record {
  declared = entry ∷ of_function (codes "f") Outer ∷ [];
  externals = declared ∷ defined 1 3 8 (value_at 10) 13 ∷ [];
}

abbrev pub run : Run
run = record { instance = 0; prefix = []; span = span 10 11; occurrences = [] }
