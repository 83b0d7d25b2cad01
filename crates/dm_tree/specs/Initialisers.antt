-- What initialisers and declarators may be (6.7.9).
use Rattle.std.specs.Prelude.{◌≡◌, ◌+◌, ◌≤◌, ℕ, zero, suc, Bool, true, false, ◌&&◌, ◌==◌, if◌then◌else◌, IsTrue, ◌⊎◌, List, [], ◌∷◌, ◌++◌, length, take, drop, Option, Some, None, is_some, IsSome, IfSome, option_map, option_and_then, slice_get}
use Rattle.std.specs.Option.{option_map_or}
use Rattle.dm_int.specs.declared.Kind.{Kind}
use Rattle.dm_int.specs.declared.Kind.TheVariants as k
use Rattle.dm_int.specs.declared.Op.TheVariants as o
use Rattle.dm_token.specs.declared.place.Span.{Span}
use Rattle.dm_type.specs.CTypes.{CType, void, pointer, array, bare}
use Rattle.dm_type.specs.Tables.{Table}
use Rattle.dm_tree.specs.declared.unit.Sort.{Sort}
use Rattle.dm_tree.specs.declared.unit.Sort.TheVariants.{Object, Function, Enumerator}
use Rattle.dm_tree.specs.Composites.{covers}
use Rattle.dm_tree.specs.Constants.{integer_kind}
use Rattle.dm_tree.specs.Trees.{Initialiser, Initialisers, one_expression, in_braces, no_items, more_items, Declarator, Label, literal, object, decay, convert as conversion, address, follow, member, binary, Spans, Tree, Trees, node, no_trees, more_trees, kind_of, spans_of, listed, expressions_in}
use Rattle.dm_tree.specs.Units.{Declaration}
use Rattle.dm_tree.specs.Scenes.{Scene, IsValue, is_scalar, IsComplete, part_type, Names, constant_of, IsZero}

-- ---- initialisers and declarations

-- one more type in front
abbrev pub also : Option (List CType) → Option (List CType) → Option (List CType)
also first rest = option_and_then (λ types. option_map (λ others. types ++ others) rest) first

-- a list in braces has items, no more than the type has parts (6.7.9p2)
abbrev pub at_end : ℕ → Option (List CType)
at_end zero = None
at_end (suc n) = Some []

abbrev mutual
  -- the types of what the expressions of an initialiser initialise, from the left: the whole, or for a list in braces its parts in order
  pub targets : Table → CType → Initialiser → Option (List CType)
  targets table type one_expression = Some (type ∷ [])
  targets table type (in_braces items) = targets_of_items table type 0 items

  -- those of the items from some part on
  pub targets_of_items : Table → CType → ℕ → Initialisers → Option (List CType)
  targets_of_items table type n no_items = at_end n
  targets_of_items table type n (more_items first rest) =
      option_and_then (λ part. also (targets table part first) (targets_of_items table type (n + 1) rest)) (part_type table type n)

-- a character type, const or not (6.2.5p15)
abbrev pub is_character : Option Kind → Bool
is_character (Some k.Char) = true
is_character (Some k.SChar) = true
is_character (Some k.UChar) = true
is_character kind = false

-- an object has static storage
abbrev pub is_fixed : Sort → Bool
is_fixed (Object fixed) = fixed
is_fixed sort = false

-- two spans are one
abbrev pub is_same_span : Span → Span → Bool
is_same_span a b = (a.first == b.first) && (a.after == b.after)

-- a tree has the tokens of the node above it, from which both come
abbrev pub shares_tokens : Spans → Tree → Bool
shares_tokens spans part = is_same_span spans.inner (spans_of part).inner

-- the operand of an implied conversion, which has its operand's tokens; another tree stays
abbrev pub unconverted : Tree → Tree
unconverted (node conversion kind spans (more_trees operand no_trees)) =
    if shares_tokens spans operand then operand else node conversion kind spans (more_trees operand no_trees)
unconverted tree = tree

-- How a tree reaches an object with static storage by constants alone: it designates it or a part of it, it is the address of its first
-- element, or the address of the element that a constant subscript names (6.6p9)
pub data Reach : Type 0 where
  nowhere : Reach
  place : Reach
  start : Reach
  element_address : Reach

abbrev pub reach_of_object : Option Declaration → Reach
reach_of_object None = nowhere
reach_of_object (Some entry) = if is_fixed entry.sort then place else nowhere

-- from the reach of an array's first element and a subscript
abbrev pub subscripted : Scene → Tree → Reach
subscripted scene subscript = if is_some (constant_of scene subscript) then element_address else nowhere

-- by the form, the parts, and how these reach
abbrev pub reach_at : Scene → Label → Spans → List Tree → List Reach → Reach
reach_at scene (object at) spans parts reaches = reach_of_object (slice_get scene.declared at)
reach_at scene (literal bytes unit) spans parts reaches = place
reach_at scene (member n) spans parts (place ∷ rest) = place
reach_at scene decay spans parts (place ∷ rest) = start
reach_at scene (binary o.Add) spans (left ∷ right ∷ []) (start ∷ rest) = subscripted scene right
reach_at scene (binary o.Add) spans (left ∷ right ∷ []) (first ∷ start ∷ rest) = subscripted scene left
reach_at scene follow spans (sum ∷ []) (element_address ∷ rest) = if shares_tokens spans sum then place else nowhere
reach_at scene label spans parts reaches = nowhere

abbrev mutual
  pub reach : Scene → Tree → Reach
  reach scene (node label kind spans parts) = reach_at scene label spans (listed parts) (reaches scene parts)

  pub reaches : Scene → Trees → List Reach
  reaches scene no_trees = []
  reaches scene (more_trees first rest) = reach scene first ∷ reaches scene rest

-- the address of an object with static storage, or the decay of one (6.6p9)
abbrev pub IsAddressConstant : Scene → Tree → Type 0
IsAddressConstant scene (node address kind spans (more_trees operand no_trees)) = reach scene operand ≡ place
IsAddressConstant scene tree = reach scene tree ≡ start

-- a null pointer constant (6.3.2.3p3)
abbrev pub IsNullConstant : Scene → Tree → Type 0
IsNullConstant scene (node conversion (pointer void) spans (more_trees operand rest)) = IsZero scene operand
IsNullConstant scene tree = IsZero scene tree

-- a value that initialises an object with static storage (6.7.9p4): an integer constant expression with a value, or, before an implied
-- conversion, a null pointer constant or an address constant
abbrev pub IsStaticValue : Scene → Tree → Type 0
IsStaticValue scene tree =
    IsSome (constant_of scene tree) ⊎ (IsNullConstant scene (unconverted tree) ⊎ IsAddressConstant scene (unconverted tree))

-- The value of an expression initialises an object of a type, with static storage or without. It was converted to the type that the object
-- had then (6.7.9p11), which a later declaration may have completed.
abbrev pub Initialises : Scene → Bool → CType → Tree → Type 0
Initialises scene fixed (array type (Some many)) (node (literal bytes unit) kind spans parts) =
    IsTrue (is_character (integer_kind type)) × (length bytes ≤ many)
Initialises scene fixed type tree = IsValue tree × IsTrue (is_scalar type) × IsTrue (covers (bare type) (kind_of tree)) × (IsTrue fixed → IsStaticValue scene tree)

-- what a declaration's name stands for
abbrev pub is_object : Sort → Bool
is_object (Object fixed) = true
is_object sort = false

abbrev pub is_enumerator : Sort → Bool
is_enumerator (Enumerator value) = true
is_enumerator sort = false

abbrev pub is_function_sort : Sort → Bool
is_function_sort Function = true
is_function_sort sort = false

-- the type of a decayed array (6.3.2.1p3)
abbrev pub FitsDecay : CType → CType → Type 0
FitsDecay (array type n) kind = kind ≡ pointer type
FitsDecay type kind = ⊥

-- expressions initialise objects of these types, in order
abbrev pub AllInitialise : Scene → Bool → List CType → List Tree → Type 0
AllInitialise scene fixed [] [] = Unit {0}
AllInitialise scene fixed (type ∷ types) (tree ∷ trees) = Initialises scene fixed type tree × AllInitialise scene fixed types trees
AllInitialise scene fixed types trees = ⊥

-- a declared object may be defined: it is complete (6.7p7)
abbrev pub MayDefine : Scene → Declaration → Type 0
MayDefine scene entry = IsTrue (is_object entry.sort) × IsComplete scene entry.kind

-- an initialiser fits an object: its expressions initialise the parts that it names
abbrev pub InitialiserFits : Scene → Declaration → Bool → Option Initialiser → List Tree → Type 0
InitialiserFits scene entry defines None trees = trees ≡ []
InitialiserFits scene entry defines (Some one) trees =
    IsTrue defines × IfSome (targets scene.types entry.kind one) (λ types. AllInitialise scene (is_fixed entry.sort) types trees)
    × IsSome (targets scene.types entry.kind one)

-- a declarator fits what it declares: it has no initialiser and no expressions, or defines an object, which its expressions initialise
abbrev pub FitsEntry : Scene → Declarator → List Tree → Declaration → Type 0
FitsEntry scene one trees entry = (IsTrue one.defines → MayDefine scene entry) × InitialiserFits scene entry one.defines one.initialiser trees

abbrev pub DeclaratorFits : Scene → Declarator → List Tree → Type 0
DeclaratorFits scene one trees = Names scene one.declared (FitsEntry scene one trees)

-- how many expressions a declarator's initialiser has
abbrev pub expressions_of : Declarator → ℕ
expressions_of one = option_map_or expressions_in one.initialiser 0

-- declarators in order, each with its own of the expressions that stand behind one another
abbrev pub DeclaratorsFit : Scene → List Declarator → List Tree → Type 0
DeclaratorsFit scene [] trees = trees ≡ []
DeclaratorsFit scene (one ∷ more) trees =
    DeclaratorFits scene one (take (expressions_of one) trees) × DeclaratorsFit scene more (drop (expressions_of one) trees)
