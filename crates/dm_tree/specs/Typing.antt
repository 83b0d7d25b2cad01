-- Well-typed trees and units: each node has a form, types and ranges that the constraints of 6.5 to 6.9 and the conversions of 6.3 allow,
-- and its parts are well typed too.
--     Fits scene label kind parts      a node of this form and type may have these parts
--     IsWellTyped scene tree      each node of the tree fits
--     IsWellTypedUnit types one      the entries and external declarations of a unit fit
use Rattle.std.specs.Prelude.{nat_eq, ◌≡◌, ◌+◌, ◌≤◌, ℕ, ℤ, Bool, true, false, ◌&&◌, ◌||◌, not, MatchBool, IsTrue, List, [], ◌∷◌, length, take, drop, flat_map, All, Option, Some, None, IsSome, IfSome, codes}
use Rattle.std.specs.List.{IsDistinct}
use Rattle.dm_int.specs.declared.Kind.{Kind}
use Rattle.dm_int.specs.declared.Kind.TheVariants as k
use Rattle.dm_int.specs.Kinds.{InRange}
use Rattle.dm_int.specs.Operators.{int_eq}
use Rattle.dm_type.specs.Alike.{are_compatible}
use Rattle.dm_type.specs.CTypes.{CType, CTypes, void, integer, pointer, array, struct, function as function_type, no_types, more_types, bare}
use Rattle.dm_type.specs.Tables.{Table}
use Rattle.dm_tree.specs.declared.tree.Sign.TheVariants as s
use Rattle.dm_tree.specs.declared.unit.Linkage.{Linkage}
use Rattle.dm_tree.specs.declared.unit.Linkage.TheVariants.{External as Outer, Absent}
use Rattle.dm_tree.specs.declared.unit.Sort.{Sort}
use Rattle.dm_tree.specs.declared.unit.Sort.TheVariants.{Object, Function, Typedef, Enumerator, Tag}
use Rattle.dm_tree.specs.Composites.{covers}
use Rattle.dm_tree.specs.Constants.{integer_kind}
use Rattle.dm_tree.specs.Trees.{Label, number, enumerator, literal, object, function, read, decay, convert as conversion, address, follow, member, unary, binary, both, either, choose, comma, store, update, count, call, sizeof_tree, sizeof_kind, block, declare, full, empty, if_statement, switch, case, default, while_loop, do_loop, for_loop, break, continue, return, Tree, Trees, node, no_trees, more_trees, label_of, kind_of, listed, is_statement}
use Rattle.dm_tree.specs.Units.{Declaration, External, ExternalForm, declares, defines_function, TypedUnit}
use Rattle.dm_tree.specs.Scenes.{Scene, is_lvalue, IsLvalue, IsStatement, IsValue, target, is_integer, is_scalar, is_void, is_array, is_function, IsComplete, are_alike, Names, IsModifiable, constant_of, IsConstant}
use Rattle.dm_tree.specs.Operands.{Becomes, IsPromoted, FitsBinary, UpdateFits, IsCountable, IsArmType, FitsCall, FitsMember, IsNumber}
use Rattle.dm_tree.specs.Initialisers.{is_object, is_enumerator, is_function_sort, FitsDecay, DeclaratorsFit}

-- ---- statements

-- the value of a condition (6.8.4.1p1, 6.8.5p2)
abbrev pub IsCondition : Tree → Type 0
IsCondition tree = IsValue tree × IsTrue (is_scalar (kind_of tree))

-- of the parts of `for`, the first is a declaration or a value
abbrev pub IsStart : Tree → Type 0
IsStart (node (declare lengths declarators) kind spans parts) = Unit {0}
IsStart tree = IsValue tree

-- the parts of `for` that are there, and its body (6.8.5p1)
abbrev pub FitsLoop : Bool → Bool → Bool → List Tree → Type 0
FitsLoop true second third (first ∷ parts) = IsStart first × FitsLoop false second third parts
FitsLoop false true third (condition ∷ parts) = IsCondition condition × FitsLoop false false third parts
FitsLoop false false true (last ∷ parts) = IsValue last × FitsLoop false false false parts
FitsLoop false false false (body ∷ []) = IsStatement body
FitsLoop first second third parts = ⊥

-- the labels with which an item of a switch's block begins: the value of each `case`, and None for `default` (6.8.1)
abbrev pub labels_at : Scene → Label → List Tree → List (List (Option ℤ)) → List (Option ℤ)
labels_at scene case (value ∷ rest) (others ∷ below ∷ []) = constant_of scene value ∷ below
labels_at scene default parts (below ∷ []) = None ∷ below
labels_at scene label parts below = []

abbrev mutual
  pub labels_of : Scene → Tree → List (Option ℤ)
  labels_of scene (node label kind spans parts) = labels_at scene label (listed parts) (labels_below scene parts)

  pub labels_below : Scene → Trees → List (List (Option ℤ))
  labels_below scene no_trees = []
  labels_below scene (more_trees first rest) = labels_of scene first ∷ labels_below scene rest

-- the values of a switch's labels differ, and there is at most one `default` (6.8.4.2p3)
abbrev pub is_same_label : Option ℤ → Option ℤ → Bool
is_same_label None None = true
is_same_label (Some a) (Some b) = int_eq a b
is_same_label a b = false

-- the operand of a switch has a promoted kind, and its items are statements whose labels differ
abbrev pub FitsSwitch : Scene → Tree → List Tree → Type 0
FitsSwitch scene operand items =
    IsValue operand × (kind_of operand ≡ bare (kind_of operand)) × IfSome (integer_kind (kind_of operand)) IsPromoted × IsTrue (is_integer (kind_of operand))
    × All IsStatement items × IsDistinct is_same_label (flat_map (labels_of scene) items)

-- a function gives back a value of its type, as its definition says it, or none where that is void (6.8.6.4p1, p3)
abbrev pub FitsReturn : CType → List Tree → Type 0
FitsReturn result [] = result ≡ void
FitsReturn result (value ∷ []) = IsValue value × IsTrue (covers result (kind_of value)) × IsTrue (not (is_void result))
FitsReturn result parts = ⊥

-- ---- nodes

-- a node that is an expression
abbrev pub FitsExpression : Scene → Label → CType → List Tree → Type 0
FitsExpression scene (number value) kind [] = IsNumber value kind
FitsExpression scene (enumerator at) kind [] = Names scene at (λ entry. IsTrue (is_enumerator entry.sort)) × (kind ≡ integer k.Int)
FitsExpression scene (literal bytes unit) kind [] = kind ≡ array (integer k.Char) (Some (length bytes + 1))
FitsExpression scene (object at) kind [] = Names scene at (λ entry. IsTrue (is_object entry.sort && covers entry.kind kind))
FitsExpression scene (function at) kind [] = Names scene at (λ entry. IsTrue (is_function_sort entry.sort && covers entry.kind kind))
FitsExpression scene read kind (a ∷ []) = IsLvalue a × IsTrue (not (is_array (kind_of a))) × (kind ≡ bare (kind_of a))
FitsExpression scene decay kind (a ∷ []) = IsLvalue a × FitsDecay (kind_of a) kind
FitsExpression scene conversion kind (a ∷ lengths) = IsValue a × Becomes scene a kind × All (IsConstant scene) lengths
FitsExpression scene address kind (a ∷ []) = IsLvalue a × (kind ≡ pointer (kind_of a))
FitsExpression scene follow kind (a ∷ []) = IsValue a × (kind_of a ≡ pointer kind) × IsComplete scene kind
FitsExpression scene (member n) kind (a ∷ []) = IsTrue (not (is_statement (label_of a))) × FitsMember scene.types (is_lvalue a) (kind_of a) n kind
FitsExpression scene (unary s.Not) kind (a ∷ []) = IsCondition a × (kind ≡ integer k.Int)
FitsExpression scene (unary sign) kind (a ∷ []) = IsValue a × (kind_of a ≡ kind) × IfSome (integer_kind kind) IsPromoted × IsTrue (is_integer kind)
FitsExpression scene (binary op) kind (a ∷ b ∷ []) =
    IsValue a × IsValue b × FitsBinary scene op (kind_of a) (kind_of b) kind (integer_kind (kind_of a)) (integer_kind (kind_of b)) (target (kind_of a)) (target (kind_of b))
FitsExpression scene both kind (a ∷ b ∷ []) = IsCondition a × IsCondition b × (kind ≡ integer k.Int)
FitsExpression scene either kind (a ∷ b ∷ []) = IsCondition a × IsCondition b × (kind ≡ integer k.Int)
FitsExpression scene choose kind (a ∷ b ∷ c ∷ []) = IsCondition a × IsValue b × IsValue c × (kind_of b ≡ kind) × (kind_of c ≡ kind) × IsArmType kind
FitsExpression scene comma kind (a ∷ b ∷ []) = IsValue a × IsValue b × (kind ≡ kind_of b)
FitsExpression scene store kind (a ∷ b ∷ []) = IsModifiable scene a × IsValue b × (kind ≡ bare (kind_of a)) × (kind_of b ≡ kind)
FitsExpression scene (update op works) kind (a ∷ b ∷ []) =
    IsModifiable scene a × IsValue b × (kind ≡ bare (kind_of a)) × UpdateFits scene op kind works (integer_kind kind) (integer_kind (kind_of b))
FitsExpression scene (count plus before) kind (a ∷ []) = IsModifiable scene a × (kind ≡ bare (kind_of a)) × IsCountable scene kind
FitsExpression scene call kind (node (function at) type spans no_trees ∷ arguments) = FitsCall type arguments kind
FitsExpression scene sizeof_tree kind (a ∷ []) = IsTrue (not (is_statement (label_of a))) × IsComplete scene (kind_of a) × (kind ≡ integer k.ULong)
FitsExpression scene (sizeof_kind type) kind lengths = IsComplete scene type × All (IsConstant scene) lengths × (kind ≡ integer k.ULong)
FitsExpression scene label kind parts = ⊥

-- a node that is a statement
abbrev pub FitsStatement : Scene → Label → List Tree → Type 0
FitsStatement scene block items = All IsStatement items
FitsStatement scene (declare lengths declarators) parts =
    (lengths ≤ length parts) × All (IsConstant scene) (take lengths parts) × DeclaratorsFit scene declarators (drop lengths parts)
FitsStatement scene full (a ∷ []) = IsValue a
FitsStatement scene empty [] = Unit {0}
FitsStatement scene if_statement (a ∷ b ∷ []) = IsCondition a × IsStatement b
FitsStatement scene if_statement (a ∷ b ∷ c ∷ []) = IsCondition a × IsStatement b × IsStatement c
FitsStatement scene switch (a ∷ items) = FitsSwitch scene a items
FitsStatement scene case (a ∷ b ∷ []) = IfSome scene.labels (λ kind. kind_of a ≡ integer kind) × IsSome scene.labels × IsConstant scene a × IsStatement b
FitsStatement scene default (a ∷ []) = IsSome scene.labels × IsStatement a
FitsStatement scene while_loop (a ∷ b ∷ []) = IsCondition a × IsStatement b
FitsStatement scene do_loop (a ∷ b ∷ []) = IsStatement a × IsCondition b
FitsStatement scene (for_loop first second third) parts = FitsLoop first second third parts
FitsStatement scene break [] = IsTrue scene.breaks
FitsStatement scene continue [] = IsTrue scene.continues
FitsStatement scene return parts = FitsReturn scene.result parts
FitsStatement scene label parts = ⊥

-- a node fits: a statement's type is void
abbrev pub Fits : Scene → Label → CType → List Tree → Type 0
Fits scene label kind parts = MatchBool (is_statement label) (FitsStatement scene label parts × (kind ≡ void)) (FitsExpression scene label kind parts)

-- ---- trees

-- the kind of a switch's labels: that of its operand
abbrev pub switch_kind : List Tree → Option Kind
switch_kind [] = None
switch_kind (operand ∷ items) = integer_kind (kind_of operand)

-- what the parts of a node stand among
abbrev pub inside : Scene → Label → List Tree → Scene
inside scene switch parts = record scene { breaks = true; labels = switch_kind parts }
inside scene case parts = scene
inside scene default parts = scene
inside scene while_loop parts = record scene { breaks = true; continues = true; labels = None }
inside scene do_loop parts = record scene { breaks = true; continues = true; labels = None }
inside scene (for_loop first second third) parts = record scene { breaks = true; continues = true; labels = None }
inside scene label parts = record scene { labels = None }

abbrev mutual
  -- each node of the tree fits
  pub IsWellTyped : Scene → Tree → Type 0
  IsWellTyped scene (node label kind spans parts) =
      Fits scene label kind (listed parts) × AreWellTyped (inside scene label (listed parts)) parts

  pub AreWellTyped : Scene → Trees → Type 0
  AreWellTyped scene no_trees = Unit {0}
  AreWellTyped scene (more_trees first rest) = IsWellTyped scene first × AreWellTyped scene rest

-- ---- units

-- the scene of a unit's file scope
abbrev pub file_scene : Table → List Declaration → Scene
file_scene types declared = record { types = types; declared = declared; result = void; breaks = false; continues = false; labels = None }

-- the scene of the body of a function with this result
abbrev pub body_scene : Scene → CType → Scene
body_scene scene result = record scene { result = bare result }

-- an object with linkage has static storage, and a function has linkage (6.2.2, 6.2.4p3)
abbrev pub has_linkage : Linkage → Bool
has_linkage Absent = false
has_linkage linkage = true

-- a tag names a struct, or an enum, whose type is int (6.7.2.2p4)
abbrev pub IsTagType : CType → Type 0
IsTagType (struct at) = Unit {0}
IsTagType (integer k.Int) = Unit {0}
IsTagType type = ⊥

-- an entry of the list of declarations: its type and linkage are such as its sort has
abbrev pub FitsSort : Sort → CType → Bool → Type 0
FitsSort (Object fixed) kind linked = IsTrue (not (is_function kind)) × (IsTrue linked → IsTrue fixed)
FitsSort Function kind linked = IsTrue (is_function kind) × IsTrue linked
FitsSort Typedef kind linked = IsTrue (not linked)
FitsSort (Enumerator value) kind linked = (kind ≡ integer k.Int) × InRange k.Int value × IsTrue (not linked)
FitsSort Tag kind linked = IsTagType kind × IsTrue (not linked)

abbrev pub IsEntry : Declaration → Type 0
IsEntry entry = FitsSort entry.sort entry.kind (has_linkage entry.linkage)

-- a parameter of a definition is an object of its own, with a complete type that the function's type has, const apart (6.9.1p7, 6.7.6.3p15)
abbrev pub ParameterFits : Scene → CType → Declaration → Type 0
ParameterFits scene type entry =
    (entry.sort ≡ Object false) × IsTrue (are_alike entry.kind type) × IsComplete scene entry.kind

abbrev pub ParametersFit : Scene → List ℕ → CTypes → Type 0
ParametersFit scene [] no_types = Unit {0}
ParametersFit scene (at ∷ more) (more_types type types) = Names scene at (ParameterFits scene type) × ParametersFit scene more types
ParametersFit scene ats types = ⊥

-- the body of a function of a type is a block that fits its result
abbrev pub DefinitionFits : Scene → List ℕ → Tree → CType → Type 0
DefinitionFits scene parameters body (function_type result types) =
    ParametersFit scene parameters types × (label_of body ≡ block) × IsWellTyped (body_scene scene result) body
DefinitionFits scene parameters body type = ⊥

-- the types that `main` may have (5.1.2.2.1p1)
abbrev pub is_main_type : CType → Bool
is_main_type type =
    are_compatible type (function_type (integer k.Int) no_types)
    || are_compatible type (function_type (integer k.Int) (more_types (integer k.Int) (more_types (pointer (pointer (integer k.Char))) no_types)))

-- a function that is defined has a sort and a type to fit, and `main` one of its two types, and external linkage
abbrev pub FunctionFits : Scene → List ℕ → Tree → Declaration → Type 0
FunctionFits scene parameters body entry =
    (entry.sort ≡ Function) × DefinitionFits scene parameters body entry.kind
    × (entry.name ≡ codes "main" → IsTrue (is_main_type entry.kind) × (entry.linkage ≡ Outer))

-- the trees of an external declaration
abbrev pub AllWellTyped : Scene → List Tree → Type 0
AllWellTyped scene trees = All (IsWellTyped scene) trees

abbrev pub FormFits : Scene → ExternalForm → Type 0
FormFits scene (declares declarators trees) = AllWellTyped scene trees × DeclaratorsFit scene declarators trees
FormFits scene (defines_function at parameters body) = Names scene at (FunctionFits scene parameters body)

abbrev pub ExternalFits : Scene → External → Type 0
ExternalFits scene one = AllWellTyped scene one.constants × All (IsConstant scene) one.constants × FormFits scene one.form

-- the functions that are defined
abbrev pub defined_by : ExternalForm → List ℕ
defined_by (declares declarators trees) = []
defined_by (defines_function at parameters body) = at ∷ []

abbrev pub defined_functions : List External → List ℕ
defined_functions externals = flat_map (λ (one : External). defined_by one.form) externals

-- a well-typed unit: its entries and its external declarations fit, and no function is defined twice (6.9p3, p5)
pub record IsWellTypedUnit (types : Table) (one : TypedUnit) : Type 0 where
  pub entries : All IsEntry one.declared
  pub externals : All (ExternalFits (file_scene types one.declared)) one.externals
  pub once : IsDistinct nat_eq (defined_functions one.externals)
