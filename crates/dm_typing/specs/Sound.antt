-- What the typing gives is well typed: the words in which the laws say so.
--     IsSound known tree      the tree is a well-typed expression where this is known, and its type is one that expressions have
--     IsSoundValue known tree      it is a value too: no lvalue, and its type without const
--     Gives known IsGiven outcome      what is typed, if anything is, adds nothing to what is known, and is such
--     GivesMore known IsGiven outcome      it may add to what is known, which stays sound
--     KnowsMore old new      all that was known still is
--     BreaksWithin first behind outcome      a rule that is broken is so at one of these tokens
use Rattle.std.specs.Prelude.{◌≡◌, ℕ, true, ◌||◌, not, IsTrue, List, [], ◌∷◌, All, length, ◌<◌, ◌≤◌, Some, None, is_some, IsSome, slice_get, suc, if◌then◌else◌}
use Rattle.dm_token.specs.Limits.{most_type_bytes}
use Rattle.dm_token.specs.declared.token.CToken.{CToken}
use Rattle.dm_type.specs.declared.layout.Layout.{Layout}
use Rattle.dm_type.specs.declared.shape.Content.{Content}
use Rattle.dm_type.specs.declared.shape.Member.{Member}
use Rattle.dm_type.specs.declared.shape.Struct.{Struct as StructEntry}
use Rattle.dm_type.specs.CTypes.{CType, CTypes, void, integer, pointer, array, struct, function as function_type, const, no_types, more_types, bare, is_const}
use Rattle.dm_type.specs.Layouts.{size_of}
use Rattle.dm_type.specs.Tables.{Table, type_of, content_of, members_of}
use Rattle.dm_syn.specs.declared.symbol.Symbol.TheVariants as symbol
use Rattle.dm_syn.specs.Symbols.{symbol_of}
use Rattle.dm_tree.specs.Trees.{Tree, trees as trees_in, label_of, kind_of, is_statement}
use Rattle.dm_tree.specs.Scenes.{Scene, is_lvalue, is_array, IsValue, IsConstant}
use Rattle.dm_tree.specs.Operands.{IsNumber}
use Rattle.dm_tree.specs.Units.{Declaration}
use Rattle.dm_tree.specs.Typing.{file_scene, IsEntry, IsWellTyped, AreWellTyped}
use Rattle.dm_typing.specs.Known.{Known, Outcome, given, broken}
use Rattle.dm_typing.specs.Conversions.{element}
use Rattle.dm_typing.specs.Typing.{kind_numbered, number_if_struct, is_among, TypedName, Step, pointing, arraying, calling, kinds_of}

-- ---- types

-- const stands on no const type, and on no array, whose elements have it (6.7.3p5, p9)
abbrev mutual
  pub IsProper : CType → Type 0
  IsProper void = Unit {0}
  IsProper (integer kind) = Unit {0}
  IsProper (pointer type) = IsProper type
  IsProper (array type n) = IsProper type
  IsProper (struct at) = Unit {0}
  IsProper (function_type result parameters) = IsProper result × AreProper parameters
  IsProper (const type) = IsTrue (not (is_const type || is_array type)) × IsProper type

  pub AreProper : CTypes → Type 0
  AreProper no_types = Unit {0}
  AreProper (more_types type types) = IsProper type × AreProper types

-- each type of a table is proper
abbrev pub HasProperTypes : Table → Type 0
HasProperTypes table = (id : ℕ) → IsProper (type_of table id)

-- Structs that have their members are within one another in so many layers, so none is a part of itself (6.7.2.1p3).
abbrev pub AreLayeredWithin : ℕ → Table → Type 0
AreLayeredWithin many table =
    (layer : ℕ → ℕ)
    × ((at : ℕ) (members : List Member) (n : ℕ) (one : Member) (inner : ℕ) (others : List Member) → members_of table at ≡ Some members
    → slice_get members n ≡ Some one → bare (element (type_of table one.kind)) ≡ struct inner → members_of table inner ≡ Some others → layer inner < layer at)
    × ((at : ℕ) (members : List Member) → members_of table at ≡ Some members → layer at < many)

-- in as many as there are structs
abbrev pub AreLayered : Table → Type 0
AreLayered table = AreLayeredWithin (length table.structs) table

-- no struct is larger than a type may be
abbrev pub HaveSizes : Table → Type 0
HaveSizes table = (at : ℕ) (content : Content) (one : Layout) → content_of table at ≡ Some content → content.layout ≡ Some one → one.size ≤ most_type_bytes

-- ---- declarations and tokens

-- each declaration so far is one of a unit, and its type is proper
abbrev pub AreEntries : Known → Type 0
AreEntries known = (at : ℕ) (entry : Declaration) → slice_get known.declared at ≡ Some entry → IsEntry entry × IsProper entry.kind

-- the kind of a constant is promoted, and has its value (6.4.4.1p5, 6.4.4.4p10)
abbrev pub IsSoundToken : CToken → Type 0
IsSoundToken token = IsNumber token.value (integer (kind_numbered token.kind))

-- each constant of a file is sound
abbrev pub AreSoundTokens : List CToken → Type 0
AreSoundTokens tokens = (at : ℕ) (token : CToken) → slice_get tokens at ≡ Some token → symbol_of token.class ≡ symbol.Constant → IsSoundToken token

-- ---- trees

-- what trees stand among where this is known
abbrev pub scene_of : Known → Scene
scene_of known = file_scene known.types known.declared

-- a well-typed expression of a proper type, which has no const unless the expression is an lvalue (6.3.2.1p2, 6.5.4, 6.5.2.3p3)
abbrev pub IsSound : Known → Tree → Type 0
IsSound known tree =
    IsTrue (not (is_statement (label_of tree))) × (IsTrue (not (is_lvalue tree)) → kind_of tree ≡ bare (kind_of tree))
    × IsProper (kind_of tree) × IsWellTyped (scene_of known) tree

-- a well-typed expression that is no lvalue
abbrev pub IsSoundValue : Known → Tree → Type 0
IsSoundValue known tree =
    IsValue tree × (kind_of tree ≡ bare (kind_of tree)) × IsProper (kind_of tree) × IsWellTyped (scene_of known) tree

-- such values in order
abbrev pub AreSound : Known → List Tree → Type 0
AreSound known [] = Unit {0}
AreSound known (value ∷ values) = IsSoundValue known value × AreSound known values

-- the trees of a type name's lengths and enumerator values
abbrev pub AreConstants : Known → List Tree → Type 0
AreConstants known trees = All (IsConstant (scene_of known)) trees × AreWellTyped (scene_of known) (trees_in trees)

-- a type is proper, and if it is a struct, it is one of the table
abbrev pub IsType : Known → CType → Type 0
IsType known type = IsProper type × ((at : ℕ) → number_if_struct type ≡ Some at → at < length known.types.structs)

-- such types in order
abbrev pub AreTypes : Known → List CType → Type 0
AreTypes known [] = Unit {0}
AreTypes known (type ∷ types) = IsType known type × AreTypes known types

-- the steps of a declarator: the parameters of functions have such types
abbrev pub IsStep : Known → Step → Type 0
IsStep known (pointing at qualified) = Unit {0}
IsStep known (arraying at n) = Unit {0}
IsStep known (calling at parameters) = AreTypes known (kinds_of parameters)

abbrev pub AreSteps : Known → List Step → Type 0
AreSteps known [] = Unit {0}
AreSteps known (step ∷ steps) = IsStep known step × AreSteps known steps

-- of a type name, the type is proper, and its lengths and enumerator values are constants
abbrev pub IsTypedName : Known → TypedName → Type 0
IsTypedName known named = IsProper named.kind × AreConstants known named.constants

-- ---- knowledge

-- the type of each member of a struct that has its members is complete (6.7.2.1p3)
abbrev pub AreComplete : Table → Type 0
AreComplete table = (at : ℕ) (members : List Member) → members_of table at ≡ Some members
    → (n : ℕ) (one : Member) → slice_get members n ≡ Some one → IsSome (size_of table (type_of table one.kind))

-- how many structs have their members
abbrev pub how_many_complete : List StructEntry → ℕ
how_many_complete [] = 0
how_many_complete (entry ∷ structs) = if is_some entry.content then suc (how_many_complete structs) else how_many_complete structs

-- What is known is sound: entries are those of a unit and have such types, structs have complete members, are layered, and are no larger
-- than types may be, those whose members are being read have none yet, and lengths and enumerator values are constants.
pub record IsSoundKnown (known : Known) : Type 0 where
  pub entries : (at : ℕ) (entry : Declaration) → slice_get known.declared at ≡ Some entry → IsEntry entry × IsType known entry.kind
  pub complete : AreComplete known.types
  pub layered : AreLayeredWithin (how_many_complete known.types.structs) known.types
  pub sizes : HaveSizes known.types
  pub begun : (at : ℕ) → is_among at known.begun ≡ true → (at < length known.types.structs) × (content_of known.types at ≡ None)
  pub constants : AreConstants known known.constants

-- all that was known still is: the types by number, the structs that have their members, and the declarations
pub record KnowsMore (old new : Known) : Type 0 where
  pub shapes : length old.types.shapes ≤ length new.types.shapes
  pub types : (id : ℕ) → id < length old.types.shapes → type_of new.types id ≡ type_of old.types id
  pub contents : (at : ℕ) (content : Content) → content_of old.types at ≡ Some content → content_of new.types at ≡ Some content
  pub structs : length old.types.structs ≤ length new.types.structs
  pub declared : (at : ℕ) (entry : Declaration) → slice_get old.declared at ≡ Some entry → slice_get new.declared at ≡ Some entry

-- ---- what is given

-- nothing more becomes known, and what is given is such; or a rule is broken
abbrev pub Gives : Known → (Known → Tree → Type 0) → Outcome Tree → Type 0
Gives known IsGiven (given behind tree) = (behind ≡ known) × IsGiven known tree
Gives known IsGiven (broken rule at) = Unit {0}

-- more may become known, which is sound again, and what is given is such where that is known; or a rule is broken
abbrev pub GivesMore : {A : Type 0} → Known → (Known → A → Type 0) → Outcome A → Type 0
GivesMore known IsGiven (given behind it) = KnowsMore known behind × IsSoundKnown behind × (behind.begun ≡ known.begun) × IsGiven behind it
GivesMore known IsGiven (broken rule at) = Unit {0}

-- ---- where rules are broken

-- where a rule is broken, that is at one of the tokens from the first on, before another
abbrev pub BreaksWithin : {A : Type 0} → ℕ → ℕ → Outcome A → Type 0
BreaksWithin first behind (given known it) = Unit {0}
BreaksWithin first behind (broken rule at) = (first ≤ at) × (at < behind)

-- the token at which a step of a declarator begins
abbrev pub step_at : Step → ℕ
step_at (pointing at qualified) = at
step_at (arraying at n) = at
step_at (calling at parameters) = at

-- all steps begin at such tokens
abbrev pub StepsWithin : ℕ → ℕ → List Step → Type 0
StepsWithin first behind [] = Unit {0}
StepsWithin first behind (step ∷ steps) = (first ≤ step_at step) × (step_at step < behind) × StepsWithin first behind steps
