-- What the code has on the way through declarations, as the definition has it.
--     specified_over, bare_over, typed_over, items_over      specifiers, declarators with their initialisers, and those of a declaration
--     rule_broken said standing initialised here name entry      the rule that the declaration of an entry breaks first, and its token
--     Permits later source result broken before entry      the code says so, or gives the type that the entry has from here on
--     ProceedsWhere P Fits view source old new result progress      the code gives what the definition does where P holds
use Rattle.std.specs.Prelude.{◌≡◌, ℕ, ◌<◌, Bool, true, false, ◌&&◌, not, IsTrue, List, [], ◌∷◌, ◌++◌, length, map, All, Option, Some, None, slice_get, Result, Ok, Err, IfOk}
use Rattle.dm_token.specs.declared.stop.Stop.{Stop}
use Rattle.dm_token.specs.declared.stop.Stop.TheVariants as stop
use Rattle.dm_type.specs.declared.shape.Shape.{Shape}
use Rattle.dm_type.specs.CTypes.{CType}
use Rattle.dm_type.specs.Tables.{Table, IsId}
use Rattle.dm_syn.specs.Sources.{Source}
use Rattle.dm_syn.specs.Trees.{Initialiser, Item}
use Rattle.dm_syn.specs.Trees as tree
use Rattle.dm_tree.specs.declared.tree.Local.{Local as LocalHeld}
use Rattle.dm_tree.specs.Initialisers.{is_fixed, is_object, is_function_sort}
use Rattle.dm_tree.specs.Trees.{Declarator, Tree}
use Rattle.dm_tree.specs.TypeNumbers.{are_known_in_local}
use Rattle.dm_tree.specs.Typing.{has_linkage}
use Rattle.dm_tree.specs.Units.{Declaration}
use Rattle.dm_tree.specs.Views.{OpenedLocal, view_of_local, declarators_of, expressions_of_locals}
use Rattle.dm_typing.specs.Fitting.{AreNumbered}
use Rattle.dm_typing.specs.Known.{Known, Setting}
use Rattle.dm_typing.specs.Views.{Begins, type_over, view_over, refusal_at}
use Rattle.dm_edecl.specs.Declaring.{Specified, is_misplaced_static, may_be_object, may_be_main, name_at, Local, object_defined, item_plain, item_initialised, Declared, constants_of, expressions_of, is_function_entry, is_there}
use Rattle.dm_edecl.specs.Declaring as declaring
use Rattle.dm_edecl.specs.Initialising.{typed_initialiser}
use Rattle.dm_edecl.specs.Linkages.{number_linked, entry_of, kind_seen, may_be_declared}
use Rattle.dm_edecl.specs.Settled.{is_linked}
use Rattle.dm_edecl.specs.Standing.{Standing, Progress, goes_on, further, typing}
use Rattle.dm_estanding.specs.declared.standing.Standing.{Standing as Held}
use Rattle.dm_estanding.specs.Proceeding.{IsLawful, Advances}
use Rattle.dm_estanding.specs.Summaries.{storage_seen, StandsFor}
use Rattle.dm_estanding.specs.Undoing.{IsWithin}
use Rattle.dm_edeclaration.specs.declared.initialised.Object.{Object}
use Rattle.dm_edeclaration.specs.declared.items.TypedLocal.{TypedLocal}
use Rattle.dm_edeclaration.specs.declared.items.TypedLocals.{TypedLocals}
use Rattle.dm_edeclaration.specs.declared.specified.Specification.{Specification}

-- ---- types

-- the number is that of a type, whatever numbers come
abbrev pub IsTypeNumber : List Shape → CType → ℕ → Type 0
IsTypeNumber shapes type id = (id < length shapes) × ((later : List Shape) → Begins shapes later → type_over later id ≡ type)

-- ---- specifiers

abbrev pub specified_over : List Shape → Specification → Specified
specified_over later said = record { kind = type_over later said.kind; storage = storage_seen said.storage; inline = said.is_inline; first = said.first }

abbrev pub SpecifiedFits : Table → Specification → Type 0
SpecifiedFits types said = IsId types said.kind

-- ---- what may be declared

-- a rule holds, or it is the first that is broken
abbrev pub broken_unless : Bool → ℕ → ℕ → Option (ℕ × ℕ) → Option (ℕ × ℕ)
broken_unless true rule at next = next
broken_unless false rule at next = Some (rule, at)

abbrev pub rule_broken : Specified → Standing → Bool → ℕ → ℕ → Declaration → Option (ℕ × ℕ)
rule_broken said standing initialised here name entry =
    broken_unless (may_be_declared standing entry) 2 name
    (broken_unless (not (is_misplaced_static standing.known said.storage entry.sort)) 3 said.first
    (broken_unless (may_be_object standing.known said.storage initialised entry.sort (kind_seen standing entry)) 5 here
    (broken_unless (may_be_main standing.known entry) 36 name None)))

abbrev pub Permits : List Shape → Source → Result ℕ Stop → Option (ℕ × ℕ) → Standing → Declaration → Type 0
Permits later source (Ok kind) broken before entry = (broken ≡ None) × (may_be_declared before entry ≡ true) × (type_over later kind ≡ kind_seen before entry)
Permits later source (Err stop.Memory) broken before entry = Unit {0}
Permits later source (Err (stop.Refused refusal)) broken before entry = (rule : ℕ) × (at : ℕ) × (broken ≡ Some (rule, at)) × (refusal ≡ refusal_at source rule at)
Permits later source (Err other) broken before entry = ⊥

-- ---- objects that are initialised

abbrev pub Means : Declaration → Object → Type 0
Means entry object = (entry.name ≡ object.name) × (entry.sort ≡ object.sort) × (entry.linkage ≡ object.linkage)

-- an entry that was declared has the number: as its name with linkage, and else alone. A function has linkage
pub record IsNamed (entry : Declaration) (number : ℕ) (standing : Standing) : Type 0 where
  pub linked : has_linkage entry.linkage ≡ true → number_linked entry.name standing.known.declared standing.linked ≡ Some number
  pub unlinked : has_linkage entry.linkage ≡ false → is_object entry.sort ≡ true → is_linked number standing.linked ≡ false
  pub functions : is_function_sort entry.sort ≡ true → has_linkage entry.linkage ≡ true

-- the code gives what the definition does where this holds
pub record ProceedsWhere {A B : Type 0} (P : Standing → Type 0) (Fits : Table → A → Type 0) (view : List Shape → A → B) (source : Source) (old new : Held) (result : Result A Stop)
    (progress : List Shape → Standing → Progress B) : Type 0 where
  pub shapes : Begins old.known.types.shapes new.known.types.shapes
  pub numbered : IfOk result (Fits new.known.types)
  pub within : IfOk result (λ it. IsWithin old new)
  pub gives : (later : List Shape) → Begins new.known.types.shapes later → (before : Standing) → StandsFor later old.known old.links before → IsLawful before → P before
      → Advances (view later) source later new before result (progress later before)

-- an object of this type with its initialiser
abbrev pub object_initialised : Setting → Declaration → ℕ → ℕ → ℕ → Initialiser → Standing → CType → Progress Local
object_initialised setting entry number here at initialiser standing type =
    typing standing (typed_initialiser setting (is_fixed entry.sort) standing.known type initialiser) (λ behind initial. object_defined behind entry number here at type initial)

-- ---- declarators with their initialisers

-- a declarator with these lengths and enumerator values
abbrev pub local_seen : List Tree → OpenedLocal → Local
local_seen constants opened = record { constants = constants; declarator = opened.declarator; expressions = opened.expressions }

abbrev pub opened_over : List Shape → LocalHeld → OpenedLocal
opened_over later local = view_of_local (record { shapes = later; structs = [] }) local

abbrev pub bare_over : List Shape → LocalHeld → Local
bare_over later local = local_seen [] (opened_over later local)

abbrev pub LocalFits : Table → LocalHeld → Type 0
LocalFits types local = IsTrue (are_known_in_local (length types.shapes) local)

abbrev pub typed_over : List Shape → TypedLocal → Local
typed_over later typed = local_seen (map (view_over later) typed.constants) (opened_over later typed.local)

abbrev pub TypedFits : Table → TypedLocal → Type 0
TypedFits types typed = AreNumbered types typed.constants × LocalFits types typed.local

-- a declarator of this type, with its initialiser if it has one
abbrev pub item_of : Setting → Specified → Standing → CType → Item → Progress Local
item_of setting said standing kind (tree.plain span declarator) =
    item_plain setting said standing declarator (entry_of setting standing.known said.storage (name_at declarator) kind)
item_of setting said standing kind (tree.initialised span declarator initialiser) =
    item_initialised setting said standing span declarator initialiser (entry_of setting standing.known said.storage (name_at declarator) kind)

-- ---- the declarators of a declaration

-- with all their lengths, enumerator values and expressions
pub record Together : Type 0 where
  pub constants : List Tree
  pub declarators : List Declarator
  pub expressions : List Tree

abbrev pub together_of : List Local → Together
together_of locals = record { constants = constants_of locals; declarators = declaring.declarators_of locals; expressions = expressions_of locals }

abbrev pub together : Progress (List Local) → Progress Together
together progress = further progress (λ behind locals. goes_on behind (together_of locals))

abbrev pub joined : Together → Local → Together
joined all local = record { constants = all.constants ++ local.constants; declarators = all.declarators ++ local.declarator ∷ []; expressions = all.expressions ++ local.expressions }

abbrev pub items_over : List Shape → TypedLocals → Together
items_over later typed = record {
  constants = map (view_over later) typed.constants;
  declarators = declarators_of (map (opened_over later) typed.locals);
  expressions = expressions_of_locals (map (opened_over later) typed.locals);
}

abbrev pub ItemsFit : Table → TypedLocals → Type 0
ItemsFit types typed = AreNumbered types typed.constants × All (LocalFits types) typed.locals

-- what a declaration declares
abbrev pub sum_of : Declared → Together
sum_of one = record { constants = one.constants; declarators = declaring.declarators_of one.locals; expressions = expressions_of one.locals }

abbrev pub summed : Progress Declared → Progress Together
summed progress = further progress (λ behind one. goes_on behind (sum_of one))

-- all of them are functions, and there is one
abbrev pub are_functions_in : Known → List LocalHeld → Bool
are_functions_in known [] = true
are_functions_in known (first ∷ others) = is_function_entry (slice_get known.declared first.declared) && are_functions_in known others

abbrev pub may_be_inline_in : Known → List LocalHeld → Bool
may_be_inline_in known locals = is_there locals && are_functions_in known locals
