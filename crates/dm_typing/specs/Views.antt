-- What the code knows and gives, as the definition has it. The definition has a number for each type from the beginning, and the code
-- gives numbers as it goes: so what the code knows is seen through each list of shapes that may come of those that it has.
--     Begins shapes later      the later shapes begin with these
--     known_over later held      what the code knows
--     seen held      the same through its own shapes
--     Gives view source behind result outcome      the code gives what the definition does
use Rattle.std.specs.Prelude.{◌≡◌, ℕ, ◌<◌, Bool, true, false, if◌then◌else◌, is_some, Option, Some, None, List, [], ◌++◌, length, map, reverse, Result, Ok, Err}
use Rattle.dm_token.specs.Refusals as refusals
use Rattle.dm_token.specs.declared.place.Place.{Place}
use Rattle.dm_token.specs.declared.stop.Refusal.{Refusal}
use Rattle.dm_token.specs.declared.stop.Stop.{Stop}
use Rattle.dm_token.specs.declared.stop.Stop.TheVariants as stop
use Rattle.dm_type.specs.declared.shape.Shape.{Shape}
use Rattle.dm_type.specs.CTypes.{CType, void, pointer, array}
use Rattle.dm_type.specs.Tables.{Table, at, types_of, written_out}
use Rattle.dm_scope.specs.Scopes.{number_of}
use Rattle.dm_syn.specs.Sources.{Source}
use Rattle.dm_tree.specs.declared.tree.Core.{Core}
use Rattle.dm_tree.specs.Scenes.{is_integer}
use Rattle.dm_tree.specs.Trees.{Label, convert as conversion, Tree}
use Rattle.dm_tree.specs.Views.{view, entries_of}
use Rattle.dm_typing.specs.declared.known.Known.{Known as Held}
use Rattle.dm_typing.specs.declared.typer.Typer.{Typer}
use Rattle.dm_typing.specs.Conversions.{complete_target}
use Rattle.dm_typing.specs.Known.{Known, Setting, Outcome, given, broken, place_at}

-- ---- the setting

abbrev pub source_of : Typer → Source
source_of typer = record { tokens = typer.tokens.now; outer = λ name. false }

abbrev pub setting_of : Typer → Setting
setting_of typer = record { source = source_of typer; lacks = λ name. is_some (number_of typer.lacking.now name) }

-- ---- what is known

abbrev pub Begins : List Shape → List Shape → Type 0
Begins shapes later = (more : List Shape) × (later ≡ shapes ++ more)

-- the type of a number
abbrev pub type_over : List Shape → ℕ → CType
type_over later id = at (types_of later) id

abbrev pub table_over : List Shape → Table → Table
table_over later types = record { shapes = later; structs = types.structs }

-- a tree
abbrev pub view_over : List Shape → Core → Tree
view_over later tree = view (record { shapes = later; structs = [] }) tree

abbrev pub known_over : List Shape → Held → Known
known_over later held = record {
  types = table_over later held.types;
  scopes = held.scopes;
  declared = entries_of (table_over later held.types) held.declared;
  begun = reverse held.begun.items;
  constants = map (view_over later) held.constants;
}

abbrev pub seen : Held → Known
seen held = known_over held.types.shapes held

-- the number is that of the type of a shape, whatever numbers come
abbrev pub IsNumberOf : List Shape → ℕ → Shape → Type 0
IsNumberOf shapes id shape = (id < length shapes) × ((later : List Shape) → Begins shapes later → type_over later id ≡ written_out (types_of later) shape)

-- types may be numbered, and all else stays
pub record Grows (old new : Held) : Type 0 where
  pub shapes : Begins old.types.shapes new.types.shapes
  pub structs : new.types.structs ≡ old.types.structs
  pub scopes : new.scopes ≡ old.scopes
  pub declared : new.declared ≡ old.declared
  pub begun : new.begun.items ≡ old.begun.items
  pub constants : new.constants ≡ old.constants

-- ---- types

-- the type of the elements of an array
abbrev pub elements : CType → Option CType
elements (array type n) = Some type
elements type = None

-- what a pointer to a complete object type points to, where an integer stands beside it
abbrev pub target_beside : Known → CType → CType → Option CType
target_beside known type other = if is_integer other then complete_target known type else None

-- a pointer to void, neither of them const
abbrev pub is_plain_void_pointer : CType → Bool
is_plain_void_pointer (pointer void) = true
is_plain_void_pointer type = false

-- the form is a conversion
abbrev pub is_conversion : Label → Bool
is_conversion conversion = true
is_conversion label = false

-- ---- what is given

-- the refusal for a rule that is broken at a token
abbrev pub refusal_at : Source → ℕ → ℕ → Refusal
refusal_at source rule at = record { number = refusals.typing; detail = rule; place = place_at source at }

-- want of memory is free
abbrev pub Gives : {A B : Type 0} → (A → B) → Source → Known → Result A Stop → Outcome B → Type 0
Gives view source behind (Ok it) outcome = outcome ≡ given behind (view it)
Gives view source behind (Err stop.Memory) outcome = Unit {0}
Gives view source behind (Err (stop.Refused refusal)) outcome = (rule : ℕ) × (at : ℕ) × (outcome ≡ broken rule at) × (refusal ≡ refusal_at source rule at)
Gives view source behind (Err other) outcome = ⊥
