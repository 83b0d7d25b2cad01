-- Where the tokens and the directives of a unit mention a name, after translation phase 4.
--     identifier_place pp name      the first token of the list that is this identifier
--     use_place pp name      the first use of the name by a directive
--     defines pp name      whether it reads a definition of the name
--     events pp      the definitions and the `#undef`s in the order of reading (6.10.3, 6.10.3.5)
--     again pp file hash name      the first event of the name that isn't the first reading of the definition at this byte of a file
use Rattle.std.specs.Prelude.{◌≡◌, ℕ, Bool, List, [], ◌∷◌, ◌++◌, ◌+◌, map, find, filter, drop, length, slice_get, Option, Some, None, option_map, option_and_then, bytes_eq, nat_le, if◌then◌else◌, false}
use Rattle.std.specs.List.{list_any, prefix_len, range_with_len, position_from}
use Rattle.std.specs.Option.{option_map_or}
use Rattle.std.specs.FinMap as finite
use Rattle.dm_token.specs.declared.place.Place.{Place}
use Rattle.dm_token.specs.declared.expansion.Definition.{Definition}
use Rattle.dm_token.specs.declared.token.Token.{Token}
use Rattle.dm_token.specs.declared.unit.Read.{Read}
use Rattle.dm_token.specs.declared.unit.Use.{Use}
use Rattle.dm_token.specs.declared.unit.UnitTokens.{UnitTokens}
use Rattle.dm_macro.specs.Signs.{is_word}
use Rattle.dm_name_map.specs.Numbers.{Numbers}
use Rattle.dm_runs.specs.Runs.{is_at}
use Rattle.dm_mentions.specs.declared.events.Event.{Event}
use Rattle.dm_mentions.specs.declared.events.Event.TheVariants.{Defined, Undefined}

-- ---- tokens

abbrev pub is_mention : List ℕ → Token → Bool
is_mention name token = is_word name token.pp

abbrev pub identifier_place : UnitTokens → List ℕ → Option Place
identifier_place pp name = option_map (λ (token : Token). token.pp.place) (find (is_mention name) pp.tokens)

-- ---- directives

abbrev pub is_use : List ℕ → Use → Bool
is_use name one = bytes_eq name one.name

abbrev pub use_place : UnitTokens → List ℕ → Option Place
use_place pp name = option_map (λ (one : Use). one.place) (find (is_use name) pp.directive_uses)

abbrev pub is_definition : List ℕ → Read → Bool
is_definition name read = bytes_eq name read.definition.name

abbrev pub defines : UnitTokens → List ℕ → Bool
defines pp name = list_any (is_definition name) pp.read

-- ---- events

-- `#undef`s from a number on, where so many stand together
abbrev pub undefined_from : ℕ → ℕ → List Event
undefined_from first count = map Undefined (range_with_len first count)

-- Before each definition stand the `#undef`s that are read before it. `counts` says of those from a number on behind how many
-- definitions each is read.
unfoldable pub events_from : ℕ → ℕ → List Read → List ℕ → List Event
events_from defined undefined [] counts = undefined_from undefined (length counts)
events_from defined undefined (read ∷ reads) counts =
    let here = prefix_len (λ count. nat_le count defined) counts in
    undefined_from undefined here ++ Defined defined ∷ events_from (defined + 1) (undefined + here) reads (drop here counts)

abbrev pub events : UnitTokens → List Event
events pp = events_from 0 0 pp.read pp.read_before_undefined

-- the name that an event is of
abbrev pub name_of : UnitTokens → Event → Option (List ℕ)
name_of pp (Defined number) = option_map (λ (read : Read). read.definition.name) (slice_get pp.read number)
name_of pp (Undefined number) = option_map (λ (one : Use). one.name) (slice_get pp.undefined number)

abbrev pub is_name : List ℕ → Option (List ℕ) → Bool
is_name name other = option_map_or (bytes_eq name) other false

abbrev pub events_of : UnitTokens → List ℕ → List Event
events_of pp name = filter (λ event. is_name name (name_of pp event)) (events pp)

-- ---- another event of a name

-- whether an event is a reading of the definition at this byte of a file
abbrev pub is_reading : UnitTokens → ℕ → ℕ → Event → Bool
is_reading pp file hash (Defined number) = option_map_or (λ (read : Read). is_at file hash read.definition) (slice_get pp.read number) false
is_reading pp file hash (Undefined number) = false

abbrev pub without_first : {A : Type 0} → (A → Bool) → List A → List A
without_first test [] = []
without_first test (x ∷ xs) = if test x then xs else x ∷ without_first test xs

abbrev pub again : UnitTokens → ℕ → ℕ → List ℕ → Option Event
again pp file hash name = slice_get (without_first (is_reading pp file hash) (events_of pp name)) 0

-- ---- the same name behind an event

-- the first event of a name among those from a position on
abbrev pub first_from : UnitTokens → ℕ → List ℕ → List Event → Option ℕ
first_from pp at name behind = position_from (λ event. is_name name (name_of pp event)) at behind

abbrev pub first_named : UnitTokens → ℕ → Option (List ℕ) → List Event → Option ℕ
first_named pp at None behind = None
first_named pp at (Some name) behind = first_from pp at name behind

-- for each of the events from a position on, where the next one of its name stands
unfoldable pub nexts : UnitTokens → ℕ → List Event → List (Option ℕ)
nexts pp at [] = []
nexts pp at (event ∷ behind) = first_named pp (at + 1) (name_of pp event) behind ∷ nexts pp (at + 1) behind

-- the events of each name, from those from a position on: the first, and behind each the next
abbrev pub AreChains : UnitTokens → ℕ → List Event → Numbers → List (Option ℕ) → Type 0
AreChains pp at events first next = ((name : List ℕ) → finite.get first name ≡ first_from pp at name events) × (next ≡ nexts pp at events)
