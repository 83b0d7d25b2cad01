-- Arguments that can't be undefined where their full expression stands, whose tokens the place of each of its nodes tells.
--     is_set_at unit tree d      an integer object has a value where the full expression of a tree stands
--     is_safe_in_place types unit tree      a tree that neither stores nor calls is an integer constant expression with a value, or made of reads of such
--         objects by operators that can't go wrong
use Rattle.std.specs.Prelude.{ℕ, Bool, true, false, ◌&&◌, ◌||◌, not, ◌==◌, Option, Some, None, is_some, slice_get}
use Rattle.std.specs.List.{list_any}
use Rattle.dm_token.specs.declared.place.Span.{Span}
use Rattle.dm_type.specs.Tables.{Table}
use Rattle.dm_tree.specs.declared.unit.Sort.{Sort}
use Rattle.dm_tree.specs.declared.unit.Sort.TheVariants.{Object}
use Rattle.dm_tree.specs.Constants.{constant}
use Rattle.dm_tree.specs.Initialisers.{is_same_span}
use Rattle.dm_tree.specs.Scenes.{is_integer}
use Rattle.dm_tree.specs.Trees.{Tree, spans_of}
use Rattle.dm_tree.specs.Units.{Declaration, TypedUnit}
use Rattle.dm_meaning.specs.Statements.{Local}
use Rattle.dm_effect.specs.Entities.{locals_of_unit}
use Rattle.dm_effect.specs.Forms.{is_built}
use Rattle.dm_effect.specs.Safe.{is_defined, safe_rule}
use Rattle.dm_effect.specs.Stable.{is_pure}
use Rattle.dm_initialised.specs.Units.{has_first_value}

-- the tokens of the full expression, as the place of a node in it tells them
abbrev pub tokens_of : Tree → Span
tokens_of tree = record { first = (spans_of tree).place.byte; after = (spans_of tree).place.line }

-- ---- objects that are set

-- the declarator is one of the object, and a full expression of its initialiser has these tokens
abbrev pub initialises_by : Span → ℕ → Local → Bool
initialises_by tokens d local = local.declarator.declared == d && list_any (λ (full : Tree). is_same_span (spans_of full).inner tokens) local.expressions

-- An object has a value where a full expression of these tokens stands: it has static storage duration and the unit defines it (6.7.9p10), or it has
-- a first value, and that expression is not one of its own initialiser.
abbrev pub has_value_at : TypedUnit → Span → ℕ → Sort → Bool
has_value_at one tokens d (Object true) = is_defined one d
has_value_at one tokens d (Object false) = has_first_value one d && not (list_any (initialises_by tokens d) (locals_of_unit one))
has_value_at one tokens d sort = false

-- an integer that is set
abbrev pub is_set_entry_at : TypedUnit → Span → ℕ → Option Declaration → Bool
is_set_entry_at one tokens d None = false
is_set_entry_at one tokens d (Some entry) = is_integer entry.kind && has_value_at one tokens d entry.sort

abbrev pub is_set_at : TypedUnit → Tree → ℕ → Bool
is_set_at one tree d = is_set_entry_at one (tokens_of tree) d (slice_get one.declared d)

-- ---- arguments

abbrev pub is_safe_in_place : Table → TypedUnit → Tree → Bool
is_safe_in_place types one tree = is_pure tree && (is_some (constant types one.declared tree) || is_built (safe_rule (is_set_at one tree)) tree)
