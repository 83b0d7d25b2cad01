-- What the names of a replacement list mean where the macro is expanded (6.2.1): the rule 13 Capture.
--     own_tokens run      the tokens of a run outside the occurrences of parameters in it
--     keeps_meaning definition reading identifier      a name means the same at the definition
--     broken_capture definition readings      the place that breaks the rule first
use Rattle.std.specs.Prelude.{ℕ, Bool, true, false, ◌&&◌, ◌-◌, not, nat_le, nat_lt, List, filter, Option, Some, None, slice_get, bytes_eq}
use Rattle.std.specs.List.{list_any, list_all, range_with_len}
use Rattle.std.specs.Option.{option_map_or}
use Rattle.dm_token.specs.declared.place.Place.{Place}
use Rattle.dm_token.specs.declared.place.Span.{Span}
use Rattle.dm_token.specs.declared.expansion.Definition.{Definition}
use Rattle.dm_token.specs.declared.token.CToken.{CToken}
use Rattle.dm_macro.specs.Bodies.{named_parameters}
use Rattle.dm_names.specs.declared.identifier.Identifier.{Identifier}
use Rattle.dm_names.specs.Declarations.{source_of}
use Rattle.dm_names.specs.Meanings.{is_in_file_scope, meaning_at}
use Rattle.dm_names.specs.Seen.{Source}
use Rattle.dm_reading.specs.declared.reading.Reading.{Reading}
use Rattle.dm_runs.specs.declared.run.Occurrence.{Occurrence}
use Rattle.dm_runs.specs.declared.run.Run.{Run}
use Rattle.dm_rules.specs.Uses.{runs_in, first_with, in_first_unit}
use Rattle.dm_rules.specs.Places.{externals_behind}
use Rattle.dm_meanings.specs.Types.{unit_in, syntax_in}

-- ---- the macro's own tokens

abbrev pub has_token : ℕ → Span → Bool
has_token at span = nat_le span.first at && nat_lt at span.after

abbrev pub is_own : Run → ℕ → Bool
is_own run at = not (list_any (λ (one : Occurrence). has_token at one.span) run.occurrences)

abbrev pub own_tokens : Run → List ℕ
own_tokens run = filter (is_own run) (range_with_len run.span.first (run.span.after - run.span.first))

-- ---- what they mean

abbrev pub source_in : Reading → Source
source_in reading = source_of reading.tokens (unit_in reading)

unfoldable pub meaning_in : Reading → ℕ → Option Identifier
meaning_in reading at = meaning_at (source_in reading) (syntax_in reading) at

-- in file scope behind so many external declarations
unfoldable pub is_visible_behind : Reading → ℕ → Option ℕ → Bool
is_visible_behind reading behind None = false
is_visible_behind reading behind (Some number) = is_in_file_scope (source_in reading) (syntax_in reading) behind number

-- At the definition a parameter's name means the parameter; tags have a name space of their own (6.2.3).
abbrev pub is_parameter_name : Definition → List ℕ → Bool
is_parameter_name definition name = list_any (bytes_eq name) (named_parameters definition.parameters)

abbrev pub means_parameter : Definition → Reading → Identifier → Bool
means_parameter definition reading one =
    not one.tag && option_map_or (λ (token : CToken). is_parameter_name definition token.spelling) (slice_get reading.tokens one.at) false

-- Else it means what it means in file scope there, where all redeclarations of an entity with linkage are one.
abbrev pub keeps_meaning : Definition → Reading → Identifier → Bool
keeps_meaning definition reading one = not (means_parameter definition reading one) && is_visible_behind reading (externals_behind definition reading) one.number

-- a token that isn't the name of a member or of nothing
abbrev pub is_kept : Definition → Reading → ℕ → Bool
is_kept definition reading at = option_map_or (keeps_meaning definition reading) (meaning_in reading at) true

-- ---- the rule

abbrev pub keeps_meanings : Definition → Reading → Run → Bool
keeps_meanings definition reading run = list_all (is_kept definition reading) (own_tokens run)

abbrev pub capture_in : Definition → Reading → Option Place
capture_in definition reading = first_with definition (filter (λ run. not (keeps_meanings definition reading run)) (runs_in definition reading)) reading

abbrev pub broken_capture : Definition → List Reading → Option Place
broken_capture definition readings = in_first_unit (capture_in definition) readings
