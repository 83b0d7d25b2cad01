-- The types of what a macro's expansions leave (6.5, 6.7.6): the rule 12 Type.
--     kind_at reading span      the type of the value of the expression that has these tokens, without const
--     text_at definition reading span      that type as it is spelled where the definition stands, if it can be
--     first_run definition readings      the first run of the first expansion, in the first unit that has one
--     broken_type definition readings      the place that breaks the rule first
use Rattle.std.specs.Prelude.{ℕ, Bool, false, ◌&&◌, not, ◌==◌, List, [], ◌∷◌, filter, find, map, Option, Some, None, option_map, option_and_then, bytes_eq, if◌then◌else◌}
use Rattle.std.specs.List.{list_all}
use Rattle.std.specs.Option.{option_map_or}
use Rattle.dm_token.specs.declared.place.Place.{Place}
use Rattle.dm_token.specs.declared.place.Span.{Span}
use Rattle.dm_token.specs.declared.expansion.Definition.{Definition}
use Rattle.dm_type.specs.CTypes.{CType, bare}
use Rattle.dm_type.specs.Spelling.{spelling}
use Rattle.dm_syn.specs.Trees as tree
use Rattle.dm_syn.specs.Views as syntax
use Rattle.dm_tree.specs.Scenes.{is_void}
use Rattle.dm_tree.specs.Trees.{kind_of}
use Rattle.dm_tree.specs.Units.{TypedUnit}
use Rattle.dm_tree.specs.Views.{view_of_unit}
use Rattle.dm_names.specs.Declarations.{visible_behind}
use Rattle.dm_reading.specs.declared.reading.Reading.{Reading}
use Rattle.dm_runs.specs.declared.run.Occurrence.{Occurrence}
use Rattle.dm_runs.specs.declared.run.Run.{Run}
use Rattle.dm_sites.specs.Sites.{Site, site_of}
use Rattle.dm_rules.specs.Uses.{expansions_in, runs_in, run_of_first, first_with, in_first_unit}
use Rattle.dm_rules.specs.Places.{externals_behind}
use Rattle.dm_rules.specs.Rules.{is_used}

abbrev pub unit_in : Reading → TypedUnit
unit_in reading = view_of_unit reading.types reading.core

abbrev pub syntax_in : Reading → List tree.External
syntax_in reading = map syntax.external reading.syntax

-- ---- types

-- what is read or decays of an object counts (6.3.2.1)
unfoldable pub kind_at : Reading → Span → Option CType
kind_at reading span = option_map (λ (site : Site). bare (kind_of site.tree)) (site_of (unit_in reading) span)

abbrev pub is_void_at : Reading → Span → Bool
is_void_at reading span = option_map_or is_void (kind_at reading span) false

-- the structs whose tags are in file scope at the definition
unfoldable pub visible_at : Definition → Reading → List ℕ
visible_at definition reading = visible_behind (unit_in reading) reading.tokens (syntax_in reading) (externals_behind definition reading)

unfoldable pub text_at : Definition → Reading → Span → Option (List ℕ)
text_at definition reading span = option_and_then (λ type. spelling reading.types (visible_at definition reading) type []) (kind_at reading span)

-- ---- the first expansion

-- a run, and the reading of its unit
pub record Met : Type 0 where
  pub reading : Reading
  pub run : Run

abbrev pub met : Reading → Run → Met
met reading run = record { reading = reading; run = run }

abbrev pub first_met : Definition → Reading → Option Met
first_met definition reading = option_map (met reading) (run_of_first (runs_in definition reading) (expansions_in definition reading))

abbrev pub first_run : Definition → List Reading → Option Met
first_run definition [] = None
first_run definition (reading ∷ readings) =
    if is_used definition reading then first_met definition reading else first_run definition readings

-- in a run the first occurrence of a parameter
abbrev pub is_of : ℕ → Occurrence → Bool
is_of parameter one = one.parameter == parameter

abbrev pub first_occurrence : Run → ℕ → Option Span
first_occurrence run parameter = option_map (λ (one : Occurrence). one.span) (find (is_of parameter) run.occurrences)

-- ---- the rule

abbrev pub is_same_text : Option (List ℕ) → Option (List ℕ) → Bool
is_same_text (Some a) (Some b) = bytes_eq a b
is_same_text a b = false

-- the type of a result, and that of a parameter, where it can be spelled
abbrev pub result_text : Definition → Met → Option (List ℕ)
result_text definition met = text_at definition met.reading met.run.span

abbrev pub parameter_text : Definition → Met → ℕ → Option (List ℕ)
parameter_text definition met parameter = option_and_then (text_at definition met.reading) (first_occurrence met.run parameter)

-- Nothing of type void can be passed (6.9.1p7).
abbrev pub has_type : Definition → Met → Reading → Occurrence → Bool
has_type definition first reading one =
    is_same_text (text_at definition reading one.span) (parameter_text definition first one.parameter) && not (is_void_at reading one.span)

abbrev pub has_result : Definition → Met → Reading → Run → Bool
has_result definition first reading run = is_same_text (text_at definition reading run.span) (result_text definition first)

abbrev pub has_types : Definition → Met → Reading → Run → Bool
has_types definition first reading run = has_result definition first reading run && list_all (has_type definition first reading) run.occurrences

abbrev pub type_in : Definition → Met → Reading → Option Place
type_in definition first reading = first_with definition (filter (λ run. not (has_types definition first reading run)) (runs_in definition reading)) reading

abbrev pub broken_type : Definition → List Reading → Option Place
broken_type definition readings = option_and_then (λ first. in_first_unit (type_in definition first) readings) (first_run definition readings)
