-- The rules that a macro keeps if a declaration is to stand for it: for each the place that breaks it first, if one does. The units are
-- those of a project, in order.
--     broken_body definition, broken_again definition readings, broken_directive, broken_unused, broken_gone, broken_place, broken_name,
--         broken_parameter      the rules 1 to 8
use Rattle.std.specs.Prelude.{ℕ, Bool, true, false, ◌&&◌, ◌||◌, not, List, [], ◌∷◌, find, Option, Some, None, option_map, option_and_then, slice_get, bytes_eq, if◌then◌else◌}
use Rattle.std.specs.List.{list_any}
use Rattle.dm_token.specs.declared.place.Place.{Place}
use Rattle.dm_token.specs.declared.expansion.Definition.{Definition}
use Rattle.dm_token.specs.declared.expansion.Expansion.{Expansion}
use Rattle.dm_token.specs.declared.token.PpToken.{PpToken}
use Rattle.dm_token.specs.declared.unit.Read.{Read}
use Rattle.dm_token.specs.declared.unit.Use.{Use}
use Rattle.dm_token.specs.declared.unit.UnitTokens.{UnitTokens}
use Rattle.dm_spell.specs.Tables.{keyword_rows}
use Rattle.dm_macro.specs.Bodies.{named_parameters}
use Rattle.dm_macro.specs.Signs.{is_hash, is_hash_hash, is_word}
use Rattle.dm_reading.specs.declared.reading.Reading.{Reading}
use Rattle.dm_runs.specs.declared.run.Run.{Run}
use Rattle.dm_runs.specs.Runs.{is_file}
use Rattle.dm_mentions.specs.declared.events.Event.{Event}
use Rattle.dm_mentions.specs.declared.events.Event.TheVariants.{Defined, Undefined}
use Rattle.dm_mentions.specs.Mentions.{again, defines, identifier_place, use_place}
use Rattle.dm_rules.specs.Uses.{is_reading, reads, expansions_in, runs_in, has_run, in_first_unit}
use Rattle.dm_rules.specs.Places.{position, is_inside}

-- the place of the definition itself, where it breaks a rule
abbrev pub own_place : Definition → Bool → Option Place
own_place definition breaks = if breaks then Some definition.place else None

abbrev pub is_empty : {A : Type 0} → List A → Bool
is_empty [] = true
is_empty (x ∷ xs) = false

-- ---- 1 Body: a declaration has a value, and neither makes tokens nor takes any number of arguments (6.10.3)

abbrev pub is_operator : PpToken → Bool
is_operator token = is_hash token || is_hash_hash token

abbrev pub broken_body : Definition → Option Place
broken_body definition =
    own_place definition (is_empty definition.body || definition.variadic || not definition.head_plain || list_any is_operator definition.body)

-- ---- 2 Again: in a unit that reads it nothing else defines or undefines its name (6.10.3p2, 6.10.3.5)

-- the other definition's place, or the definition's own where the other doesn't stand in a file
abbrev pub place_of_definition : Definition → Definition → Place
place_of_definition definition other = if is_file other.origin then other.place else definition.place

abbrev pub place_of_event : Definition → UnitTokens → Event → Option Place
place_of_event definition pp (Defined number) = option_map (λ (read : Read). place_of_definition definition read.definition) (slice_get pp.read number)
place_of_event definition pp (Undefined number) = option_map (λ (one : Use). one.place) (slice_get pp.undefined number)

abbrev pub again_in : Definition → Reading → Option Place
again_in definition reading =
    if reads definition reading
    then option_and_then (place_of_event definition reading.pp) (again reading.pp definition.place.file definition.hash definition.name) else None

abbrev pub broken_again : Definition → List Reading → Option Place
broken_again definition readings = in_first_unit (again_in definition) readings

-- ---- 3 Directive: no condition asks for its name (6.10.1)

abbrev pub use_in : List ℕ → Reading → Option Place
use_in name reading = use_place reading.pp name

abbrev pub broken_directive : Definition → List Reading → Option Place
broken_directive definition readings = in_first_unit (use_in definition.name) readings

-- ---- 4 Unused: it is expanded

abbrev pub is_used : Definition → Reading → Bool
is_used definition reading = not (is_empty (expansions_in definition reading))

abbrev pub broken_unused : Definition → List Reading → Option Place
broken_unused definition readings = own_place definition (not (list_any (is_used definition) readings))

-- ---- 5 Gone: each expansion leaves tokens, none of them goes into `#` or `##`, and its arguments stand with its name (6.10.3.4)

abbrev pub is_gone : List Run → Expansion → Bool
is_gone runs expansion = expansion.taken || expansion.foreign || not (has_run runs expansion)

abbrev pub gone_in : Definition → Reading → Option Place
gone_in definition reading =
    option_map (λ (one : Expansion). one.name) (find (is_gone (runs_in definition reading)) (expansions_in definition reading))

abbrev pub broken_gone : Definition → List Reading → Option Place
broken_gone definition readings = in_first_unit (gone_in definition) readings

-- ---- 6 Place: it stands between external declarations (6.9)

abbrev pub is_read_inside : Reading → Definition → Read → Bool
is_read_inside reading definition read = is_reading definition read && is_inside reading.core.externals (position reading.pp read.before)

abbrev pub stands_inside : Definition → Reading → Bool
stands_inside definition reading = list_any (is_read_inside reading definition) reading.pp.read

abbrev pub broken_place : Definition → List Reading → Option Place
broken_place definition readings = own_place definition (list_any (stands_inside definition) readings)

-- ---- 7 Name: in a unit that reads it no token left is its name

abbrev pub name_in : Definition → Reading → Option Place
name_in definition reading = if reads definition reading then identifier_place reading.pp definition.name else None

abbrev pub broken_name : Definition → List Reading → Option Place
broken_name definition readings = in_first_unit (name_in definition) readings

-- ---- 8 Parameter: each parameter can be declared, no macro replaces its name, and the body has it (6.4.1, 6.10.3)

abbrev pub defines_in : List ℕ → Reading → Bool
defines_in name reading = defines reading.pp name

abbrev pub is_parameter : Definition → List Reading → List ℕ → Bool
is_parameter definition readings name =
    not (list_any (bytes_eq name) keyword_rows) && not (list_any (defines_in name) readings)
    && list_any (is_word name) definition.body

abbrev pub broken_parameter : Definition → List Reading → Option Place
broken_parameter definition readings =
    own_place definition (list_any (λ name. not (is_parameter definition readings name)) (named_parameters definition.parameters))
