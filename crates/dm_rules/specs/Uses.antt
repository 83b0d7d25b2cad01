-- A definition in the units that read it: there its expansions outside directives, and what these leave.
--     reads definition reading      whether the unit reads it
--     expansions_in definition reading      its expansions, in the order in which they are made
--     runs_in definition reading      their runs
--     first_with definition runs reading      the name of the first expansion that one of these runs is of
--     in_first_unit place readings      the place in the first unit that has one
use Rattle.std.specs.Prelude.{Bool, false, ◌==◌, List, [], ◌∷◌, filter, find, Option, Some, None, option_map, slice_get}
use Rattle.std.specs.List.{list_any}
use Rattle.std.specs.Option.{option_map_or}
use Rattle.dm_token.specs.declared.place.Place.{Place}
use Rattle.dm_token.specs.declared.expansion.Definition.{Definition}
use Rattle.dm_token.specs.declared.expansion.Expansion.{Expansion}
use Rattle.dm_token.specs.declared.unit.Read.{Read}
use Rattle.dm_reading.specs.declared.reading.Reading.{Reading}
use Rattle.dm_runs.specs.declared.run.Run.{Run}
use Rattle.dm_runs.specs.Runs.{is_at, runs_of}

-- A definition in a file is known by the byte of its `#`: each unit that includes the file reads it for itself.
abbrev pub is_reading : Definition → Read → Bool
is_reading definition read = is_at definition.place.file definition.hash read.definition

abbrev pub reads : Definition → Reading → Bool
reads definition reading = list_any (is_reading definition) reading.pp.read

-- ---- expansions

abbrev pub is_expansion : Definition → List Read → Expansion → Bool
is_expansion definition read one = option_map_or (is_reading definition) (slice_get read one.definition) false

abbrev pub expansions_in : Definition → Reading → List Expansion
expansions_in definition reading = filter (is_expansion definition reading.pp.read) reading.pp.expansions

-- ---- runs

abbrev pub runs_in : Definition → Reading → List Run
runs_in definition reading = runs_of reading.pp reading.tokens definition.place.file definition.hash

abbrev pub is_run_of : Expansion → Run → Bool
is_run_of expansion run = run.instance == expansion.instance

-- the first one of the first of some expansions
abbrev pub run_of_first : List Run → List Expansion → Option Run
run_of_first runs [] = None
run_of_first runs (expansion ∷ expansions) = find (is_run_of expansion) runs

abbrev pub has_run : List Run → Expansion → Bool
has_run runs expansion = list_any (is_run_of expansion) runs

abbrev pub first_with : Definition → List Run → Reading → Option Place
first_with definition runs reading = option_map (λ (one : Expansion). one.name) (find (has_run runs) (expansions_in definition reading))

-- ---- units

abbrev pub or_else : Option Place → Option Place → Option Place
or_else None later = later
or_else (Some place) later = Some place

abbrev pub in_first_unit : (Reading → Option Place) → List Reading → Option Place
in_first_unit place [] = None
in_first_unit place (reading ∷ readings) = or_else (place reading) (in_first_unit place readings)
