-- The runs of a macro: what its expansions leave among the tokens of phase 7, found by the trails of tokens (6.10.3).
--     runs_of pp tokens file hash      those of the definition at a byte of a file, and in each the runs of its parameters' occurrences
use Rattle.std.specs.Prelude.{◌≡◌, ℕ, Bool, true, false, ◌&&◌, ◌==◌, nat_lt, List, [], ◌∷◌, ◌++◌, length, map, find, Option, Some, None, option_and_then, option_map, unwrap_or, slice_get, if◌then◌else◌}
use Rattle.std.specs.List.{position_from, flat_map}
use Rattle.dm_token.specs.declared.place.Place.{Place}
use Rattle.dm_token.specs.declared.place.Span.{Span}
use Rattle.dm_token.specs.declared.expansion.Mark.{Mark}
use Rattle.dm_token.specs.declared.expansion.Mark.TheVariants.{Expansion as expansion, Argument as argument}
use Rattle.dm_token.specs.declared.expansion.Origin.{Origin}
use Rattle.dm_token.specs.declared.expansion.Origin.TheVariants.{File, Header, Manifest}
use Rattle.dm_token.specs.declared.expansion.Definition.{Definition}
use Rattle.dm_token.specs.declared.expansion.Expansion.{Expansion}
use Rattle.dm_token.specs.declared.token.PpToken.{PpToken}
use Rattle.dm_token.specs.declared.token.Token.{Token}
use Rattle.dm_token.specs.declared.token.CToken.{CToken}
use Rattle.dm_token.specs.declared.unit.Read.{Read}
use Rattle.dm_token.specs.declared.unit.UnitTokens.{UnitTokens}
use Rattle.dm_runs.specs.declared.named.Named.{Named}
use Rattle.dm_runs.specs.declared.run.Occurrence.{Occurrence}
use Rattle.dm_runs.specs.declared.run.Run.{Run}
use Rattle.dm_runs.specs.Beginnings.{begins, met, last_mark}
use Rattle.dm_runs.specs.Names.{named_in}
use Rattle.dm_runs.specs.Spans.{tokens_under, span_of, empty_at, part_among}

-- ---- the definition, and its expansions on a trail

abbrev pub is_file : Origin → Bool
is_file File = true
is_file Header = false
is_file Manifest = false

-- the definition at this byte of a file
abbrev pub is_at : ℕ → ℕ → Definition → Bool
is_at file hash definition = is_file definition.origin && ((file == definition.place.file) && (hash == definition.hash))

-- The definition whose expansion a mark is. A unit may read one directive several times, and each time is a definition.
abbrev pub expanded : List Read → Option Mark → Option Definition
expanded read None = None
expanded read (Some (expansion number instance)) = option_map (λ (one : Read). one.definition) (slice_get read number)
expanded read (Some (argument parameter occurrence)) = None

abbrev pub instance_of : Option Mark → ℕ
instance_of None = 0
instance_of (Some (expansion number instance)) = instance
instance_of (Some (argument parameter occurrence)) = 0

-- ---- where an empty occurrence would stand

abbrev pub is_same_place : Place → Place → Bool
is_same_place a b = (a.file == b.file) && (a.byte == b.byte)

-- the position in the replacement list of a place, and of an occurrence
abbrev pub part_at : Definition → Place → Option ℕ
part_at definition place = position_from (λ (pp : PpToken). is_same_place pp.place place) 0 definition.body

abbrev pub part_named : List Named → ℕ → ℕ → Option ℕ
part_named named parameter occurrence =
    option_map (λ (one : Named). one.at) (find (λ (one : Named). (one.parameter == parameter) && (one.occurrence == occurrence)) named)

-- the place of the name whose expansion this was
abbrev pub name_of : List Expansion → ℕ → Option Place
name_of expansions instance = option_map (λ (one : Expansion). one.name) (find (λ (one : Expansion). one.instance == instance) expansions)

-- the part of the replacement list that a token comes of, by the mark behind those of the run: itself, an argument, or another
-- expansion's name
abbrev pub part_by : List Expansion → Definition → Place → Option Mark → Option ℕ
part_by expansions definition place None = part_at definition place
part_by expansions definition place (Some (argument parameter occurrence)) = part_named (named_in definition) parameter occurrence
part_by expansions definition place (Some (expansion number instance)) = option_and_then (part_at definition) (name_of expansions instance)

abbrev pub is_behind : ℕ → Option ℕ → Bool
is_behind at None = false
is_behind at (Some part) = nat_lt at part

-- a token of the run that comes of a part behind this one
abbrev pub is_later : List Expansion → Definition → List Mark → ℕ → CToken → Bool
is_later expansions definition prefix at token =
    begins prefix token.trail && is_behind at (part_by expansions definition token.place (slice_get token.trail (length prefix)))

-- before the first such token of the run, or behind the run
abbrev pub would_stand : List Expansion → List CToken → Definition → List Mark → ℕ → ℕ → ℕ
would_stand expansions tokens definition prefix after at =
    unwrap_or (position_from (is_later expansions definition prefix at) 0 tokens) after

-- ---- runs

abbrev pub is_empty : Span → Bool
is_empty span = span.first == span.after

abbrev pub occurrence_with : Named → Span → Occurrence
occurrence_with named span = record { parameter = named.parameter; occurrence = named.occurrence; span = span }

-- Where the run is empty, so are its occurrences.
abbrev pub occurrence_in : List Expansion → List CToken → Definition → List Mark → Span → Named → Occurrence
occurrence_in expansions tokens definition prefix run named =
    occurrence_with named
    (if is_empty run then run
    else span_of (would_stand expansions tokens definition prefix run.after named.at) (tokens_under (prefix ++ argument named.parameter named.occurrence ∷ []) tokens))

abbrev pub run_with : List Expansion → List CToken → Definition → List Mark → Span → Run
run_with expansions tokens definition prefix span = record {
  instance = instance_of (last_mark prefix);
  prefix = prefix;
  span = span;
  occurrences = map (occurrence_in expansions tokens definition prefix span) (named_in definition);
}

-- the token of phase 7 that the first token of phase 4 under a prefix is part of
abbrev pub first_part : List Token → List Mark → ℕ
first_part list prefix = part_among list (unwrap_or (position_from (λ (token : Token). begins prefix token.trail) 0 list) 0)

abbrev pub run_of : UnitTokens → List CToken → Definition → List Mark → Run
run_of pp tokens definition prefix =
    run_with pp.expansions tokens definition prefix (span_of (first_part pp.tokens prefix) (tokens_under prefix tokens))

-- the run with this prefix, if its innermost mark is an expansion of the definition
abbrev pub run_if : UnitTokens → List CToken → ℕ → ℕ → List Mark → Option Definition → List Run
run_if pp tokens file hash prefix None = []
run_if pp tokens file hash prefix (Some definition) = if is_at file hash definition then run_of pp tokens definition prefix ∷ [] else []

-- those of the definition for some beginnings of trails
abbrev pub runs_among : UnitTokens → List CToken → ℕ → ℕ → List (List Mark) → List Run
runs_among pp tokens file hash trails = flat_map (λ trail. run_if pp tokens file hash trail (expanded pp.read (last_mark trail))) trails

abbrev pub runs_of : UnitTokens → List CToken → ℕ → ℕ → List Run
runs_of pp tokens file hash = runs_among pp tokens file hash (met (map (λ (token : Token). token.trail) pp.tokens))

-- the position among those read of the definition in a file whose expansion a mark is
abbrev pub IsExpanded : List Read → Option Mark → Option ℕ → Type 0
IsExpanded read mark None = (definition : Definition) → expanded read mark ≡ Some definition → is_file definition.origin ≡ false
IsExpanded read mark (Some number) =
    (one : Read) × (slice_get read number ≡ Some one) × (expanded read mark ≡ Some one.definition) × (is_file one.definition.origin ≡ true)
