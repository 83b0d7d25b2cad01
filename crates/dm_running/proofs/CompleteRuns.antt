-- Where nothing fails and a unit has a typing with a `main`, its run is put.
use Rattle.std.proofs.Common.{◌≡◌, ◌∙◌, ℕ, ◌<◌, ◌⊎◌, inl, inr, false, List, [], ◌∷◌, if◌then◌else◌, length, Option, Some, None, is_some, Result, Ok, Err, refl, sym, ap, subst, arith}
use Rattle.std.proofs.lemmas.Bool.{true≢false, false≢true}
use Rattle.std.specs.Option.{IsSomeAnd}
use Rattle.dm_token.specs.Limits.{source_length_limit}
use Rattle.dm_token.specs.declared.stop.Stop.{Stop}
use Rattle.dm_token.specs.declared.stop.Stop.TheVariants as stop
use Rattle.dm_token.specs.declared.token.Token.{Token}
use Rattle.dm_token.specs.declared.unit.Unit.{Unit as Source}
use Rattle.dm_token.specs.declared.unit.UnitTokens.{UnitTokens}
use Rattle.dm_io.specs.Files.{Files}
use Rattle.dm_io.specs.Faults.{Rose}
use Rattle.dm_search.specs.Loaded.{Loaded, name_of}
use Rattle.dm_search.specs.Fresh.{fresh}
use Rattle.dm_unit.specs.Units.{IsReadAs, setting_of, first_files, state_with, finished as finished_unit}
use Rattle.dm_unit.specs.States.{State}
use Rattle.dm_unit.specs.Loaders.{is_known}
use Rattle.dm_unit.proofs.OutcomeLemmas.{one-outcome}
use Rattle.dm_tree.specs.Views.{view_of_unit}
use Rattle.dm_meaning.specs.Programs.{Program, Definition, declaration_at, declaration_of}
use Rattle.dm_meaning.specs.Steps.{is_main}
use Rattle.dm_meaning.specs.Units.{definitions_in, main_in, main_of, program_of as meant_of}
use Rattle.dm_lines.specs.Outside.{Outside}
use Rattle.dm_lines.specs.Statuses as statuses
use Rattle.dm_reading.specs.declared.reading.Layers.{Layers}
use Rattle.dm_reading.specs.declared.reading.Reading.{Reading}
use Rattle.dm_reading.specs.Layered.{HasLayers, layers_of}
use Rattle.dm_readings.specs.Reading.{IsReading}
use Rattle.dm_outcome.specs.Outcomes.{IsSameUnit, AreOneLayers}
use Rattle.dm_words.specs.Requests.{RunRequest}
use Rattle.dm_running.specs.declared.input.NoInput.{NoInput}
use Rattle.dm_running.specs.declared.input.NoInput.TheVariants.{Missing, TooLong, ReadFault}
use Rattle.dm_running.specs.Inputs.{HasInput, HasNoInput}
use Rattle.dm_running.specs.Readings.{IsUnitReading, HasMain, MayRun, exceeds}
use Rattle.dm_running.specs.Finishes.{ran, unput, too_many_definitions, main_missing}
use Rattle.dm_running.specs.Endings.{RunEnding, finished, stopped, input_missing, memory_wanted, status_of_run, EndsRun, HoldsRun}

-- what the text of a unit is no cause of
abbrev IsFree : Stop → Type 0
IsFree stop.Memory = Unit {0}
IsFree (stop.Refused refusal) = ⊥
IsFree (stop.Limit limit) = ⊥
IsFree (stop.ReadFault file) = Unit {0}

-- ---- tokens

-- two readings up to phase 4 give the same tokens and definitions
same_unit : (files : Files) (unit : Source) (tokens others : UnitTokens) (one other : Loaded) → IsReadAs (setting_of fresh one files unit) unit fresh (Ok tokens) one
    → IsReadAs (setting_of fresh other files unit) unit fresh (Ok others) other → (others.tokens ≡ tokens.tokens) × (others.read ≡ tokens.read)
same_unit files unit tokens others one other reads again =
    let like = one-outcome (setting_of fresh one files unit) (is_known other) (name_of other) unit.file unit.define (state_with (first_files fresh unit)) (Ok reads.0) (Ok again.0) reads.1.1 again.1.1 tt tt in (
      ap (λ (u : UnitTokens). u.tokens) again.2 ∙ ap (λ (s : State). (finished_unit s).tokens) like.2 ∙ sym (ap (λ (u : UnitTokens). u.tokens) reads.2),
      ap (λ (u : UnitTokens). u.read) again.2 ∙ ap (λ (s : State). (finished_unit s).read) like.2 ∙ sym (ap (λ (u : UnitTokens). u.read) reads.2),
    )

-- a unit that is read up to phase 4 has no stop there
no-stop : (files : Files) (unit : Source) (tokens : UnitTokens) (one other : Loaded) (why : Stop) → IsReadAs (setting_of fresh one files unit) unit fresh (Ok tokens) one
    → IsReadAs (setting_of fresh other files unit) unit fresh (Err why) other → IsFree why
no-stop files unit tokens one other stop.Memory reads stops = tt
no-stop files unit tokens one other (stop.Refused refusal) reads stops =
    absurd (one-outcome (setting_of fresh one files unit) (is_known other) (name_of other) unit.file unit.define (state_with (first_files fresh unit)) (Ok reads.0) (Err (stop.Refused refusal)) reads.1.1 stops.1 tt tt)
no-stop files unit tokens one other (stop.Limit limit) reads stops =
    absurd (one-outcome (setting_of fresh one files unit) (is_known other) (name_of other) unit.file unit.define (state_with (first_files fresh unit)) (Ok reads.0) (Err (stop.Limit limit)) reads.1.1 stops.1 tt tt)
no-stop files unit tokens one other (stop.ReadFault file) reads stops = tt

-- ---- the layers behind them, where they come to one thing

-- which function is `main` hangs on no table
main_in_same : (one other : Program) → other.declared ≡ one.declared → (definitions : List Definition) → main_in other definitions ≡ main_in one definitions
main_in_same one other same [] = refl
main_in_same one other same (definition ∷ definitions) =
    ap (λ declared. if is_main (declaration_at declared definition.function) then Some definition else main_in other definitions) same
    ∙ ap (λ rest. if is_main (declaration_of one definition.function) then Some definition else rest) (main_in_same one other same definitions)

main_stays : (one other : Layers) → IsSameUnit (one.core, one.types) (other.core, other.types) → HasMain one.types one.core → HasMain other.types other.core
main_stays one other same main none =
    main
    (sym (main_in_same (meant_of one.types (view_of_unit one.types one.core)) (meant_of other.types (view_of_unit one.types one.core)) refl (definitions_in (view_of_unit one.types one.core).externals))
    ∙ ap (λ unit. main_of (meant_of other.types unit)) (sym same.unit) ∙ none)

module _ (one_reading : (tokens : List Token) (one other : Result Layers Stop) → HasLayers tokens one → HasLayers tokens other → AreOneLayers one other) where
  module _ (tokens : List Token) (runs : MayRun tokens) where
    no_layer_stops : (why : Stop) → HasLayers tokens (Err why) → IsFree why
    no_layer_stops stop.Memory has = tt
    no_layer_stops (stop.ReadFault file) has = tt
    no_layer_stops (stop.Refused refusal) has = one_reading tokens (Ok runs.layers) (Err (stop.Refused refusal)) runs.has has
    no_layer_stops (stop.Limit limit) has = one_reading tokens (Ok runs.layers) (Err (stop.Limit limit)) runs.has has

    has_main : (layers : Layers) → HasLayers tokens (Ok layers) → HasMain layers.types layers.core
    has_main layers has = main_stays runs.layers layers (one_reading tokens (Ok runs.layers) (Ok layers) runs.has has).2 runs.main

  -- ---- whole readings

  module _ (request : RunRequest) (unit : Source) (told : Option Files) (holds : HoldsRun told request unit) where
    reads : IsReadAs (setting_of fresh holds.loaded holds.files unit) unit fresh (Ok holds.tokens) holds.loaded
    reads = holds.is_read

    read_stops : (why : Stop) (other : Loaded) → IsUnitReading told unit (Err why) other → IsFree why
    read_stops why other stops = at (subst (λ (there : Option Files). IsUnitReading there unit (Err why) other) holds.are_told stops)
      where
        at : IsReading (setting_of fresh other holds.files unit) unit fresh (Err why) other → IsFree why
        at (inl early) = no-stop holds.files unit holds.tokens holds.loaded other why holds.is_read early
        at (inr (pp, gives, layers)) =
            let same = (same_unit holds.files unit holds.tokens pp holds.loaded other holds.is_read gives).0 in
            no_layer_stops holds.tokens.tokens holds.runs why (subst (λ these. HasLayers these (Err why)) same layers)

    read_well : (reading : Reading) (other : Loaded) → IsUnitReading told unit (Ok reading) other → (exceeds reading.pp.read ≡ false) × HasMain reading.types reading.core
    read_well reading other is =
        let gives = subst (λ (there : Option Files). IsUnitReading there unit (Ok reading) other) holds.are_told is in
        let same = same_unit holds.files unit holds.tokens reading.pp holds.loaded other holds.is_read gives.1 in
        (ap exceeds same.1 ∙ holds.few, has_main holds.tokens.tokens holds.runs (layers_of reading) (subst (λ these. HasLayers these (Ok (layers_of reading))) same.0 gives.2))

  -- ---- the endings

  -- a file that is there and not too long is an input
  no_lack : (files : Files) (given : Option (List ℕ)) (input : List ℕ) (before after : ℕ) (why : NoInput) → HasInput (Some files) given input → HasNoInput (Some files) given before after why → ¬ Rose before after → ⊥
  no_lack files None input before after why has none quiet = none
  no_lack files (Some name) input before after Missing has (inl bad) quiet = true≢false (sym has.0 ∙ bad)
  no_lack files (Some name) input before after Missing has (inr absent) quiet = false≢true (sym (ap is_some absent) ∙ ap is_some has.1)
  no_lack files (Some name) input before after TooLong has none quiet =
      let longer : source_length_limit < length input = subst (λ found. IsSomeAnd found (λ bytes. source_length_limit < length bytes)) has.1 none.1 in
      let short = has.2 in
      omega arith
  no_lack files (Some name) input before after ReadFault has none quiet = quiet none.1

  pub complete : (request : RunRequest) (unit : Source) (before after : Outside) (ending : RunEnding) → HoldsRun before.files request unit → EndsRun request unit before after ending
      → ¬ Rose before.folder_faults after.folder_faults → ¬ Rose before.sink_faults after.sink_faults → (status_of_run ending ≡ statuses.done) ⊎ (status_of_run ending ≡ statuses.memory_wanted)
  complete request unit before after (finished input reading files (ran outcome)) holds ends folder sink = inl refl
  complete request unit before after (finished input reading files (unput outcome)) holds ends folder sink = absurd (sink ends.1.3.1)
  complete request unit before after (finished input reading files too_many_definitions) holds ends folder sink =
      absurd (true≢false (sym ends.1.3.0 ∙ (read_well request unit before.files holds reading files ends.1.1).0))
  complete request unit before after (finished input reading files main_missing) holds ends folder sink =
      absurd ((read_well request unit before.files holds reading files ends.1.1).1 ends.1.3.1)
  complete request unit before after (stopped input stop.Memory files) holds ends folder sink = absurd (ends.1.2 refl)
  complete request unit before after (stopped input (stop.Refused refusal) files) holds ends folder sink =
      absurd (read_stops request unit before.files holds (stop.Refused refusal) files ends.1.1)
  complete request unit before after (stopped input (stop.Limit limit) files) holds ends folder sink =
      absurd (read_stops request unit before.files holds (stop.Limit limit) files ends.1.1)
  complete request unit before after (stopped input (stop.ReadFault file) files) holds ends folder sink = absurd (folder (ends.1.3 file refl))
  complete request unit before after (input_missing why) holds ends folder sink =
      absurd (no_lack holds.files request.input holds.input before.folder_faults after.folder_faults why
      (subst (λ told. HasInput told request.input holds.input) holds.are_told holds.has_input)
      (subst (λ told. HasNoInput told request.input before.folder_faults after.folder_faults why) holds.are_told ends.0) folder)
  complete request unit before after memory_wanted holds ends folder sink = inr refl
