-- Where units are read within the limits, no other reading of them stops, failed readings of files apart. So where nothing fails a
-- command does what it is asked for.
use Rattle.std.proofs.Common.{◌≡◌, ◌≢◌, ◌∙◌, ℕ, ◌+◌, ◌<◌, ◌≤◌, ◌⊎◌, inl, inr, Bool, List, [], ◌∷◌, ◌++◌, length, Option, Some, Result, Ok, Err, IfErr, refl, sym, ap, subst, arith}
use Rattle.std.specs.Prelude.{bytes_eq, fold, is_ok}
use Rattle.std.specs.List.{flat_map, position_or_len}
use Rattle.std.specs.Result.{result_map_both, result_unwrap_or}
use Rattle.std.proofs.Math.Path.{fun_ext}
use Rattle.std.proofs.lemmas.Bool.{true≢false}
use Rattle.dm_token.specs.Limits.{most_definitions}
use Rattle.dm_token.specs.declared.expansion.Definition.{Definition}
use Rattle.dm_token.specs.declared.stop.Stop.{Stop}
use Rattle.dm_token.specs.declared.stop.Stop.TheVariants.{Memory, Refused, Limit, ReadFault}
use Rattle.dm_token.specs.declared.unit.Read.{Read}
use Rattle.dm_token.specs.declared.unit.Unit.{Unit as Source}
use Rattle.dm_token.specs.declared.unit.UnitTokens.{UnitTokens}
use Rattle.dm_io.specs.Files.{Files}
use Rattle.dm_io.specs.Faults.{Rose}
use Rattle.dm_search.specs.CallFiles.{file_for}
use Rattle.dm_search.specs.Fresh.{fresh}
use Rattle.dm_search.specs.Loaded.{Loaded, name_of, number_of}
use Rattle.dm_unit.specs.Loaders.{is_known, shown}
use Rattle.dm_unit.specs.Outcomes.{Agree, IsLike, seeing}
use Rattle.dm_unit.specs.Includes.{numbered}
use Rattle.dm_unit.specs.Readings.{ReadsUnit}
use Rattle.dm_unit.specs.States.{Catalogue, Outcome, Setting, State}
use Rattle.dm_unit.specs.Units.{AreNumbered, HasOutcome, IsReadAs, first_files, setting_of, state_with}
use Rattle.dm_unit.specs.Views.{IsFaultless}
use Rattle.dm_reading.specs.declared.reading.Reading.{Reading}
use Rattle.dm_readings.specs.Reading.{AreOneReading, IsReading}
use Rattle.dm_readings.specs.Definitions.{definitions_in, in_files, once_more}
use Rattle.dm_readings.specs.Units.{Ending, IsCounted, ReadsNext, ReadsProject, ReadsUnits, ending, most_project_tokens}
use Rattle.dm_lines.specs.Outside.{Outside}
use Rattle.dm_lines.specs.Statuses as statuses
use Rattle.dm_apply.specs.Endings.{PlanEnding, ApplyEnding, EndsPlanning, EndsApplying, status_of_plan, status_of_apply, planned, report_failed, stopped, memory_wanted, applied, write_failed, output_failed, unplanned, unready}
use Rattle.dm_apply.specs.Generation.{GenEnding, EndsGenerating, status_of_gen, summed_up}
use Rattle.dm_apply.specs.Generation.{memory_wanted as generation_wanted, output_failed as summary_failed, stopped as generation_stopped}
use Rattle.dm_apply.specs.Plans.{HoldsUnits, IsOnePlan}
use Rattle.dm_apply.specs.Summaries.{files_of, units as generated_units}

-- what the text of a unit is no cause of
abbrev IsFree : Stop → Type 0
IsFree Memory = Unit {0}
IsFree (Refused refusal) = ⊥
IsFree (Limit limit) = ⊥
IsFree (ReadFault file) = Unit {0}

-- ---- loaders that are alike

-- They know the same files by the same numbers, and each name has the same file.
record Alike (files : Files) (one two : Loaded) : Type 0 where
  shows : shown two ≡ shown one
  serves : (name : List ℕ) → file_for two files name ≡ file_for one files name

same_setting : (files : Files) (unit : Source) (one two new : Loaded) → Alike files one two → setting_of two new files unit ≡ setting_of one new files unit
same_setting files unit one two new alike =
    let make : (List ℕ → Option (List ℕ)) → ℕ → Setting = λ source main. record { source = source; looked = is_known new; named = name_of new; include = unit.include; main = main } in
    ap (λ (source : List ℕ → Option (List ℕ)). make source (number_of two unit.file)) (fun_ext alike.serves)
    ∙ ap (make (file_for one files)) (ap (λ (known : Catalogue). position_or_len (bytes_eq unit.file) known.names) alike.shows)

-- an outcome hangs on the files by number alone
abbrev HasOutcomeFrom : Setting → Source → Catalogue → Outcome → Type 0
HasOutcomeFrom setting unit known outcome =
    AreNumbered setting (numbered unit.file known) × ReadsUnit setting unit.file unit.define (state_with (numbered unit.file known)) outcome

module _ (files : Files) (unit : Source) (one two new : Loaded) (alike : Alike files one two) where
  outcome_alike : (outcome : Outcome) → HasOutcome (setting_of two new files unit) two unit outcome → HasOutcome (setting_of one new files unit) one unit outcome
  outcome_alike outcome has =
      subst (λ (known : Catalogue). HasOutcomeFrom (setting_of one new files unit) unit known outcome) alike.shows
      (subst (λ (setting : Setting). HasOutcomeFrom setting unit (shown two) outcome) (same_setting files unit one two new alike) has)

  read_alike : (result : Result UnitTokens Stop) → IsReadAs (setting_of two new files unit) unit two result new → IsReadAs (setting_of one new files unit) unit one result new
  read_alike (Ok tokens) (final, has, is, held) = (final, outcome_alike (Ok final) has, is, held)
  read_alike (Err Memory) is = tt
  read_alike (Err (Refused refusal)) has = outcome_alike (Err (Refused refusal)) has
  read_alike (Err (Limit limit)) has = outcome_alike (Err (Limit limit)) has
  read_alike (Err (ReadFault file)) has = outcome_alike (Err (ReadFault file)) has

  reading_alike : (result : Result Reading Stop) → IsReading (setting_of two new files unit) unit two result new → IsReading (setting_of one new files unit) unit one result new
  reading_alike (Ok reading) is = (is.0, read_alike (Ok reading.pp) is.1, is.2)
  reading_alike (Err why) (inl early) = inl (read_alike (Err why) early)
  reading_alike (Err why) (inr (pp, gives, layers)) = inr (pp, read_alike (Ok pp) gives, layers)

-- ---- one unit

-- what readings have of definitions in files
abbrev all_read : List Reading → List Definition
all_read readings = flat_map (λ (reading : Reading). in_files reading.pp.read) readings

-- other readings have the same, or they stop for no cause in the text
abbrev Agrees : List Reading → Result (List Reading) Stop → Type 0
Agrees readings (Ok others) = all_read others ≡ all_read readings
Agrees readings (Err why) = IsFree why

module _
    (one_outcome : (setting : Setting) (looked : List ℕ → Bool) (named : ℕ → List ℕ) (name : List ℕ) (defines : List (List ℕ)) (state : State) (one other : Outcome)
    → ReadsUnit setting name defines state one → ReadsUnit (seeing looked named setting) name defines state other → IfErr one IsFaultless → IfErr other IsFaultless → Agree IsLike one other)
    (one_reading : (files : Files) (unit : Source) (old first second : Loaded) (one other : Result Reading Stop)
    → IsReading (setting_of old first files unit) unit old one first → IsReading (setting_of old second files unit) unit old other second
    → IfErr one IsFaultless → IfErr other IsFaultless → AreOneReading one other) where
  same_shown : (files : Files) (unit : Source) (old first second : Loaded) (pp other : UnitTokens) → IsReadAs (setting_of old first files unit) unit old (Ok pp) first
      → IsReadAs (setting_of old second files unit) unit old (Ok other) second → shown second ≡ shown first
  same_shown files unit old first second pp other reads again =
      let like = one_outcome (setting_of old first files unit) (is_known second) (name_of second) unit.file unit.define (state_with (first_files old unit)) (Ok reads.0) (Ok again.0) reads.1.1 again.1.1 tt tt in
      sym again.3 ∙ (ap (λ (state : State). state.files) like.2 ∙ reads.3)

  module _ (files : Files) (unit : Source) (spent : ℕ) (one two first second : Loaded) (alike : Alike files one two) (reading : Reading) (reads : ReadsNext files unit spent one (Ok reading) first) where
    same_tokens : (other : Reading) → IsReading (setting_of two second files unit) unit two (Ok other) second → (other.pp.tokens ≡ reading.pp.tokens) × (other.pp.read ≡ reading.pp.read)
    same_tokens other is =
        let same = one_reading files unit one first second (Ok reading) (Ok other) reads.0 (reading_alike files unit one two second alike (Ok other) is) tt tt in
        (ap (λ (pp : UnitTokens). pp.tokens) same.1.2, ap (λ (pp : UnitTokens). pp.read) same.1.2)

    still_alike : (other : Reading) → ReadsNext files unit spent two (Ok other) second → Alike files first second
    still_alike other again = record {
      shows = same_shown files unit one first second reading.pp other.pp reads.0.1 (read_alike files unit one two second alike (Ok other.pp) again.0.1);
      serves = λ name. again.2.served name ∙ (alike.serves name ∙ sym (reads.2.served name));
    }

    -- no limit of tokens is passed
    not_over : (other : Reading) → IsReading (setting_of two second files unit) unit two (Ok other) second → most_project_tokens < spent + length other.pp.tokens → ⊥
    not_over other is over =
        let same = ap (λ (tokens : List _). length tokens) (same_tokens other is).0 in
        let within = reads.1 in
        absurd (omega (arith, same, within, over))

    no_stop : (why : Stop) → ReadsNext files unit spent two (Err why) second → IsFree why
    no_stop Memory stops = tt
    no_stop (ReadFault file) stops = tt
    no_stop (Refused refusal) (inl stops) =
        one_reading files unit one first second (Ok reading) (Err (Refused refusal)) reads.0 (reading_alike files unit one two second alike (Err (Refused refusal)) stops) tt tt
    no_stop (Refused refusal) (inr (other, is, over, same)) = not_over other is over
    no_stop (Limit limit) (inl stops) =
        one_reading files unit one first second (Ok reading) (Err (Limit limit)) reads.0 (reading_alike files unit one two second alike (Err (Limit limit)) stops) tt tt
    no_stop (Limit limit) (inr (other, is, over, same)) = not_over other is over

  -- ---- all units

  no_reading : (why : Stop) (readings : List Reading) → Err why ≡ Ok readings → ⊥
  no_reading why readings same = true≢false (sym (ap is_ok same))

  agrees_behind : (reading other : Reading) (readings : List Reading) (result : Result (List Reading) Stop) → other.pp.read ≡ reading.pp.read → Agrees readings result
      → Agrees (reading ∷ readings) (result_map_both (λ (others : List Reading). other ∷ others) (λ (stop : Stop). stop) result)
  agrees_behind reading other readings (Ok others) same agrees =
      ap (λ (read : List Read). in_files read ++ all_read others) same ∙ ap (λ (rest : List Definition). in_files reading.pp.read ++ rest) agrees
  agrees_behind reading other readings (Err why) same agrees = agrees

  -- behind the first unit, where this is so of the others
  agrees_from : (reading other : Reading) (readings : List Reading) (given result : Result (List Reading) Stop) → other.pp.read ≡ reading.pp.read
      → result_map_both (λ (others : List Reading). reading ∷ others) (λ (stop : Stop). stop) given ≡ Ok readings → ((others : List Reading) → given ≡ Ok others → Agrees others result)
      → Agrees readings (result_map_both (λ (others : List Reading). other ∷ others) (λ (stop : Stop). stop) result)
  agrees_from reading other readings (Ok others) result same is agrees =
      subst (λ (these : List Reading). Agrees these (result_map_both (λ (more : List Reading). other ∷ more) (λ (stop : Stop). stop) result)) (ap (λ (r : Result (List Reading) Stop). result_unwrap_or r []) is)
      (agrees_behind reading other others result same (agrees others refl))
  agrees_from reading other readings (Err why) result same is agrees = absurd (no_reading why readings is)

  units_agree : (files : Files) (units : List Source) (spent : ℕ) (one two : Loaded) → Alike files one two → (readings : List Reading) (end other : Ending) → end.result ≡ Ok readings
      → ReadsUnits files units spent one end → ReadsUnits files units spent two other → Agrees readings other.result
  units_agree files [] spent one two alike readings end other is reads again =
      let none : [] ≡ readings = ap (λ (r : Result (List Reading) Stop). result_unwrap_or r []) (sym (ap (λ (e : Ending). e.result) reads) ∙ is) in
      subst (λ (these : List Reading). Agrees these other.result) none (subst (Agrees []) (sym (ap (λ (e : Ending). e.result) again)) refl)
  units_agree files (unit ∷ units) spent one two alike readings end other is (inl (why, known, next, ends)) again =
      absurd (no_reading why readings (sym (ap (λ (e : Ending). e.result) ends) ∙ is))
  units_agree files (unit ∷ units) spent one two alike readings end other is (inr (reading, known, rest, next, reads, ends)) (inl (why, known_too, stops, ends_too)) =
      subst (Agrees readings) (sym (ap (λ (e : Ending). e.result) ends_too)) (no_stop files unit spent one two known known_too alike reading next why stops)
  units_agree files (unit ∷ units) spent one two alike readings end other is (inr (reading, known, rest, next, reads, ends)) (inr (reading_too, known_too, rest_too, next_too, reads_too, ends_too)) =
      let same = same_tokens files unit spent one two known known_too alike reading next reading_too next_too.0 in
      let further = still_alike files unit spent one two known known_too alike reading next reading_too next_too in
      let from_there = subst (λ (n : ℕ). ReadsUnits files units (spent + n) known_too rest_too) (ap length same.0) reads_too in
      subst (Agrees readings) (sym (ap (λ (e : Ending). e.result) ends_too))
      (agrees_from reading reading_too readings rest.result rest_too.result same.1 (sym (ap (λ (e : Ending). e.result) ends) ∙ is)
      (λ others given. units_agree files units (spent + length reading.pp.tokens) known known_too further others rest rest_too given reads from_there))

  -- ---- the project

  abbrev stop_of : Result (List Reading) Stop → Stop
  stop_of (Ok readings) = Memory
  stop_of (Err why) = why

  counted_too : (readings : List Reading) (given : Result (List Reading) Stop) (why : Stop) → length (definitions_in readings) ≤ most_definitions → Agrees readings given → IsCounted given (Err why) → IsFree why
  counted_too readings (Err other) why few agrees is = subst IsFree (sym (ap stop_of is)) agrees
  counted_too readings (Ok others) Memory few agrees is = tt
  counted_too readings (Ok others) (ReadFault file) few agrees is = tt
  counted_too readings (Ok others) (Refused refusal) few agrees (inl (within, is)) = absurd (no_reading (Refused refusal) others is)
  counted_too readings (Ok others) (Refused refusal) few agrees (inr (many, is)) =
      let same = ap (λ (all : List Definition). length (fold once_more [] all)) agrees in absurd (omega (arith, same, few, many))
  counted_too readings (Ok others) (Limit limit) few agrees (inl (within, is)) = absurd (no_reading (Limit limit) others is)
  counted_too readings (Ok others) (Limit limit) few agrees (inr (many, is)) =
      let same = ap (λ (all : List Definition). length (fold once_more [] all)) agrees in absurd (omega (arith, same, few, many))

  project_agrees : (files : Files) (units : List Source) (readings : List Reading) (begun begun_too : ℕ) (known known_too : Loaded) (why : Stop)
      → ReadsProject files units fresh (ending (Ok readings) begun known) → ReadsProject files units fresh (ending (Err why) begun_too known_too) → IsFree why
  project_agrees files units readings begun begun_too known known_too why (Err other, reads, counted) again = absurd (no_reading other readings (sym counted))
  project_agrees files units readings begun begun_too known known_too why (Ok given, reads, inr (many, is)) again = absurd (no_reading _ readings (sym is))
  project_agrees files units readings begun begun_too known known_too why (Ok given, reads, inl (few, is)) (given_too, reads_too, counted_again) =
      counted_too given given_too why few
      (units_agree files units 0 fresh fresh (record { shows = refl; serves = λ name. refl }) given (ending (Ok given) begun known) (ending given_too begun_too known_too) refl reads reads_too)
      counted_again

  -- ---- the endings

  never_stops : (told : Option Files) (units : List Source) (why : Stop) (known : Loaded) → HoldsUnits told units → why ≢ Memory → IsOnePlan told units (Err why) known → ((file : ℕ) → why ≡ ReadFault file → ⊥) → ⊥
  never_stops told units Memory known holds wanted is quiet = wanted refl
  never_stops told units (ReadFault file) known holds wanted is quiet = quiet file refl
  never_stops told units (Refused refusal) known holds wanted (count, (begun, within, now, reads)) quiet =
      project_agrees holds.files units holds.readings holds.begun begun holds.known known (Refused refusal) holds.are_read (reads holds.files holds.are_told)
  never_stops told units (Limit limit) known holds wanted (count, (begun, within, now, reads)) quiet =
      project_agrees holds.files units holds.readings holds.begun begun holds.known known (Limit limit) holds.are_read (reads holds.files holds.are_told)

  pub plans_complete : (json : Bool) (project : List ℕ) (units : List Source) (before after : Outside) (end : PlanEnding) → HoldsUnits before.files units → EndsPlanning json project units before after end
      → ¬ Rose before.folder_faults after.folder_faults → ¬ Rose before.sink_faults after.sink_faults → (status_of_plan end ≡ statuses.done) ⊎ (status_of_plan end ≡ statuses.memory_wanted)
  plans_complete json project units before after (planned plan) holds ends folder sink = inl refl
  plans_complete json project units before after (report_failed plan) holds ends folder sink = absurd (sink ends.2)
  plans_complete json project units before after (stopped why known) holds ((wanted, is), cause, keeps, put) folder sink =
      absurd (never_stops before.files units why known holds wanted is (λ file fault. folder (cause file fault).0))
  plans_complete json project units before after memory_wanted holds ends folder sink = inr refl

  pub applying_complete : (json : Bool) (project : List ℕ) (units : List Source) (before after : Outside) (end : ApplyEnding) → HoldsUnits before.files units → EndsApplying json project units before after end
      → ¬ Rose before.folder_faults after.folder_faults → ¬ Rose before.sink_faults after.sink_faults → (status_of_apply end ≡ statuses.done) ⊎ (status_of_apply end ≡ statuses.memory_wanted)
  applying_complete json project units before after (applied plan) holds ends folder sink = inl refl
  applying_complete json project units before after (write_failed plan written file left) holds ends folder sink = absurd (folder ends.2)
  applying_complete json project units before after (output_failed plan) holds ends folder sink = absurd (sink ends.2)
  applying_complete json project units before after (unplanned why known) holds ((wanted, is), cause, keeps, put) folder sink =
      absurd (never_stops before.files units why known holds wanted is (λ file fault. folder (cause file fault).0))
  applying_complete json project units before after unready holds ends folder sink = inr refl

  pub generation_complete : (n : ℕ) (before after : Option (List ℕ)) (faults later : ℕ) (end : GenEnding) → HoldsUnits (Some (files_of n)) generated_units → EndsGenerating n before after faults later end
      → ¬ Rose faults later → (status_of_gen end ≡ statuses.done) ⊎ (status_of_gen end ≡ statuses.memory_wanted)
  generation_complete n before after faults later (summed_up plan) holds ends sink = inl refl
  generation_complete n before after faults later (summary_failed plan) holds ends sink = absurd (sink ends.1)
  generation_complete n before after faults later (generation_stopped why known) holds ((wanted, is), source, put) sink =
      absurd (never_stops (Some (files_of n)) generated_units why known holds wanted is source)
  generation_complete n before after faults later generation_wanted holds ends sink = inr refl
