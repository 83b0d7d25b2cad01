-- A command that ends with the status of a refusal has put one.
use Rattle.std.proofs.Common.{Option, ◌≡◌, ℕ, Bool, inl, inr, List, [], ◌∷◌, Some, Ok, Err, refl, sym, ap, ◌∙◌, subst, arith}
use Rattle.std.specs.Prelude.{unwrap_or}
use Rattle.dm_token.specs.declared.stop.Refusal.{Refusal}
use Rattle.dm_token.specs.declared.stop.Stop.{Stop}
use Rattle.dm_token.specs.declared.stop.Stop.TheVariants.{Memory, Refused, Limit, ReadFault}
use Rattle.dm_token.specs.declared.unit.Unit.{Unit as Source}
use Rattle.dm_io.specs.Files.{Files}
use Rattle.dm_search.specs.CallFiles.{file_for}
use Rattle.dm_search.specs.Fresh.{fresh}
use Rattle.dm_search.specs.Loaded.{Loaded, name_of}
use Rattle.dm_unit.specs.Includes.{number_in}
use Rattle.dm_unit.specs.Loaders.{shown}
use Rattle.dm_lines.specs.Lines.{refusal_line}
use Rattle.dm_lines.specs.Outside.{Outside, Puts}
use Rattle.dm_lines.specs.Statuses.{refused}
use Rattle.dm_lines.specs.Stops.{status_of_stop}
use Rattle.dm_manifest.specs.declared.fault.ManifestFault.{ManifestFault}
use Rattle.dm_manifest.specs.declared.fault.ManifestFault.TheVariants as fault
use Rattle.dm_sources.specs.declared.project.NoSources.{NoSources}
use Rattle.dm_sources.specs.declared.project.NoSources.TheVariants as lacking
use Rattle.dm_sources.specs.declared.finding.NoUnit.{NoUnit}
use Rattle.dm_sources.specs.declared.finding.NoUnit.TheVariants as unfound
use Rattle.dm_sources.specs.Explanations.{status_of_fault, status_without_sources, status_without_unit}
use Rattle.dm_sources.specs.Sources.{IsProject, HasUnit}
use Rattle.dm_reading.specs.declared.reading.Reading.{Reading}
use Rattle.dm_words.specs.Requests.{RunRequest}
use Rattle.dm_apply.specs.Endings as applying
use Rattle.dm_apply.specs.Generation as generating
use Rattle.dm_apply.specs.Plans.{StopsPlanning}
use Rattle.dm_apply.specs.Summaries.{files_of, units as generated}
use Rattle.dm_readings.specs.Units.{ReadsProject, ending}
use Rattle.dm_expanding.specs.Endings as expanding
use Rattle.dm_running.specs.declared.input.NoInput.{NoInput}
use Rattle.dm_running.specs.declared.input.NoInput.TheVariants as input
use Rattle.dm_running.specs.Endings as running
use Rattle.dm_running.specs.Finishes.{Finish, ran, unput, too_many_definitions, main_missing, without_main, status_of_finish}
use Rattle.dm_running.specs.Inputs.{status_of_no_input}
use Rattle.dm_running.specs.Readings.{IsUnitReading}
use Rattle.dm_local.proofs.CatalogueLemmas.{own-numbered, called-numbered}
use Rattle.dm_places.specs.Places.{IsPlaceOf, LiesInFile}
use Rattle.dm_refusals.specs.Refusals.{PutsRefusal, RefusesInFile}

module _ (files : Files) (before after : Outside) (told : before.files ≡ Some files) where
  -- the stop of a plan is put
  stop-refuses : (project : List ℕ) (units : List Source) (stop : Stop) (known : Loaded)
      → ((refusal : Refusal) (known : Loaded) → IsProject (Some files) project units → StopsPlanning (Some files) units (Refused refusal) known → LiesInFile fresh known files refusal.place)
      → IsProject (Some files) project units → refused ≡ status_of_stop stop → applying.ExplainsStop project units before after stop known → RefusesInFile files before after
  stop-refuses project units Memory known lies is status explains = absurd (omega (arith, status))
  stop-refuses project units (Refused refusal) known lies is status explains =
      (refusal, known, lies refusal known is (subst (λ t. StopsPlanning t units (Refused refusal) known) told explains.0), explains.3)
  stop-refuses project units (Limit limit) known lies is status explains = absurd (omega (arith, status))
  stop-refuses project units (ReadFault file) known lies is status explains = absurd (omega (arith, status))

  pub plan-refuses : (project : List ℕ) (units : List Source) (json : Bool)
      → ((refusal : Refusal) (known : Loaded) → IsProject (Some files) project units → StopsPlanning (Some files) units (Refused refusal) known → LiesInFile fresh known files refusal.place)
      → IsProject (Some files) project units → applying.EndsPlanningAs json project units before after (Ok refused) → RefusesInFile files before after
  plan-refuses project units json lies is ends = by ends.0 ends.1 ends.2
    where
      by : (end : applying.PlanEnding) → refused ≡ applying.status_of_plan end → applying.EndsPlanning json project units before after end → RefusesInFile files before after
      by (applying.planned plan) status ended = absurd (omega (arith, status))
      by (applying.report_failed plan) status ended = absurd (omega (arith, status))
      by (applying.stopped stop known) status ended = stop-refuses project units stop known lies is status ended
      by applying.memory_wanted status ended = absurd (omega (arith, status))

  pub apply-refuses : (project : List ℕ) (units : List Source) (json : Bool)
      → ((refusal : Refusal) (known : Loaded) → IsProject (Some files) project units → StopsPlanning (Some files) units (Refused refusal) known → LiesInFile fresh known files refusal.place)
      → IsProject (Some files) project units → applying.EndsApplyingAs json project units before after (Ok refused) → RefusesInFile files before after
  apply-refuses project units json lies is ends = by ends.0 ends.1 ends.2
    where
      by : (end : applying.ApplyEnding) → refused ≡ applying.status_of_apply end → applying.EndsApplying json project units before after end → RefusesInFile files before after
      by (applying.applied plan) status ended = absurd (omega (arith, status))
      by (applying.write_failed plan written file left) status ended = absurd (omega (arith, status))
      by (applying.output_failed plan) status ended = absurd (omega (arith, status))
      by (applying.unplanned stop known) status ended = stop-refuses project units stop known lies is status ended
      by applying.unready status ended = absurd (omega (arith, status))

  -- where a unit is lacking, the status is another
  fault-other : (one : ManifestFault) → refused ≡ status_of_fault one → ⊥
  fault-other fault.Memory status = omega (arith, status)
  fault-other fault.Json status = omega (arith, status)
  fault-other (fault.Shape path) status = omega (arith, status)
  fault-other (fault.Name path) status = omega (arith, status)
  fault-other (fault.Define path) status = omega (arith, status)
  fault-other (fault.Twice path) status = omega (arith, status)
  fault-other fault.TooMany status = omega (arith, status)

  sources-other : (why : NoSources) → refused ≡ status_without_sources why → ⊥
  sources-other lacking.ProjectName status = omega (arith, status)
  sources-other lacking.NoManifest status = omega (arith, status)
  sources-other lacking.TooLong status = omega (arith, status)
  sources-other lacking.ReadFault status = omega (arith, status)
  sources-other (lacking.Manifest one) status = fault-other one status

  unit-other : (why : NoUnit) → refused ≡ status_without_unit why → ⊥
  unit-other (unfound.Unfound why) status = sources-other why status
  unit-other unfound.Unlisted status = omega (arith, status)

  pub expand-refuses : (project file : List ℕ)
      → ((unit : Source) (refusal : Refusal) (known : Loaded) → HasUnit (Some files) project file unit → expanding.IsReading (Some files) unit (Err (Refused refusal)) known → LiesInFile fresh known files refusal.place)
      → expanding.EndsExpandingAs project file before after (Ok refused) → RefusesInFile files before after
  expand-refuses project file lies ends = by ends.0 ends.1 ends.2
    where
      by : (end : expanding.UnitEnding) → refused ≡ expanding.status_of_unit end → expanding.EndsExpanding project file before after end → RefusesInFile files before after
      by (expanding.listed tokens known) status ended = absurd (omega (arith, status))
      by (expanding.unit_missing why) status ended = absurd (unit-other why status)
      by (expanding.refused refusal known) status ended =
          (refusal, known, lies ended.0 refusal known (subst (λ t. HasUnit t project file ended.0) told ended.1) (subst (λ t. expanding.IsReading t ended.0 (Err (Refused refusal)) known) told ended.2.0), ended.2.2)
      by (expanding.limit_passed limit known) status ended = absurd (omega (arith, status))
      by (expanding.file_unread number known) status ended = absurd (omega (arith, status))
      by (expanding.listing_failed tokens known) status ended = absurd (omega (arith, status))
      by expanding.memory_wanted status ended = absurd (omega (arith, status))

  -- a unit without `main` is refused at the beginning of its main file
  start-lies : (bytes : List ℕ) (file : ℕ) → IsPlaceOf bytes (record { file = file; byte = 0; line = 1; column = 1 })
  start-lies [] file = (refl, inr (refl, refl))
  start-lies (b ∷ bytes) file = (refl, inl (omega arith))

  main-refuses : (unit : Source) (reading : Reading) (known : Loaded) → IsUnitReading (Some files) unit (Ok reading) known → Puts before after (refusal_line reading.unit.file without_main) → RefusesInFile files before after
  main-refuses unit reading known is puts =
      let number = number_in (shown fresh) unit.file in
      let named : name_of known number ≡ unit.file = is.1.1.0 number (own-numbered (shown fresh) unit.file).0 ∙ called-numbered (shown fresh) unit.file in (
        record without_main { place = record { file = number; byte = 0; line = 1; column = 1 } },
        known,
        start-lies (unwrap_or (file_for fresh files (name_of known number)) []) number,
        subst (λ name. Puts before after (refusal_line name without_main)) (ap (λ (one : Source). one.file) is.0 ∙ sym named) puts,
      )

  no-input-other : (why : NoInput) → refused ≡ status_of_no_input why → ⊥
  no-input-other input.Missing status = omega (arith, status)
  no-input-other input.TooLong status = omega (arith, status)
  no-input-other input.ReadFault status = omega (arith, status)

  pub run-refuses : (request : RunRequest) (unit : Source)
      → ((refusal : Refusal) (known : Loaded) → HasUnit (Some files) request.project request.file unit → IsUnitReading (Some files) unit (Err (Refused refusal)) known → LiesInFile fresh known files refusal.place)
      → HasUnit (Some files) request.project request.file unit → running.EndsRunAs request unit before after (Ok refused) → RefusesInFile files before after
  run-refuses request unit lies has ends = by ends.0 ends.1 ends.2
    where
      stopped : (bytes : List ℕ) (stop : Stop) (known : Loaded) → refused ≡ status_of_stop stop → running.EndsRun request unit before after (running.stopped bytes stop known) → RefusesInFile files before after
      stopped bytes Memory known status ended = absurd (omega (arith, status))
      stopped bytes (Refused refusal) known status ended =
          (refusal, known, lies refusal known has (subst (λ t. IsUnitReading t unit (Err (Refused refusal)) known) told ended.1.1), ended.1.5)
      stopped bytes (Limit limit) known status ended = absurd (omega (arith, status))
      stopped bytes (ReadFault file) known status ended = absurd (omega (arith, status))

      finished : (bytes : List ℕ) (reading : Reading) (known : Loaded) (finish : Finish) → refused ≡ status_of_finish finish → running.EndsRun request unit before after (running.finished bytes reading known finish)
          → RefusesInFile files before after
      finished bytes reading known (ran outcome) status ended = absurd (omega (arith, status))
      finished bytes reading known (unput outcome) status ended = absurd (omega (arith, status))
      finished bytes reading known too_many_definitions status ended = absurd (omega (arith, status))
      finished bytes reading known main_missing status ended =
          main-refuses unit reading known (subst (λ t. IsUnitReading t unit (Ok reading) known) told ended.1.1) ended.1.3.2

      by : (end : running.RunEnding) → refused ≡ running.status_of_run end → running.EndsRun request unit before after end → RefusesInFile files before after
      by (running.finished bytes reading known finish) status ended = finished bytes reading known finish status ended
      by (running.stopped bytes stop known) status ended = stopped bytes stop known status ended
      by (running.input_missing why) status ended = absurd (no-input-other why status)
      by running.memory_wanted status ended = absurd (omega (arith, status))

-- so has the plan of a generated project, whose unit has no defines
pub gen-refuses : (count : ℕ) (before after : Option (List ℕ)) (faults later : ℕ)
    → ((begun : ℕ) (known : Loaded) (refusal : Refusal) → ReadsProject (files_of count) generated fresh (ending (Err (Refused refusal)) begun known) → LiesInFile fresh known (files_of count) refusal.place)
    → generating.EndsGeneratingAs count before after faults later (Ok refused) → PutsRefusal (files_of count) before after faults later
gen-refuses count before after faults later lies ends = by ends.0 ends.1 ends.2
  where
    stopped : (stop : Stop) (known : Loaded) → refused ≡ status_of_stop stop → generating.EndsGenerating count before after faults later (generating.stopped stop known) → PutsRefusal (files_of count) before after faults later
    stopped Memory known status ended = absurd (omega (arith, status))
    stopped (Refused refusal) known status ended =
        let first = ended.0.1.1 in
        (refusal, known, lies first.0 known refusal (first.3 (files_of count) refl), ended.2)
    stopped (Limit limit) known status ended = absurd (omega (arith, status))
    stopped (ReadFault file) known status ended = absurd (omega (arith, status))

    by : (end : generating.GenEnding) → refused ≡ generating.status_of_gen end → generating.EndsGenerating count before after faults later end → PutsRefusal (files_of count) before after faults later
    by (generating.summed_up plan) status ended = absurd (omega (arith, status))
    by (generating.output_failed plan) status ended = absurd (omega (arith, status))
    by (generating.stopped stop known) status ended = stopped stop known status ended
    by generating.memory_wanted status ended = absurd (omega (arith, status))
