-- From what the steps of a command do to how it ends.
use Rattle.std.proofs.Common.{◌≡◌, ◌≢◌, ◌∙◌, ℕ, ◌≤◌, Bool, List, [], ◌∷◌, ◌++◌, length, map, get_or, All, inl, inr, Option, Some, Result, Ok, Err, IfOk, OnOk, OnErr, refl, sym, ap, subst, arith}
use Rattle.std.specs.Prelude.{slice_get, unwrap_or, option_map}
use Rattle.std.proofs.Math.Seq.{get_or-append_seam}
use Rattle.std.proofs.lemmas.List.{length-append}
use Rattle.std.proofs.lemmas.Option.{slice_get-map, slice_get_read}
use Rattle.dm_token.specs.declared.stop.Memory.{Memory}
use Rattle.dm_token.specs.declared.stop.Stop.{Stop}
use Rattle.dm_token.specs.declared.stop.Stop.TheVariants as stop
use Rattle.dm_token.specs.declared.unit.Unit.{Unit as Source}
use Rattle.dm_io.specs.Files.{Files, MayHaveSpoiled}
use Rattle.dm_io.specs.Output.{appended, MayHaveAppended}
use Rattle.dm_io.specs.Faults.{Rose}
use Rattle.dm_manifest.proofs.Short.{lawful-short}
use Rattle.dm_manifest.specs.Units.{IsLawful}
use Rattle.dm_search.specs.Loaded.{Loaded}
use Rattle.dm_readings.specs.Units.{HasShortDefines}
use Rattle.dm_edit.specs.declared.plan.Changed.{Changed}
use Rattle.dm_edit.specs.declared.plan.Plan.{Plan}
use Rattle.dm_gen.specs.Generated.{unit_name}
use Rattle.dm_lines.specs.Lines.{write_fault_line}
use Rattle.dm_lines.specs.Outside.{Outside, KeepsFiles, Puts}
use Rattle.dm_lines.specs.Puts.{PutsText}
use Rattle.dm_lines.specs.Stops.{status_of_stop}
use Rattle.dm_last.specs.Last.{with_files}
use Rattle.dm_planning.specs.Plans.{IsPlanned}
use Rattle.dm_promise.specs.Promises.{KeepsPrograms, KeepsToldPrograms}
use Rattle.dm_search.specs.Fresh.{fresh}
use Rattle.dm_apply.specs.Commits.{IsCommittedAs, done}
use Rattle.dm_apply.specs.Commits.{write_failed as write_failed_there, output_failed as output_failed_there}
use Rattle.dm_apply.specs.Endings.{EndsPlanningAs, EndsApplyingAs, planned, report_failed, stopped, applied, write_failed, output_failed, unplanned}
use Rattle.dm_apply.specs.Generation.{EndsGeneratingAs, summed_up}
use Rattle.dm_apply.specs.Generation.{output_failed as summary_failed, stopped as generation_stopped}
use Rattle.dm_apply.specs.Outputs.{PutsOutput}
use Rattle.dm_apply.specs.Plans.{IsOnePlan, HasCause, line_of_no_plan, prepared_of, report}
use Rattle.dm_apply.specs.Summaries.{files_of, units as generated_units, summary}

-- ---- lawful units

pub all-short : (units : List Source) → All IsLawful units → All HasShortDefines units
all-short units lawful k d below = lawful-short (get_or units k d) (lawful k d below)

-- ---- causes

-- faults that rose since a later moment rose since an earlier one
Rose-earlier : (before middle after : ℕ) → before ≤ middle → Rose middle after → Rose before after
Rose-earlier before middle after order rose = omega arith

-- ---- programs

abbrev pub KeepsAllPrograms : Type 0
KeepsAllPrograms =
    (before after : Files) (units : List Source) (new : Loaded) (now : ℕ) (plan : Plan) → IsPlanned (Some before) units fresh 0 (Ok plan) new now
    → with_files (Some before) plan.files ≡ Some after → KeepsPrograms before after units plan

told_programs : KeepsAllPrograms → (told now : Option Files) (units : List Source) (known : Loaded) (plan : Plan) → IsOnePlan told units (Ok plan) known → now ≡ with_files told plan.files
    → KeepsToldPrograms told now units plan
told_programs law told now units known plan is written = λ before after is_told is_now.
    law before after units known is.0 plan (subst (λ (files : Option Files). IsPlanned files units fresh 0 (Ok plan) known is.0) is_told is.1)
    (ap (λ (files : Option Files). with_files files plan.files) (sym is_told) ∙ (sym written ∙ is_now))

-- ---- a plan is reported

module _ (json : Bool) (project : List ℕ) (units : List Source) (before : Outside) (known : Loaded) where
  pub ends_planned : (after : Outside) (plan : Plan) (text : List ℕ) (result : Result ℕ Memory) → text ≡ report json plan → IsOnePlan before.files units (Ok plan) known → KeepsFiles before after
      → IfOk result (PutsOutput before.written after.written before.sink_faults after.sink_faults text) → OnErr result (after.written ≡ before.written) → EndsPlanningAs json project units before after result
  ends_planned after plan text (Ok status) same is keeps (inl put) unput = (planned plan, put.0, ((known, is), keeps, put.1 ∙ ap (appended before.written) same))
  ends_planned after plan text (Ok status) same is keeps (inr put) unput =
      (report_failed plan, put.0, ((known, is), keeps, put.1, subst (MayHaveAppended before.written after.written) same put.2))
  ends_planned after plan text (Err error) same is keeps put unput = (keeps, unput)

  pub planning_stops : (after : Outside) (why : Stop) (names : List (List ℕ)) (result : Result ℕ Memory) → names ≡ known.names → IsOnePlan before.files units (Err why) known
      → HasCause why before.folder_faults after.folder_faults → KeepsFiles before after → OnOk result (Puts before after (line_of_no_plan project names why))
      → IfOk result (λ status. (status ≡ status_of_stop why) × (why ≢ stop.Memory)) → OnErr result (after.written ≡ before.written) → EndsPlanningAs json project units before after result
  planning_stops after why names (Ok status) same is cause keeps put told unput =
      (stopped why known, told.0, ((told.1, is), cause, keeps, subst (λ (n : List (List ℕ)). Puts before after (line_of_no_plan project n why)) same put))
  planning_stops after why names (Err error) same is cause keeps put told unput = (keeps, unput)

  -- ---- and applied

  pub applying_stops : (after : Outside) (why : Stop) (names : List (List ℕ)) (result : Result ℕ Memory) → names ≡ known.names → IsOnePlan before.files units (Err why) known
      → HasCause why before.folder_faults after.folder_faults → KeepsFiles before after → OnOk result (Puts before after (line_of_no_plan project names why))
      → IfOk result (λ status. (status ≡ status_of_stop why) × (why ≢ stop.Memory)) → OnErr result (after.written ≡ before.written) → EndsApplyingAs json project units before after result
  applying_stops after why names (Ok status) same is cause keeps put told unput =
      (unplanned why known, told.0, ((told.1, is), cause, keeps, subst (λ (n : List (List ℕ)). Puts before after (line_of_no_plan project n why)) same put))
  applying_stops after why names (Err error) same is cause keeps put told unput = (keeps, unput)

  -- the line of the file whose write failed
  its_line : (plan : Plan) (written : List Changed) (file : Changed) (left : List Changed) (line : List ℕ) → plan.files ≡ written ++ file ∷ left
      → slice_get (map (λ (one : Changed). write_fault_line one.name) plan.files) (length written) ≡ Some line → line ≡ write_fault_line file.name
  its_line plan written file left line split is =
      let named : Changed → List ℕ = λ one. write_fault_line one.name in
      let size = length-append written (file ∷ left) in
      let there : slice_get (written ++ file ∷ left) (length written) ≡ Some file =
      slice_get_read (written ++ file ∷ left) (length (written ++ file ∷ left)) (length written) file refl (omega (arith, size)) (sym (get_or-append_seam written file left file)) in
      ap (λ (found : Option (List ℕ)). unwrap_or found [])
      (sym is ∙ (slice_get-map named plan.files (length written) ∙ ap (option_map named) (ap (λ (files : List Changed). slice_get files (length written)) split ∙ there)))

  -- a plan's files are written from a later moment on, at which files and output are as before
  pub ends_committed : KeepsAllPrograms → (middle after : Outside) (plan : Plan) (result : Result ℕ Memory) → IsOnePlan before.files units (Ok plan) known
      → middle.files ≡ before.files → before.folder_faults ≤ middle.folder_faults → middle.written ≡ before.written → middle.sink_faults ≡ before.sink_faults
      → IfOk result (IsCommittedAs (prepared_of json plan) middle after) → OnErr result (after.files ≡ middle.files) → OnErr result (after.written ≡ middle.written)
      → EndsApplyingAs json project units before after result
  ends_committed law middle after plan (Ok status) is files earlier unput quiet (done, now, ends) kept unwritten = (
    applied plan,
    now,
    (
      (known, is),
      ends.0 ∙ ap (λ (told : Option Files). with_files told plan.files) files,
      ends.1 ∙ ap (λ (told : Option (List ℕ)). appended told (report json plan)) unput,
      told_programs law before.files after.files units known plan is (ends.0 ∙ ap (λ (told : Option Files). with_files told plan.files) files),
    ),
  )
  ends_committed law middle after plan (Ok status) is files earlier unput quiet (write_failed_there written file left, now, ends) kept unwritten = (
    write_failed plan written file left,
    now,
    (
      (known, is),
      ends.0,
      Rose-earlier before.folder_faults middle.folder_faults after.folder_faults earlier ends.1,
      subst (λ (told : Option Files). MayHaveSpoiled (with_files told written) after.files file.name) files ends.2,
      subst (λ (line : List ℕ). PutsText before.written after.written before.sink_faults after.sink_faults line) (its_line plan written file left ends.3 ends.0 ends.4)
          (subst (λ (faults : ℕ). PutsText before.written after.written faults after.sink_faults ends.3) quiet
          (subst (λ (told : Option (List ℕ)). PutsText told after.written middle.sink_faults after.sink_faults ends.3) unput ends.5)),
    ),
  )
  ends_committed law middle after plan (Ok status) is files earlier unput quiet (output_failed_there, now, ends) kept unwritten = (
    output_failed plan,
    now,
    (
      (known, is),
      ends.0 ∙ ap (λ (told : Option Files). with_files told plan.files) files,
      subst (λ (faults : ℕ). Rose faults after.sink_faults) quiet ends.1,
      subst (λ (told : Option (List ℕ)). MayHaveAppended told after.written (report json plan)) unput ends.2,
      told_programs law before.files after.files units known plan is (ends.0 ∙ ap (λ (told : Option Files). with_files told plan.files) files),
    ),
  )
  ends_committed law middle after plan (Err error) is files earlier unput quiet committed kept unwritten = (kept ∙ files, unwritten ∙ unput)

-- ---- the plan of a generated project

module _ (n : ℕ) (before after : Option (List ℕ)) (faults later : ℕ) (known : Loaded) where
  pub ends_summed_up : (plan : Plan) (text : List ℕ) (result : Result ℕ Memory) → text ≡ summary n plan → IsOnePlan (Some (files_of n)) generated_units (Ok plan) known
      → IfOk result (PutsOutput before after faults later text) → OnErr result (after ≡ before) → EndsGeneratingAs n before after faults later result
  ends_summed_up plan text (Ok status) same is (inl put) unput = (summed_up plan, put.0, ((known, is), put.1 ∙ ap (appended before) same))
  ends_summed_up plan text (Ok status) same is (inr put) unput = (summary_failed plan, put.0, ((known, is), put.1, subst (MayHaveAppended before after) same put.2))
  ends_summed_up plan text (Err error) same is put unput = unput

  -- a folder whose faults stay at 0 has no fault
  pub generating_stops : (why : Stop) (project : List ℕ) (names : List (List ℕ)) (result : Result ℕ Memory) → project ≡ unit_name → names ≡ known.names → IsOnePlan (Some (files_of n)) generated_units (Err why) known
      → HasCause why 0 0 → OnOk result (PutsText before after faults later (line_of_no_plan project names why))
      → IfOk result (λ status. (status ≡ status_of_stop why) × (why ≢ stop.Memory)) → OnErr result (after ≡ before) → EndsGeneratingAs n before after faults later result
  generating_stops why project names (Ok status) named same is cause put told unput = (
    generation_stopped why known,
    told.0,
    (
      (told.1, is),
      λ file fault. (let rose : Rose 0 0 = (cause file fault).0 in absurd (omega arith)),
      subst (λ (word : List ℕ). PutsText before after faults later (line_of_no_plan word known.names why)) named
          (subst (λ (these : List (List ℕ)). PutsText before after faults later (line_of_no_plan project these why)) same put),
    ),
  )
  generating_stops why project names (Err error) named same is cause put told unput = unput
