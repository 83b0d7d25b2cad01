-- Where what is asked for can be done and nothing fails, only two statuses are left.
use Rattle.std.proofs.Common.{◌≡◌, ℕ, Bool, ◌⊎◌, inl, inr, List, Option, Some, None, sym, subst}
use Rattle.dm_token.specs.declared.unit.Unit.{Unit as Source}
use Rattle.dm_io.specs.Files.{Files}
use Rattle.dm_io.specs.Faults.{Rose}
use Rattle.dm_lines.specs.Outside.{Outside}
use Rattle.dm_lines.specs.Statuses as statuses
use Rattle.dm_words.specs.Requests.{Request, RunRequest, plan, apply, expand, run, gen, AsksFor}
use Rattle.dm_sources.specs.Sources.{IsProject, HasUnit, HasNoSources, HasNoUnit}
use Rattle.dm_sources.proofs.ProjectLaws.{one_project, one_unit, has_sources, has_unit}
use Rattle.dm_apply.specs.Plans.{HoldsUnits}
use Rattle.dm_apply.specs.Generation.{GenEnding, EndsGenerating, status_of_gen}
use Rattle.dm_apply.specs.Summaries.{files_of, units as generated_units}
use Rattle.dm_apply.specs.Endings.{PlanEnding, status_of_plan, EndsPlanning, ApplyEnding, status_of_apply, EndsApplying}
use Rattle.dm_expanding.specs.Endings.{UnitEnding, status_of_unit, EndsExpanding, HoldsUnit}
use Rattle.dm_running.specs.Endings.{RunEnding, status_of_run, EndsRun, HoldsRun}
use Rattle.demacro.specs.Endings.{EndsFor, Ends, LacksUnits}
use Rattle.demacro.specs.Completeness.{Holds, HoldsProject, HoldsProgram}

-- done, or memory is wanted
abbrev pub IsEnough : ℕ → Type 0
IsEnough status = (status ≡ statuses.done) ⊎ (status ≡ statuses.memory_wanted)

-- no fault rose between two moments
abbrev pub IsQuiet : ℕ → ℕ → Type 0
IsQuiet before after = ¬ Rose before after

-- a project that holds units lacks them for no reason but a fault
never_lacking : (project : List ℕ) (before after : Outside) (status : ℕ) → HoldsProject before.files project → LacksUnits project before after status → IsQuiet before.folder_faults after.folder_faults → ⊥
never_lacking project before after status holds lacks quiet =
    let told = holds.2.are_told in
    has_sources holds.2.files project holds.0 before.folder_faults after.folder_faults lacks.0 (subst (λ there. IsProject there project holds.0) told holds.1)
    (subst (λ there. HasNoSources there project before.folder_faults after.folder_faults lacks.0) told lacks.1) quiet

-- the units that are found are those that it holds
held_units : (project : List ℕ) (told : Option Files) (holds : HoldsProject told project) (units : List Source) → IsProject told project units → HoldsUnits told units
held_units project told holds units is =
    let same = one_project holds.2.files project holds.0 units (subst (λ there. IsProject there project holds.0) holds.2.are_told holds.1) (subst (λ there. IsProject there project units) holds.2.are_told is) in
    subst (HoldsUnits told) same holds.2

module _ (complete_plan : (json : Bool) (project : List ℕ) (units : List Source) (before after : Outside) (end : PlanEnding) → HoldsUnits before.files units → EndsPlanning json project units before after end
    → IsQuiet before.folder_faults after.folder_faults → IsQuiet before.sink_faults after.sink_faults → IsEnough (status_of_plan end))
    (complete_apply : (json : Bool) (project : List ℕ) (units : List Source) (before after : Outside) (end : ApplyEnding) → HoldsUnits before.files units → EndsApplying json project units before after end
    → IsQuiet before.folder_faults after.folder_faults → IsQuiet before.sink_faults after.sink_faults → IsEnough (status_of_apply end))
    (complete_expansion : (project file : List ℕ) (before after : Outside) (ending : UnitEnding) → HoldsUnit before.files project file → EndsExpanding project file before after ending
    → IsQuiet before.folder_faults after.folder_faults → IsQuiet before.sink_faults after.sink_faults → IsEnough (status_of_unit ending))
    (complete_run : (request : RunRequest) (unit : Source) (before after : Outside) (ending : RunEnding) → HoldsRun before.files request unit → EndsRun request unit before after ending
    → IsQuiet before.folder_faults after.folder_faults → IsQuiet before.sink_faults after.sink_faults → IsEnough (status_of_run ending))
    (complete_gen : (n : ℕ) (before after : Option (List ℕ)) (faults later : ℕ) (end : GenEnding) → HoldsUnits (Some (files_of n)) generated_units → EndsGenerating n before after faults later end
    → IsQuiet faults later → IsEnough (status_of_gen end)) where
  complete_program : (request : RunRequest) (before after : Outside) (status : ℕ) → HoldsProgram before.files request → EndsFor (run request) before after status
      → IsQuiet before.folder_faults after.folder_faults → IsQuiet before.sink_faults after.sink_faults → IsEnough status
  complete_program request before after status holds (inl ends) folder sink =
      let told = holds.2.are_told in
      let same : ends.0 ≡ holds.0 =
      one_unit holds.2.files request.project request.file ends.0 holds.0 (subst (λ there. HasUnit there request.project request.file ends.0) told ends.1)
      (subst (λ there. HasUnit there request.project request.file holds.0) told holds.1) in
      subst IsEnough (sym ends.2.1) (complete_run request holds.0 before after ends.2.0 holds.2 (subst (λ (unit : Source). EndsRun request unit before after ends.2.0) same ends.2.2) folder sink)
  complete_program request before after status holds (inr lacks) folder sink =
      let told = holds.2.are_told in
      absurd (has_unit holds.2.files request.project request.file holds.0 before.folder_faults after.folder_faults lacks.0
      (subst (λ there. HasUnit there request.project request.file holds.0) told holds.1)
      (subst (λ there. HasNoUnit there request.project request.file before.folder_faults after.folder_faults lacks.0) told lacks.1) folder)

  pub complete : (request : Request) (before after : Outside) (status : ℕ) → Holds before.files request → EndsFor request before after status
      → IsQuiet before.folder_faults after.folder_faults → IsQuiet before.sink_faults after.sink_faults → IsEnough status
  complete (plan project json) before after status holds (inl ends) folder sink =
      subst IsEnough (sym ends.2.1) (complete_plan json project ends.0 before after ends.2.0 (held_units project before.files holds ends.0 ends.1) ends.2.2 folder sink)
  complete (plan project json) before after status holds (inr lacks) folder sink = absurd (never_lacking project before after status holds lacks folder)
  complete (apply project json) before after status holds (inl ends) folder sink =
      subst IsEnough (sym ends.2.1) (complete_apply json project ends.0 before after ends.2.0 (held_units project before.files holds ends.0 ends.1) ends.2.2 folder sink)
  complete (apply project json) before after status holds (inr lacks) folder sink = absurd (never_lacking project before after status holds lacks folder)
  complete (expand project file) before after status holds ends folder sink =
      subst IsEnough (sym ends.1) (complete_expansion project file before after ends.0 holds ends.2 folder sink)
  complete (run request) before after status holds ends folder sink = complete_program request before after status holds ends folder sink
  complete (gen count) before after status holds ends folder sink =
      subst IsEnough (sym ends.1.1) (complete_gen count before.written after.written before.sink_faults after.sink_faults ends.1.0 holds ends.1.2 sink)

-- where words ask for it
pub complete_for : ((w : List (List ℕ)) (a b : Request) → AsksFor w a → AsksFor w b → a ≡ b)
    → ((request : Request) (before after : Outside) (status : ℕ) → Holds before.files request → EndsFor request before after status
    → IsQuiet before.folder_faults after.folder_faults → IsQuiet before.sink_faults after.sink_faults → IsEnough status)
    → (words : List (List ℕ)) (request : Request) (before after : Outside) (status : ℕ) → Ends words before after status → AsksFor words request → Holds before.files request
    → IsQuiet before.folder_faults after.folder_faults → IsQuiet before.sink_faults after.sink_faults → IsEnough status
complete_for once complete_request words request before after status (inr wanting) asks holds folder sink = inr wanting.0
complete_for once complete_request words request before after status (inl (None, none, ends)) asks holds folder sink = absurd (none request asks)
complete_for once complete_request words request before after status (inl (Some other, asks_other, ends)) asks holds folder sink =
    complete_request request before after status holds (subst (λ asked. EndsFor asked before after status) (once words other request asks_other asks) ends) folder sink
