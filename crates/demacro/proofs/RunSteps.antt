-- From what is found of a unit to how a call for its run ends.
use Rattle.std.proofs.Common.{◌≡◌, ◌∙◌, ℕ, ◌≤◌, inl, inr, List, Result, Ok, Err, IfOk, OnOk, OnErr, subst}
use Rattle.dm_token.specs.declared.stop.Memory.{Memory}
use Rattle.dm_token.specs.declared.unit.Unit.{Unit as Source}
use Rattle.dm_lines.specs.Outside.{Outside, KeepsFiles, Puts}
use Rattle.dm_words.specs.Requests.{RunRequest, run}
use Rattle.dm_running.specs.Endings.{EndsRunAs}
use Rattle.dm_running.proofs.RunSteps.{run_earlier}
use Rattle.dm_sources.specs.declared.finding.NoUnit.{NoUnit}
use Rattle.dm_sources.specs.Sources.{HasUnit, HasNoUnit}
use Rattle.dm_sources.specs.Explanations.{line_without_unit, status_without_unit}
use Rattle.demacro.specs.Endings.{EndsForAs}

-- a unit that was found is run
pub program_found : (request : RunRequest) (project file : List ℕ) (unit : Source) (before middle after : Outside) (result : Result ℕ Memory) → project ≡ request.project → file ≡ request.file
    → HasUnit before.files project file unit → middle.files ≡ before.files → middle.written ≡ before.written → before.folder_faults ≤ middle.folder_faults → middle.sink_faults ≡ before.sink_faults
    → EndsRunAs request unit middle after result → EndsForAs (run request) before after result
program_found request project file unit before middle after (Ok status) is_project is_file has same_files same_written earlier same_faults ends =
    let there = subst (λ name. HasUnit before.files request.project name unit) is_file (subst (λ name. HasUnit before.files name file unit) is_project has) in
    inl (unit, there, (ends.0, ends.1, run_earlier request unit before middle after same_files same_written earlier same_faults ends.0 ends.2))
program_found request project file unit before middle after (Err error) is_project is_file has same_files same_written earlier same_faults ends =
    (ends.0 ∙ same_files, ends.1 ∙ same_written)

-- there is no unit, and it is explained why
pub program_missing : (request : RunRequest) (project file told_project told_file : List ℕ) (before after : Outside) (why : NoUnit) (result : Result ℕ Memory) → project ≡ request.project → file ≡ request.file
    → told_project ≡ project → told_file ≡ file → HasNoUnit before.files project file before.folder_faults after.folder_faults why
    → KeepsFiles before after → OnOk result (Puts before after (line_without_unit told_project told_file why)) → IfOk result (λ status. status ≡ status_without_unit why)
    → OnErr result (after.written ≡ before.written) → EndsForAs (run request) before after result
program_missing request project file told_project told_file before after why (Ok status) is_project is_file told_is told_file_is none keeps puts is unwritten =
    let nothing = subst (λ name. HasNoUnit before.files request.project name before.folder_faults after.folder_faults why) is_file
    (subst (λ name. HasNoUnit before.files name file before.folder_faults after.folder_faults why) is_project none) in
    let line = subst (λ name. Puts before after (line_without_unit request.project name why)) (told_file_is ∙ is_file)
    (subst (λ name. Puts before after (line_without_unit name told_file why)) (told_is ∙ is_project) puts) in
    inr (why, nothing, is, keeps, line)
program_missing request project file told_project told_file before after why (Err error) is_project is_file told_is told_file_is none keeps puts is unwritten = (keeps, unwritten)
