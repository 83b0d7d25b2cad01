-- From what is found of a project's units to how a call for its plan ends.
use Rattle.std.proofs.Common.{◌≡◌, ℕ, Bool, ◌≤◌, inl, inr, List, Result, Ok, Err, IfOk, OnOk, OnErr, subst}
use Rattle.dm_token.specs.declared.stop.Memory.{Memory}
use Rattle.dm_token.specs.declared.unit.Unit.{Unit as Source}
use Rattle.dm_lines.specs.Outside.{Outside, KeepsFiles, Puts}
use Rattle.dm_words.specs.Requests.{plan as to_plan, apply as to_apply}
use Rattle.dm_sources.specs.declared.project.NoSources.{NoSources}
use Rattle.dm_sources.specs.Sources.{IsProject, HasNoSources}
use Rattle.dm_sources.specs.Explanations.{line_without_sources, status_without_sources}
use Rattle.dm_apply.specs.Endings.{PlanEnding, memory_wanted, ApplyEnding, unready, EndsPlanning, EndsPlanningAs, EndsApplying, EndsApplyingAs}
use Rattle.dm_apply.proofs.LaterLemmas.{plan_too, apply_too}
use Rattle.demacro.specs.Endings.{EndsForAs, LacksUnits}

-- what holds from a later moment on, at which the files and the output are as before
module _ (json : Bool) (project : List ℕ) (units : List Source) (before middle after : Outside) (same_files : middle.files ≡ before.files) (same_written : middle.written ≡ before.written)
    (earlier : before.folder_faults ≤ middle.folder_faults) (same_faults : middle.sink_faults ≡ before.sink_faults) where
  plan_later : (ending : PlanEnding) → EndsPlanning json project units middle after ending → EndsPlanning json project units before after ending
  plan_later = plan_too json project units before middle after same_files same_written earlier same_faults

  apply_later : (ending : ApplyEnding) → EndsApplying json project units middle after ending → EndsApplying json project units before after ending
  apply_later = apply_too json project units before middle after same_files same_written earlier same_faults

  -- units that were found are planned, and changed
  pub plan_found : (named : List ℕ) (result : Result ℕ Memory) → project ≡ named → IsProject before.files project units → EndsPlanningAs json project units middle after result
      → EndsForAs (to_plan named json) before after result
  plan_found named (Ok status) same is ends =
      subst (λ name. EndsForAs (to_plan name json) before after (Ok status)) same (inl (units, is, (ends.0, ends.1, plan_later ends.0 ends.2)))
  plan_found named (Err error) same is ends = plan_later memory_wanted ends

  pub apply_found : (named : List ℕ) (result : Result ℕ Memory) → project ≡ named → IsProject before.files project units → EndsApplyingAs json project units middle after result
      → EndsForAs (to_apply named json) before after result
  apply_found named (Ok status) same is ends =
      subst (λ name. EndsForAs (to_apply name json) before after (Ok status)) same (inl (units, is, (ends.0, ends.1, apply_later ends.0 ends.2)))
  apply_found named (Err error) same is ends = apply_later unready ends

-- there are no units, and it is explained why
lacks_units : (project told : List ℕ) (before after : Outside) (why : NoSources) (status : ℕ) → HasNoSources before.files project before.folder_faults after.folder_faults why → KeepsFiles before after
    → told ≡ project → Puts before after (line_without_sources told why) → status ≡ status_without_sources why → LacksUnits project before after status
lacks_units project told before after why status none keeps same puts is =
    (why, none, is, keeps, subst (λ name. Puts before after (line_without_sources name why)) same puts)

module _ (json : Bool) (project told named : List ℕ) (before after : Outside) (why : NoSources) (none : HasNoSources before.files project before.folder_faults after.folder_faults why)
    (keeps : KeepsFiles before after) (same_told : told ≡ project) (same : project ≡ named) where
  pub plan_missing : (result : Result ℕ Memory) → OnOk result (Puts before after (line_without_sources told why)) → IfOk result (λ status. status ≡ status_without_sources why)
      → OnErr result (after.written ≡ before.written) → EndsForAs (to_plan named json) before after result
  plan_missing (Ok status) puts is unwritten =
      inr (subst (λ name. LacksUnits name before after status) same (lacks_units project told before after why status none keeps same_told puts is))
  plan_missing (Err error) puts is unwritten = (keeps, unwritten)

  pub apply_missing : (result : Result ℕ Memory) → OnOk result (Puts before after (line_without_sources told why)) → IfOk result (λ status. status ≡ status_without_sources why)
      → OnErr result (after.written ≡ before.written) → EndsForAs (to_apply named json) before after result
  apply_missing (Ok status) puts is unwritten =
      inr (subst (λ name. LacksUnits name before after status) same (lacks_units project told before after why status none keeps same_told puts is))
  apply_missing (Err error) puts is unwritten = (keeps, unwritten)
