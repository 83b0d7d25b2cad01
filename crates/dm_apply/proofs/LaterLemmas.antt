-- What the end of a call for a plan says from a later moment on, at which the files and the output are as before, it says from the earlier one on.
use Rattle.std.proofs.Common.{◌≡◌, ◌∙◌, ℕ, Bool, ◌≤◌, List, subst, arith}
use Rattle.dm_token.specs.declared.stop.Stop.{Stop}
use Rattle.dm_token.specs.declared.unit.Unit.{Unit as Source}
use Rattle.dm_io.specs.Output.{appended, MayHaveAppended}
use Rattle.dm_io.specs.Files.{MayHaveSpoiled}
use Rattle.dm_io.specs.Faults.{Rose}
use Rattle.dm_search.specs.Loaded.{Loaded}
use Rattle.dm_edit.specs.declared.plan.Plan.{Plan}
use Rattle.dm_lines.specs.Outside.{Outside, KeepsFiles, Puts}
use Rattle.dm_lines.specs.Puts.{PutsText}
use Rattle.dm_last.specs.Last.{with_files}
use Rattle.dm_promise.specs.Promises.{KeepsToldPrograms}
use Rattle.dm_apply.specs.Plans.{Plans, StopsPlanning, report}
use Rattle.dm_apply.specs.Endings.{PlanEnding, planned, report_failed, stopped, memory_wanted, ApplyEnding, applied, write_failed, output_failed, unplanned, unready, EndsPlanning, EndsApplying, ExplainsStop}

-- faults that rose since a later moment rose since an earlier one
pub Rose-earlier : (before middle after : ℕ) → before ≤ middle → Rose middle after → Rose before after
Rose-earlier before middle after order rose = omega arith

-- what holds from a later moment on, at which the files and the output are as before
module _ (json : Bool) (project : List ℕ) (units : List Source) (before middle after : Outside) (same_files : middle.files ≡ before.files) (same_written : middle.written ≡ before.written)
    (earlier : before.folder_faults ≤ middle.folder_faults) (same_faults : middle.sink_faults ≡ before.sink_faults) where
  keeps_too : KeepsFiles middle after → KeepsFiles before after
  keeps_too keeps = keeps ∙ same_files

  plans_too : (plan : Plan) → Plans middle.files units plan → Plans before.files units plan
  plans_too plan = subst (λ told. Plans told units plan) same_files

  programs_too : (plan : Plan) → KeepsToldPrograms middle.files after.files units plan → KeepsToldPrograms before.files after.files units plan
  programs_too plan = subst (λ told. KeepsToldPrograms told after.files units plan) same_files

  rose_too : Rose middle.folder_faults after.folder_faults → Rose before.folder_faults after.folder_faults
  rose_too = Rose-earlier before.folder_faults middle.folder_faults after.folder_faults earlier

  puts_too : (text : List ℕ) → Puts middle after text → Puts before after text
  puts_too text put =
      subst (λ faults. PutsText before.written after.written faults after.sink_faults text) same_faults
      (subst (λ told. PutsText told after.written middle.sink_faults after.sink_faults text) same_written put)

  reports_too : (text : List ℕ) → after.written ≡ appended middle.written text → after.written ≡ appended before.written text
  reports_too text = subst (λ told. after.written ≡ appended told text) same_written

  fails_too : Rose middle.sink_faults after.sink_faults → Rose before.sink_faults after.sink_faults
  fails_too = subst (λ faults. Rose faults after.sink_faults) same_faults

  appends_too : (text : List ℕ) → MayHaveAppended middle.written after.written text → MayHaveAppended before.written after.written text
  appends_too text = subst (λ told. MayHaveAppended told after.written text) same_written

  stop_too : (stop : Stop) (files : Loaded) → ExplainsStop project units middle after stop files → ExplainsStop project units before after stop files
  stop_too stop files ends =
      (subst (λ told. StopsPlanning told units stop files) same_files ends.0, λ file is. (rose_too (ends.1 file is).0, (ends.1 file is).1), keeps_too ends.2, puts_too _ ends.3)

  pub plan_too : (ending : PlanEnding) → EndsPlanning json project units middle after ending → EndsPlanning json project units before after ending
  plan_too (planned plan) ends = (plans_too plan ends.0, keeps_too ends.1, reports_too (report json plan) ends.2)
  plan_too (report_failed plan) ends = (plans_too plan ends.0, keeps_too ends.1, fails_too ends.2, appends_too (report json plan) ends.3)
  plan_too (stopped stop files) ends = stop_too stop files ends
  plan_too memory_wanted ends = (keeps_too ends.0, ends.1 ∙ same_written)

  pub apply_too : (ending : ApplyEnding) → EndsApplying json project units middle after ending → EndsApplying json project units before after ending
  apply_too (applied plan) ends =
      (plans_too plan ends.0, subst (λ told. after.files ≡ with_files told plan.files) same_files ends.1, reports_too (report json plan) ends.2, programs_too plan ends.3)
  apply_too (write_failed plan written file left) ends =
      (plans_too plan ends.0, ends.1, rose_too ends.2, subst (λ told. MayHaveSpoiled (with_files told written) after.files file.name) same_files ends.3, puts_too _ ends.4)
  apply_too (output_failed plan) ends =
      (plans_too plan ends.0, subst (λ told. after.files ≡ with_files told plan.files) same_files ends.1, fails_too ends.2, appends_too (report json plan) ends.3, programs_too plan ends.4)
  apply_too (unplanned stop files) ends = stop_too stop files ends
  apply_too unready ends = (keeps_too ends.0, ends.1 ∙ same_written)
