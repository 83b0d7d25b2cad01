-- Where the application of a project is done, its plan was applied.
use Rattle.std.proofs.Common.{◌≡◌, ℕ, Bool, inl, inr, List, Some, None, sym, ◌∙◌, subst, arith}
use Rattle.dm_token.specs.declared.stop.Stop.{Stop}
use Rattle.dm_token.specs.declared.stop.Stop.TheVariants as stop
use Rattle.dm_token.specs.declared.unit.Unit.{Unit as Source}
use Rattle.dm_lines.specs.Outside.{Outside}
use Rattle.dm_lines.specs.Statuses as statuses
use Rattle.dm_lines.specs.Stops.{status_of_stop}
use Rattle.dm_manifest.specs.declared.fault.ManifestFault.{ManifestFault}
use Rattle.dm_manifest.specs.declared.fault.ManifestFault.TheVariants as fault
use Rattle.dm_words.specs.Requests.{Request, apply, AsksFor}
use Rattle.dm_sources.specs.declared.project.NoSources.{NoSources}
use Rattle.dm_sources.specs.declared.project.NoSources.TheVariants.{ProjectName, NoManifest, TooLong, ReadFault, Manifest}
use Rattle.dm_sources.specs.Explanations.{status_of_fault, status_without_sources}
use Rattle.dm_sources.specs.Sources.{IsProject}
use Rattle.dm_apply.specs.Endings.{ApplyEnding, applied, write_failed, output_failed, unplanned, unready, status_of_apply, EndsApplying}
use Rattle.demacro.specs.Applied.{IsApplied}
use Rattle.demacro.specs.Endings.{Ends, EndsFor}

-- ---- what isn't done has another status

stop_not_done : (why : Stop) → statuses.done ≡ status_of_stop why → ⊥
stop_not_done stop.Memory e = absurd (omega (arith, e))
stop_not_done (stop.Refused refusal) e = absurd (omega (arith, e))
stop_not_done (stop.Limit limit) e = absurd (omega (arith, e))
stop_not_done (stop.ReadFault file) e = absurd (omega (arith, e))

fault_not_done : (why : ManifestFault) → statuses.done ≡ status_of_fault why → ⊥
fault_not_done fault.Memory e = absurd (omega (arith, e))
fault_not_done fault.Json e = absurd (omega (arith, e))
fault_not_done (fault.Shape path) e = absurd (omega (arith, e))
fault_not_done (fault.Name path) e = absurd (omega (arith, e))
fault_not_done (fault.Define path) e = absurd (omega (arith, e))
fault_not_done (fault.Twice path) e = absurd (omega (arith, e))
fault_not_done fault.TooMany e = absurd (omega (arith, e))

lacking_not_done : (why : NoSources) → statuses.done ≡ status_without_sources why → ⊥
lacking_not_done ProjectName e = absurd (omega (arith, e))
lacking_not_done NoManifest e = absurd (omega (arith, e))
lacking_not_done TooLong e = absurd (omega (arith, e))
lacking_not_done ReadFault e = absurd (omega (arith, e))
lacking_not_done (Manifest why) e = fault_not_done why e

-- ---- what is done

module _ (project : List ℕ) (json : Bool) (before after : Outside) where
  applied_by : (units : List Source) → IsProject before.files project units → (end : ApplyEnding) → statuses.done ≡ status_of_apply end → EndsApplying json project units before after end
      → IsApplied project json before after
  applied_by units is (applied plan) done ends = (units, plan, is, ends)
  applied_by units is (write_failed plan written file left) done ends = absurd (omega (arith, done))
  applied_by units is (output_failed plan) done ends = absurd (omega (arith, done))
  applied_by units is (unplanned why files) done ends = absurd (stop_not_done why done)
  applied_by units is unready done ends = absurd (omega (arith, done))

  applied_as : (status : ℕ) → status ≡ statuses.done → EndsFor (apply project json) before after status → IsApplied project json before after
  applied_as status done (inl ends) = applied_by ends.0 ends.1 ends.2.0 (sym done ∙ ends.2.1) ends.2.2
  applied_as status done (inr lacks) = absurd (lacking_not_done lacks.0 (sym done ∙ lacks.2))

  pub applied_for : ((w : List (List ℕ)) (a b : Request) → AsksFor w a → AsksFor w b → a ≡ b) → (words : List (List ℕ)) (status : ℕ) → Ends words before after status
      → AsksFor words (apply project json) → status ≡ statuses.done → IsApplied project json before after
  applied_for once words status (inr wanting) asks done = let eight = wanting.0 in absurd (omega (arith, done, eight))
  applied_for once words status (inl (None, none, ends)) asks done = absurd (none (apply project json) asks)
  applied_for once words status (inl (Some other, asks_other, ends)) asks done =
      applied_as status done (subst (λ (asked : Request). EndsFor asked before after status) (once words other (apply project json) asks_other asks) ends)
