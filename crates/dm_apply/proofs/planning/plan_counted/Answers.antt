-- The defines of lawful units are short, and a fault has the cause that the plan's has.
use Rattle.std.proofs.Common.{◌≡◌, ℕ, false, Result, Ok, Err, ap, subst}
use Rattle.std.specs.Prelude.{IfErr}
use Rattle.dm_token.specs.declared.stop.Stop.{Stop}
use Rattle.dm_edit.specs.declared.plan.Plan.{Plan}
use Rattle.dm_search.specs.Loaded.{Loaded, is_held}
use Rattle.dm_token.specs.declared.stop.Stop.TheVariants.{ReadFault}
use Rattle.dm_io.specs.Faults.{Rose}
use Rattle.dm_search.specs.Fresh.{fresh}
use Rattle.dm_apply.specs.Plans.{HasCause}
use Rattle.dm_apply.proofs.EndingLemmas.{all-short}
use Rattle.dm_apply.proofs.planning.plan_counted.Goals as goal

-- what is said of a fault where there is one
caused : (result : Result Plan Stop) (before after : ℕ) (old : Loaded) → old ≡ fresh → ((file : ℕ) → result ≡ Err (ReadFault file) → Rose before after) → ((file : ℕ) → result ≡ Err (ReadFault file) → is_held old file ≡ false)
    → IfErr result (λ stop. HasCause stop before after)
caused (Ok plan) before after old is rose unheld = tt
caused (Err stop) before after old is rose unheld = λ file fault. (rose file (ap Err fault), subst (λ (loaded : Loaded). is_held loaded file ≡ false) is (unheld file (ap Err fault)))

pub plan-requires-clause-short : goal.plan-requires-clause-short
plan-requires-clause-short g c = all-short c.args.units.now c.requires.lawful

pub returns-clause-cause : goal.returns-clause-cause
returns-clause-cause g c =
    caused c.plan.result (g.F.Folder.faults c.args.folder.now) (g.F.Folder.faults c.plan.new.folder) c.args.loader.now c.requires.fresh c.plan.ensures.failed c.plan.ensures.unheld
