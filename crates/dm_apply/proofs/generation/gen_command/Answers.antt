-- The folder and the unit are the generated project.
use Rattle.std.proofs.Common.{◌∙◌, ◌∷◌, [], ap, Some, Ok, Err}
use Rattle.dm_io.specs.MemoryFolder.{files_of as files_in}
use Rattle.dm_io.specs.Files.{Files}
use Rattle.dm_token.specs.declared.unit.Unit.{Unit as Source}
use Rattle.dm_manifest.specs.Units.{alone}
use Rattle.dm_apply.proofs.EndingLemmas.{ends_summed_up, generating_stops}
use Rattle.dm_apply.proofs.SummaryLemmas.{all-lawful, of_project, sums_up}
use Rattle.dm_apply.proofs.generation.gen_command.Goals as goal

pub plan_once-requires-clause-lawful : goal.plan_once-requires-clause-lawful
plan_once-requires-clause-lawful g c = all-lawful c.in_ok-unit.unit c.in_ok-name.name c.in_ok-unit.ensures.alone c.in_ok-name.ensures

pub returns-in-Ok-clause-ending : goal.returns-in-Ok-clause-ending
returns-in-Ok-clause-ending g c =
    let plan = c.in-Ok.plan in
    let text = c.in_ok-summary-in-Ok.summary.items in
    let summed = sums_up c.args.n plan c.in_ok-name.name text c.size_of-old.result c.size_behind-new.result (files_in c.in_ok-files.files) c.items.result.now
    c.in_ok-name.ensures c.in_ok-files.ensures.files c.items.ensures c.size_of-old.ensures c.size_behind-new.ensures c.in_ok-summary-in-Ok.ensures in
    ends_summed_up c.args.n (g.S.Sink.written c.args.out.now) (g.S.Sink.written c.put_output.new.out) (g.S.Sink.faults c.args.out.now) (g.S.Sink.faults c.put_output.new.out)
    c.plan_once.new.loader plan c.deref.result.now c.put_output.result (c.deref.ensures.value ∙ summed)
    (of_project c.args.n (Some (files_in c.new-folder.result.folder)) (c.in_ok-unit.unit ∷ []) (Ok plan) c.plan_once.new.loader (ap (λ (files : Files). Some files) (ap files_in c.new-folder.ensures ∙ c.in_ok-files.ensures.files))
    (ap (λ (unit : Source). unit ∷ []) (c.in_ok-unit.ensures.alone ∙ ap alone c.in_ok-name.ensures)) c.in-Ok.ensures.plan)
    c.put_output.ensures.put c.put_output.ensures.err

pub returns-clause-ending : goal.returns-clause-ending
returns-clause-ending g c =
    generating_stops c.args.n (g.S.Sink.written c.args.out.now) (g.S.Sink.written c.explain_no_plan.new.out) (g.S.Sink.faults c.args.out.now) (g.S.Sink.faults c.explain_no_plan.new.out)
    c.plan_once.new.loader c.in-Err.stop c.bytes.result.now c.names.result.now c.explain_no_plan.result (c.bytes.ensures ∙ c.in_ok-name.ensures) c.names.ensures.names
    (of_project c.args.n (Some (files_in c.new-folder.result.folder)) (c.in_ok-unit.unit ∷ []) (Err c.in-Err.stop) c.plan_once.new.loader (ap (λ (files : Files). Some files) (ap files_in c.new-folder.ensures ∙ c.in_ok-files.ensures.files))
    (ap (λ (unit : Source). unit ∷ []) (c.in_ok-unit.ensures.alone ∙ ap alone c.in_ok-name.ensures)) c.in-Err.ensures.plan)
    c.in-Err.ensures.cause c.explain_no_plan.ensures.put c.explain_no_plan.ensures.status c.explain_no_plan.ensures.err
