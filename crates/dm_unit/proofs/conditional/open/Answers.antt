use Rattle.std.proofs.Common.{sym, ◌∙◌, subst}
use Rattle.dm_unit.specs.declared.section.Stage.{Stage}
use Rattle.dm_unit.specs.Loaders.{shown}
use Rattle.dm_unit.specs.Readings.{pushed}
use Rattle.dm_unit.specs.Views.{state_of, LeadsTo, TestsBy}
use Rattle.dm_unit.proofs.StepLemmas.{opens-skipped, opens-tested}
use Rattle.dm_unit.proofs.conditional.open.Goals as goal

pub returns-then-not-is_read-clause-does : goal.returns-then-not-is_read-clause-does
returns-then-not-is_read-clause-does c =
    let files = shown c.args.loader.now in
    let state = state_of c.args.reader.now files in
    opens-skipped c.args.start.now state (TestsBy c.args.directive c.args.reader.now.main c.args.start.now c.args.operands.now state) c.push.result (state_of c.push.new.reader files)
    (sym c.is_read.ensures ∙ c.if-not-is_read.true) (c.push.ensures.leads files)

pub returns-in-Ok-clause-does : goal.returns-in-Ok-clause-does
returns-in-Ok-clause-does c =
    let files = shown c.args.loader.now in
    let state = state_of c.args.reader.now files in
    opens-tested c.args.start.now state (state_of c.test.new.reader files) c.in-Ok.truth (TestsBy c.args.directive c.args.reader.now.main c.args.start.now c.args.operands.now state) c.push-in-Ok.result
    (state_of c.push-in-Ok.new.reader files) (sym c.is_read.ensures ∙ c.if-not-is_read.false) c.in-Ok.ensures.tests
    (subst (λ (stage : Stage). LeadsTo (pushed c.args.start.now.place stage (state_of c.test.new.reader files)) c.push-in-Ok.result (state_of c.push-in-Ok.new.reader files)) c.stage_by.ensures (c.push-in-Ok.ensures.leads files))
