use Rattle.std.proofs.Common.{◌∷◌, true≢false, sym, ap, ◌∙◌}
use Rattle.dm_unit.specs.declared.section.Stage.{Stage}
use Rattle.dm_unit.specs.Loaders.{shown}
use Rattle.dm_unit.specs.Conditions.{Evaluates}
use Rattle.dm_unit.specs.Readings.{within}
use Rattle.dm_unit.specs.Views.{state_of}
use Rattle.dm_unit.proofs.StepLemmas.{before-else, elif-tested, elif-skipped, elif-stopped}
use Rattle.dm_unit.proofs.conditional.elif.Goals as goal

pub returns-then-not-is_waiting-clause-does : goal.returns-then-not-is_waiting-clause-does
returns-then-not-is_waiting-clause-does c =
    let files = shown c.args.loader.now in
    let state = state_of c.args.reader.now files in
    let here = before-else c.args.reader.now.sections c.in-Ok.section c.in-Ok.ensures.section in
    elif-skipped c.args.start.now c.args.reader.now.sections c.in-Ok.section here.0 (Evaluates c.args.reader.now.main c.args.start.now c.args.operands.now state) state (state_of c.change.new.reader files) here.1 here.2
    (λ waiting. true≢false (sym (c.is_waiting.ensures.1 waiting) ∙ c.if-not-is_waiting.true)) (c.change.ensures.changed files here.0 here.1)

pub returns-in-Ok-evaluate-clause-does : goal.returns-in-Ok-evaluate-clause-does
returns-in-Ok-evaluate-clause-does c =
    let files = shown c.args.loader.now in
    let state = state_of c.args.reader.now files in
    let middle = state_of c.evaluate.new.reader files in
    let here = before-else c.args.reader.now.sections c.in-Ok.section c.in-Ok.ensures.section in
    elif-tested c.args.start.now c.args.reader.now.sections c.in-Ok.section here.0 (Evaluates c.args.reader.now.main c.args.start.now c.args.operands.now state) state middle
    (state_of c.change-in-Ok-evaluate.new.reader files) c.in-Ok-evaluate.truth here.1 here.2 (c.is_waiting.ensures.0 c.if-not-is_waiting.false) c.in-Ok-evaluate.ensures.tests
    (c.change-in-Ok-evaluate.ensures.changed files here.0 (c.in-Ok-evaluate.ensures.sections ∙ here.1)
    ∙ ap (λ (stage : Stage). within (record c.in-Ok.section { stage = stage } ∷ here.0) middle) c.stage_by.ensures)

pub returns-in-Err-evaluate-clause-does : goal.returns-in-Err-evaluate-clause-does
returns-in-Err-evaluate-clause-does c =
    let files = shown c.args.loader.now in
    let state = state_of c.args.reader.now files in
    let here = before-else c.args.reader.now.sections c.in-Ok.section c.in-Ok.ensures.section in
    elif-stopped c.args.start.now c.args.reader.now.sections c.in-Ok.section here.0 (Evaluates c.args.reader.now.main c.args.start.now c.args.operands.now state) state c.in-Err-evaluate.stop here.1 here.2
    (c.is_waiting.ensures.0 c.if-not-is_waiting.false) c.in-Err-evaluate.ensures.tests
