use Rattle.std.proofs.Common.{List, drop, sym, ◌∙◌, subst}
use Rattle.dm_token.specs.declared.token.PpToken.{PpToken}
use Rattle.dm_unit.specs.declared.directive.Directive.{Directive}
use Rattle.dm_unit.specs.Conditions.{Evaluates}
use Rattle.dm_unit.specs.Loaders.{shown}
use Rattle.dm_unit.specs.Readings.{DoesElif, DoesDirective, Enters}
use Rattle.dm_unit.specs.Views.{state_of, Does}
use Rattle.dm_unit.proofs.StepLemmas.{behind-two, directive-opens, directive-read}
use Rattle.dm_unit.proofs.part.do_directive.Goals as goal

pub returns-in-If-clause-does : goal.returns-in-If-clause-does
returns-in-If-clause-does c = λ setting behind more mains bytes is.
    let files = shown c.args.loader.now in
    let state = state_of c.args.reader.now files in
    directive-opens setting more c.args.reader.now.main c.args.file c.args.directive c.args.start.now behind c.operands_of.result.now state c.open.result (state_of c.open.new.reader files)
    c.in-If.is mains (behind-two c.args.line.now c.args.start.now behind c.operands_of.result.now c.operands_of.ensures is) c.open.ensures.does

pub returns-in-Elif-clause-does : goal.returns-in-Elif-clause-does
returns-in-Elif-clause-does c = λ setting behind more mains bytes is.
    let files = shown c.args.loader.now in
    let state = state_of c.args.reader.now files in
    subst (λ (d : Directive). Does (DoesDirective setting (Enters setting more) c.args.file d c.args.start.now behind state) c.elif.result (state_of c.elif.new.reader files)) (sym c.in-Elif.is)
    (subst (λ main. Does (DoesElif c.args.start.now c.args.reader.now.sections (Evaluates main c.args.start.now (drop 1 behind) state) state) c.elif.result (state_of c.elif.new.reader files)) (sym mains)
    (subst (λ (operands : List PpToken). Does (DoesElif c.args.start.now c.args.reader.now.sections (Evaluates c.args.reader.now.main c.args.start.now operands state) state) c.elif.result (state_of c.elif.new.reader files))
    (behind-two c.args.line.now c.args.start.now behind c.operands_of-in-Elif.result.now c.operands_of-in-Elif.ensures is) c.elif.ensures.does))

pub returns-in-Else-clause-does : goal.returns-in-Else-clause-does
returns-in-Else-clause-does c = λ setting behind more mains bytes is.
    let files = shown c.args.loader.now in
    subst (λ (d : Directive). Does (DoesDirective setting (Enters setting more) c.args.file d c.args.start.now behind (state_of c.args.reader.now files)) c.otherwise.result (state_of c.otherwise.new.reader files))
    (sym c.in-Else.is) (c.otherwise.ensures.leads files)

pub returns-in-Endif-clause-does : goal.returns-in-Endif-clause-does
returns-in-Endif-clause-does c = λ setting behind more mains bytes is.
    let files = shown c.args.loader.now in
    subst (λ (d : Directive). Does (DoesDirective setting (Enters setting more) c.args.file d c.args.start.now behind (state_of c.args.reader.now files)) c.close.result (state_of c.close.new.reader files))
    (sym c.in-Endif.is) (c.close.ensures.leads files)

pub returns-then-is_read : goal.returns-then-is_read
returns-then-is_read c = record {
  does = λ setting behind more mains bytes is.
      let files = shown c.args.loader.now in
      directive-read setting more c.args.file c.args.directive c.args.start.now behind (state_of c.args.reader.now files) c.do_read.result (state_of c.do_read.new.reader files)
      (sym c.is_read.ensures ∙ c.if-is_read.true) c.in_default.not-If c.in_default.not-Ifdef c.in_default.not-Ifndef c.in_default.not-Elif c.in_default.not-Else c.in_default.not-Endif
      (c.do_read.ensures.does setting behind more mains bytes is);
  follows = c.do_read.ensures.follows;
  faultless = c.do_read.ensures.faultless;
}
