use Rattle.std.proofs.Common.{sym, subst, List}
use Rattle.dm_token.specs.declared.token.PpToken.{PpToken}
use Rattle.dm_unit.specs.declared.directive.Directive.{Directive}
use Rattle.dm_unit.specs.Definitions.{after_undef}
use Rattle.dm_unit.specs.Readings.{DoesRead, Enters, after_pragma}
use Rattle.dm_unit.specs.Loaders.{shown}
use Rattle.dm_unit.specs.Views.{state_of, Does, LeadsTo}
use Rattle.dm_unit.proofs.StepLemmas.{read-define, held-bytes, behind-two}
use Rattle.dm_unit.proofs.part.do_read.Goals as goal

pub returns-in-Define-clause-does : goal.returns-in-Define-clause-does
returns-in-Define-clause-does c = λ setting behind more mains bytes is.
    let files = shown c.args.loader.now in
    read-define setting more c.args.reader.now.main c.args.file c.args.directive c.args.start.now behind (state_of c.args.reader.now files) c.define.result (state_of c.define.new.reader files) c.bytes.result.now
    c.in-Define.is mains (held-bytes setting c.args.loader.now c.args.file c.bytes.result.now bytes c.bytes.ensures) (c.define.ensures.leads files behind is)

pub returns-in-Undef-clause-does : goal.returns-in-Undef-clause-does
returns-in-Undef-clause-does c = λ setting behind more mains bytes is.
    let files = shown c.args.loader.now in
    subst (λ (d : Directive). Does (DoesRead setting (Enters setting more) c.args.file d c.args.start.now behind (state_of c.args.reader.now files)) c.undefine.result (state_of c.undefine.new.reader files)) (sym c.in-Undef.is)
    (subst (λ (operands : List PpToken). LeadsTo (after_undef c.args.start.now operands (state_of c.args.reader.now files)) c.undefine.result (state_of c.undefine.new.reader files))
    (behind-two c.args.line.now c.args.start.now behind c.operands_of.result.now c.operands_of.ensures is) (c.undefine.ensures.leads files))

pub returns-in-Pragma-clause-does : goal.returns-in-Pragma-clause-does
returns-in-Pragma-clause-does c = λ setting behind more mains bytes is.
    let files = shown c.args.loader.now in
    subst (λ (d : Directive). Does (DoesRead setting (Enters setting more) c.args.file d c.args.start.now behind (state_of c.args.reader.now files)) c.pragma.result (state_of c.pragma.new.reader files)) (sym c.in-Pragma.is)
    (subst (λ (operands : List PpToken). LeadsTo (after_pragma c.args.file c.args.start.now operands (state_of c.args.reader.now files)) c.pragma.result (state_of c.pragma.new.reader files))
    (behind-two c.args.line.now c.args.start.now behind c.operands_of-in-Pragma.result.now c.operands_of-in-Pragma.ensures is) (c.pragma.ensures.leads files))
