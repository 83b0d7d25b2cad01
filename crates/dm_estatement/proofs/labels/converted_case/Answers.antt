-- The value is converted before it is looked at.
use Rattle.std.proofs.Common.{ap₂, sym}
use Rattle.dm_typing.specs.Views.{view_over, known_over, source_of}
use Rattle.dm_typing.proofs.GivesLemmas.{grown, gives-so}
use Rattle.dm_edecl.specs.Statements.{case_value}
use Rattle.dm_estatement.specs.declared.labels.CaseValue.{CaseValue}
use Rattle.dm_estatement.specs.Parts.{case_over, labels_of}
use Rattle.dm_estatement.proofs.labels.converted_case.Goals as goal

pub returns-clause-gives : goal.returns-clause-gives
returns-clause-gives c = λ later begins.
    let new = c.as_kind.new.known in
    let labels = labels_of c.args.labels.now in
    gives-so {A = CaseValue} (case_over later) (source_of c.args.typer.now) (known_over later new) c.case_value.result
    (case_value (known_over later new) labels c.args.here (view_over later c.in_ok-converted.converted)) _
    (ap₂ (λ known tree. case_value known labels c.args.here tree) (sym (grown later c.args.known.now new c.as_kind.ensures.grows)) (c.in_ok-converted.ensures.value later begins))
    (c.case_value.ensures.gives later begins)
