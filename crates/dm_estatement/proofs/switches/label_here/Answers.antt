-- The value is a label from there on.
use Rattle.std.specs.Prelude.{◌≡◌, List, ◌∷◌, Some}
use Rattle.std.proofs.Common.{rules, ap, ◌∙◌, to_z, of_z}
use mir.Syntax.{w128}
use Rattle.dm_type.specs.declared.shape.Shape.{Shape}
use Rattle.dm_syn.specs.Views as syntax
use Rattle.dm_typing.specs.Views.{view_over, source_of, setting_of}
use Rattle.dm_edecl.specs.Standing.{Standing, goes_on, typing}
use Rattle.dm_edecl.specs.Statements.{CaseValue, typed_case}
use Rattle.dm_estanding.proofs.ProceedingLemmas.{typing-further}
use Rattle.dm_estatement.specs.Parts.{case_over, CaseFits, labels_of, labelled_over, LabelledFits, labelled_value, typed_label}
use Rattle.dm_estatement.proofs.CallLemmas.{single-fails, single-made}
use Rattle.dm_estatement.proofs.switches.label_here.Goals as goal

pub returns-in_err-one : goal.returns-in_err-one
returns-in_err-one c =
    let setting = setting_of c.args.typer.now in
    let labels = labels_of c.args.labels in
    let expr = syntax.expr c.args.expr.now in
    single-fails CaseFits case_over LabelledFits labelled_over (source_of c.args.typer.now) c.args.standing.now (λ (later : List Shape) (before : Standing). typed_label setting c.args.kind labels before expr)
    (λ (later : List Shape) (before : Standing). typing before (typed_case setting before.known c.args.kind labels expr) (λ behind it. goes_on behind it)) (λ (later : List Shape) (one : CaseValue). labelled_value one labels)
    (λ later before. typing-further before (typed_case setting before.known c.args.kind labels expr) (λ behind it. goes_on behind it) (λ behind one. goes_on behind (labelled_value one labels)))
    c.case_here.new.standing c.in_err-one.field-0.0 c.in_err-one.ensures.proceeds c.from_residual.result c.from_residual.ensures.1

pub returns : goal.returns
returns c =
    let setting = setting_of c.args.typer.now in
    let labels = labels_of c.args.labels in
    let expr = syntax.expr c.args.expr.now in
    let one = c.in_ok-one.one in
    let same : to_z w128 (of_z w128 one.value) ≡ one.value = search rules in
    single-made CaseFits case_over LabelledFits labelled_over (source_of c.args.typer.now) c.args.standing.now (λ (later : List Shape) (before : Standing). typed_label setting c.args.kind labels before expr)
    (λ (later : List Shape) (before : Standing). typing before (typed_case setting before.known c.args.kind labels expr) (λ behind it. goes_on behind it)) (λ (later : List Shape) (one : CaseValue). labelled_value one labels)
    (λ later before. typing-further before (typed_case setting before.known c.args.kind labels expr) (λ behind it. goes_on behind it) (λ behind one. goes_on behind (labelled_value one labels)))
    c.case_here.new.standing one c.in_ok-one.ensures.proceeds _
    (λ later on. ap (λ found. record { tree = view_over later one.tree; labels = found }) (c.in_ok-labels.ensures ∙ ap (λ value. Some value ∷ labels) same)) c.in_ok-one.ensures.proceeds.numbered
