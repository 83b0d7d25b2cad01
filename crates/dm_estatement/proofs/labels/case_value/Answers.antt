-- By the value of the constant expression, and whether a label has it.
use Rattle.std.specs.Prelude.{◌≡◌, Some, not}
use Rattle.std.proofs.Common.{rules, ap, sym, ◌∙◌, to_z, of_z}
use mir.Syntax.{w128}
use Rattle.dm_typing.specs.Conversions.{constant_of}
use Rattle.dm_typing.specs.Known.{given, obeys}
use Rattle.dm_typing.specs.Views.{view_over, known_over, source_of}
use Rattle.dm_typing.proofs.GivesLemmas.{found-it, found-none, refused}
use Rattle.dm_typing.proofs.ValueLemmas.{constant-later}
use Rattle.dm_edecl.specs.Statements.{is_label_among}
use Rattle.dm_estatement.specs.declared.labels.CaseValue.{CaseValue}
use Rattle.dm_estatement.specs.Parts.{case_over, labels_of}
use Rattle.dm_estatement.proofs.labels.case_value.Goals as goal

pub returns-in-None-clause-gives : goal.returns-in-None-clause-gives
returns-in-None-clause-gives c = λ later begins.
    let known = known_over later c.args.known.now in
    refused {A = CaseValue} (case_over later) (source_of c.args.typer.now) known _ 30 c.args.here c.broken.result
    (found-none (constant_of known (view_over later c.args.tree)) 30 c.args.here _ (constant-later c.args.known.now later c.args.tree begins c.requires ∙ (sym c.constant.ensures ∙ c.in-None.is)))
    c.broken.ensures

pub returns-then-have-clause-gives : goal.returns-then-have-clause-gives
returns-then-have-clause-gives c = λ later begins.
    let known = known_over later c.args.known.now in
    let tree = view_over later c.args.tree in
    let value = c.in-Some.value in
    let same : to_z w128 (of_z w128 value) ≡ value = search rules in
    refused {A = CaseValue} (case_over later) (source_of c.args.typer.now) known _ 31 c.args.here c.broken-then-have.result
    (found-it (constant_of known tree) value 30 c.args.here _ (constant-later c.args.known.now later c.args.tree begins c.requires ∙ (sym c.constant.ensures ∙ c.in-Some.is))
    ∙ ap (λ found. obeys (not found) 31 c.args.here (given known (record { tree = tree; value = value }))) (ap (λ z. is_label_among (Some z) (labels_of c.args.labels.now)) (sym same) ∙ (sym c.have.ensures ∙ c.if-have.true)))
    c.broken-then-have.ensures

pub returns-else-have-clause-gives : goal.returns-else-have-clause-gives
returns-else-have-clause-gives c = λ later begins.
    let known = known_over later c.args.known.now in
    let tree = view_over later c.args.tree in
    let value = c.in-Some.value in
    let same : to_z w128 (of_z w128 value) ≡ value = search rules in
    found-it (constant_of known tree) value 30 c.args.here _ (constant-later c.args.known.now later c.args.tree begins c.requires ∙ (sym c.constant.ensures ∙ c.in-Some.is))
    ∙ ap (λ found. obeys (not found) 31 c.args.here (given known (record { tree = tree; value = value }))) (ap (λ z. is_label_among (Some z) (labels_of c.args.labels.now)) (sym same) ∙ (sym c.have.ensures ∙ c.if-have.false))
    ∙ ap (λ z. given known (record { tree = tree; value = z })) (sym same)
