-- The value is typed first.
use Rattle.std.specs.Prelude.{List}
use Rattle.std.proofs.Common.{ap}
use Rattle.dm_token.specs.declared.place.Span.{Span}
use Rattle.dm_type.specs.declared.shape.Shape.{Shape}
use Rattle.dm_syn.specs.Views as syntax
use Rattle.dm_tree.specs.Constants.{integer_kind}
use Rattle.dm_tree.specs.Trees.{Tree, kind_of}
use Rattle.dm_typing.specs.Fitting.{IsNumbered}
use Rattle.dm_typing.specs.Known.{Known, given, after, if_given}
use Rattle.dm_typing.specs.Views.{view_over, known_over, source_of, setting_of}
use Rattle.dm_eexpr.proofs.CycleLemmas.{single-ends}
use Rattle.dm_eexpr.proofs.SyntaxViewLemmas.{span-expr}
use Rattle.dm_edecl.specs.Statements.{subject, typed_value, typed_subject}
use Rattle.dm_estatement.specs.Parts.{subject_over, SubjectFits}
use Rattle.dm_estatement.proofs.conditions.typed_subject.Goals as goal

pub returns : goal.returns
returns c =
    let setting = setting_of c.args.typer.now in
    let old = c.args.known.now in
    let expr = syntax.expr c.args.expr.now in
    single-ends IsNumbered view_over SubjectFits subject_over (source_of c.args.typer.now) old c.value_of.new.known c.integer_operand.new.known (λ later. typed_subject setting (known_over later old) expr)
    (λ (later : List Shape) (known : Known). typed_value setting known expr)
    (λ (later : List Shape) (behind : Known) (value : Tree). if_given (integer_kind (kind_of value)) 32 c.args.expr.now.span.first (λ kind. given behind (subject value kind)))
    (λ later. ap (λ (span : Span). after (typed_value setting (known_over later old) expr) (λ behind value. if_given (integer_kind (kind_of value)) 32 span.first (λ kind. given behind (subject value kind)))) (span-expr c.args.expr.now)) c.in_ok-value.value c.integer_operand.result c.in_ok-value.ensures
    (record { shapes = c.integer_operand.ensures.grows.shapes; numbered = c.integer_operand.ensures.numbered; gives = c.integer_operand.ensures.gives })
