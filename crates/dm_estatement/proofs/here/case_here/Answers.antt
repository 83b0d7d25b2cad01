-- What is typed is typed where the statement stands.
use Rattle.std.specs.Prelude.{List, refl}
use Rattle.dm_type.specs.declared.shape.Shape.{Shape}
use Rattle.dm_syn.specs.Views as syntax
use Rattle.dm_typing.specs.Known.{Known}
use Rattle.dm_typing.specs.Views.{source_of, setting_of}
use Rattle.dm_edecl.specs.Statements.{typed_case}
use Rattle.dm_estatement.specs.Parts.{case_over, CaseFits, labels_of}
use Rattle.dm_estatement.proofs.CallLemmas.{typed-here}
use Rattle.dm_estatement.proofs.FollowLemmas.{case-keeps, case-trees}
use Rattle.dm_estatement.proofs.here.case_here.Goals as goal

pub returns-clause-proceeds : goal.returns-clause-proceeds
returns-clause-proceeds c =
    let setting = setting_of c.args.typer.now in
    typed-here CaseFits case_over (source_of c.args.typer.now) c.args.standing.now _ (λ (later : List Shape) (known : Known). typed_case setting known c.args.kind (labels_of c.args.labels.now) (syntax.expr c.args.expr.now)) refl refl
    (λ later known. case-keeps setting known c.args.kind (labels_of c.args.labels.now) (syntax.expr c.args.expr.now)) (λ later known. case-trees setting known c.args.kind (labels_of c.args.labels.now) (syntax.expr c.args.expr.now)) c.typed_case.result c.typed_case.ensures.follows
