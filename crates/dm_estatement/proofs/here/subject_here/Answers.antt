-- What is typed is typed where the statement stands.
use Rattle.std.specs.Prelude.{List, refl}
use Rattle.dm_type.specs.declared.shape.Shape.{Shape}
use Rattle.dm_syn.specs.Views as syntax
use Rattle.dm_typing.specs.Known.{Known}
use Rattle.dm_typing.specs.Views.{source_of, setting_of}
use Rattle.dm_edecl.specs.Statements.{typed_subject}
use Rattle.dm_estatement.specs.Parts.{subject_over, SubjectFits}
use Rattle.dm_estatement.proofs.CallLemmas.{typed-here}
use Rattle.dm_estatement.proofs.FollowLemmas.{subject-keeps, subject-trees}
use Rattle.dm_estatement.proofs.here.subject_here.Goals as goal

pub returns : goal.returns
returns c =
    let setting = setting_of c.args.typer.now in
    typed-here SubjectFits subject_over (source_of c.args.typer.now) c.args.standing.now _ (λ (later : List Shape) (known : Known). typed_subject setting known (syntax.expr c.args.expr.now)) refl refl
    (λ later known. subject-keeps setting known (syntax.expr c.args.expr.now)) (λ later known. subject-trees setting known (syntax.expr c.args.expr.now)) c.typed_subject.result c.typed_subject.ensures
