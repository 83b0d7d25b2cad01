-- What is typed is typed where the statement stands.
use Rattle.std.specs.Prelude.{List, refl}
use Rattle.dm_type.specs.declared.shape.Shape.{Shape}
use Rattle.dm_syn.specs.Views as syntax
use Rattle.dm_typing.specs.Fitting.{IsNumbered}
use Rattle.dm_typing.specs.Known.{Known}
use Rattle.dm_typing.specs.Views.{view_over, source_of, setting_of}
use Rattle.dm_edecl.specs.Statements.{typed_condition}
use Rattle.dm_estatement.proofs.CallLemmas.{typed-here}
use Rattle.dm_estatement.proofs.FollowLemmas.{condition-keeps, condition-trees}
use Rattle.dm_estatement.proofs.here.condition_here.Goals as goal

pub returns : goal.returns
returns c =
    let setting = setting_of c.args.typer.now in
    typed-here IsNumbered view_over (source_of c.args.typer.now) c.args.standing.now _ (λ (later : List Shape) (known : Known). typed_condition setting known (syntax.expr c.args.expr.now)) refl refl
    (λ later known. condition-keeps setting known (syntax.expr c.args.expr.now)) (λ later known. condition-trees setting known (syntax.expr c.args.expr.now)) c.typed_condition.result c.typed_condition.ensures
