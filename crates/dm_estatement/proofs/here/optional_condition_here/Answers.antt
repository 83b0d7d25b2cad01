-- What is typed is typed where the statement stands.
use Rattle.std.specs.Prelude.{List, refl}
use Rattle.std.specs.Option.{option_map}
use Rattle.dm_type.specs.declared.shape.Shape.{Shape}
use Rattle.dm_syn.specs.Views as syntax
use Rattle.dm_typing.specs.Known.{Known}
use Rattle.dm_typing.specs.Views.{source_of, setting_of}
use Rattle.dm_edecl.specs.Statements.{typed_optional_condition}
use Rattle.dm_estatement.specs.Parts.{optional_over, OptionalFits}
use Rattle.dm_estatement.proofs.CallLemmas.{typed-here}
use Rattle.dm_estatement.proofs.FollowLemmas.{optional-condition-keeps, optional-condition-trees}
use Rattle.dm_estatement.proofs.here.optional_condition_here.Goals as goal

pub returns : goal.returns
returns c =
    let setting = setting_of c.args.typer.now in
    typed-here OptionalFits optional_over (source_of c.args.typer.now) c.args.standing.now _ (λ (later : List Shape) (known : Known). typed_optional_condition setting known (option_map syntax.expr c.args.expr.now)) refl refl
    (λ later known. optional-condition-keeps setting known (option_map syntax.expr c.args.expr.now)) (λ later known. optional-condition-trees setting known (option_map syntax.expr c.args.expr.now)) c.typed_optional_condition.result c.typed_optional_condition.ensures
