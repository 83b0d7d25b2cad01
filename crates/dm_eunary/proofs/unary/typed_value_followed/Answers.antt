-- The operator has the value of the operand.
use Rattle.std.proofs.Common.{ap₂, sym}
use Rattle.dm_tree.specs.declared.tree.Core.{Core}
use Rattle.dm_typing.specs.Conversions.{as_value}
use Rattle.dm_typing.specs.Typing.{typed_follow}
use Rattle.dm_typing.specs.Views.{view_over, known_over, source_of, setting_of}
use Rattle.dm_typing.proofs.GivesLemmas.{grown, gives-so}
use Rattle.dm_eunary.proofs.unary.typed_value_followed.Goals as goal

pub returns-clause-gives : goal.returns-clause-gives
returns-clause-gives c = λ later begins.
    let setting = setting_of c.args.typer.now in
    let first = known_over later c.args.known.now in
    let second = known_over later c.as_value.new.known in
    gives-so {A = Core} (view_over later) (source_of c.args.typer.now) second c.typed_follow.result
    (typed_follow setting second c.args.at (view_over later c.in_ok-operand.operand)) (typed_follow setting first c.args.at (as_value (view_over later c.args.operand)))
    (ap₂ (λ known tree. typed_follow setting known c.args.at tree) (sym (grown later c.args.known.now c.as_value.new.known c.as_value.ensures.grows))
    (c.in_ok-operand.ensures.value later begins))
    (c.typed_follow.ensures.gives later begins)
