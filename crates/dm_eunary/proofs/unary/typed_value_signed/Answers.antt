-- The operator has the value of the operand.
use Rattle.std.proofs.Common.{ap₂, sym}
use Rattle.dm_tree.specs.declared.tree.Core.{Core}
use Rattle.dm_typing.specs.Conversions.{as_value}
use Rattle.dm_typing.specs.Typing.{typed_sign}
use Rattle.dm_typing.specs.Views.{view_over, known_over, source_of, setting_of}
use Rattle.dm_typing.proofs.GivesLemmas.{grown, gives-so, grows-on}
use Rattle.dm_typing.proofs.LaterLemmas.{begins-on}
use Rattle.dm_eunary.proofs.unary.typed_value_signed.Goals as goal

pub returns-clause-gives : goal.returns-clause-gives
returns-clause-gives c = λ later begins.
    let setting = setting_of c.args.typer.now in
    let first = known_over later c.args.known.now in
    let second = known_over later c.as_value.new.known in
    gives-so {A = Core} (view_over later) (source_of c.args.typer.now) (known_over later c.typed_sign.new.known) c.typed_sign.result
    (typed_sign setting second c.args.at c.args.operator (view_over later c.in_ok-operand.operand)) (typed_sign setting first c.args.at c.args.operator (as_value (view_over later c.args.operand)))
    (ap₂ (λ known tree. typed_sign setting known c.args.at c.args.operator tree) (sym (grown later c.args.known.now c.as_value.new.known c.as_value.ensures.grows))
    (c.in_ok-operand.ensures.value later
    (begins-on c.as_value.new.known.types.shapes c.typed_sign.new.known.types.shapes later c.typed_sign.ensures.grows.shapes begins)))
    (c.typed_sign.ensures.gives later begins)

pub returns-clause-grows : goal.returns-clause-grows
returns-clause-grows c =
    grows-on c.args.known.now c.as_value.new.known c.typed_sign.new.known c.as_value.ensures.grows c.typed_sign.ensures.grows
