use Rattle.std.proofs.Common.{refl, Ok}
use Rattle.dm_macro.specs.Bodies.{parts_of}
use Rattle.dm_expand.specs.Substitution.{Filled}
use Rattle.dm_expand.specs.Views.{pieces_in}
use Rattle.dm_expand.specs.ListViews.{fills}
use Rattle.dm_expand.specs.Works.{put_together, completed}
use Rattle.dm_expand.proofs.StepLemmas.{stops_handed_each}
use Rattle.dm_expand.proofs.WorkLemmas.{leave-is, leave-stops}
use Rattle.dm_expand.proofs.machine.leave.Goals as goal

pub returns-in_err-tokens-clause-stop : goal.returns-in_err-tokens-clause-stop
returns-in_err-tokens-clause-stop c =
    let site = c.args.filling.site in
    let hidden = c.args.filling.hidden in
    let definition = c.args.filling.body.definition.now in
    let pieces : Filled = fills (pieces_in c.args.filling.pieces) c.args.progress.now in
    stops_handed_each c.from_residual.result c.in_err-tokens.field-0.0 (λ macros. put_together site hidden (parts_of definition) pieces) (λ macros. completed macros c.args.level.now site hidden definition (Ok pieces)) c.from_residual.ensures.1
    (λ macros other is. leave-stops macros c.args.level.now site hidden definition pieces other is)
    (λ macros. c.in_err-tokens.ensures.stop)

pub returns-clause-ok : goal.returns-clause-ok
returns-clause-ok c = λ macros.
    leave-is macros c.args.level.now (record { rest = c.put_before.new.self; out = c.args.level.now.out }) c.args.filling.site c.args.filling.hidden c.args.filling.body.definition.now
    (fills (pieces_in c.args.filling.pieces) c.args.progress.now) c.in_ok-tokens.tokens.items c.complete.new.progress
    c.in_ok-tokens.ensures.ok c.in_ok-put_before.ensures refl
