use Rattle.std.proofs.Common.{◌≡◌, List, Result, Ok, ap, ◌∙◌, sym}
use Rattle.dm_token.specs.declared.stop.Stop.{Stop}
use Rattle.dm_expand.specs.declared.machine.Level as code_level
use Rattle.dm_expand.specs.Items.{Item}
use Rattle.dm_expand.specs.Steps.{Output}
use Rattle.dm_expand.specs.Expansion.{Macros}
use Rattle.dm_expand.specs.HeadViews.{macros_of}
use Rattle.dm_expand.specs.ListViews.{gives}
use Rattle.dm_expand.specs.Works.{completed_from, taken_up, outward}
use Rattle.dm_expand.proofs.StepLemmas.{stops_handed_as}
use Rattle.dm_expand.proofs.machine.take_up.Goals as goal

pub returns-in_err-filled-clause-stop : goal.returns-in_err-filled-clause-stop
returns-in_err-filled-clause-stop c =
    let macros : Macros = macros_of c.args.macros.now in
    let given : List Item → Result Output Stop = λ xs. taken_up macros c.args.waits (Ok (gives xs c.args.progress.now)) in
    let same : c.replace-out.result.out.items ≡ c.args.level.now.out.items = ap (λ (level : code_level.Level). level.out.items) c.replace-out.ensures.value in
    stops_handed_as c.from_residual.result c.in_err-filled.field-0.0 (given c.replace-out.result.out.items) _ c.from_residual.ensures.1
    (λ other is. ap given (sym same) ∙ is)
    (c.in_err-filled.ensures.stop c.args.waits.level)

pub returns-in_err-go_on-clause-stop : goal.returns-in_err-go_on-clause-stop
returns-in_err-go_on-clause-stop c =
    let macros : Macros = macros_of c.args.macros.now in
    let given : List Item → Result Output Stop = λ xs. taken_up macros c.args.waits (Ok (gives xs c.args.progress.now)) in
    let same : c.replace-out.result.out.items ≡ c.args.level.now.out.items = ap (λ (level : code_level.Level). level.out.items) c.replace-out.ensures.value in
    let starts : code_level.Level → Result Output Stop = λ level. completed_from macros level c.in_ok-filled.filled c.args.waits.whole.behind c.fill_in.new.progress in
    stops_handed_as c.from_residual-in_err-go_on.result c.in_err-go_on.field-0.0 (starts c.replace-out.new.dest) _ c.from_residual-in_err-go_on.ensures.1
    (λ other is. ap given (sym same) ∙ c.in_ok-filled.ensures.ok c.args.waits.level ∙ ap starts (sym c.replace-out.ensures.after) ∙ is)
    c.in_err-go_on.ensures.stop

pub returns-clause-ok : goal.returns-clause-ok
returns-clause-ok c =
    let macros : Macros = macros_of c.args.macros.now in
    let given : List Item → Result Output Stop = λ xs. taken_up macros c.args.waits (Ok (gives xs c.args.progress.now)) in
    let same : c.replace-out.result.out.items ≡ c.args.level.now.out.items = ap (λ (level : code_level.Level). level.out.items) c.replace-out.ensures.value in
    let starts : code_level.Level → Result Output Stop = λ level. completed_from macros level c.in_ok-filled.filled c.args.waits.whole.behind c.fill_in.new.progress in
    ap (outward macros c.args.waiting.now.items) (ap given (sym same) ∙ c.in_ok-filled.ensures.ok c.args.waits.level ∙ ap starts (sym c.replace-out.ensures.after))
    ∙ c.in_ok-go_on.ensures.ok
