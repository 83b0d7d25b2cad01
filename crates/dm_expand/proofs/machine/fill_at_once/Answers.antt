use Rattle.std.proofs.Common.{List, Result, Ok, ap, ◌∙◌, sym}
use Rattle.dm_token.specs.declared.stop.Stop.{Stop}
use Rattle.dm_expand.specs.declared.machine.Level as code_level
use Rattle.dm_expand.specs.declared.machine.Waiting as code_waiting
use Rattle.dm_expand.specs.Items.{Item}
use Rattle.dm_expand.specs.Steps.{Progress, Output}
use Rattle.dm_expand.specs.Pastes.{Site}
use Rattle.dm_expand.specs.Substitution.{argument_for}
use Rattle.dm_expand.specs.Expansion.{Macros}
use Rattle.dm_expand.specs.HeadViews.{macros_of}
use Rattle.dm_expand.specs.ListViews.{gives}
use Rattle.dm_expand.specs.Works.{completed_whole, taken_up, waits_in}
use Rattle.dm_expand.proofs.LawLemmas.{expanded-no_names}
use Rattle.dm_expand.proofs.NeedsLemmas.{taken_up-same}
use Rattle.dm_expand.proofs.StepLemmas.{stops_handed_each}
use Rattle.dm_expand.proofs.WorkLemmas.{taken_up-whole}
use Rattle.dm_expand.proofs.machine.fill_at_once.Goals as goal

pub returns-in_err-filled-clause-stop : goal.returns-in_err-filled-clause-stop
returns-in_err-filled-clause-stop c =
    let macros : Macros = macros_of c.args.macros.now in
    let progress : Progress = c.args.progress.now in
    let site : Site = c.args.filling.site in
    let waits : code_level.Level → Site → code_waiting.Waiting = λ level s. waits_in level (record c.args.filling { site = s }) c.args.whole in
    let argument : Result Output Stop = Ok (gives c.in_ok-tokens.tokens.items progress) in
    stops_handed_each c.from_residual-in_err-filled.result c.in_err-filled.field-0.0 (λ (level : code_level.Level). taken_up macros (waits level c.take_argument.new.site) argument) (λ level. completed_whole macros level c.args.filling c.args.whole progress) c.from_residual-in_err-filled.ensures.1
    (λ level other is.
    taken_up-whole macros (waits level site) progress
    ∙ ap (taken_up macros (waits level site)) (expanded-no_names macros (argument_for site c.args.whole.parameter) progress c.requires.stays ∙ ap (λ (xs : List Item). Ok (gives xs progress)) (sym (c.in_ok-tokens.ensures ∙ c.items.ensures ∙ c.in_ok-argument.ensures.argument)))
    ∙ sym (taken_up-same macros (waits level site) c.in_ok-argument.ensures.served.0 argument c.in_ok-argument.ensures.served.2)
    ∙ ap (λ (s : Site). taken_up macros (waits level s) argument) (sym c.in_ok-argument.ensures.served.1)
    ∙ is)
    c.in_err-filled.ensures.stop

pub returns-clause-ok : goal.returns-clause-ok
returns-clause-ok c = λ level.
    let macros : Macros = macros_of c.args.macros.now in
    let progress : Progress = c.args.progress.now in
    let site : Site = c.args.filling.site in
    let waits : Site → code_waiting.Waiting = λ s. waits_in level (record c.args.filling { site = s }) c.args.whole in
    let argument : Result Output Stop = Ok (gives c.in_ok-tokens.tokens.items progress) in
    taken_up-whole macros (waits site) progress
    ∙ ap (taken_up macros (waits site)) (expanded-no_names macros (argument_for site c.args.whole.parameter) progress c.requires.stays ∙ ap (λ (xs : List Item). Ok (gives xs progress)) (sym (c.in_ok-tokens.ensures ∙ c.items.ensures ∙ c.in_ok-argument.ensures.argument)))
    ∙ sym (taken_up-same macros (waits site) c.in_ok-argument.ensures.served.0 argument c.in_ok-argument.ensures.served.2)
    ∙ ap (λ (s : Site). taken_up macros (waits s) argument) (sym c.in_ok-argument.ensures.served.1)
    ∙ c.in_ok-filled.ensures.ok level
