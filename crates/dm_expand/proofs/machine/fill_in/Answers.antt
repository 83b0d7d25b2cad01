use Rattle.std.proofs.Common.{Bool, not, List, Result, Ok, ap, ◌∙◌, sym, map, length}
use Rattle.dm_token.specs.declared.stop.Stop.{Stop}
use Rattle.dm_expand.specs.declared.machine.Level as code_level
use Rattle.dm_expand.specs.declared.machine.Filling as code_filling
use Rattle.dm_expand.specs.Items.{Item}
use Rattle.dm_expand.specs.Steps.{Progress}
use Rattle.dm_expand.specs.Pastes as pastes
use Rattle.dm_expand.specs.Expansion.{Macros}
use Rattle.dm_expand.specs.HeadViews.{macros_of}
use Rattle.dm_expand.specs.Views.{pieces_in}
use Rattle.dm_expand.specs.ListViews.{gives, counted_if}
use Rattle.dm_expand.specs.Works.{argument_pieces, taken_up, waits_in}
use Rattle.dm_expand.proofs.StepLemmas.{stops_handed_each}
use Rattle.dm_expand.proofs.WorkLemmas.{take_up-is, take_up-count-stops}
use Rattle.dm_expand.proofs.machine.fill_in.Goals as goal

pub returns-in_err-more-clause-stop : goal.returns-in_err-more-clause-stop
returns-in_err-more-clause-stop c =
    let macros : Macros = macros_of c.args.macros.now in
    let filling : code_filling.Filling = c.args.filling in
    let progress : Progress = c.args.progress.now in
    let tokens : List Item = c.args.tokens.items in
    let counted : Bool → Result Progress Stop = λ pastes. counted_if (not pastes) filling.site.name.pp.place (length (argument_pieces filling.site c.args.whole tokens)) progress in
    stops_handed_each c.from_residual.result c.in_err-more.field-0.0 (λ (level : code_level.Level). counted filling.body.pastes) (λ level. taken_up macros (waits_in level filling c.args.whole) (Ok (gives tokens progress))) c.from_residual.ensures.1
    (λ level other is. take_up-count-stops macros (waits_in level filling c.args.whole) (gives tokens progress) other (ap counted (sym filling.body.has_paste) ∙ is))
    (λ level. c.in_err-more.ensures.stop)

pub returns-clause-ok : goal.returns-clause-ok
returns-clause-ok c = λ level.
    let macros : Macros = macros_of c.args.macros.now in
    let filling : code_filling.Filling = c.args.filling in
    let progress : Progress = c.args.progress.now in
    let tokens : List Item = c.args.tokens.items in
    let counted : Bool → Result Progress Stop = λ pastes. counted_if (not pastes) filling.site.name.pp.place (length (argument_pieces filling.site c.args.whole tokens)) progress in
    let more : List pastes.Piece = map pastes.token c.in_ok-more.more.items in
    take_up-is macros (waits_in level filling c.args.whole) (gives tokens progress) more (pieces_in c.append.new.self) c.fill_whole.new.progress
    c.in_ok-more.ensures.ok.0
    (ap counted (sym filling.body.has_paste) ∙ c.in_ok-more.ensures.ok.1)
    c.in_ok-append.ensures
