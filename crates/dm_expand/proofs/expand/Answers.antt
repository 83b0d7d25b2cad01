use Rattle.std.proofs.Common.{◌+◌, ◌≤◌, ap, ◌∙◌, sym, subst, List, Ok, length}
use Rattle.dm_token.specs.Limits.{most_work}
use Rattle.dm_token.specs.declared.expansion.Expansion.{Expansion}
use Rattle.dm_token.specs.declared.token.Token.{Token}
use Rattle.dm_expand.specs.Steps.{Progress}
use Rattle.dm_expand.specs.Expansion.{Macros, expanded}
use Rattle.dm_expand.specs.Laws.{Follows}
use Rattle.dm_expand.specs.Views.{IsWithin}
use Rattle.dm_expand.specs.AnswerViews.{looked_up, answer, AreNumberedFrom}
use Rattle.dm_expand.proofs.AnswerLemmas.{expansion_of-is, expansion_of-stops, answer-numbered, answer-counted, answer-within, start-within}
use Rattle.dm_expand.proofs.StepLemmas.{stops_handed_as}
use Rattle.dm_expand.proofs.expand.Goals as goal

pub expand_list-requires : goal.expand_list-requires
expand_list-requires c = subst IsWithin (sym c.new-progress.ensures) (start-within c.args.first_instance c.args.work.now.spent c.requires.numbered c.requires.counted)

pub returns-in_err-tokens-clause-stop : goal.returns-in_err-tokens-clause-stop
returns-in_err-tokens-clause-stop c =
    let macros : Macros = looked_up c.args.table.now c.args.names.now in
    let items = c.in_ok-source.source.items in
    stops_handed_as c.from_residual-in_err-tokens.result c.in_err-tokens.field-0.0 (expanded macros items c.new-progress.result) _ c.from_residual-in_err-tokens.ensures.1
    (λ other is. expansion_of-stops macros c.args.group.now c.args.first_instance c.args.work.now.spent items other c.in_ok-source.ensures
    (ap (λ (q : Progress). expanded macros items q) (sym c.new-progress.ensures) ∙ is))
    c.in_err-tokens.ensures.stop

pub returns-clause-expanded : goal.returns-clause-expanded
returns-clause-expanded c =
    let macros : Macros = looked_up c.args.table.now c.args.names.now in
    let items = c.in_ok-source.source.items in
    let tokens = c.in_ok-tokens.tokens.items in
    expansion_of-is macros c.args.group.now c.args.first_instance c.args.work.now.spent items c.in_ok-tokens.ensures.ok.0 c.expand_list.new.progress tokens c.in_ok-source.ensures
    (ap (λ (q : Progress). expanded macros items q) (sym c.new-progress.ensures) ∙ c.in_ok-tokens.ensures.ok.2)
    c.in_ok-tokens.ensures.ok.1
    ∙ ap (λ (q : Progress). Ok (answer tokens q.expansions q.spent)) (sym c.progress.view_is)
    ∙ ap (λ (made : List Expansion). Ok (answer tokens made c.progress.inside.spent)) (sym c.from_vec-2.ensures)
    ∙ ap (λ (xs : List Token). Ok (answer xs c.from_vec-2.result c.progress.inside.spent)) (sym c.from_vec.ensures)

pub returns-clause-counted : goal.returns-clause-counted
returns-clause-counted c =
    subst (λ (made : List Expansion). length made + c.args.work.now.spent ≤ c.progress.inside.spent) (sym c.from_vec-2.ensures)
    (subst (λ (q : Progress). length q.expansions + c.args.work.now.spent ≤ q.spent) (sym c.progress.view_is)
    (answer-counted c.args.first_instance c.args.work.now.spent c.expand_list.new.progress
    (subst (λ (p : Progress). Follows p c.expand_list.new.progress) c.new-progress.ensures c.in_ok-tokens.ensures.follows)))

pub returns-clause-within : goal.returns-clause-within
returns-clause-within c =
    subst (λ (q : Progress). q.spent ≤ most_work) (sym c.progress.view_is)
    (answer-within c.args.first_instance c.args.work.now.spent c.expand_list.new.progress
    (subst (λ (p : Progress). Follows p c.expand_list.new.progress) c.new-progress.ensures c.in_ok-tokens.ensures.follows))

pub returns-clause-numbered : goal.returns-clause-numbered
returns-clause-numbered c =
    subst (AreNumberedFrom c.args.first_instance) (sym c.from_vec-2.ensures)
    (subst (λ (q : Progress). AreNumberedFrom c.args.first_instance q.expansions) (sym c.progress.view_is)
    (answer-numbered c.args.first_instance c.args.work.now.spent c.expand_list.new.progress
    (subst (λ (p : Progress). Follows p c.expand_list.new.progress) c.new-progress.ensures c.in_ok-tokens.ensures.follows)))
