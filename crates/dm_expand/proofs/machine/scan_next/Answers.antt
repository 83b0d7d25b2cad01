use Rattle.std.proofs.Common.{◌≡◌, List, Err, ap, ◌∙◌, sym, subst}
use Rattle.dm_token.specs.declared.stop.Stop.{Stop}
use Rattle.dm_expand.specs.declared.head.Head as code_head
use Rattle.dm_expand.specs.Items.{Item}
use Rattle.dm_expand.specs.Steps.{Progress}
use Rattle.dm_expand.specs.Expansion as expansion
use Rattle.dm_expand.specs.HeadViews.{macros_of, head_value, Stays}
use Rattle.dm_expand.specs.ListViews.{tokens_before, invocation_value}
use Rattle.dm_expand.proofs.LawLemmas.{head_of-no_name}
use Rattle.dm_expand.proofs.ProgressLemmas.{expanded-put, expanded-replace, expanded-refuse}
use Rattle.dm_expand.proofs.StepLemmas.{stops-as}
use Rattle.dm_expand.proofs.SubstitutionLemmas.{tokens_before-token}
use Rattle.dm_expand.proofs.machine.scan_next.Goals as goal

pub returns-then-names_nothing-clause-found : goal.returns-then-names_nothing-clause-found
returns-then-names_nothing-clause-found c =
    let macros : expansion.Macros = macros_of c.args.macros.now in
    let progress : Progress = c.args.progress.now in
    let rest : List Item = c.args.level.now.rest in
    let out : List Item = c.args.level.now.out.items in
    let item : Item = c.args.item in
    ap (tokens_before out) (expanded-put macros item item rest progress (head_of-no_name macros item rest progress (c.names_nothing.ensures c.if-names_nothing.true)))
    ∙ tokens_before-token out item (expansion.expanded macros rest progress)
    ∙ ap (λ (xs : List Item). tokens_before xs (expansion.expanded macros rest progress)) (sym c.in_ok-push.ensures.items)

pub returns-in_ok-push-in-Put-clause-found : goal.returns-in_ok-push-in-Put-clause-found
returns-in_ok-push-in-Put-clause-found c =
    let macros : expansion.Macros = macros_of c.args.macros.now in
    let progress : Progress = c.args.progress.now in
    let rest : List Item = c.args.level.now.rest in
    let after : List Item = c.head_of.new.rest in
    let out : List Item = c.args.level.now.out.items in
    let item : Item = c.in-Put.item in
    let case : expansion.head_of macros progress c.args.item rest ≡ expansion.put item = sym c.in_ok-item.ensures.head ∙ ap (head_value after) c.in-Put.is in
    let stays : after ≡ rest = subst (λ (head : code_head.Head). Stays head rest after) c.in-Put.is c.in_ok-item.ensures.stays in
    ap (tokens_before out) (expanded-put macros c.args.item item rest progress case)
    ∙ tokens_before-token out item (expansion.expanded macros rest progress)
    ∙ ap (λ (xs : List Item). tokens_before xs (expansion.expanded macros rest progress)) (sym c.in_ok-push-in-Put.ensures.items)
    ∙ ap (λ (xs : List Item). tokens_before c.push-in-Put.new.self.items (expansion.expanded macros xs progress)) (sym stays)

pub returns-in-Replace-clause-found : goal.returns-in-Replace-clause-found
returns-in-Replace-clause-found c =
    let macros : expansion.Macros = macros_of c.args.macros.now in
    let rest : List Item = c.args.level.now.rest in
    let after : List Item = c.head_of.new.rest in
    let invocation : expansion.Invocation = invocation_value c.in-Replace.invocation after in
    let case : expansion.head_of macros c.args.progress.now c.args.item rest ≡ expansion.replace invocation = sym c.in_ok-item.ensures.head ∙ ap (head_value after) c.in-Replace.is in
    ap (tokens_before c.args.level.now.out.items) (expanded-replace macros c.args.item rest invocation c.args.progress.now c.requires.spent case)

pub returns-in-Refuse-clause-stop : goal.returns-in-Refuse-clause-stop
returns-in-Refuse-clause-stop c =
    let macros : expansion.Macros = macros_of c.args.macros.now in
    let rest : List Item = c.args.level.now.rest in
    let after : List Item = c.head_of.new.rest in
    let case : expansion.head_of macros c.args.progress.now c.args.item rest ≡ expansion.refuse = sym c.in_ok-item.ensures.head ∙ ap (head_value after) c.in-Refuse.is in
    stops-as _ c.no_arguments.result
    (ap (tokens_before c.args.level.now.out.items) (expanded-refuse macros c.args.item rest c.args.progress.now case)
    ∙ ap (λ (stop : Stop). Err stop) (sym (c.no_arguments.ensures ∙ ap (λ (x : Item). expansion.no_arguments x.pp.place) c.item.view_is)))
