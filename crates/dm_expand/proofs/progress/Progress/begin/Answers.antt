use Rattle.std.proofs.Common.{◌≡◌, ◌+◌, ap, ◌∙◌, sym, arith, List, Ok, suc, subst, false}
use Rattle.dm_token.specs.declared.expansion.Mark.{Mark}
use Rattle.dm_token.specs.declared.expansion.Expansion.{Expansion}
use Rattle.dm_expand.specs.Laws.{AreNumbered}
use Rattle.dm_expand.specs.Items.{Item}
use Rattle.dm_expand.specs.Steps.{Progress, spend}
use Rattle.dm_expand.proofs.StepLemmas.{greatest_work-is, pushed, begun-is, begin-counted, begin-stops, stops_handed}
use Rattle.dm_expand.proofs.ProgressLemmas.{push-numbered, Counted, spend-counted}
use Rattle.dm_expand.proofs.SubstitutionLemmas.{each-ok}
use Rattle.dm_expand.proofs.progress.Progress.begin.Goals as goal

pub spend-requires : goal.spend-requires
spend-requires c = omega (arith, c.requires.spent, greatest_work-is)

pub overflow_add-self : goal.overflow_add-self
overflow_add-self c =
    let counted = each-ok (Counted c.args.self.now 1) _ c.spend.new.self c.in_ok-spend.ensures.ok (spend-counted c.name.inside.pp.place 1 c.args.self.now) in
    let same = ap (λ (q : Progress). q.instance) c.self.view_is in
    omega (arith, counted.2, same, c.requires.spent, c.requires.instance, greatest_work-is)

pub returns-in_err-spend-clause-stop : goal.returns-in_err-spend-clause-stop
returns-in_err-spend-clause-stop c =
    stops_handed c.from_residual.result c.in_err-spend.field-0.0 _ c.from_residual.ensures.1
    (begin-stops _ c.args.name.now _ _ _ (ap (λ (x : Item). spend x.pp.place 1 c.args.self.now) (sym c.name.view_is) ∙ c.in_err-spend.ensures.stop))

pub returns-clause-ok : goal.returns-clause-ok
returns-clause-ok c =
    let counted : Progress = c.spend.new.self in
    let name : Item = c.args.name.now in
    let inside : Progress = record { instance = c.self.inside.instance; spent = c.self.inside.spent; expansions = c.self.inside.expansions.items } in
    let expansions =
    c.in_ok-push.ensures.items
    ∙ ap (λ (trail : List Mark). pushed c.args.definition c.args.foreign inside c.name.inside.pp.place trail) c.in_ok-trail.ensures
    ∙ ap (λ (x : Item). pushed c.args.definition c.args.foreign inside x.pp.place x.trail) c.name.view_is
    ∙ ap (λ (q : Progress). pushed c.args.definition c.args.foreign q name.pp.place name.trail) c.self.view_is in
    begin-counted c.args.definition name c.args.foreign c.args.self.now counted
    (ap (λ (x : Item). spend x.pp.place 1 c.args.self.now) (sym c.name.view_is) ∙ c.in_ok-spend.ensures.ok)
    ∙ ap (λ (q : Progress). Ok q) (begun-is c.args.definition name c.args.foreign counted c.push.new.self.items expansions)
    ∙ ap (λ (q : Progress). Ok (record { instance = q.instance + 1; spent = q.spent; expansions = c.push.new.self.items })) (sym c.self.view_is)

pub invariant_of-self-2 : goal.invariant_of-self-2
invariant_of-self-2 c =
    let more : suc c.self.inside.instance ≡ c.self.inside.instance + 1 = omega arith in
    let made : Expansion = record { definition = c.args.definition; instance = c.self.inside.instance; name = c.name.inside.pp.place; trail = c.in_ok-trail.field-0; taken = false; foreign = c.args.foreign } in
    subst (λ n. AreNumbered c.self.inside.first c.push.new.self.items n) more
    (subst (λ (es : List Expansion). AreNumbered c.self.inside.first es (suc c.self.inside.instance)) (sym c.in_ok-push.ensures.items) (push-numbered made c.self.inside.first c.self.inside.expansions.items c.self.invariant))
