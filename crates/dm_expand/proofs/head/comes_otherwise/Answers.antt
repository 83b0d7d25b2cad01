use Rattle.std.proofs.Common.{ap, ◌∙◌, sym}
use Rattle.dm_expand.specs.Items.{Item}
use Rattle.dm_expand.specs.Trails.{begins_with}
use Rattle.dm_expand.proofs.SearchLemmas.{foreign-opening, foreign-inside, foreign-closing}
use Rattle.dm_expand.proofs.head.comes_otherwise.Goals as goal

pub returns-then-not-opens-clause-foreign : goal.returns-then-not-opens-clause-foreign
returns-then-not-opens-clause-foreign c =
    foreign-opening c.args.way.now c.args.opening.now c.args.enclosed.now.closing c.args.enclosed.now.inside
    (sym c.if-not-opens.true ∙ c.in_ok-opens.ensures ∙ ap (λ (x : Item). begins_with c.args.way.now x.trail) c.opening.view_is)

pub returns-then-not-closes-clause-foreign : goal.returns-then-not-closes-clause-foreign
returns-then-not-closes-clause-foreign c =
    foreign-closing c.args.way.now c.args.opening.now c.args.enclosed.now.closing c.args.enclosed.now.inside
    (sym c.if-not-opens.false ∙ c.in_ok-opens.ensures ∙ ap (λ (x : Item). begins_with c.args.way.now x.trail) c.opening.view_is)
    (sym c.if-not-closes.true ∙ c.in_ok-closes.ensures ∙ ap (λ (x : Item). begins_with c.args.way.now x.trail) c.closing.view_is)

pub returns-clause-foreign : goal.returns-clause-foreign
returns-clause-foreign c =
    c.in_ok-other.ensures.otherwise
    ∙ foreign-inside c.args.way.now c.args.opening.now c.args.enclosed.now.closing c.args.enclosed.now.inside
    (sym c.if-not-opens.false ∙ c.in_ok-opens.ensures ∙ ap (λ (x : Item). begins_with c.args.way.now x.trail) c.opening.view_is)
    (sym c.if-not-closes.false ∙ c.in_ok-closes.ensures ∙ ap (λ (x : Item). begins_with c.args.way.now x.trail) c.closing.view_is)
