use Rattle.std.proofs.Common.{◌≤◌, ℕ, List, ap, ◌∙◌, take, length, arith}
use Rattle.std.proofs.lemmas.List.{drop_all}
use Rattle.dm_token.specs.declared.token.PpToken.{PpToken}
use Rattle.dm_macro.specs.Bodies as bodies
use Rattle.dm_expand.specs.Substitution as substitution
use Rattle.dm_expand.specs.Views.{pieces_in}
use Rattle.dm_expand.specs.ListViews.{pieces_before}
use Rattle.dm_expand.specs.Works.{parts_from}
use Rattle.dm_expand.proofs.StepLemmas.{stops_handed_each}
use Rattle.dm_expand.proofs.SubstitutionLemmas.{parts-end}
use Rattle.dm_expand.proofs.substitute.fill_from.Goals as goal

pub returns-in_err-whole-clause-stop : goal.returns-in_err-whole-clause-stop
returns-in_err-whole-clause-stop c =
    stops_handed_each c.from_residual.result c.in_err-whole.field-0.0
    (λ expander. pieces_before (pieces_in c.parts.pieces) (substitution.filled_all expander c.args.site.now c.args.counts (parts_from c.args.body.definition.now c.parts.index) c.parts.progress))
    (λ expander. pieces_before (pieces_in c.args.pieces.now) (substitution.filled_all expander c.args.site.now c.args.counts (parts_from c.args.body.definition.now c.args.from) c.args.progress.now))
    c.from_residual.ensures.1
    (λ expander other is. c.parts.invariant.0 expander ∙ is)
    c.in_err-whole.ensures.stop

pub returns-clause-ok : goal.returns-clause-ok
returns-clause-ok c = λ expander.
    let definition = c.args.body.definition.now in
    let names : List (List ℕ) = bodies.parameters_of definition in
    let body : List PpToken = definition.body in
    let before : List PpToken = take c.parts.index body in
    let done : length body ≤ c.parts.index = omega (arith, c.parts-test.false, c.len-index-end.ensures) in
    c.parts.invariant.0 expander
    ∙ ap (λ (parts : List bodies.Part). pieces_before (pieces_in c.parts.pieces) (substitution.filled_all expander c.args.site.now c.args.counts parts c.parts.progress))
    (ap (bodies.parts_behind names before) (drop_all c.parts.index body done) ∙ parts-end names before)
