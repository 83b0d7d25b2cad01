-- The parameters are those that the definition names.
use Rattle.std.proofs.Common.{ℕ, List, ap, sym, subst, ◌∙◌, not}
use Rattle.std.specs.List.{list_any}
use Rattle.dm_rules.specs.Rules.{is_parameter, own_place}
use Rattle.dm_rules.specs.Words.{AreSpelled}
use Rattle.dm_rules.proofs.ListLemmas.{none-in, some-in, later-in}
use Rattle.dm_rules.proofs.parameter.broken_parameter.Goals as goal

pub returns-then-not-is_parameter : goal.returns-then-not-is_parameter
returns-then-not-is_parameter c readings macros =
    let definition = c.args.definition.now in
    let spelled = subst (AreSpelled c.in_ok-body.body) c.items.ensures c.in_ok-body.ensures in
    let test = λ (name : List ℕ). not (is_parameter definition readings name) in
    let names = c.names_of-names.result.now in
    sym (ap (λ names. own_place definition (list_any test names)) (sym c.names_of-names.ensures)
    ∙ ap (own_place definition) (some-in test names c.loop-name.name-index (list_any test names) (c.loop-name.invariant readings macros) c.name-item.result c.loop-name-test.true (ap not (sym c.if-not-is_parameter.true ∙ c.is_parameter.ensures definition readings macros spelled) ∙ ap test c.name-item.is)))

pub loop-name-preserved : goal.loop-name-preserved
loop-name-preserved c readings macros =
    let definition = c.args.definition.now in
    let spelled = subst (AreSpelled c.in_ok-body.body) c.items.ensures c.in_ok-body.ensures in
    let test = λ (name : List ℕ). not (is_parameter definition readings name) in
    later-in test c.names_of-names.result.now c.loop-name.name-index (list_any test c.names_of-names.result.now) (c.loop-name.invariant readings macros) c.name-item.result c.loop-name-test.true
    (ap not (sym c.if-not-is_parameter.false ∙ c.is_parameter.ensures definition readings macros spelled) ∙ ap test c.name-item.is)

pub returns : goal.returns
returns c readings macros =
    let definition = c.args.definition.now in
    let test = λ (name : List ℕ). not (is_parameter definition readings name) in
    let names = c.names_of-names.result.now in
    sym (ap (λ names. own_place definition (list_any test names)) (sym c.names_of-names.ensures)
    ∙ ap (own_place definition) (none-in test names c.loop-name.name-index (list_any test names) (c.loop-name.invariant readings macros) c.loop-name-test.false))
