-- There is one item, or there are several.
use Rattle.std.proofs.Common.{sym, ◌∙◌}
use Rattle.dm_effect.proofs.EffectLemmas.{only-item, several-items, nothing-left, some-left}
use Rattle.dm_effect.proofs.functions.returned_alone.Goals as goal

pub returns-then-is_empty : goal.returns-then-is_empty
returns-then-is_empty c types kind spans =
    let none = nothing-left c.in_ok-only.others.now (sym c.is_empty.ensures ∙ c.if-is_empty.true) in
    only-item types kind spans c.args.items.now c.in_ok-only.only.now c.in_ok-only.others.now c.in_ok-only.ensures.cases.0 none ∙ c.value_returned.ensures types

pub returns-else-is_empty : goal.returns-else-is_empty
returns-else-is_empty c types kind spans =
    let more = some-left c.in_ok-only.others.now (sym c.is_empty.ensures ∙ c.if-is_empty.false) in
    several-items types kind spans c.args.items.now c.in_ok-only.only.now c.in_ok-only.others.now c.in_ok-only.ensures.cases.0 more
