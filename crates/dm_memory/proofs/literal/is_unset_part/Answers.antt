-- The characters of a literal were set, and have no parts.
use Rattle.std.proofs.Common.{◌≡◌, ◌∷◌, map, not, rules, ap, sym, ◌∙◌}
use Rattle.dm_meaning.specs.Causes.{is_unset}
use Rattle.dm_meaning.specs.Memory.{or_unset}
use Rattle.dm_meaning.specs.Values as values
use Rattle.dm_value.specs.Parts.{view_of_part}
use Rattle.dm_value.proofs.ValueLemmas.{deep-literal, one-literal, is_unset-at}
use Rattle.dm_memory.proofs.literal.is_unset_part.Goals as goal

pub returns-then-not-is_empty : goal.returns-then-not-is_empty
returns-then-not-is_empty c =
    let here = c.in-Some-Inner-default in
    let e : map view_of_part c.args.steps.now ≡ values.part here.number ∷ map view_of_part here.rest.now = search rules in
    ap not c.if-not-is_empty.true
    ∙ sym (ap (λ found. is_unset (or_unset found)) (deep-literal c.args.bytes.now here.number _ here.rest.now e (sym c.is_empty.ensures ∙ c.if-not-is_empty.true)))

pub returns-else-not-is_empty : goal.returns-else-not-is_empty
returns-else-not-is_empty c =
    let here = c.in-Some-Inner-default in
    let e : map view_of_part c.args.steps.now ≡ values.part here.number ∷ map view_of_part here.rest.now = search rules in
    is_unset-at c.args.bytes.now here.number
    ∙ sym (ap (λ found. is_unset (or_unset found)) (one-literal c.args.bytes.now here.number _ here.rest.now e (sym c.is_empty.ensures ∙ c.if-not-is_empty.false)))
