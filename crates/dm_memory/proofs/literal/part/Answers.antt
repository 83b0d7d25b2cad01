-- The characters of a literal have no parts.
use Rattle.std.proofs.Common.{◌≡◌, ◌∷◌, map, rules, ap, sym, ◌∙◌}
use Rattle.dm_meaning.specs.Memory.{or_unset}
use Rattle.dm_meaning.specs.Values as values
use Rattle.dm_value.specs.Parts.{view_of_part}
use Rattle.dm_value.proofs.ValueLemmas.{deep-literal, one-literal, view-Unset}
use Rattle.dm_memory.proofs.literal.part.Goals as goal

pub returns-then-is_empty : goal.returns-then-is_empty
returns-then-is_empty c =
    let number = c.in-Inner.number in
    let rest = c.in-Some.rest.now in
    let e : map view_of_part c.args.steps.now ≡ values.part number ∷ map view_of_part rest = search rules in
    c.or_unset.ensures ∙ ap or_unset (c.element.ensures ∙ sym (one-literal c.args.bytes.now number _ rest e (sym c.is_empty.ensures ∙ c.if-is_empty.true)))

pub returns-else-is_empty : goal.returns-else-is_empty
returns-else-is_empty c =
    let number = c.in-Inner.number in
    let rest = c.in-Some.rest.now in
    let e : map view_of_part c.args.steps.now ≡ values.part number ∷ map view_of_part rest = search rules in
    view-Unset ∙ sym (ap or_unset (deep-literal c.args.bytes.now number _ rest e (sym c.is_empty.ensures ∙ c.if-is_empty.false)))
