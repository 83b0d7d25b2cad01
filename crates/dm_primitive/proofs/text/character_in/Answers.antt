-- An integer is its number.
use Rattle.std.proofs.Common.{◌≡◌, rules, ap, sym, ◌∙◌}
use Rattle.std.proofs.lemmas.Int.{to_z-of_z}
use mir.Syntax.{w128}
use Rattle.dm_meaning.specs.Primitives.{and_text}
use Rattle.dm_meaning.specs.Values.{integer_value}
use Rattle.dm_value.specs.Views.{view_of_value}
use Rattle.dm_value.specs.declared.value.Value as q
use Rattle.dm_primitive.proofs.text.character_in.Goals as goal

pub returns-in-Integer : goal.returns-in-Integer
returns-in-Integer c =
    let seen : view_of_value c.args.value.now ≡ integer_value c.in-Integer.integer.kind c.in-Integer.integer.value = search (rules, q.the_lemmas) in
    λ later.
    ap (λ value. and_text value later) seen
    ∙ (ap (λ z. and_text (integer_value c.in-Integer.integer.kind z) later) (sym c.value.ensures.value ∙ sym (to_z-of_z w128 c.value.result (record { sfits = c.value.type_inv }))) ∙ c.character_of.ensures c.in-Integer.integer.kind later)
