-- The character has the kind of the elements.
use Rattle.std.proofs.Common.{◌≡◌, pos, rules, ap, ap₂, sym, ◌∙◌}
use Rattle.dm_int.specs.declared.Kind.TheVariants.{Char}
use Rattle.dm_int.specs.Kinds.{convert}
use Rattle.dm_layout.specs.Kinds.{type_of_object}
use Rattle.dm_meaning.specs.Values.{integer_value}
use Rattle.dm_first_value.proofs.TextLemmas.{as-integer, view-Integer}
use Rattle.dm_first_value.proofs.text.character.Goals as goal

pub returns-in-Some : goal.returns-in-Some
returns-in-Some c =
    let kind = c.in-Some.kind in
    let same : c.new-character.result.value ≡ convert Char (pos c.args.byte) = search rules in
    view-Integer c.converted.result
    ∙ (ap₂ integer_value c.converted.ensures.kind (c.converted.ensures.value ∙ ap (convert kind) same)
    ∙ sym (as-integer (type_of_object c.args.layout.now c.args.kind.now) kind (convert Char (pos c.args.byte)) (sym c.in-Some.ensures)))
