-- The number is of the type's kind, where the kind has it.
use Rattle.std.proofs.Common.{sym, ap, ◌∙◌}
use Rattle.std.proofs.lemmas.Int.{to_z-of_z}
use mir.Syntax.{w128}
use Rattle.dm_int.specs.Kinds as kinds
use Rattle.dm_type.specs.Tables.{type_of}
use Rattle.dm_meaning.specs.Operations.{plain, provided, is_of_kind}
use Rattle.dm_meaning.specs.Values.{integer_value}
use Rattle.dm_operate.specs.Numbers.{typed-kind}
use Rattle.dm_operate.proofs.numbers.number.Goals as goal

pub returns : goal.returns
returns c =
    let z = c.args.value in
    λ world. c.of_kind.ensures world
    ∙ ap (λ n. provided (kinds.is_in_range c.kind_of_number.result n) (plain world (integer_value c.kind_of_number.result n))) (to_z-of_z w128 z c.ranges.value)
    ∙ ap (λ kind. provided (kinds.is_in_range kind z) (plain world (integer_value kind z))) c.kind_of_number.ensures
    ∙ sym (ap (λ value. provided (is_of_kind value) (plain world value)) (typed-kind (type_of c.args.layout.now c.args.kind) z))
