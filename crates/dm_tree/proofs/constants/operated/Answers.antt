-- On values of its kind the operator gives what the table says.
use Rattle.std.proofs.Common.{rules, sym, ap, ◌∙◌, ℤ, to_z, of_z}
use Rattle.std.proofs.lemmas.Int.{to_z-of_z}
use Rattle.std.specs.Result.{result_ok}
use mir.Syntax.{w128}
use Rattle.dm_type.specs.CTypes.{CType}
use Rattle.dm_type.specs.Tables.{type_of}
use Rattle.dm_tree.specs.Constants.{operated_value}
use Rattle.dm_tree.proofs.ViewLemmas.{operated_value-in_range}
use Rattle.dm_tree.proofs.constants.operated.Goals as goal

pub returns-then-may_stand_right : goal.returns-then-may_stand_right
returns-then-may_stand_right c =
    let type : CType = type_of c.args.types.now c.args.id in
    let left : ℤ = to_z w128 (of_z w128 c.args.left) in
    let right : ℤ = to_z w128 (of_z w128 c.args.right) in
    c.ok.ensures.value ∙ (ap result_ok c.binary.ensures.answer
    ∙ (sym (operated_value-in_range c.args.op type left right c.in_ok-kind.kind (search rules) (sym c.in_range.ensures.test ∙ c.if-in_range.true) (sym c.may_stand_right.ensures.test ∙ c.if-may_stand_right.true))
    ∙ (ap (λ x. operated_value c.args.op type x right) (to_z-of_z w128 c.args.left c.ranges.left)
    ∙ ap (operated_value c.args.op type c.args.left) (to_z-of_z w128 c.args.right c.ranges.right))))
