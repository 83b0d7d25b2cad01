-- A number, or the cause why there is none, where the right operand may stand there.
use Rattle.std.proofs.Common.{◌≡◌, true, rules, sym, ap, subst, ◌∙◌}
use Rattle.dm_tree.specs.Evaluation.{is_right, updated_value}
use Rattle.dm_meaning.specs.Operations.{made_number, made_right}
use Rattle.dm_operate.specs.Replacements.{Is, cause_of, value_of, cause_of-made, value_of-made}
use Rattle.dm_operate.proofs.replacement.updated_number.Goals as goal

pub returns-then-may_stand_right : goal.returns-then-may_stand_right
returns-then-may_stand_right c =
    let kind = c.args.object.kind in
    let found = updated_value c.args.op c.args.works kind c.args.object.value c.args.right.value in
    let test : is_right c.args.op c.args.works c.args.right.value ≡ true = search rules in
    subst (λ passed. Is c.number.result (made_right passed (made_number kind found))) (sym test) (record {
      cause = c.number.ensures.cause ∙ ap cause_of c.updated.ensures ∙ cause_of-made kind found;
      value = c.number.ensures.value ∙ ap value_of c.updated.ensures ∙ value_of-made kind found;
    })
