-- A number, or the cause why there is none.
use Rattle.std.proofs.Common.{ap, ◌∙◌}
use Rattle.dm_tree.specs.Evaluation.{counted_value}
use Rattle.dm_operate.specs.Replacements.{cause_of, value_of, cause_of-made, value_of-made}
use Rattle.dm_operate.proofs.replacement.counted_number.Goals as goal

pub returns : goal.returns
returns c =
    let kind = c.args.object.kind in
    let found = counted_value c.args.plus kind c.args.object.value in
    record {
      cause = c.number.ensures.cause ∙ ap cause_of c.counted.ensures ∙ cause_of-made kind found;
      value = c.number.ensures.value ∙ ap value_of c.counted.ensures ∙ value_of-made kind found;
    }
