-- The right integer may stand there.
use Rattle.std.proofs.Common.{◌≡◌, true, rules, sym, ap, ◌∙◌}
use Rattle.dm_int.specs.Operators as operators
use Rattle.dm_type.specs.Tables.{type_of}
use Rattle.dm_tree.specs.Evaluation.{is_right}
use Rattle.dm_meaning.specs.Operations.{faulted, number_alone, provided}
use Rattle.dm_operate.specs.Numbers.{number_or, number_or-faulted}
use Rattle.dm_operate.proofs.sums.integers.Goals as goal

pub returns-then-may_stand_right : goal.returns-then-may_stand_right
returns-then-may_stand_right c =
    let type = type_of c.args.layout.now c.args.kind in
    let answer = operators.binary c.args.op c.args.a.kind c.args.a.value c.args.b.value in
    let test : is_right c.args.op c.args.a.kind c.args.b.value ≡ true = search rules in
    λ world. c.number_or_cause.ensures world
    ∙ ap (number_or world type) c.operated.ensures.answer
    ∙ number_or-faulted world type answer
    ∙ sym (ap (λ passed. provided passed (faulted answer (number_alone world type))) test)
