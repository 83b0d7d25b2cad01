-- A call has its function and its arguments.
use Rattle.std.proofs.Common.{Some, ap, sym, ◌∙◌}
use Rattle.dm_effect.specs.Operands.{others_by}
use Rattle.dm_effect.proofs.BesideLemmas.{call-others}
use Rattle.dm_effect.proofs.unsequenced.last_operand.Goals as goal

pub returns-in-Call : goal.returns-in-Call
returns-in-Call c types n = call-others types c.args.tree.now c.in-Call.field-0 c.in-Call.arguments n c.in-Call.is ∙ ap (λ count. others_by n (Some count)) (sym c.len.ensures)
