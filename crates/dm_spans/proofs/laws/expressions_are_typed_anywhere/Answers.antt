use Rattle.dm_spans.proofs.ExpressionLemmas.{expression_typed}
use Rattle.dm_spans.proofs.laws.expressions_are_typed_anywhere.Goals as goal

pub returns : goal.returns
returns c = expression_typed
