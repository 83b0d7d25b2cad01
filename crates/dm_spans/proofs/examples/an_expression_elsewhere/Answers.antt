use Rattle.std.specs.Prelude.{refl}
use Rattle.dm_sound.proofs.ExampleLemmas.{counted_typed}
use Rattle.dm_spans.proofs.examples.an_expression_elsewhere.Goals as goal

pub returns-clause-same : goal.returns-clause-same
returns-clause-same c = (refl, refl, ((refl, refl, tt), tt))

pub returns-clause-expression : goal.returns-clause-expression
returns-clause-expression c = refl

pub returns-clause-typed : goal.returns-clause-typed
returns-clause-typed c = counted_typed
