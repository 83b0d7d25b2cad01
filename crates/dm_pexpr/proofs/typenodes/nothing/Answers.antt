use Rattle.std.proofs.Common.{ap, ⊎_elim}
use Rattle.dm_pexpr.specs.Parsing.{nothing as meant_nothing}
use Rattle.dm_pexpr.specs.Shapes.{shape_of}
use Rattle.dm_pexpr.proofs.DeclaratorNodeLemmas.{nothing-made}
use Rattle.dm_pexpr.proofs.typenodes.nothing.Goals as goal

pub returns-in-Abstract : goal.returns-in-Abstract
returns-in-Abstract c source names within =
    nothing-made source names c.args.at _ within (⊎_elim (ap (λ shape. meant_nothing (shape_of shape))) (ap (λ shape. meant_nothing (shape_of shape))) c.in-Abstract.is)
