-- Only const types are compatible with const types.
use Rattle.std.proofs.Common.{ap, ◌∙◌}
use Rattle.dm_type.specs.Alike.{are_compatible}
use Rattle.dm_type.specs.CTypes.{const}
use Rattle.dm_type.specs.Tables.{types_of}
use Rattle.dm_primitive.proofs.TypeLemmas.{never-const}
use Rattle.dm_primitive.proofs.primitive.unqualified.Goals as goal

pub returns-in_default : goal.returns-in_default
returns-in_default c = λ type.
    ap (λ one. are_compatible one (const type)) c.shape.ensures.exact ∙ never-const (types_of c.args.types.now.shapes) c.shape.result.now type c.in_default.not-Const
