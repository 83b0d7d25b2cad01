-- Only pointers are compatible with pointers.
use Rattle.std.proofs.Common.{ap, ◌∙◌}
use Rattle.dm_type.specs.Alike.{are_compatible}
use Rattle.dm_type.specs.CTypes.{pointer}
use Rattle.dm_type.specs.Tables.{types_of}
use Rattle.dm_primitive.proofs.TypeLemmas.{never-pointer}
use Rattle.dm_primitive.proofs.primitive.pointed.Goals as goal

pub returns-in_default : goal.returns-in_default
returns-in_default c = λ type.
    ap (λ one. are_compatible one (pointer type)) c.shape.ensures.exact ∙ never-pointer (types_of c.args.types.now.shapes) c.shape.result.now type c.in_default.not-Pointer
