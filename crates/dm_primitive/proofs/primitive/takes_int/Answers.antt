-- Types match as their parameters do.
use Rattle.std.proofs.Common.{ap, sym, ◌∙◌}
use Rattle.dm_int.specs.declared.Kind.TheVariants.{Int}
use Rattle.dm_type.specs.Alike.{are_compatible}
use Rattle.dm_type.specs.CTypes.{integer}
use Rattle.dm_type.specs.Tables.{type_of}
use Rattle.dm_primitive.proofs.TypeLemmas.{only-matches}
use Rattle.dm_primitive.proofs.primitive.takes_int.Goals as goal

pub returns : goal.returns
returns c =
    c.is_int.ensures ∙ (ap (λ type. are_compatible type (integer Int)) c.bare.ensures.1
    ∙ sym (only-matches (type_of c.args.types.now) c.args.parameters.now c.in-Some.parameter (integer Int) c.in-Some.ensures))
