-- The type of words is numbered.
use Rattle.std.specs.Prelude.{Some}
use Rattle.std.proofs.Common.{ap, ◌∙◌}
use Rattle.dm_type.specs.Tables.{types_of}
use Rattle.dm_edeclarator.proofs.specifiers.type_by_words.Goals as goal

pub returns-in_ok-kind-in-Some-clause-named : goal.returns-in_ok-kind-in-Some-clause-named
returns-in_ok-kind-in-Some-clause-named c = λ later begins.
    ap Some (c.in_ok-kind-in-Some.ensures.number.1 later begins ∙ c.shape_named.ensures.shape (types_of later)) ∙ c.in-Some.ensures

pub intern-requires : goal.intern-requires
intern-requires c = c.shape_named.ensures.over c.args.known.now.types
