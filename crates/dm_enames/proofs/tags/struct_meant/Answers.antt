-- The type that a tag means is that of a struct, or none.
use Rattle.std.specs.Prelude.{ℕ, is_some}
use Rattle.std.proofs.Common.{ap, sym, ◌∙◌}
use Rattle.dm_typing.specs.Known.{given}
use Rattle.dm_typing.specs.Typing.{number_if_struct}
use Rattle.dm_typing.specs.Views.{known_over, source_of, type_over}
use Rattle.dm_typing.proofs.GivesLemmas.{obeyed, disobeyed, refused}
use Rattle.dm_typing.proofs.LaterLemmas.{type-later}
use Rattle.dm_enames.proofs.tags.struct_meant.Goals as goal

pub returns-in-Some-clause-gives : goal.returns-in-Some-clause-gives
returns-in-Some-clause-gives c = λ later begins entry is tag.
    obeyed (is_some (number_if_struct entry.kind)) 4 c.args.span.first _
    (ap is_some (ap number_if_struct (sym is ∙ type-later c.args.known.now.types.shapes later c.args.kind begins c.requires) ∙ sym c.in-Some.ensures.number))
    ∙ ap (given (known_over later c.args.known.now)) (sym is)

pub returns-in-None-clause-gives : goal.returns-in-None-clause-gives
returns-in-None-clause-gives c = λ later begins entry is tag.
    refused {A = ℕ} (type_over later) (source_of c.args.typer.now) (known_over later c.args.known.now) _ 4 c.args.span.first c.broken.result
    (disobeyed (is_some (number_if_struct entry.kind)) 4 c.args.span.first _
    (ap is_some (ap number_if_struct (sym is ∙ type-later c.args.known.now.types.shapes later c.args.kind begins c.requires) ∙ sym c.in-None.ensures.number)))
    c.broken.ensures
