-- Without a value the result is void.
use Rattle.std.proofs.Common.{sym, ap, ◌∙◌}
use Rattle.dm_tree.specs.Scenes.{is_void}
use Rattle.dm_typing.specs.Views.{type_over, known_over}
use Rattle.dm_typing.proofs.LaterLemmas.{type-later}
use Rattle.dm_estatement.specs.Parts.{optional_over, may_be_returned}
use Rattle.dm_estatement.proofs.returns.may_return.Goals as goal

pub returns-in-None : goal.returns-in-None
returns-in-None c = λ later begins.
    c.is_void.ensures
    ∙ ap is_void (sym (type-later c.args.known.now.types.shapes later c.args.kind begins c.requires.kind))
    ∙ ap (λ value. may_be_returned (known_over later c.args.known.now) (type_over later c.args.kind) (optional_over later value)) (sym c.in-None.is)
