-- An array is a pointer.
use Rattle.std.specs.Prelude.{Some}
use Rattle.std.proofs.Common.{sym, ap, ◌∙◌}
use Rattle.dm_typing.specs.Views.{type_over, elements}
use Rattle.dm_edeclarator.proofs.DeclaratorStepLemmas.{adjusted-array, adjusted-other}
use Rattle.dm_typing.proofs.LaterLemmas.{begins-on, type-later}
use Rattle.dm_edeclarator.proofs.declarators.adjusted.Goals as goal

pub returns-in_ok-made-in-Some-clause-made : goal.returns-in_ok-made-in-Some-clause-made
returns-in_ok-made-in-Some-clause-made c = λ later begins.
    let shapes = c.args.known.now.types.shapes in
    let before = begins-on shapes c.intern.new.self.types.shapes later c.intern.ensures.grows.shapes begins in
    c.in_ok-made-in-Some.ensures.number.1 later begins
    ∙ sym (adjusted-array (type_over later c.args.kind) (type_over later c.in-Some.inner)
    (ap elements (type-later shapes later c.args.kind before c.requires) ∙ (sym c.in-Some.ensures.elements ∙ ap Some (sym (type-later shapes later c.in-Some.inner before c.in-Some.ensures.numbered)))))

pub returns-in-None-clause-made : goal.returns-in-None-clause-made
returns-in-None-clause-made c = λ later begins.
    sym (adjusted-other (type_over later c.args.kind) (ap elements (type-later c.args.known.now.types.shapes later c.args.kind begins c.requires) ∙ sym c.in-None.ensures.elements))
