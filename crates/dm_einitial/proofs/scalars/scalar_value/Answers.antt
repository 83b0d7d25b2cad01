-- A rule is broken, or the value is converted.
use Rattle.std.proofs.Common.{ap, sym, ◌∙◌}
use Rattle.dm_tree.specs.declared.tree.Core.{Core}
use Rattle.dm_typing.specs.Known.{given}
use Rattle.dm_typing.specs.Views.{known_over, view_over, type_over, source_of}
use Rattle.dm_typing.proofs.GivesLemmas.{refused}
use Rattle.dm_einitial.specs.Steps.{value_unless}
use Rattle.dm_einitial.proofs.scalars.scalar_value.Goals as goal

pub returns-in-Some-clause-gives : goal.returns-in-Some-clause-gives
returns-in-Some-clause-gives c = λ later begins.
    refused {A = Core} (view_over later) (source_of c.args.typer.now) (known_over later c.args.known.now) _ c.in-Some.rule c.args.here c.broken.result
    (ap (λ found. value_unless found (known_over later c.args.known.now) (type_over later c.args.kind) c.args.here (view_over later c.args.value)) (sym (c.in-Some.ensures later begins)))
    c.broken.ensures

pub returns-in_ok-made-in-None-clause-gives : goal.returns-in_ok-made-in-None-clause-gives
returns-in_ok-made-in-None-clause-gives c = λ later begins.
    ap (λ found. value_unless found (known_over later c.args.known.now) (type_over later c.args.kind) c.args.here (view_over later c.args.value)) (sym (c.in-None.ensures later begins))
    ∙ ap (given (known_over later c.args.known.now)) (sym (c.in_ok-made-in-None.ensures.value later begins))
