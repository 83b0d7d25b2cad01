-- An object that may be written, and what its operator gives.
use Rattle.std.proofs.Common.{sym, ◌∙◌}
use Rattle.dm_typing.specs.Views.{view_over, known_over}
use Rattle.dm_typing.proofs.LaterLemmas.{begins-on}
use Rattle.dm_ebinary.proofs.AssignLemmas.{not-updated, updated-found}
use Rattle.dm_ebinary.proofs.assignments.operand_of.Goals as goal

pub returns-then-not-modifiable-clause-operand : goal.returns-then-not-modifiable-clause-operand
returns-then-not-modifiable-clause-operand c = λ later begins.
    sym (not-updated (known_over later c.args.known.now) c.args.op (view_over later c.args.object.now) (view_over later c.args.value.now)
    (sym c.if-not-modifiable.true ∙ c.in_ok-modifiable.ensures later begins))

pub returns-clause-operand : goal.returns-clause-operand
returns-clause-operand c = λ later begins.
    sym (updated-found later (known_over later c.args.known.now) c.args.op c.args.object.now (view_over later c.args.value.now) _
    (sym c.if-not-modifiable.false ∙ c.in_ok-modifiable.ensures later (begins-on c.args.known.now.types.shapes c.updated_by.new.known.types.shapes later c.updated_by.ensures.grows.shapes begins))
    (c.in_ok-found.ensures.operand later begins))
