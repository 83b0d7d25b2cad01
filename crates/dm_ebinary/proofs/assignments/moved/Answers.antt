-- A pointer and an integer.
use Rattle.std.specs.Prelude.{true, false, if◌then◌else◌, Some, None}
use Rattle.std.proofs.Common.{ap, sym, ◌∙◌}
use Rattle.dm_type.specs.Tables.{type_of}
use Rattle.dm_typing.specs.Views.{view_over, type_over}
use Rattle.dm_ebinary.proofs.AssignLemmas.{move-later}
use Rattle.dm_ebinary.proofs.assignments.moved.Goals as goal

pub returns-then-may_move-clause-operand : goal.returns-then-may_move-clause-operand
returns-then-may_move-clause-operand c = λ later begins.
    ap (λ t. if t then Some (type_over later c.args.object, view_over later c.args.value.now) else None)
    (sym (move-later c.args.known.now later c.args.op (type_of c.args.known.now.types c.args.object) c.args.value.now begins c.requires.value true (sym c.if-may_move.true ∙ c.may_move.ensures)))

pub returns-clause-operand : goal.returns-clause-operand
returns-clause-operand c = λ later begins.
    ap (λ t. if t then Some (type_over later c.args.object, view_over later c.args.value.now) else None)
    (sym (move-later c.args.known.now later c.args.op (type_of c.args.known.now.types c.args.object) c.args.value.now begins c.requires.value false (sym c.if-may_move.false ∙ c.may_move.ensures)))
