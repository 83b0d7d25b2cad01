-- By what the value points to.
use Rattle.std.specs.Prelude.{true, false}
use Rattle.std.proofs.Common.{sym, ◌∙◌}
use Rattle.dm_type.specs.Tables.{type_of}
use Rattle.dm_ebinary.proofs.AssignLemmas.{assigned-pointing, assigned-null}
use Rattle.dm_ebinary.proofs.assignments.is_pointer_assignable.Goals as goal

pub returns-then-may_point : goal.returns-then-may_point
returns-then-may_point c = λ later begins.
    let types = c.args.known.now.types in
    sym (assigned-pointing c.args.known.now later c.args.value.now begins c.requires.value (type_of types c.args.to) (type_of types c.in-Some.from) c.in-Some.ensures.target true
    (sym c.if-may_point.true ∙ c.may_point.ensures))

pub returns-else-may_point : goal.returns-else-may_point
returns-else-may_point c = λ later begins.
    let types = c.args.known.now.types in
    c.is_null.ensures later begins
    ∙ sym (assigned-pointing c.args.known.now later c.args.value.now begins c.requires.value (type_of types c.args.to) (type_of types c.in-Some.from) c.in-Some.ensures.target false
    (sym c.if-may_point.false ∙ c.may_point.ensures))

pub returns-in-None : goal.returns-in-None
returns-in-None c = λ later begins.
    c.is_null-in-None.ensures later begins ∙ sym (assigned-null c.args.known.now later c.args.value.now begins c.requires.value (type_of c.args.known.now.types c.args.to) c.in-None.ensures.target)
