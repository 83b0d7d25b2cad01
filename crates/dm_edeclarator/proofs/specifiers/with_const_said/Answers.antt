-- Const or not, by the type.
use Rattle.std.proofs.Common.{sym, ap, ◌∙◌}
use Rattle.dm_tree.specs.Scenes.{is_function}
use Rattle.dm_typing.specs.Views.{type_over}
use Rattle.dm_typing.proofs.LaterLemmas.{begins-on, type-later}
use Rattle.dm_edeclarator.proofs.SpecifierLemmas.{const-unsaid, const-of-function, const-of-other}
use Rattle.dm_edeclarator.proofs.specifiers.with_const_said.Goals as goal

pub returns-then-not-is_const-clause-made : goal.returns-then-not-is_const-clause-made
returns-then-not-is_const-clause-made c = λ later begins. sym (const-unsaid c.args.is_const (type_over later c.args.kind) c.if-not-is_const.true)

pub returns-then-is_function-clause-made : goal.returns-then-is_function-clause-made
returns-then-is_function-clause-made c = λ later begins.
    sym (const-of-function c.args.is_const (type_over later c.args.kind)
    (ap is_function (type-later c.args.known.now.types.shapes later c.args.kind begins c.requires) ∙ (sym c.is_function.ensures ∙ c.if-is_function.true)))

pub returns-clause-made : goal.returns-clause-made
returns-clause-made c = λ later begins.
    c.in_ok-made.ensures.number.1 later begins
    ∙ sym (const-of-other c.args.is_const (type_over later c.args.kind) c.if-not-is_const.false
    (ap is_function (type-later c.args.known.now.types.shapes later c.args.kind
    (begins-on c.args.known.now.types.shapes c.intern.new.self.types.shapes later c.intern.ensures.grows.shapes begins) c.requires) ∙ (sym c.is_function.ensures ∙ c.if-is_function.false)))
