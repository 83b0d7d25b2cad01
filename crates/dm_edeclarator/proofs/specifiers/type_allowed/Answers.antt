-- Storage words may stand there, or not.
use Rattle.std.specs.Prelude.{ℕ}
use Rattle.std.proofs.Common.{sym, ◌∙◌}
use Rattle.dm_typing.specs.Specifiers.{are_allowed}
use Rattle.dm_edeclarator.specs.Steps.{where_of, said_over}
use Rattle.dm_typing.specs.Views.{type_over, known_over, source_of}
use Rattle.dm_typing.proofs.GivesLemmas.{obeyed, disobeyed, refused, given-so, grown}
use Rattle.dm_edeclarator.proofs.specifiers.type_allowed.Goals as goal

pub returns-then-not-are_allowed-clause-gives : goal.returns-then-not-are_allowed-clause-gives
returns-then-not-are_allowed-clause-gives c = λ later begins.
    refused {A = ℕ} (type_over later) (source_of c.args.typer.now) (known_over later c.args.known.now) _ 3 c.args.here c.broken.result
    (disobeyed (are_allowed (where_of c.args.stands) (said_over later c.args.said.now)) 3 c.args.here _ (sym (c.are_allowed.ensures later) ∙ c.if-not-are_allowed.true))
    c.broken.ensures

pub returns-clause-gives : goal.returns-clause-gives
returns-clause-gives c = λ later begins.
    obeyed (are_allowed (where_of c.args.stands) (said_over later c.args.said.now)) 3 c.args.here _ (sym (c.are_allowed.ensures later) ∙ c.if-not-are_allowed.false)
    ∙ given-so (known_over later c.args.known.now) (known_over later c.with_const_said.new.known) _ _ (grown later c.args.known.now c.with_const_said.new.known c.with_const_said.ensures.grows)
    (sym (c.in_ok-made.ensures.made later begins))
