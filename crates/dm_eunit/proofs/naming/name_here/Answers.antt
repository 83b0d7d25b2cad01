-- One name more, if it is there.
use Rattle.std.specs.Prelude.{true, false}
use Rattle.std.proofs.Common.{sym, ◌∙◌}
use Rattle.dm_tree.specs.Views.{view_of_declared}
use Rattle.dm_edecl.specs.Units.{innermost}
use Rattle.dm_eunit.proofs.NameLemmas.{name-so}
use Rattle.dm_eunit.proofs.naming.name_here.Goals as goal

pub returns-in_ok-push : goal.returns-in_ok-push
returns-in_ok-push c = λ types.
    c.in_ok-push.ensures.items
    ∙ sym (name-so (innermost c.args.known.now.scopes) c.args.names.now.items c.args.number (view_of_declared types c.args.entry.now) c.in_ok-name.name true (c.in_ok-name.ensures types)
    (sym c.is_here.ensures ∙ c.if-is_here.true))

pub returns-else-is_here : goal.returns-else-is_here
returns-else-is_here c = λ types.
    sym (name-so (innermost c.args.known.now.scopes) c.args.names.now.items c.args.number (view_of_declared types c.args.entry.now) c.in_ok-name.name false (c.in_ok-name.ensures types)
    (sym c.is_here.ensures ∙ c.if-is_here.false))
