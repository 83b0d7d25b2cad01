-- The innermost scope doesn't declare the name.
use Rattle.std.proofs.Common.{sym, ◌∙◌}
use Rattle.dm_eunit.proofs.NameLemmas.{not-here}
use Rattle.dm_eunit.proofs.naming.is_here.Goals as goal

pub returns-then-not-is_declared : goal.returns-then-not-is_declared
returns-then-not-is_declared c = sym (not-here c.args.known.now.scopes c.args.name.now c.args.number (sym c.is_declared.ensures ∙ c.if-not-is_declared.true))
