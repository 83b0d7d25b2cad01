-- The name is new.
use Rattle.std.proofs.Common.{ap, ◌∙◌}
use Rattle.dm_scope.specs.Scopes.{is_declared}
use Rattle.dm_edeclarator.proofs.declarators.parameter_declared.Goals as goal

pub declare-requires-clause-new : goal.declare-requires-clause-new
declare-requires-clause-new c = ap (is_declared c.args.known.now.scopes) (c.in_ok-key.ensures ∙ c.in_ok-name.ensures) ∙ c.requires.new
