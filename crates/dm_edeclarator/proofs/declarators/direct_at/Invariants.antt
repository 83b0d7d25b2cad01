use Rattle.std.proofs.Common.{◌≡◌, drop}
use Rattle.dm_typing.specs.Typing.{direct_at}
use Rattle.dm_edeclarator.proofs.declarators.direct_at.Given as goal

-- behind the pointers that are left
abbrev pub invariant-loop-consts : goal.invariant-loop-consts
invariant-loop-consts l = direct_at l.at (drop l.consts-index l.pointers) ≡ direct_at l.first l.pointers
