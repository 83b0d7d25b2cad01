-- There are no more sets.
use Rattle.std.specs.Prelude.{◌≤◌}
use Rattle.std.proofs.Common.{sym, arith}
use Rattle.dm_typing.specs.Specifiers.{sets}
use Rattle.dm_edeclarator.proofs.SpecifierLemmas.{rows-past}
use Rattle.dm_edeclarator.proofs.specifiers.longer_set_at.Goals as goal

pub returns-in_default : goal.returns-in_default
returns-in_default c = sym (rows-past sets c.args.n (let many : 28 ≤ c.args.n = omega arith in many))
