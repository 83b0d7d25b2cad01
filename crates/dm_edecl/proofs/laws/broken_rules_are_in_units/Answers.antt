use Rattle.dm_edecl.proofs.PlacingLemmas.{declaration-placed}
use Rattle.dm_edecl.proofs.StatementPlacingLemmas.{stmt-placed}
use Rattle.dm_edecl.proofs.UnitPlacingLemmas.{external-placed, unit-within}
use Rattle.dm_edecl.proofs.laws.broken_rules_are_in_units.Goals as goal

pub returns-clause-declarations : goal.returns-clause-declarations
returns-clause-declarations c setting standing names declaration is = (declaration-placed setting names declaration is).1 standing

pub returns-clause-statements : goal.returns-clause-statements
returns-clause-statements c setting within standing names stmt is = (stmt-placed setting names stmt is).1 within standing

pub returns-clause-externals : goal.returns-clause-externals
returns-clause-externals c setting standing names one is = (external-placed setting names one is).1 standing

pub returns-clause-units : goal.returns-clause-units
returns-clause-units c = unit-within
