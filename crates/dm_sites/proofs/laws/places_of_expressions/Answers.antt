-- By the walk over the trees of a unit.
use Rattle.dm_sites.specs.Sites.{sites_of_unit}
use Rattle.dm_sites.proofs.LeadLemmas.{fit-at, unit-fits}
use Rattle.dm_sites.proofs.laws.places_of_expressions.Goals as goal

pub returns-clause-leads : goal.returns-clause-leads
returns-clause-leads c one n site is = (fit-at (sites_of_unit one) n site (unit-fits one) is).0

pub returns-clause-expression : goal.returns-clause-expression
returns-clause-expression c one n site is = (fit-at (sites_of_unit one) n site (unit-fits one) is).1
