use Rattle.dm_estanding.proofs.LawfulLemmas.{opened-lawful, closed-lawful}
use Rattle.dm_estanding.proofs.ProceedingLemmas.{no-names, none-there}
use Rattle.dm_estanding.proofs.laws.scopes_stay_lawful.Goals as goal

pub returns-clause-opened : goal.returns-clause-opened
returns-clause-opened c = λ standing lawful. opened-lawful no-names standing (λ name number entry means is. none-there standing.known.declared name number entry means is) lawful

pub returns-clause-closed : goal.returns-clause-closed
returns-clause-closed c = λ outside inside kept below lawful lawful-inside. closed-lawful outside inside kept below lawful lawful-inside
