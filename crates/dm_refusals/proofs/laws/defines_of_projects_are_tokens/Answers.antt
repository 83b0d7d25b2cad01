use Rattle.dm_refusals.proofs.RefusalLemmas.{project-reads}
use Rattle.dm_refusals.proofs.laws.defines_of_projects_are_tokens.Goals as goal

pub returns : goal.returns
returns c told project units is = project-reads c.lawful_defines_are_tokens.ensures told project units is
