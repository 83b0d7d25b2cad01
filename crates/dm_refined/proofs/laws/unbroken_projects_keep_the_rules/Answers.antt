use Rattle.dm_refined.proofs.RuleLemmas.{project_keeps}
use Rattle.dm_refined.proofs.laws.unbroken_projects_keep_the_rules.Goals as goal

pub returns : goal.returns
returns c definition files unit old new readings reading is of among unbroken =
    project_keeps definition readings reading among unbroken (c.runs_are_of_expansions.ensures definition files unit old new reading is of)
