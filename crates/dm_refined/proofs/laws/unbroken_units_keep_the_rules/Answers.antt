use Rattle.dm_refined.proofs.RuleLemmas.{unit_keeps}
use Rattle.dm_refined.proofs.laws.unbroken_units_keep_the_rules.Goals as goal

pub returns : goal.returns
returns c definition files unit old new reading is of unbroken read =
    unit_keeps definition reading unbroken read (c.runs_are_of_expansions.ensures definition files unit old new reading is of)
