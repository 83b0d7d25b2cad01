-- An allowed edit breaks no rule, and leaves the readings aligned.
use Rattle.dm_refined.proofs.laws.allowed_changes_refine.Goals as goal

pub returns : goal.returns
returns c old new change allowed files unit before after is of layered made called =
    c.kept_readings_refine.ensures files unit before after old new change is layered
    (λ kind read. (made, c.unbroken_units_keep_the_rules.ensures change.definition files unit before after old is of allowed.0 read, called kind)) allowed.1
