use Rattle.std.proofs.Common.{refl}
use Rattle.dm_spell.specs.Tables.{punctuator_rows, keyword_rows, directive_rows}
use Rattle.dm_spell.proofs.rows.rows_are_named.Goals as goal

pub returns-clause-punctuators : goal.returns-clause-punctuators
unfolding punctuator_rows
returns-clause-punctuators c = (refl, refl, refl, refl, refl, refl, refl, refl, refl, refl, refl, refl, refl, refl, refl, refl, refl, refl, refl, refl, refl, refl, refl, refl, refl, refl, refl, refl, refl, refl, refl, refl, refl, refl, refl, refl, refl, refl, refl, refl, refl, refl, refl, refl, refl, refl, refl, refl, refl, refl, refl, refl, refl, refl)

pub returns-clause-keywords : goal.returns-clause-keywords
unfolding keyword_rows
returns-clause-keywords c = (refl, refl, refl, refl, refl, refl, refl, refl, refl, refl, refl, refl, refl, refl, refl, refl, refl, refl, refl, refl, refl, refl, refl, refl, refl, refl, refl, refl, refl, refl, refl, refl, refl, refl, refl, refl, refl, refl, refl, refl, refl, refl, refl, refl)

pub returns-clause-directives : goal.returns-clause-directives
unfolding directive_rows
returns-clause-directives c = (refl, refl, refl, refl, refl, refl, refl, refl, refl, refl, refl, refl)
