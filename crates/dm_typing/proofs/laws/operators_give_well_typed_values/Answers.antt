use Rattle.dm_typing.proofs.CallLemmas.{call-gives, cast-gives, sizeof-name-gives}
use Rattle.dm_typing.proofs.ChoiceLemmas.{choice-gives}
use Rattle.dm_typing.proofs.RuleLemmas.{binary-gives, sign-gives, comma-gives, sizeof-gives}
use Rattle.dm_typing.proofs.laws.operators_give_well_typed_values.Goals as goal

pub returns-clause-binary : goal.returns-clause-binary
returns-clause-binary c = binary-gives

pub returns-clause-sign : goal.returns-clause-sign
returns-clause-sign c = sign-gives

pub returns-clause-choice : goal.returns-clause-choice
returns-clause-choice c = choice-gives

pub returns-clause-comma : goal.returns-clause-comma
returns-clause-comma c = comma-gives

pub returns-clause-call : goal.returns-clause-call
returns-clause-call c = call-gives

pub returns-clause-cast : goal.returns-clause-cast
returns-clause-cast c = cast-gives

pub returns-clause-sizes : goal.returns-clause-sizes
returns-clause-sizes c = sizeof-gives

pub returns-clause-type_sizes : goal.returns-clause-type_sizes
returns-clause-type_sizes c = sizeof-name-gives
