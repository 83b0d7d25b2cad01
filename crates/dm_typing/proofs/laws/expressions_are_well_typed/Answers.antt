use Rattle.dm_syn.specs.Spans.{expr_span}
use Rattle.dm_typing.proofs.DerivedLemmas.{derived-more}
use Rattle.dm_typing.proofs.WholeLemmas.{sound-start, expr-more, name-more, specifiers-more, declarator-more}
use Rattle.dm_typing.proofs.laws.expressions_are_well_typed.Goals as goal

pub returns-clause-expressions : goal.returns-clause-expressions
returns-clause-expressions c setting tokens used known names expr = expr-more setting tokens used known names (expr_span expr) expr

pub returns-clause-type_names : goal.returns-clause-type_names
returns-clause-type_names c = name-more

pub returns-clause-specifiers : goal.returns-clause-specifiers
returns-clause-specifiers c = specifiers-more

pub returns-clause-declarators : goal.returns-clause-declarators
returns-clause-declarators c = declarator-more

pub returns-clause-derivations : goal.returns-clause-derivations
returns-clause-derivations c = derived-more

pub returns-clause-start : goal.returns-clause-start
returns-clause-start c = sound-start
