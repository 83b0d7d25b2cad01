use Rattle.dm_syn.specs.Spans.{expr_span, type_name_span, specifiers_span, declarator_span}
use Rattle.dm_typing.specs.Typing.{typed, typed_name, typed_specifiers, steps_of, derived}
use Rattle.dm_typing.specs.Sound.{StepsWithin}
use Rattle.dm_typing.proofs.PlaceLemmas.{Plain, within-places, given-places, derived-places}
use Rattle.dm_typing.proofs.WholePlaceLemmas.{expr-placed, name-placed, specifiers-placed, declarator-placed}
use Rattle.dm_typing.proofs.laws.broken_rules_are_inside.Goals as goal

pub returns-clause-expressions : goal.returns-clause-expressions
returns-clause-expressions c setting used known names expr is =
    within-places (expr_span expr).first (expr_span expr).after Plain (typed setting used known expr) ((expr-placed setting names (expr_span expr) expr is).1 used known)

pub returns-clause-type_names : goal.returns-clause-type_names
returns-clause-type_names c setting used known names name is =
    within-places (type_name_span name).first (type_name_span name).after Plain (typed_name setting used known name) ((name-placed setting names name is).1 used known)

pub returns-clause-specifiers : goal.returns-clause-specifiers
returns-clause-specifiers c setting used known names stands alone specifiers is =
    within-places (specifiers_span specifiers).first (specifiers_span specifiers).after Plain (typed_specifiers setting used stands alone known specifiers)
    ((specifiers-placed setting names stands alone specifiers is).1 used known)

pub returns-clause-declarators : goal.returns-clause-declarators
returns-clause-declarators c setting used known names of_parameter declarator is =
    let span = declarator_span declarator in
    within-places span.first span.after (StepsWithin span.first span.after) (steps_of setting used known declarator)
    ((declarator-placed setting names of_parameter declarator is).steps used known)

pub returns-clause-steps : goal.returns-clause-steps
returns-clause-steps c setting used known names of_parameter declarator is behind steps e =
    let span = declarator_span declarator in
    given-places span.first span.after (StepsWithin span.first span.after) (steps_of setting used known declarator)
    ((declarator-placed setting names of_parameter declarator is).steps used known) behind steps e

pub returns-clause-derivations : goal.returns-clause-derivations
returns-clause-derivations c known first behind type steps within =
    within-places first behind Plain (derived known type steps) (derived-places known first behind type steps within)
