-- Both are converted to one type.
use Rattle.std.specs.Prelude.{option_map}
use Rattle.std.proofs.Common.{ap, sym, ◌∙◌}
use Rattle.dm_typing.specs.Rules.{both_as}
use Rattle.dm_typing.specs.Views.{view_over, known_over, type_over}
use Rattle.dm_ebinary.proofs.ChoiceStepLemmas.{arms-by-kind}
use Rattle.dm_ebinary.proofs.choices.arms.Goals as goal

pub returns-in-None-clause-way : goal.returns-in-None-clause-way
returns-in-None-clause-way c = λ later begins.
    let a = view_over later c.args.a.now in
    let b = view_over later c.args.b.now in
    ap (option_map (both_as a b)) (ap (option_map (type_over later)) (sym c.in-None.is) ∙ c.in_ok-found.ensures.kind later begins)
    ∙ sym (arms-by-kind (known_over later c.args.known.now) a b)

pub returns-in-Some-clause-way : goal.returns-in-Some-clause-way
returns-in-Some-clause-way c = λ later begins.
    let a = view_over later c.args.a.now in
    let b = view_over later c.args.b.now in
    ap (option_map (both_as a b)) (ap (option_map (type_over later)) (sym c.in-Some.is) ∙ c.in_ok-found.ensures.kind later begins)
    ∙ sym (arms-by-kind (known_over later c.args.known.now) a b)
