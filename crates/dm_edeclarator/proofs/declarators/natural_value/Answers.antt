-- The value of a constant expression is the same whatever numbers come.
use Rattle.std.specs.Prelude.{option_and_then}
use Rattle.std.proofs.Common.{rules, ap, sym, ◌∙◌, ◌≡◌, to_z, of_z}
use mir.Syntax.{w128}
use Rattle.dm_typing.specs.Typing.{natural}
use Rattle.dm_typing.proofs.ValueLemmas.{constant-later}
use Rattle.dm_edeclarator.proofs.declarators.natural_value.Goals as goal

pub returns-in-Some-clause-value : goal.returns-in-Some-clause-value
returns-in-Some-clause-value c = λ later begins.
    let same : to_z w128 (of_z w128 c.in-Some.value) ≡ c.in-Some.value = search rules in
    c.natural.ensures.value ∙ (ap natural same ∙ ap (option_and_then natural) (sym (constant-later c.args.known.now later c.args.tree.now begins c.requires ∙ (sym c.constant.ensures ∙ c.in-Some.is))))

pub returns-in-None-clause-value : goal.returns-in-None-clause-value
returns-in-None-clause-value c = λ later begins.
    ap (option_and_then natural) (sym (constant-later c.args.known.now later c.args.tree.now begins c.requires ∙ (sym c.constant.ensures ∙ c.in-None.is)))
