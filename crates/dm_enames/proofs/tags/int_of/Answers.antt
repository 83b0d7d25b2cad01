-- The value of a constant expression is the same whatever numbers come.
use Rattle.std.specs.Prelude.{option_and_then}
use Rattle.std.proofs.Common.{rules, ap, sym, ◌∙◌, ◌≡◌, to_z, of_z}
use mir.Syntax.{w128}
use Rattle.dm_typing.proofs.ValueLemmas.{constant-later}
use Rattle.dm_enames.specs.Tags.{if_int}
use Rattle.dm_enames.proofs.tags.int_of.Goals as goal

pub returns-in_err-value : goal.returns-in_err-value
returns-in_err-value c = λ later begins.
    c.from_residual.ensures
    ∙ ap (option_and_then if_int) (sym (constant-later c.args.known.now later c.args.tree.now begins c.requires ∙ sym c.in_err-value.ensures))

pub returns : goal.returns
returns c = λ later begins.
    let value = c.in_ok-value.value in
    let same : to_z w128 (of_z w128 value) ≡ value = search rules in
    c.as_int.ensures ∙ (ap if_int same
    ∙ ap (option_and_then if_int) (sym (constant-later c.args.known.now later c.args.tree.now begins c.requires ∙ sym c.in_ok-value.ensures)))
