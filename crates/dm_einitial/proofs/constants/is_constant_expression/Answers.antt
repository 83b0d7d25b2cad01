-- The form, and the commas that are evaluated, are the same whatever numbers come.
use Rattle.std.specs.Prelude.{◌&&◌, not}
use Rattle.std.proofs.Common.{ap, sym, ◌∙◌}
use Rattle.dm_tree.specs.Views.{view}
use Rattle.dm_typing.specs.Views.{seen}
use Rattle.dm_edecl.specs.Initialising.{has_comma}
use Rattle.dm_einitial.proofs.LaterValues.{expression-later}
use Rattle.dm_einitial.proofs.constants.is_constant_expression.Goals as goal

pub returns-then-has_constant_form : goal.returns-then-has_constant_form
returns-then-has_constant_form c = λ later begins.
    let held = c.args.known.now in
    let form = sym c.has_constant_form.ensures ∙ c.if-has_constant_form.true in
    ap not c.evaluate.ensures.comma
    ∙ sym (expression-later held later begins c.args.core.now c.requires ∙ ap (λ f. f && not (has_comma (seen held) (view held.types c.args.core.now))) form)

pub returns-else-has_constant_form : goal.returns-else-has_constant_form
returns-else-has_constant_form c = λ later begins.
    let held = c.args.known.now in
    let form = sym c.has_constant_form.ensures ∙ c.if-has_constant_form.false in
    sym (expression-later held later begins c.args.core.now c.requires ∙ ap (λ f. f && not (has_comma (seen held) (view held.types c.args.core.now))) form)
