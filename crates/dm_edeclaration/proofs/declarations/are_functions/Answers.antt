-- Each of them is a function.
use Rattle.std.specs.Prelude.{◌&&◌, ◌+◌, drop}
use Rattle.std.proofs.Common.{sym, ap, ◌∙◌}
use Rattle.dm_typing.specs.Views.{known_over}
use Rattle.dm_eexpr.proofs.LoopLemmas.{cut, past}
use Rattle.dm_edeclaration.specs.Steps.{are_functions_in}
use Rattle.dm_edeclaration.proofs.declarations.are_functions.Goals as goal

pub returns-then-not-is_function : goal.returns-then-not-is_function
returns-then-not-is_function c = λ later.
    let known = known_over later c.args.known.now in
    let locals = c.args.locals.now in
    let i = c.loop-local.local-index in
    sym (c.loop-local.invariant later ∙ ap (are_functions_in known) (cut locals i c.local-item.result c.loop-local-test.true c.local-item.is)
    ∙ ap (λ test. test && are_functions_in known (drop (i + 1) locals)) (sym (c.is_function.ensures later) ∙ c.if-not-is_function.true))

pub loop-local-preserved : goal.loop-local-preserved
loop-local-preserved c = λ later.
    let known = known_over later c.args.known.now in
    let locals = c.args.locals.now in
    let i = c.loop-local.local-index in
    c.loop-local.invariant later ∙ ap (are_functions_in known) (cut locals i c.local-item.result c.loop-local-test.true c.local-item.is)
    ∙ ap (λ test. test && are_functions_in known (drop (i + 1) locals)) (sym (c.is_function.ensures later) ∙ c.if-not-is_function.false)

pub returns : goal.returns
returns c = λ later.
    sym (c.loop-local.invariant later ∙ ap (are_functions_in (known_over later c.args.known.now)) (past c.args.locals.now c.loop-local.local-index c.loop-local-test.false))
