use Rattle.std.proofs.Common.{ap, ◌∙◌, sym, arith, List, Some, true, false}
use Rattle.std.proofs.lemmas.Bool.{cond-true, cond-false, eq-eqb, ne_eqb, lt-ltb}
use Rattle.dm_expand.specs.Items.{Item}
use Rattle.dm_expand.proofs.ArgumentLemmas.{exact-is_nothing, exact-some}
use Rattle.dm_expand.proofs.arguments.exact_arguments.Goals as goal

pub returns-then-is_nothing : goal.returns-then-is_nothing
returns-then-is_nothing c =
    ap (λ (x : List (List Item)). Some x) c.new.ensures
    ∙ sym (exact-is_nothing c.args.parameters c.args.given true c.if-parameters-eq0.true (sym c.if-is_nothing.ensures))

pub returns-then-parameters-eq0 : goal.returns-then-parameters-eq0
returns-then-parameters-eq0 c =
    sym (exact-is_nothing c.args.parameters c.args.given false c.if-parameters-eq0.true (sym c.if-is_nothing.ensures))

pub returns-then-len-parameters : goal.returns-then-len-parameters
returns-then-len-parameters c =
    sym (exact-some c.args.parameters c.args.given (lt-ltb 0 c.args.parameters (omega (arith, c.if-parameters-eq0.false)))
    ∙ cond-true _ _ _ (eq-eqb _ _ (sym c.len.ensures ∙ c.if-len-parameters.true)))

pub returns : goal.returns
returns c =
    sym (exact-some c.args.parameters c.args.given (lt-ltb 0 c.args.parameters (omega (arith, c.if-parameters-eq0.false)))
    ∙ cond-false _ _ _ (ne_eqb _ _ (λ e. c.if-len-parameters.false (c.len.ensures ∙ e))))
