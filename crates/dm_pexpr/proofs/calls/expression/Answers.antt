use Rattle.std.proofs.Common.{◌≡◌, true, false, [], sym, ap, ◌∙◌, subst}
use Rattle.dm_token.specs.Limits.{greatest_height}
use Rattle.dm_syn.specs.Sources.{symbol_in}
use Rattle.dm_pexpr.specs.Parsing.{lower}
use Rattle.dm_pexpr.specs.Parts.{Gives, an_expr}
use Rattle.dm_pexpr.specs.Answers.{source_with}
use Rattle.dm_pexpr.specs.Readings.{closes_expression}
use Rattle.dm_pexpr.proofs.PartLemmas.{part-of}
use Rattle.dm_pexpr.proofs.ReadExprs.{nothing-of}
use Rattle.dm_pexpr.proofs.Wholes.{expression-given, expression-the-one, expression-open, expression-none}
use Rattle.dm_pexpr.proofs.calls.expression.Goals as goal

pub returns-in_default-clause-only : goal.returns-in_default-clause-only
returns-in_default-clause-only c =
    let s = source_with c.args.tokens.now c.args.typedefs.now in
    let given = subst (λ ns. Gives (an_expr s) s ns c.expr.new.scope c.in_ok-expr.field-0 ((lower s greatest_height).expr 0 ns c.args.at)) c.new-scope.ensures c.in_ok-expr.ensures in
    λ it is. expression-none s c.args.at it (nothing-of (an_expr s) s [] c.expr.new.scope c.in_ok-expr.field-0 _ c.in_default.is given) is

pub returns-then-closes_expression-clause-found : goal.returns-then-closes_expression-clause-found
returns-then-closes_expression-clause-found c =
    let s = source_with c.args.tokens.now c.args.typedefs.now in
    let given = subst (λ ns. Gives (an_expr s) s ns c.expr.new.scope c.in_ok-expr.field-0 ((lower s greatest_height).expr 0 ns c.args.at)) c.new-scope.ensures c.in_ok-expr.ensures in
    let k = part-of (an_expr s) s [] c.expr.new.scope c.in_ok-expr.field-0 c.in-Some.expr _ c.in-Some.is given in
    expression-given s c.expr.new.scope c.args.at c.in-Some.expr k k.low (ap closes_expression (sym c.symbol.ensures.value) ∙ sym c.closes_expression.ensures ∙ c.if-closes_expression.true)

pub returns-then-closes_expression-clause-only : goal.returns-then-closes_expression-clause-only
returns-then-closes_expression-clause-only c =
    let s = source_with c.args.tokens.now c.args.typedefs.now in
    let given = subst (λ ns. Gives (an_expr s) s ns c.expr.new.scope c.in_ok-expr.field-0 ((lower s greatest_height).expr 0 ns c.args.at)) c.new-scope.ensures c.in_ok-expr.ensures in
    let k = part-of (an_expr s) s [] c.expr.new.scope c.in_ok-expr.field-0 c.in-Some.expr _ c.in-Some.is given in
    λ it is. expression-the-one s c.expr.new.scope c.args.at c.in-Some.expr it k k.low (ap closes_expression (sym c.symbol.ensures.value) ∙ sym c.closes_expression.ensures ∙ c.if-closes_expression.true) is

pub returns-clause-only : goal.returns-clause-only
returns-clause-only c =
    let s = source_with c.args.tokens.now c.args.typedefs.now in
    let given = subst (λ ns. Gives (an_expr s) s ns c.expr.new.scope c.in_ok-expr.field-0 ((lower s greatest_height).expr 0 ns c.args.at)) c.new-scope.ensures c.in_ok-expr.ensures in
    let k = part-of (an_expr s) s [] c.expr.new.scope c.in_ok-expr.field-0 c.in-Some.expr _ c.in-Some.is given in
    λ it is. expression-open s c.expr.new.scope c.args.at c.in-Some.expr it k (ap closes_expression (sym c.symbol.ensures.value) ∙ sym c.closes_expression.ensures ∙ c.if-closes_expression.false) is
