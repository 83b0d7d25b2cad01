use Rattle.std.proofs.Common.{◌≡◌, ◌<◌, ◌+◌, ◌≤◌, length, arith, Some, option_map, ap}
use Rattle.dm_pexpr.specs.Parsing.{and_then}
use Rattle.dm_pexpr.specs.Parts.{source_of, an_expr}
use Rattle.dm_pexpr.proofs.PartLemmas.{none-gives}
use Rattle.dm_pexpr.proofs.ReadExprs.{nothing-of}
use Rattle.dm_pstmt.specs.Kinds.{an_optional}
use Rattle.dm_pstmt.specs.Steps.{closed_by}
use Rattle.dm_pstmt.proofs.ClauseSteps.{no-stop, stop-read}
use Rattle.dm_pstmt.proofs.clauses.before_stop.Goals as goal

pub returns-in_err-expr-clause-read : goal.returns-in_err-expr-clause-read
returns-in_err-expr-clause-read c before at wanted given =
    none-gives (an_optional (source_of c.args.reader.now) at) (source_of c.args.reader.now) before c.args.scope.now _ _ c.from_residual.ensures
    (ap (λ w. and_then (closed_by (source_of c.args.reader.now) before at c.args.stop) (option_map Some w)) (nothing-of (an_expr (source_of c.args.reader.now)) (source_of c.args.reader.now) before c.args.scope.now c.args.expr wanted c.in_err-expr.was given))

pub returns-in_err-behind-clause-read : goal.returns-in_err-behind-clause-read
returns-in_err-behind-clause-read c before at wanted given =
    none-gives (an_optional (source_of c.args.reader.now) at) (source_of c.args.reader.now) before c.args.scope.now _ _ c.from_residual-in_err-behind.ensures
    (no-stop (source_of c.args.reader.now) before c.args.scope.now at c.args.stop c.args.expr c.in_ok-expr.expr wanted c.in_ok-expr.was given c.in_err-behind.ensures)

pub returns-clause-read : goal.returns-clause-read
returns-clause-read c before at wanted given =
    stop-read (source_of c.args.reader.now) before c.args.scope.now at c.args.stop c.args.expr c.in_ok-expr.expr wanted c.in_ok-expr.was given c.in_ok-behind.ensures.0

pub returns-clause-inside : goal.returns-clause-inside
returns-clause-inside c =
    let next : c.in_ok-behind.field-0 ≡ c.in_ok-expr.expr.after + 1 = c.in_ok-behind.ensures.1 in
    let within : c.in_ok-behind.field-0 ≤ length c.args.reader.now.tokens.now = c.in_ok-behind.ensures.2 in
    let before_end : c.in_ok-expr.expr.after < length c.args.reader.now.tokens.now = omega arith in
    (c.in_ok-behind.ensures.0, before_end)
