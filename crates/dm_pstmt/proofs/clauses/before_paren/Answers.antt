use Rattle.dm_pexpr.specs.Parts.{source_of, an_expr}
use Rattle.dm_pexpr.proofs.PartLemmas.{none-gives}
use Rattle.dm_pexpr.proofs.ReadExprs.{nothing-of}
use Rattle.dm_pstmt.specs.Parsing.{enclosed_by}
use Rattle.dm_pstmt.proofs.ClauseSteps.{no-paren, paren-read}
use Rattle.dm_pstmt.proofs.Wholes.{then-none}
use Rattle.dm_pstmt.proofs.clauses.before_paren.Goals as goal
use Rattle.std.proofs.Common.{◌≡◌, ◌+◌, ◌≤◌, length, arith}

pub returns-in_err-expr-clause-read : goal.returns-in_err-expr-clause-read
returns-in_err-expr-clause-read c before wanted given =
    none-gives (an_expr (source_of c.args.reader.now)) (source_of c.args.reader.now) before c.args.scope.now _ _ c.from_residual.ensures
    (then-none (enclosed_by (source_of c.args.reader.now) before) wanted (nothing-of (an_expr (source_of c.args.reader.now)) (source_of c.args.reader.now) before c.args.scope.now c.args.expr wanted c.in_err-expr.was given))

pub returns-in_err-behind-clause-read : goal.returns-in_err-behind-clause-read
returns-in_err-behind-clause-read c before wanted given =
    none-gives (an_expr (source_of c.args.reader.now)) (source_of c.args.reader.now) before c.args.scope.now _ _ c.from_residual-in_err-behind.ensures
    (no-paren (source_of c.args.reader.now) before c.args.scope.now c.args.expr c.in_ok-expr.expr wanted c.in_ok-expr.was given c.in_err-behind.ensures)

pub returns-clause-read : goal.returns-clause-read
returns-clause-read c before wanted given =
    paren-read (source_of c.args.reader.now) before c.args.scope.now c.args.expr c.in_ok-expr.expr wanted c.in_ok-expr.was given c.in_ok-behind.ensures.0

pub returns-clause-inside : goal.returns-clause-inside
returns-clause-inside c =
    let next : c.in_ok-behind.field-0 ≡ c.in_ok-expr.expr.after + 1 = c.in_ok-behind.ensures.1 in
    let within : c.in_ok-behind.field-0 ≤ length c.args.reader.now.tokens.now = c.in_ok-behind.ensures.2 in
    omega arith
