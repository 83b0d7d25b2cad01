use Rattle.dm_pexpr.specs.Parsing.{lower}
use Rattle.dm_pexpr.specs.Parts.{source_of, an_expr}
use Rattle.dm_pstmt.proofs.ClauseSteps.{not-enclosed, enclosed-wanted}
use Rattle.dm_pstmt.proofs.Wholes.{gives-along}
use Rattle.dm_pstmt.proofs.clauses.enclosed.Goals as goal

pub returns-in_default-clause-read : goal.returns-in_default-clause-read
returns-in_default-clause-read c = not-enclosed (source_of c.args.reader.now) (lower (source_of c.args.reader.now) c.args.depth) c.args.scope.now c.args.at c.in_default.ensures

pub returns-clause-read : goal.returns-clause-read
returns-clause-read c =
    gives-along (an_expr (source_of c.args.reader.now)) (source_of c.args.reader.now) c.args.scope.now c.expr.new.scope c.before_paren.result _ _
    (enclosed-wanted (source_of c.args.reader.now) (lower (source_of c.args.reader.now) c.args.depth) c.args.scope.now c.args.at c.in-Some.next c.in-Some.ensures.0 c.in-Some.ensures.1)
    (c.before_paren.ensures.read c.args.scope.now ((lower (source_of c.args.reader.now) c.args.depth).expr 0 c.args.scope.now c.in-Some.next) c.in_ok-expr.ensures)

pub returns-clause-inside : goal.returns-clause-inside
returns-clause-inside c = c.before_paren.ensures.inside
