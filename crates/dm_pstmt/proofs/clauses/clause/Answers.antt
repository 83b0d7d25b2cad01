use Rattle.std.proofs.Common.{length, sym, ◌∙◌}
use Rattle.dm_pexpr.specs.Parsing.{lower}
use Rattle.dm_pexpr.specs.Parts.{source_of}
use Rattle.dm_pstmt.specs.Kinds.{an_optional}
use Rattle.dm_pstmt.specs.Parsing.{stands}
use Rattle.dm_pstmt.proofs.ClauseSteps.{passes-there, passes-not, nothing-read, clause-wanted}
use Rattle.dm_pstmt.proofs.Wholes.{gives-along}
use Rattle.dm_pstmt.proofs.clauses.clause.Goals as goal

pub returns-then-is_some-clause-read : goal.returns-then-is_some-clause-read
returns-then-is_some-clause-read c =
    let there = passes-there (stands (source_of c.args.reader.now) c.args.scope.now c.args.at c.args.stop) c.args.at (length c.args.reader.now.tokens.now) c.behind.result c.behind.ensures (sym c.is_some.ensures ∙ c.if-is_some.true) in
    nothing-read (source_of c.args.reader.now) (lower (source_of c.args.reader.now) c.args.depth) c.args.stop c.args.scope.now c.args.at there.0 there.1

pub returns-then-is_some-clause-inside : goal.returns-then-is_some-clause-inside
returns-then-is_some-clause-inside c =
    passes-there (stands (source_of c.args.reader.now) c.args.scope.now c.args.at c.args.stop) c.args.at (length c.args.reader.now.tokens.now) c.behind.result c.behind.ensures (sym c.is_some.ensures ∙ c.if-is_some.true)

pub returns-clause-read : goal.returns-clause-read
returns-clause-read c =
    let none = passes-not (stands (source_of c.args.reader.now) c.args.scope.now c.args.at c.args.stop) c.args.at (length c.args.reader.now.tokens.now) c.behind.result c.behind.ensures (sym c.is_some.ensures ∙ c.if-is_some.false) in
    gives-along (an_optional (source_of c.args.reader.now) c.args.at) (source_of c.args.reader.now) c.args.scope.now c.expr.new.scope c.before_stop.result _ _
    (clause-wanted (source_of c.args.reader.now) (lower (source_of c.args.reader.now) c.args.depth) c.args.stop c.args.scope.now c.args.at none)
    (c.before_stop.ensures.read c.args.scope.now c.args.at ((lower (source_of c.args.reader.now) c.args.depth).expr 0 c.args.scope.now c.args.at) c.in_ok-expr.ensures)

pub returns-clause-inside : goal.returns-clause-inside
returns-clause-inside c = c.before_stop.ensures.inside
