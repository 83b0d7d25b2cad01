use Rattle.std.proofs.Common.{◌≡◌, ◌+◌, sym, ap, ◌∙◌, arith}
use Rattle.dm_syn.specs.declared.symbol.Symbol.TheVariants as symbol
use Rattle.dm_pexpr.specs.Parts.{source_of}
use Rattle.dm_pexpr.proofs.TestLemmas.{fails}
use Rattle.dm_pstmt.specs.Parsing.{stands, stmt_by}
use Rattle.dm_pstmt.proofs.clauses.continue_statement.Goals as goal

pub returns-in-Some : goal.returns-in-Some
unfolding stmt_by
returns-in-Some c depth =
    let place : c.args.next ≡ c.args.first + 1 = c.requires in
    let next : c.in-Some.after ≡ c.args.next + 1 = c.in-Some.ensures.1 in
    let end : c.in-Some.after ≡ c.args.first + 2 = omega arith in
    c.continue_at.ensures (source_of c.args.reader.now) c.args.scope.now (ap (λ n. stands (source_of c.args.reader.now) c.args.scope.now n symbol.Semicolon) (sym place) ∙ c.in-Some.ensures.0) end c.in-Some.ensures.2

pub returns-in-None : goal.returns-in-None
unfolding stmt_by
returns-in-None c depth = fails _ _ (ap (λ n. stands (source_of c.args.reader.now) c.args.scope.now n symbol.Semicolon) (sym c.requires) ∙ c.in-None.ensures)
