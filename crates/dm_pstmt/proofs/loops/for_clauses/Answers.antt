use Rattle.std.proofs.Common.{sym, subst}
use Rattle.dm_pexpr.specs.Parts.{source_of, IsPart}
use Rattle.dm_pexpr.proofs.PartLemmas.{part-of}
use Rattle.dm_pexpr.proofs.ReadExprs.{ok-same, nothing-of}
use Rattle.dm_pstmt.specs.Kinds.{a_start, clauses_from}
use Rattle.dm_pstmt.specs.Parsing.{within, start_of}
use Rattle.dm_pstmt.proofs.ForSteps.{no-first-clause, clauses-begun}
use Rattle.dm_pstmt.proofs.loops.for_clauses.Goals as goal

pub returns-in_default : goal.returns-in_default
returns-in_default c =
    let s = source_of c.args.reader.now in
    let names = c.args.scope.now in
    no-first-clause s (within s c.args.depth) names c.args.at (nothing-of (a_start s c.args.at) s names c.for_start.new.scope c.in_ok-start.field-0 _ c.in_default.is c.in_ok-start.ensures)

pub returns : goal.returns
returns c =
    let s = source_of c.args.reader.now in
    let names = c.args.scope.now in
    let one = c.for_start.new.scope in
    let wanted = start_of s (within s c.args.depth) names c.args.at in
    let p = part-of (a_start s c.args.at) s names one c.in_ok-start.field-0 c.in-Some.start wanted c.in-Some.is c.in_ok-start.ensures in
    let b = subst (λ it. IsPart (a_start s c.args.at) s names one it wanted) (sym c.in_ok-start-2.ensures) p in
    ok-same (clauses_from s c.args.at) s names c.second_clause.new.scope c.second_clause.result _ _ (sym (clauses-begun s c.args.depth names one c.args.at c.in_ok-start-2.start b)) (c.second_clause.ensures names c.args.at wanted b)
