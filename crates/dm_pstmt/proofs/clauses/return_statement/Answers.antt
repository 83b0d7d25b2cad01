use Rattle.std.proofs.Common.{◌≡◌, ◌<◌, ◌≤◌, ◌+◌, ℕ, true, length, refl, arith, subst}
use Rattle.dm_syn.specs.declared.symbol.Symbol.TheVariants as symbol
use Rattle.dm_syn.specs.Views as view
use Rattle.dm_pexpr.specs.Parsing.{lower}
use Rattle.dm_pexpr.specs.Parts.{source_of, Gives}
use Rattle.dm_pexpr.proofs.PartLemmas.{part-of}
use Rattle.dm_pexpr.proofs.ReadExprs.{nothing-of}
use Rattle.dm_pstmt.specs.Kinds.{a_stmt, an_optional}
use Rattle.dm_pstmt.specs.Parsing.{stands}
use Rattle.dm_pstmt.specs.Steps.{clause_of}
use Rattle.dm_pstmt.proofs.ClauseSteps.{no-return, return-wanted}
use Rattle.dm_pstmt.proofs.Wholes.{gives-along, ok-along, some-holds}
use Rattle.dm_pstmt.proofs.clauses.return_statement.Goals as goal

pub returns-in_default : goal.returns-in_default
returns-in_default c =
    no-return (source_of c.args.reader.now) c.args.depth c.args.scope.now c.args.first c.args.next c.requires
    (nothing-of (an_optional (source_of c.args.reader.now) c.args.next) (source_of c.args.reader.now) c.args.scope.now c.clause.new.scope c.in_ok-value.field-0 (clause_of (source_of c.args.reader.now) (lower (source_of c.args.reader.now) c.args.depth) symbol.Semicolon c.args.scope.now c.args.next) c.in_default.is c.in_ok-value.ensures.read)

pub returns : goal.returns
returns c =
    let wanted = clause_of (source_of c.args.reader.now) (lower (source_of c.args.reader.now) c.args.depth) symbol.Semicolon c.args.scope.now (c.args.first + 1) in
    let given = subst (λ (n : ℕ). Gives (an_optional (source_of c.args.reader.now) n) (source_of c.args.reader.now) c.args.scope.now c.clause.new.scope c.in_ok-value.field-0 (clause_of (source_of c.args.reader.now) (lower (source_of c.args.reader.now) c.args.depth) symbol.Semicolon c.args.scope.now n)) c.requires c.in_ok-value.ensures.read in
    let p = part-of (an_optional (source_of c.args.reader.now) (c.args.first + 1)) (source_of c.args.reader.now) c.args.scope.now c.clause.new.scope c.in_ok-value.field-0 c.in-Some.value wanted c.in-Some.is given in
    let stop = some-holds (λ part. (stands (source_of c.args.reader.now) c.clause.new.scope part.after symbol.Semicolon ≡ true) × (part.after < length c.args.reader.now.tokens.now)) c.in_ok-value.field-0 c.in-Some.value c.in-Some.is c.in_ok-value.ensures.inside in
    let before_end : c.in-Some.value.after < length c.args.reader.now.tokens.now = stop.1 in
    let within : c.in-Some.value.after + 1 ≤ length c.args.reader.now.tokens.now = omega arith in
    ok-along _ _ c.return_of.result
    (λ found made. gives-along (a_stmt (source_of c.args.reader.now)) (source_of c.args.reader.now) c.args.scope.now c.clause.new.scope found _ _
    (return-wanted (source_of c.args.reader.now) c.args.depth c.args.scope.now c.args.first (view.optional c.in-Some.value.tree) p.read) made)
    (c.return_of.ensures (source_of c.args.reader.now) c.args.scope.now c.clause.new.scope wanted p stop.0 refl within)
