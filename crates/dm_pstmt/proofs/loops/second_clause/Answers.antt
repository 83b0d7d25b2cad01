use Rattle.std.proofs.Common.{◌≡◌, ◌<◌, true, length, sym}
use Rattle.dm_syn.specs.declared.symbol.Symbol.TheVariants as symbol
use Rattle.dm_syn.specs.Views as view
use Rattle.dm_pexpr.specs.Parsing.{lower}
use Rattle.dm_pexpr.specs.Parts.{source_of}
use Rattle.dm_pexpr.proofs.PartLemmas.{part-of}
use Rattle.dm_pexpr.proofs.ReadExprs.{ok-same, nothing-of}
use Rattle.dm_pstmt.specs.Kinds.{an_optional, clauses_from}
use Rattle.dm_pstmt.specs.Parsing.{stands}
use Rattle.dm_pstmt.specs.Steps.{clause_of}
use Rattle.dm_pstmt.proofs.ForSteps.{clauses-tested}
use Rattle.dm_pstmt.proofs.Wholes.{then-none, some-holds}
use Rattle.dm_pstmt.proofs.loops.second_clause.Goals as goal

pub returns-in_default : goal.returns-in_default
returns-in_default c before at begun p =
    let s = source_of c.args.reader.now in
    let one = c.args.scope.now in
    then-none _ _ (nothing-of (an_optional s c.args.start.after) s one c.clause.new.scope c.in_ok-condition.field-0 _ c.in_default.is c.in_ok-condition.ensures.read)

pub third_clause-requires : goal.third_clause-requires
third_clause-requires c =
    let s = source_of c.args.reader.now in
    (some-holds (λ part. (stands s c.clause.new.scope part.after symbol.Semicolon ≡ true) × (part.after < length c.args.reader.now.tokens.now)) c.in_ok-condition.field-0 c.in-Some.condition c.in-Some.is c.in_ok-condition.ensures.inside).1

pub returns : goal.returns
returns c before at begun p =
    let s = source_of c.args.reader.now in
    let one = c.args.scope.now in
    let two = c.clause.new.scope in
    let start = c.args.start in
    let condition = c.in-Some.condition in
    let k = part-of (an_optional s start.after) s one two c.in_ok-condition.field-0 condition (clause_of s (lower s c.args.depth) symbol.Semicolon one start.after) c.in-Some.is c.in_ok-condition.ensures.read in
    ok-same (clauses_from s at) s before c.third_clause.new.scope c.third_clause.result _ _ (sym (clauses-tested s c.args.depth one two (view.start start.tree) start.after condition k)) (c.third_clause.ensures before one at begun _ p k)
