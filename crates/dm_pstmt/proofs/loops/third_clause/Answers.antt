use Rattle.std.proofs.Common.{◌≡◌, ◌<◌, ◌+◌, true, length, refl, arith}
use Rattle.dm_syn.specs.declared.symbol.Symbol.TheVariants as symbol
use Rattle.dm_pexpr.specs.Parsing.{lower}
use Rattle.dm_pexpr.specs.Parts.{source_of}
use Rattle.dm_pexpr.proofs.PartLemmas.{part-of}
use Rattle.dm_pexpr.proofs.ReadExprs.{nothing-of}
use Rattle.dm_pstmt.specs.Kinds.{an_optional}
use Rattle.dm_pstmt.specs.Parsing.{stands}
use Rattle.dm_pstmt.specs.Steps.{clause_of}
use Rattle.dm_pstmt.proofs.Wholes.{map-none, some-holds}
use Rattle.dm_pstmt.proofs.loops.third_clause.Goals as goal

pub returns-in_default : goal.returns-in_default
returns-in_default c before one at begun tested p k =
    let s = source_of c.args.reader.now in
    map-none _ _ (nothing-of (an_optional s (c.args.condition.after + 1)) s c.args.scope.now c.clause.new.scope c.in_ok-step.field-0 _ c.in_default.is c.in_ok-step.ensures.read)

pub returns : goal.returns
returns c before one at begun tested p k =
    let s = source_of c.args.reader.now in
    let two = c.args.scope.now in
    let three = c.clause.new.scope in
    let condition = c.args.condition in
    let step = c.in-Some.step in
    let e = part-of (an_optional s (condition.after + 1)) s two three c.in_ok-step.field-0 step (clause_of s (lower s c.args.depth) symbol.RightParen two (condition.after + 1)) c.in-Some.is c.in_ok-step.ensures.read in
    let stop = some-holds (λ part. (stands s three part.after symbol.RightParen ≡ true) × (part.after < length c.args.reader.now.tokens.now)) c.in_ok-step.field-0 step c.in-Some.is c.in_ok-step.ensures.inside in
    let before_end : step.after < length c.args.reader.now.tokens.now = stop.1 in
    c.in_ok-clauses_node.ensures s before one two three at begun tested _ p k e refl (omega (arith, before_end))
