use Rattle.std.proofs.Common.{◌≡◌, ◌+◌, ap, ◌∙◌, refl, arith}
use Rattle.dm_syn.specs.declared.symbol.Symbol.TheVariants as symbol
use Rattle.dm_pexpr.specs.Parts.{source_of, an_expr}
use Rattle.dm_pexpr.proofs.PartLemmas.{part-of}
use Rattle.dm_pexpr.proofs.ReadExprs.{nothing-of}
use Rattle.dm_pstmt.specs.Parsing.{within, enclosed_of}
use Rattle.dm_pstmt.proofs.StatementSteps.{within-parts, stands-same, no-while, no-repeated-test, no-semicolon, repeated-read}
use Rattle.dm_pstmt.proofs.Wholes.{gives-along, ok-along}
use Rattle.dm_pstmt.proofs.loops.repeated.Goals as goal

pub returns-in_default : goal.returns-in_default
returns-in_default c behind seen b =
    no-while (source_of c.args.reader.now) (within (source_of c.args.reader.now) c.args.depth) c.args.scope.now behind c.args.first c.args.body seen b c.in_default.ensures

pub returns-in_default-2 : goal.returns-in_default-2
returns-in_default-2 c behind seen b =
    let s = source_of c.args.reader.now in
    let names = c.args.scope.now in
    no-repeated-test s (within s c.args.depth) names behind c.args.first c.in-Some.next c.args.body seen b c.in-Some.ensures
    (ap (λ parts. enclosed_of s parts names c.in-Some.next) (within-parts s c.args.depth)
    ∙ nothing-of (an_expr s) s names c.enclosed.new.scope c.in_ok-condition.field-0 _ c.in_default-2.is c.in_ok-condition.ensures.read)

pub returns-in_default-behind : goal.returns-in_default-behind
returns-in_default-behind c behind seen b =
    let s = source_of c.args.reader.now in
    let w = within s c.args.depth in
    let names = c.args.scope.now in
    let given = gives-along (an_expr s) s names c.enclosed.new.scope c.in_ok-condition.field-0 _ _ (ap (λ parts. enclosed_of s parts names c.in-Some.next) (within-parts s c.args.depth)) c.in_ok-condition.ensures.read in
    let k = part-of (an_expr s) s names c.enclosed.new.scope c.in_ok-condition.field-0 c.in-Some-2.condition (enclosed_of s w.parts names c.in-Some.next) c.in-Some-2.is given in
    no-semicolon s w names behind c.enclosed.new.scope c.args.first c.in-Some.next c.args.body seen c.in-Some-2.condition b c.in-Some.ensures k c.in_default-behind.ensures

pub returns : goal.returns
returns c behind seen b =
    let s = source_of c.args.reader.now in
    let w = within s c.args.depth in
    let names = c.args.scope.now in
    let mid = c.enclosed.new.scope in
    let condition = c.in-Some-2.condition in
    let given = gives-along (an_expr s) s names mid c.in_ok-condition.field-0 _ _ (ap (λ parts. enclosed_of s parts names c.in-Some.next) (within-parts s c.args.depth)) c.in_ok-condition.ensures.read in
    let k = part-of (an_expr s) s names mid c.in_ok-condition.field-0 condition (enclosed_of s w.parts names c.in-Some.next) c.in-Some-2.is given in
    let end : c.in-Some-behind.after ≡ (condition.after + 1) + 1 = c.in-Some-behind.ensures.1 in
    ok-along _ _ c.do_loop.result
    (λ made there. repeated-read s w names behind mid c.end.new.self c.args.first c.in-Some.next c.len-kept.result c.args.body seen condition made b c.in-Some.ensures k c.len-kept.ensures c.in_ok-end.ensures there)
    (c.do_loop.ensures s names behind mid seen _ b k (stands-same s names mid (condition.after + 1) symbol.Semicolon refl ∙ c.in-Some-behind.ensures.0) (omega (arith, end)) c.in-Some-behind.ensures.2)
