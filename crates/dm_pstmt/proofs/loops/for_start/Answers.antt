use Rattle.std.proofs.Common.{◌≡◌, ◌<◌, ◌≤◌, ◌+◌, true, length, refl, arith, sym, ap, ◌∙◌}
use Rattle.dm_syn.specs.declared.symbol.Symbol.TheVariants as symbol
use Rattle.dm_syn.specs.Symbols.{begins_specifiers}
use Rattle.dm_syn.specs.Views as view
use Rattle.dm_pexpr.specs.Parsing.{lower}
use Rattle.dm_pexpr.specs.Parts.{source_of}
use Rattle.dm_pexpr.proofs.PartLemmas.{part-of}
use Rattle.dm_pexpr.proofs.ReadExprs.{nothing-of}
use Rattle.dm_pstmt.specs.Kinds.{a_start, an_optional}
use Rattle.dm_pstmt.specs.Parsing.{stands, within, declaration_of}
use Rattle.dm_pstmt.specs.Steps.{clause_of}
use Rattle.dm_pstmt.proofs.Rows.{as-read}
use Rattle.dm_pstmt.proofs.StatementSteps.{declaring-wanted, no-start-clause, evaluated-wanted}
use Rattle.dm_pstmt.proofs.Wholes.{gives-along, some-holds}
use Rattle.dm_pstmt.proofs.loops.for_start.Goals as goal

pub returns-then-begins_specifiers : goal.returns-then-begins_specifiers
returns-then-begins_specifiers c =
    gives-along (a_start (source_of c.args.reader.now) c.args.at) (source_of c.args.reader.now) c.args.scope.now c.declaration.new.scope c.declaring.result _ _
    (declaring-wanted (source_of c.args.reader.now) (within (source_of c.args.reader.now) c.args.depth) c.args.scope.now c.args.at (ap begins_specifiers (sym c.symbol.ensures.value) ∙ sym c.begins_specifiers.ensures ∙ c.if-begins_specifiers.true))
    (c.declaring.ensures (source_of c.args.reader.now) c.args.scope.now c.declaration.new.scope c.args.at (declaration_of (source_of c.args.reader.now) (within (source_of c.args.reader.now) c.args.depth) c.args.scope.now c.args.at) c.in_ok-declaration.ensures)

pub returns-in_default : goal.returns-in_default
returns-in_default c =
    no-start-clause (source_of c.args.reader.now) c.args.depth c.args.scope.now c.args.at (ap begins_specifiers (sym c.symbol.ensures.value) ∙ sym c.begins_specifiers.ensures ∙ c.if-begins_specifiers.false)
    (nothing-of (an_optional (source_of c.args.reader.now) c.args.at) (source_of c.args.reader.now) c.args.scope.now c.clause.new.scope c.in_ok-value.field-0 (clause_of (source_of c.args.reader.now) (lower (source_of c.args.reader.now) c.args.depth) symbol.Semicolon c.args.scope.now c.args.at) c.in_default.is c.in_ok-value.ensures.read)

pub returns : goal.returns
returns c =
    let wanted = clause_of (source_of c.args.reader.now) (lower (source_of c.args.reader.now) c.args.depth) symbol.Semicolon c.args.scope.now c.args.at in
    let p = part-of (an_optional (source_of c.args.reader.now) c.args.at) (source_of c.args.reader.now) c.args.scope.now c.clause.new.scope c.in_ok-value.field-0 c.in-Some.value wanted c.in-Some.is c.in_ok-value.ensures.read in
    let stop = some-holds (λ part. (stands (source_of c.args.reader.now) c.clause.new.scope part.after symbol.Semicolon ≡ true) × (part.after < length c.args.reader.now.tokens.now)) c.in_ok-value.field-0 c.in-Some.value c.in-Some.is c.in_ok-value.ensures.inside in
    let before_end : c.in-Some.value.after < length c.args.reader.now.tokens.now = stop.1 in
    let within_end : c.in-Some.value.after + 1 ≤ length c.args.reader.now.tokens.now = omega arith in
    let made = c.evaluated.ensures (source_of c.args.reader.now) c.args.scope.now c.clause.new.scope c.args.at wanted p refl within_end in
    as-read (a_start (source_of c.args.reader.now) c.args.at) (source_of c.args.reader.now) c.args.scope.now c.clause.new.scope c.evaluated.result _ _ made
    (evaluated-wanted (source_of c.args.reader.now) c.args.depth c.args.scope.now c.args.at (view.optional c.in-Some.value.tree) (ap begins_specifiers (sym c.symbol.ensures.value) ∙ sym c.begins_specifiers.ensures ∙ c.if-begins_specifiers.false) p.read ∙ made.read)
