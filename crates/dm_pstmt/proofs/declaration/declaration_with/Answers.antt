use Rattle.std.proofs.Common.{◌∙◌}
use Rattle.dm_syn.specs.Scopes.{defines_types}
use Rattle.dm_syn.specs.Views as view
use Rattle.dm_pexpr.specs.Parts.{source_of}
use Rattle.dm_pexpr.proofs.PartLemmas.{part-of}
use Rattle.dm_pexpr.proofs.ReadExprs.{nothing-of}
use Rattle.dm_pstmt.specs.Kinds.{a_declaration, items_from}
use Rattle.dm_pstmt.specs.Parsing.{within}
use Rattle.dm_pstmt.proofs.DeclarationSteps.{items-given, items-read, no-items-read, unclosed}
use Rattle.dm_pstmt.proofs.Wholes.{gives-along}
use Rattle.dm_pstmt.proofs.declaration.declaration_with.Goals as goal

pub returns-in_default : goal.returns-in_default
returns-in_default c before names read seen p q =
    let more = items-given (source_of c.args.reader.now) (within (source_of c.args.reader.now) c.args.depth) c.defines_types-is_type.result (defines_types (source_of c.args.reader.now) (view.specifiers c.args.specifiers.tree)) c.args.specifiers.after names c.args.scope.now c.more_items.new.scope c.args.item seen c.in_ok-items.items c.in_ok-items-2.field-0
    c.defines_types-is_type.ensures q c.in_ok-items.ensures (c.in_ok-items-2.ensures names c.args.specifiers.after) in
    no-items-read (source_of c.args.reader.now) (within (source_of c.args.reader.now) c.args.depth) names c.args.scope.now c.args.first (view.specifiers c.args.specifiers.tree) c.args.item seen q
    (nothing-of (items_from (source_of c.args.reader.now) (defines_types (source_of c.args.reader.now) (view.specifiers c.args.specifiers.tree)) c.args.specifiers.after) (source_of c.args.reader.now) names c.more_items.new.scope c.in_ok-items-2.field-0 _ c.in_default.is more)

pub returns-in_default-behind : goal.returns-in_default-behind
returns-in_default-behind c before names read seen p q =
    let more = items-given (source_of c.args.reader.now) (within (source_of c.args.reader.now) c.args.depth) c.defines_types-is_type.result (defines_types (source_of c.args.reader.now) (view.specifiers c.args.specifiers.tree)) c.args.specifiers.after names c.args.scope.now c.more_items.new.scope c.args.item seen c.in_ok-items.items c.in_ok-items-2.field-0
    c.defines_types-is_type.ensures q c.in_ok-items.ensures (c.in_ok-items-2.ensures names c.args.specifiers.after) in
    let all = part-of (items_from (source_of c.args.reader.now) (defines_types (source_of c.args.reader.now) (view.specifiers c.args.specifiers.tree)) c.args.specifiers.after) (source_of c.args.reader.now) names c.more_items.new.scope c.in_ok-items-2.field-0 c.in-Some.items _ c.in-Some.is more in
    items-read (source_of c.args.reader.now) (within (source_of c.args.reader.now) c.args.depth) names c.args.scope.now c.more_items.new.scope c.args.first c.args.specifiers.after (view.specifiers c.args.specifiers.tree) c.args.item seen c.in-Some.items q p.ends all
    ∙ unclosed (source_of c.args.reader.now) names c.more_items.new.scope c.args.first c.args.specifiers.after (defines_types (source_of c.args.reader.now) (view.specifiers c.args.specifiers.tree)) (view.specifiers c.args.specifiers.tree) c.in-Some.items _ p.ends all c.in_default-behind.ensures

pub returns : goal.returns
returns c before names read seen p q =
    let more = items-given (source_of c.args.reader.now) (within (source_of c.args.reader.now) c.args.depth) c.defines_types-is_type.result (defines_types (source_of c.args.reader.now) (view.specifiers c.args.specifiers.tree)) c.args.specifiers.after names c.args.scope.now c.more_items.new.scope c.args.item seen c.in_ok-items.items c.in_ok-items-2.field-0
    c.defines_types-is_type.ensures q c.in_ok-items.ensures (c.in_ok-items-2.ensures names c.args.specifiers.after) in
    let all = part-of (items_from (source_of c.args.reader.now) (defines_types (source_of c.args.reader.now) (view.specifiers c.args.specifiers.tree)) c.args.specifiers.after) (source_of c.args.reader.now) names c.more_items.new.scope c.in_ok-items-2.field-0 c.in-Some.items _ c.in-Some.is more in
    gives-along (a_declaration (source_of c.args.reader.now)) (source_of c.args.reader.now) before c.more_items.new.scope c.declared.result _ _
    (items-read (source_of c.args.reader.now) (within (source_of c.args.reader.now) c.args.depth) names c.args.scope.now c.more_items.new.scope c.args.first c.args.specifiers.after (view.specifiers c.args.specifiers.tree) c.args.item seen c.in-Some.items q p.ends all)
    (c.declared.ensures (source_of c.args.reader.now) before names c.more_items.new.scope read _ p all c.in-Some-behind.ensures.0 c.in-Some-behind.ensures.1 c.in-Some-behind.ensures.2)
