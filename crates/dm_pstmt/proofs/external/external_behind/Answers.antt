use Rattle.std.proofs.Common.{Bool, option_map, sym, ap, subst, ◌∙◌}
use Rattle.dm_syn.specs.declared.symbol.Symbol.TheVariants as symbol
use Rattle.dm_syn.specs.Symbols.{is}
use Rattle.dm_syn.specs.Scopes.{defines_types}
use Rattle.dm_syn.specs.Views as view
use Rattle.dm_pexpr.specs.Parts.{source_of, Gives}
use Rattle.dm_pexpr.proofs.PartLemmas.{part-of}
use Rattle.dm_pexpr.proofs.ReadExprs.{nothing-of}
use Rattle.dm_pstmt.specs.Kinds.{an_item, an_external}
use Rattle.dm_pstmt.specs.Parsing.{within, item_behind, declaration_with, external_declared}
use Rattle.dm_pstmt.proofs.DeclarationSteps.{definition-wanted, declaration-wanted}
use Rattle.dm_pstmt.proofs.Wholes.{then-none, then-is, gives-along, ok-along}
use Rattle.dm_pstmt.proofs.external.external_behind.Goals as goal

pub returns-then-is : goal.returns-then-is
returns-then-is c before names read seen p q =
    ok-along _ _ c.definition.result
    (λ found given. gives-along (an_external (source_of c.args.reader.now)) (source_of c.args.reader.now) before c.definition.new.scope found _ _
    (definition-wanted (source_of c.args.reader.now) (within (source_of c.args.reader.now) c.args.depth) names c.args.scope.now c.args.first (view.specifiers c.args.specifiers.tree) c.args.declarator seen q
    (ap (λ it. is it symbol.LeftBrace) (sym c.symbol.ensures.value) ∙ sym c.is.ensures ∙ c.if-is.true)) given)
    (c.definition.ensures before names read seen p q)

pub returns-in_default : goal.returns-in_default
returns-in_default c before names read seen p q =
    let s = view.specifiers c.args.specifiers.tree in
    let i = subst (λ (t : Bool). Gives (an_item (source_of c.args.reader.now) t) (source_of c.args.reader.now) names c.item_behind.new.scope c.in_ok-item.field-0 (item_behind (source_of c.args.reader.now) (within (source_of c.args.reader.now) c.args.depth) t names c.args.specifiers.after (view.declarator c.args.declarator.tree)))
    c.defines_types-is_type.ensures (c.in_ok-item.ensures names seen q) in
    declaration-wanted (source_of c.args.reader.now) (within (source_of c.args.reader.now) c.args.depth) names c.args.scope.now c.args.first c.args.specifiers.after s c.args.declarator seen p.ends q
    (ap (λ it. is it symbol.LeftBrace) (sym c.symbol.ensures.value) ∙ sym c.is.ensures ∙ c.if-is.false)
    ∙ ap (option_map (external_declared c.args.first)) (then-none (declaration_with (source_of c.args.reader.now) (within (source_of c.args.reader.now) c.args.depth) names c.args.first s) _
    (nothing-of (an_item (source_of c.args.reader.now) (defines_types (source_of c.args.reader.now) s)) (source_of c.args.reader.now) names c.item_behind.new.scope c.in_ok-item.field-0 _ c.in_default.is i))

pub returns : goal.returns
returns c before names read seen p q =
    let s = view.specifiers c.args.specifiers.tree in
    let i = subst (λ (t : Bool). Gives (an_item (source_of c.args.reader.now) t) (source_of c.args.reader.now) names c.item_behind.new.scope c.in_ok-item.field-0 (item_behind (source_of c.args.reader.now) (within (source_of c.args.reader.now) c.args.depth) t names c.args.specifiers.after (view.declarator c.args.declarator.tree)))
    c.defines_types-is_type.ensures (c.in_ok-item.ensures names seen q) in
    let one = part-of (an_item (source_of c.args.reader.now) (defines_types (source_of c.args.reader.now) s)) (source_of c.args.reader.now) names c.item_behind.new.scope c.in_ok-item.field-0 c.in-Some.item _ c.in-Some.is i in
    gives-along (an_external (source_of c.args.reader.now)) (source_of c.args.reader.now) before c.declaration_with.new.scope c.external_declaration.result _ _
    (declaration-wanted (source_of c.args.reader.now) (within (source_of c.args.reader.now) c.args.depth) names c.args.scope.now c.args.first c.args.specifiers.after s c.args.declarator seen p.ends q
    (ap (λ it. is it symbol.LeftBrace) (sym c.symbol.ensures.value) ∙ sym c.is.ensures ∙ c.if-is.false)
    ∙ ap (option_map (external_declared c.args.first)) (then-is (declaration_with (source_of c.args.reader.now) (within (source_of c.args.reader.now) c.args.depth) names c.args.first s) _ (view.item c.in-Some.item.tree) one.read))
    (c.external_declaration.ensures (source_of c.args.reader.now) before c.declaration_with.new.scope _ (c.in_ok-declaration.ensures before names read _ p one))
