use Rattle.std.proofs.Common.{Bool, subst, ◌∙◌}
use Rattle.dm_syn.specs.Scopes.{defines_types}
use Rattle.dm_syn.specs.Views as view
use Rattle.dm_pexpr.specs.Parsing.{lower}
use Rattle.dm_pexpr.specs.Parts.{source_of, Gives, the_specifiers}
use Rattle.dm_pexpr.proofs.PartLemmas.{part-of}
use Rattle.dm_pexpr.proofs.ReadExprs.{nothing-of}
use Rattle.dm_pstmt.specs.Kinds.{a_declaration, an_item}
use Rattle.dm_pstmt.specs.Parsing.{within, item_of}
use Rattle.dm_pstmt.proofs.DeclarationSteps.{no-declaration, bare-read, items-wanted}
use Rattle.dm_pstmt.proofs.Wholes.{then-none, then-is, gives-along, ok-along}
use Rattle.dm_pstmt.proofs.declaration.declaration.Goals as goal

pub returns-in_default : goal.returns-in_default
returns-in_default c =
    no-declaration (source_of c.args.reader.now) c.args.depth c.args.scope.now c.args.at
    (nothing-of (the_specifiers (source_of c.args.reader.now)) (source_of c.args.reader.now) c.args.scope.now c.specifiers.new.scope c.in_ok-specifiers.field-0 ((lower (source_of c.args.reader.now) c.args.depth).specifiers c.args.scope.now c.args.at) c.in_default.is c.in_ok-specifiers.ensures)

pub returns-in-Some-behind : goal.returns-in-Some-behind
returns-in-Some-behind c =
    let p = part-of (the_specifiers (source_of c.args.reader.now)) (source_of c.args.reader.now) c.args.scope.now c.specifiers.new.scope c.in_ok-specifiers.field-0 c.in-Some.specifiers ((lower (source_of c.args.reader.now) c.args.depth).specifiers c.args.scope.now c.args.at) c.in-Some.is c.in_ok-specifiers.ensures in
    gives-along (a_declaration (source_of c.args.reader.now)) (source_of c.args.reader.now) c.args.scope.now c.specifiers.new.scope c.bare_declaration.result _ _
    (bare-read (source_of c.args.reader.now) c.args.depth c.args.scope.now c.specifiers.new.scope c.args.at c.in-Some.specifiers p c.in-Some-behind.ensures.0)
    (c.bare_declaration.ensures c.args.scope.now c.specifiers.new.scope _ p c.in-Some-behind.ensures.0 c.in-Some-behind.ensures.1 c.in-Some-behind.ensures.2)

pub item-requires : goal.item-requires
item-requires c =
    (part-of (the_specifiers (source_of c.args.reader.now)) (source_of c.args.reader.now) c.args.scope.now c.specifiers.new.scope c.in_ok-specifiers.field-0 c.in-Some.specifiers ((lower (source_of c.args.reader.now) c.args.depth).specifiers c.args.scope.now c.args.at) c.in-Some.is c.in_ok-specifiers.ensures).within

pub returns-in_default-2 : goal.returns-in_default-2
returns-in_default-2 c =
    let p = part-of (the_specifiers (source_of c.args.reader.now)) (source_of c.args.reader.now) c.args.scope.now c.specifiers.new.scope c.in_ok-specifiers.field-0 c.in-Some.specifiers ((lower (source_of c.args.reader.now) c.args.depth).specifiers c.args.scope.now c.args.at) c.in-Some.is c.in_ok-specifiers.ensures in
    let q = subst (λ (t : Bool). Gives (an_item (source_of c.args.reader.now) t) (source_of c.args.reader.now) c.specifiers.new.scope c.item.new.scope c.in_ok-item.field-0 (item_of (source_of c.args.reader.now) (within (source_of c.args.reader.now) c.args.depth) t c.specifiers.new.scope c.in-Some.specifiers.after)) c.defines_types-is_type.ensures c.in_ok-item.ensures in
    items-wanted (source_of c.args.reader.now) c.args.depth c.args.scope.now c.specifiers.new.scope c.args.at c.in-Some.specifiers p c.in_default-behind.ensures
    ∙ then-none _ _ (nothing-of (an_item (source_of c.args.reader.now) (defines_types (source_of c.args.reader.now) (view.specifiers c.in-Some.specifiers.tree))) (source_of c.args.reader.now) c.specifiers.new.scope c.item.new.scope c.in_ok-item.field-0 _ c.in_default-2.is q)

pub returns : goal.returns
returns c =
    let p = part-of (the_specifiers (source_of c.args.reader.now)) (source_of c.args.reader.now) c.args.scope.now c.specifiers.new.scope c.in_ok-specifiers.field-0 c.in-Some.specifiers ((lower (source_of c.args.reader.now) c.args.depth).specifiers c.args.scope.now c.args.at) c.in-Some.is c.in_ok-specifiers.ensures in
    let q = subst (λ (t : Bool). Gives (an_item (source_of c.args.reader.now) t) (source_of c.args.reader.now) c.specifiers.new.scope c.item.new.scope c.in_ok-item.field-0 (item_of (source_of c.args.reader.now) (within (source_of c.args.reader.now) c.args.depth) t c.specifiers.new.scope c.in-Some.specifiers.after)) c.defines_types-is_type.ensures c.in_ok-item.ensures in
    let i = part-of (an_item (source_of c.args.reader.now) (defines_types (source_of c.args.reader.now) (view.specifiers c.in-Some.specifiers.tree))) (source_of c.args.reader.now) c.specifiers.new.scope c.item.new.scope c.in_ok-item.field-0 c.in-Some-2.item _ c.in-Some-2.is q in
    ok-along _ _ c.declaration_with.result
    (λ found given. gives-along (a_declaration (source_of c.args.reader.now)) (source_of c.args.reader.now) c.args.scope.now c.declaration_with.new.scope found _ _
    (items-wanted (source_of c.args.reader.now) c.args.depth c.args.scope.now c.specifiers.new.scope c.args.at c.in-Some.specifiers p c.in_default-behind.ensures ∙ then-is _ _ (view.item c.in-Some-2.item.tree) i.read) given)
    (c.declaration_with.ensures c.args.scope.now c.specifiers.new.scope _ _ p i)
