use Rattle.dm_syn.specs.Views as view
use Rattle.dm_pexpr.specs.Parsing.{named, lower}
use Rattle.dm_pexpr.specs.Parts.{source_of, a_declarator}
use Rattle.dm_pexpr.proofs.PartLemmas.{part-of}
use Rattle.dm_pexpr.proofs.ReadExprs.{nothing-of}
use Rattle.dm_pstmt.specs.Kinds.{an_item}
use Rattle.dm_pstmt.proofs.DeclarationSteps.{item-read, no-item}
use Rattle.dm_pstmt.proofs.Wholes.{gives-along, ok-along}
use Rattle.dm_pstmt.proofs.declaration.item.Goals as goal

pub returns-in_default : goal.returns-in_default
returns-in_default c =
    no-item (source_of c.args.reader.now) c.args.depth c.args.is_type c.args.scope.now c.args.at
    (nothing-of (a_declarator (source_of c.args.reader.now)) (source_of c.args.reader.now) c.args.scope.now c.declarator.new.scope c.in_ok-declarator.field-0 ((lower (source_of c.args.reader.now) c.args.depth).declarator named c.args.scope.now c.args.at) c.in_default.is c.in_ok-declarator.ensures)

pub returns : goal.returns
returns c =
    let p = part-of (a_declarator (source_of c.args.reader.now)) (source_of c.args.reader.now) c.args.scope.now c.declarator.new.scope c.in_ok-declarator.field-0 c.in-Some.declarator ((lower (source_of c.args.reader.now) c.args.depth).declarator named c.args.scope.now c.args.at) c.in-Some.is c.in_ok-declarator.ensures in
    ok-along _ _ c.item_behind.result
    (λ found given. gives-along (an_item (source_of c.args.reader.now) c.args.is_type) (source_of c.args.reader.now) c.args.scope.now c.item_behind.new.scope found _ _
    (item-read (source_of c.args.reader.now) c.args.depth c.args.is_type c.args.scope.now c.args.at (view.declarator c.in-Some.declarator.tree) p.read) given)
    (c.item_behind.ensures c.args.scope.now _ p)
