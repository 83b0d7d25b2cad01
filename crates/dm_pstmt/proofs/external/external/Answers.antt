use Rattle.std.proofs.Common.{[], ◌∙◌}
use Rattle.dm_syn.specs.Views as view
use Rattle.dm_pexpr.specs.Parsing.{named, lower}
use Rattle.dm_pexpr.specs.Parts.{source_of, the_specifiers, a_declarator}
use Rattle.dm_pexpr.proofs.PartLemmas.{part-of}
use Rattle.dm_pexpr.proofs.ReadExprs.{nothing-of}
use Rattle.dm_pstmt.specs.Kinds.{an_external}
use Rattle.dm_pstmt.specs.Steps.{declared_behind}
use Rattle.dm_pstmt.proofs.DeclarationSteps.{no-external, bare-external, declarator-wanted}
use Rattle.dm_pstmt.proofs.Wholes.{then-none, then-is, gives-along, ok-along}
use Rattle.dm_pstmt.proofs.external.external.Goals as goal

pub returns-in_default : goal.returns-in_default
returns-in_default c =
    no-external (source_of c.args.reader.now) c.args.depth c.args.scope.now c.args.at
    (nothing-of (the_specifiers (source_of c.args.reader.now)) (source_of c.args.reader.now) c.args.scope.now c.specifiers.new.scope c.in_ok-specifiers.field-0 ((lower (source_of c.args.reader.now) c.args.depth).specifiers c.args.scope.now c.args.at) c.in_default.is c.in_ok-specifiers.ensures)

pub returns-in-Some-behind : goal.returns-in-Some-behind
returns-in-Some-behind c =
    let p = part-of (the_specifiers (source_of c.args.reader.now)) (source_of c.args.reader.now) c.args.scope.now c.specifiers.new.scope c.in_ok-specifiers.field-0 c.in-Some.specifiers ((lower (source_of c.args.reader.now) c.args.depth).specifiers c.args.scope.now c.args.at) c.in-Some.is c.in_ok-specifiers.ensures in
    gives-along (an_external (source_of c.args.reader.now)) (source_of c.args.reader.now) c.args.scope.now c.specifiers.new.scope c.external_declaration.result _ _
    (bare-external (source_of c.args.reader.now) c.args.depth c.args.scope.now c.specifiers.new.scope c.args.at c.in-Some.specifiers p c.in-Some-behind.ensures.0)
    (c.external_declaration.ensures (source_of c.args.reader.now) c.args.scope.now c.specifiers.new.scope (declared_behind (source_of c.args.reader.now) c.specifiers.new.scope c.args.at (view.specifiers c.in-Some.specifiers.tree) [])
    (c.bare_declaration-declaration.ensures c.args.scope.now c.specifiers.new.scope _ p c.in-Some-behind.ensures.0 c.in-Some-behind.ensures.1 c.in-Some-behind.ensures.2))

pub returns-in_default-2 : goal.returns-in_default-2
returns-in_default-2 c =
    let p = part-of (the_specifiers (source_of c.args.reader.now)) (source_of c.args.reader.now) c.args.scope.now c.specifiers.new.scope c.in_ok-specifiers.field-0 c.in-Some.specifiers ((lower (source_of c.args.reader.now) c.args.depth).specifiers c.args.scope.now c.args.at) c.in-Some.is c.in_ok-specifiers.ensures in
    declarator-wanted (source_of c.args.reader.now) c.args.depth c.args.scope.now c.specifiers.new.scope c.args.at c.in-Some.specifiers p c.in_default-behind.ensures
    ∙ then-none _ _ (nothing-of (a_declarator (source_of c.args.reader.now)) (source_of c.args.reader.now) c.specifiers.new.scope c.declarator.new.scope c.in_ok-declarator.field-0 ((lower (source_of c.args.reader.now) c.args.depth).declarator named c.specifiers.new.scope c.in-Some.specifiers.after) c.in_default-2.is c.in_ok-declarator.ensures)

pub returns : goal.returns
returns c =
    let p = part-of (the_specifiers (source_of c.args.reader.now)) (source_of c.args.reader.now) c.args.scope.now c.specifiers.new.scope c.in_ok-specifiers.field-0 c.in-Some.specifiers ((lower (source_of c.args.reader.now) c.args.depth).specifiers c.args.scope.now c.args.at) c.in-Some.is c.in_ok-specifiers.ensures in
    let q = part-of (a_declarator (source_of c.args.reader.now)) (source_of c.args.reader.now) c.specifiers.new.scope c.declarator.new.scope c.in_ok-declarator.field-0 c.in-Some-2.declarator ((lower (source_of c.args.reader.now) c.args.depth).declarator named c.specifiers.new.scope c.in-Some.specifiers.after) c.in-Some-2.is c.in_ok-declarator.ensures in
    ok-along _ _ c.external_behind.result
    (λ found given. gives-along (an_external (source_of c.args.reader.now)) (source_of c.args.reader.now) c.args.scope.now c.external_behind.new.scope found _ _
    (declarator-wanted (source_of c.args.reader.now) c.args.depth c.args.scope.now c.specifiers.new.scope c.args.at c.in-Some.specifiers p c.in_default-behind.ensures ∙ then-is _ _ (view.declarator c.in-Some-2.declarator.tree) q.read) given)
    (c.external_behind.ensures c.args.scope.now c.specifiers.new.scope _ _ p q)
