use Rattle.std.proofs.Common.{◌+◌, List, Some, sym, ap, ◌∙◌, subst}
use Rattle.dm_syn.specs.declared.declaration.InitDeclarator.{InitDeclarator}
use Rattle.dm_syn.specs.declared.symbol.Symbol.TheVariants as symbol
use Rattle.dm_syn.specs.Scopes.{defines_types}
use Rattle.dm_syn.specs.Views as view
use Rattle.dm_pexpr.specs.declared.part.Part.{Part}
use Rattle.dm_pexpr.specs.Parts.{source_of, Gives}
use Rattle.dm_pstmt.specs.Kinds.{a_declaration, an_item}
use Rattle.dm_pstmt.specs.Parsing.{stands}
use Rattle.dm_pstmt.specs.Steps.{declared_behind}
use Rattle.dm_pstmt.proofs.Rows.{none-part}
use Rattle.dm_pstmt.proofs.RowKinds.{item_row}
use Rattle.dm_pstmt.proofs.declaration.bare_declaration.Goals as goal

pub returns : goal.returns
returns c before names read p test end within =
    subst (λ (those : Part (List InitDeclarator)). Gives (a_declaration (source_of c.args.reader.now)) (source_of c.args.reader.now) before names c.declared.result (declared_behind (source_of c.args.reader.now) names c.args.first (view.specifiers c.args.specifiers.tree) (view.items those.tree))) c.none_yet-items.ensures
    (c.declared.ensures (source_of c.args.reader.now) before names names read (Some (view.items c.none_yet-items.result.tree)) p
    (none-part (an_item (source_of c.args.reader.now) (defines_types (source_of c.args.reader.now) (view.specifiers c.args.specifiers.tree))) (item_row (source_of c.args.reader.now) (defines_types (source_of c.args.reader.now) (view.specifiers c.args.specifiers.tree))) (source_of c.args.reader.now) c.args.specifiers.after names c.none_yet-items.result c.none_yet-items.ensures p.within)
    (ap (λ it. stands (source_of c.args.reader.now) names it.after symbol.Semicolon) c.none_yet-items.ensures ∙ test) (end ∙ ap (λ it. it.after + 1) (sym c.none_yet-items.ensures)) within)
