use Rattle.std.proofs.Common.{sym, ap, ◌∙◌}
use Rattle.dm_syn.specs.declared.symbol.Symbol.TheVariants as symbol
use Rattle.dm_syn.specs.Symbols.{is}
use Rattle.dm_syn.specs.Scopes.{has_typedef}
use Rattle.dm_syn.specs.Trees as tree
use Rattle.dm_syn.specs.Views as view
use Rattle.dm_pexpr.specs.Parts.{source_of}
use Rattle.dm_pstmt.proofs.ClauseSteps.{typedef-is, or-false}
use Rattle.dm_pstmt.proofs.ViewLemmas.{view-word}
use Rattle.dm_pstmt.proofs.declaration.is_typedef.Goals as goal

pub returns-in-Word : goal.returns-in-Word
returns-in-Word c =
    c.is.ensures ∙ ap (λ it. is it symbol.Typedef) c.plain_symbol.ensures.value ∙ typedef-is _ ∙ sym (or-false _)
    ∙ ap (λ word. has_typedef (source_of c.args.reader.now) (tree.more_words word tree.no_words)) (sym (ap view.specifier c.in-Word.is ∙ view-word c.in-Word.at))
