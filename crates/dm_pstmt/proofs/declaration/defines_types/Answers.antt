use Rattle.std.proofs.Common.{◌≡◌, ◌||◌, sym, ap, ◌∙◌, map}
use Rattle.dm_syn.specs.Scopes.{has_typedef, defines_types}
use Rattle.dm_syn.specs.Views as view
use Rattle.dm_pexpr.specs.Parts.{source_of}
use Rattle.dm_pstmt.proofs.ClauseSteps.{typedef-further, typedef-all}
use Rattle.dm_pstmt.proofs.ViewLemmas.{view-specifiers}
use Rattle.dm_pstmt.proofs.declaration.defines_types.Goals as goal
use Rattle.dm_pstmt.proofs.declaration.defines_types.Goals.{then-is_typedef, else-is_typedef}

pub loop-word-preserved : goal.loop-word-preserved
loop-word-preserved c =
    let is_so : c.if-is_typedef.found ≡ (c.is_typedef.result || c.loop-word.found) =
    elim c.if-is_typedef.branch [
      | then-is_typedef w ↦ w.found-is ∙ sym (ap (λ test. test || c.loop-word.found) w.if-is_typedef.true)
      | else-is_typedef w ↦ w.found-is ∙ sym (ap (λ test. test || c.loop-word.found) w.if-is_typedef.false)
    ] in
    typedef-further (source_of c.args.reader.now) c.items-word-items.result.now c.loop-word.word-index c.word-item.result c.loop-word.found c.is_typedef.result c.if-is_typedef.found _
    c.loop-word-test.true c.word-item.is c.loop-word.invariant c.is_typedef.ensures is_so

pub returns : goal.returns
returns c =
    typedef-all (source_of c.args.reader.now) c.items-word-items.result.now c.loop-word.word-index c.loop-word.found _ c.loop-word-test.false c.loop-word.invariant
    ∙ ap (λ words. has_typedef (source_of c.args.reader.now) (view.words (map view.specifier words))) c.items-word-items.ensures
    ∙ ap (λ it. defines_types (source_of c.args.reader.now) it) (sym (view-specifiers c.args.specifiers.now))
