-- A statement without a label is the one behind its labels.
use Rattle.std.proofs.Common.{ap, sym, subst, ◌∙◌}
use Rattle.dm_tree.specs.declared.tree.Core.{Core}
use Rattle.dm_tree.specs.Views.{view}
use Rattle.dm_meaning.specs.Statements as statements
use Rattle.dm_frame.specs.Tasks.{TreeFits}
use Rattle.dm_frame.proofs.BeginLemmas.{unlabelled-Case, unlabelled-Default, unlabelled-other}
use Rattle.dm_frame.proofs.FitLemmas.{fits-Case, fits-Default, form-is}
use Rattle.dm_frame.proofs.label.unlabelled.Goals as goal

pub returns-in_default : goal.returns-in_default
returns-in_default c = record {
  same = λ table. sym (unlabelled-other table c.loop-at.at.now c.in_default.not-Case c.in_default.not-Default) ∙ c.loop-at.invariant.0 table;
  fits = c.loop-at.invariant.1;
}

pub loop-at-preserved-in-Case : goal.loop-at-preserved-in-Case
loop-at-preserved-in-Case c = (
  λ table.
      ap (λ (core : Core). statements.unlabelled (view table core)) c.get-at.ensures
      ∙ (sym (unlabelled-Case table c.loop-at.at.now c.in-Case.field-0 c.in-Case.statement c.in-Case.is) ∙ c.loop-at.invariant.0 table),
  λ table fits.
      subst (TreeFits table) (sym c.get-at.ensures)
      (fits-Case table c.in-Case.field-0 c.in-Case.statement (form-is table c.loop-at.at.now _ c.in-Case.is (c.loop-at.invariant.1 table fits))).1,
)

pub loop-at-preserved : goal.loop-at-preserved
loop-at-preserved c = (
  λ table.
      ap (λ (core : Core). statements.unlabelled (view table core)) c.get-at-in-Default.ensures
      ∙ (sym (unlabelled-Default table c.loop-at.at.now c.in-Default.statement c.in-Default.is) ∙ c.loop-at.invariant.0 table),
  λ table fits.
      subst (TreeFits table) (sym c.get-at-in-Default.ensures)
      (fits-Default table c.in-Default.statement (form-is table c.loop-at.at.now _ c.in-Default.is (c.loop-at.invariant.1 table fits))),
)
