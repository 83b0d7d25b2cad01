-- The labels so far don't decide.
use Rattle.std.proofs.Common.{ap, sym, ◌∙◌}
use Rattle.dm_tree.specs.declared.tree.Core.{Core}
use Rattle.dm_tree.specs.Views.{view}
use Rattle.dm_meaning.specs.Statements as statements
use Rattle.dm_frame.proofs.SwitchLemmas.{default-Case, default-Default, default-other}
use Rattle.dm_frame.proofs.switching.has_default.Goals as goal

pub loop-at-preserved : goal.loop-at-preserved
loop-at-preserved c = λ table.
    ap (λ (core : Core). statements.has_default (view table core)) c.get-at.ensures
    ∙ (sym (default-Case table c.loop-at.at.now c.in-Case.field-0 c.in-Case.statement c.in-Case.is) ∙ c.loop-at.invariant table)

pub returns-in-Default : goal.returns-in-Default
returns-in-Default c = λ table. sym (default-Default table c.loop-at.at.now c.in-Default.field-0 c.in-Default.is) ∙ c.loop-at.invariant table

pub returns-in_default : goal.returns-in_default
returns-in_default c = λ table. sym (default-other table c.loop-at.at.now c.in_default.not-Case c.in_default.not-Default) ∙ c.loop-at.invariant table
