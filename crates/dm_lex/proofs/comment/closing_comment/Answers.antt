use Rattle.std.proofs.Common.{◌∙◌, ap, sym, refl}
use Rattle.dm_lex.specs.Reach.{beyond}
use Rattle.dm_lex.proofs.RunLemmas.{closing_comment-done, closing_comment-more, closing_comment-end, beyond-one, beyond-zero, beyond-reached, beyond-none}
use Rattle.dm_lex.proofs.comment.closing_comment.Goals as goal

pub loop-at-init : goal.loop-at-init
loop-at-init c = sym (beyond-zero _)

pub returns-then-ends_comment-clause-far : goal.returns-then-ends_comment-clause-far
returns-then-ends_comment-clause-far c =
    sym (c.loop-at.invariant ∙ (ap (beyond c.loop-at.at) (closing_comment-done c.loop-at.behind_asterisk c.args.text.now c.loop-at.at c.loop-at-test.true (sym c.ends_comment.ensures ∙ c.if-ends_comment.true)) ∙ beyond-one _))

pub loop-at-preserved : goal.loop-at-preserved
loop-at-preserved c =
    c.loop-at.invariant ∙ (ap (beyond c.loop-at.at) (closing_comment-more c.loop-at.behind_asterisk _ c.args.text.now c.loop-at.at c.loop-at-test.true (sym c.ends_comment.ensures ∙ c.if-ends_comment.false) refl) ∙ beyond-reached _ _)

pub returns-clause-far : goal.returns-clause-far
returns-clause-far c = sym (c.loop-at.invariant ∙ (ap (beyond c.loop-at.at) (closing_comment-end c.loop-at.behind_asterisk c.args.text.now c.loop-at.at c.loop-at-test.false) ∙ beyond-none _))
