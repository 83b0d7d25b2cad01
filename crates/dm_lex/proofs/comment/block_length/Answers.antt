use Rattle.std.proofs.Common.{◌∙◌, ap, sym, false}
use Rattle.dm_lex.specs.Reach.{closing_comment}
use Rattle.dm_lex.proofs.CommentLemmas.{IsCommentLength-block, IsOpen-at}
use Rattle.dm_lex.proofs.comment.block_length.Goals as goal

pub returns-then-far-eq0 : goal.returns-then-far-eq0
returns-then-far-eq0 c =
    IsOpen-at c.args.text.now c.args.at c.requires.inside c.requires.first c.requires.second
    (ap (closing_comment false) (sym c.split_at.ensures.back) ∙ (sym c.closing_comment-far.ensures.far ∙ c.if-far-eq0.true))

pub returns-else-far-eq0 : goal.returns-else-far-eq0
returns-else-far-eq0 c =
    IsCommentLength-block c.args.text.now c.args.at _ c.requires.inside c.requires.first c.requires.second
    (c.closing_comment-far.ensures.far ∙ ap (closing_comment false) c.split_at.ensures.back) c.if-far-eq0.false
