use Rattle.std.proofs.Common.{◌∙◌, ap, arith}
use Rattle.dm_lex.specs.Cuts.{is_within_line}
use Rattle.dm_lex.specs.Reach.{run}
use Rattle.dm_lex.proofs.CommentLemmas.{IsCommentLength-alone, IsCommentLength-no_slash, IsCommentLength-no_second, IsCommentLength-line}
use Rattle.dm_lex.proofs.comment.comment_length.Goals as goal

pub returns-then-text-at : goal.returns-then-text-at
returns-then-text-at c = IsCommentLength-alone c.args.text.now c.args.at (omega arith)

pub returns-then-text-at-ne47 : goal.returns-then-text-at-ne47
returns-then-text-at-ne47 c = IsCommentLength-no_slash c.args.text.now c.args.at c.requires c.if-text-at-ne47.true

pub returns-then-text-at-eq47 : goal.returns-then-text-at-eq47
returns-then-text-at-eq47 c =
    IsCommentLength-line c.args.text.now c.args.at _ c.if-text-at.false c.if-text-at-ne47.false c.if-text-at-eq47.true
    (c.line_run.ensures.far ∙ ap (run is_within_line) c.split_at.ensures.back)

pub returns : goal.returns
returns c = IsCommentLength-no_second c.args.text.now c.args.at c.if-text-at.false c.if-text-at-eq47.false c.if-text-at-eq42.false
