use Rattle.dm_lex.proofs.ProgressLemmas.{progress_comment}
use Rattle.dm_lex.proofs.lexer.take_comment.Goals as goal

pub returns-clause-progress : goal.returns-clause-progress
returns-clause-progress c =
    progress_comment c.args.source.now c.args.lexer.now c.args.far c.requires.source c.requires.progress c.requires.comment c.requires.some
