use Rattle.dm_lex.proofs.ProgressLemmas.{progress_blank}
use Rattle.dm_lex.proofs.lexer.take_blank.Goals as goal

pub returns-clause-progress : goal.returns-clause-progress
returns-clause-progress c =
    progress_blank c.args.source.now c.args.lexer.now _ c.requires.source c.requires.progress c.requires.more c.requires.blank c.line_behind_blank-line.ensures
