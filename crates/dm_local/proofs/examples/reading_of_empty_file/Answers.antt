use Rattle.dm_local.proofs.ExampleLemmas.{empty-loader, empty-read}
use Rattle.dm_local.proofs.examples.reading_of_empty_file.Goals as goal

pub returns-clause-loader : goal.returns-clause-loader
returns-clause-loader c = empty-loader

pub returns-clause-reading : goal.returns-clause-reading
returns-clause-reading c = empty-read
