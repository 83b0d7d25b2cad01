-- A number of definitions is shown.
use Rattle.clap.specs.Words.{found_of}
use Rattle.dm_words.proofs.CommandReading.{count_shown}
use Rattle.dm_words.proofs.reading.request_in.Goals as goal

pub number_or-requires : goal.number_or-requires
number_or-requires c = count_shown (found_of c.args.matches.now) c.requires.0 c.args.command c.requires.1 c.in-Gen.is c.requires.2
