-- What is shown is a number.
use Rattle.std.proofs.Common.{◌∙◌, ap}
use Rattle.clap.specs.Words.{first_value, found_of}
use Rattle.dm_words.specs.Readings.{number_in}
use Rattle.dm_words.proofs.CommandReading.{number_there, number_shown}
use Rattle.dm_words.proofs.reading.number_or.Goals as goal

pub unwrap-requires : goal.unwrap-requires
unwrap-requires c =
    number_there c.args.default (first_value (found_of c.args.matches.now) c.args.name.now) c.in-Some.text.now c.number.result c.in-Some.ensures
    (c.number.ensures ∙ ap number_in c.as_bytes.ensures.value) c.requires

pub returns-in-Some : goal.returns-in-Some
returns-in-Some c =
    number_shown c.args.default (first_value (found_of c.args.matches.now) c.args.name.now) c.in-Some.text.now c.number.result c.unwrap.result c.in-Some.ensures
    (c.number.ensures ∙ ap number_in c.as_bytes.ensures.value) c.unwrap.ensures
