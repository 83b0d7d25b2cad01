-- What `clap` makes of good words.
use Rattle.std.proofs.Common.{sym, subst, map, string_bytes}
use Rattle.clap.proofs.TakesLemmas.{passed_up}
use Rattle.clap.specs.Words.{app_of, found_of}
use Rattle.dm_words.specs.Requests.{AsksFor}
use Rattle.dm_words.proofs.CommandReading.{takes_words, shows_words}
use Rattle.dm_words.proofs.reading.read.Goals as goal

pub returns-in_err-matches-clause-fault : goal.returns-in_err-matches-clause-fault
returns-in_err-matches-clause-fault c =
    passed_up c.from_residual-in_err-matches.result c.in_err-matches.field-0.0 _ c.from_residual-in_err-matches.ensures.1
    (c.in_err-matches.ensures.passes
    (takes_words (map string_bytes c.args.words.now) c.args.command (app_of c.in_ok-line.line) c.in_ok-line.ensures c.requires.0 c.requires.1 c.requires.2))

pub request_in-requires : goal.request_in-requires
request_in-requires c = (
  c.requires.0,
  c.requires.1,
  shows_words (map string_bytes c.args.words.now) c.args.command (app_of c.in_ok-line.line) c.in_ok-line.ensures c.requires.0 c.requires.1 c.requires.2 (found_of c.in_ok-matches.matches)
      (λ simple. (c.in_ok-matches.ensures.matches simple).0),
)

pub returns-clause-asked : goal.returns-clause-asked
returns-clause-asked c =
    subst (AsksFor (map string_bytes c.args.words.now))
    (sym (c.request_in.ensures c.requires.0 c.requires.1
    (shows_words (map string_bytes c.args.words.now) c.args.command (app_of c.in_ok-line.line) c.in_ok-line.ensures c.requires.0 c.requires.1 c.requires.2 (found_of c.in_ok-matches.matches)
    (λ simple. (c.in_ok-matches.ensures.matches simple).0)))) c.requires.2
