-- The names are those of the reading.
use Rattle.dm_names.specs.Meanings.{meaning_at}
use Rattle.dm_meanings.specs.Captures.{meaning_in, source_in}
use Rattle.dm_meanings.specs.Types.{syntax_in}
use Rattle.dm_meanings.proofs.NameLemmas.{same-meaning}
use Rattle.dm_meanings.proofs.meanings.Meanings.meaning.Goals as goal

pub returns : goal.returns
unfolding meaning_in
returns c =
    let reading = c.args.self.now.index.now.reading.now in
    let told =
    same-meaning c.args.self.now.has_names c.meaning.result (meaning_at (source_in reading) (syntax_in reading) c.args.at) (λ are. c.meaning.ensures reading.types reading.tokens reading.syntax reading.core are) in
    told
