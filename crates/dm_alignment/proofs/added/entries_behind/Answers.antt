-- The names are those of the reading.
use Rattle.dm_names.specs.Meanings as names
use Rattle.dm_meanings.specs.Captures.{source_in}
use Rattle.dm_meanings.specs.Types.{syntax_in}
use Rattle.dm_alignment.specs.Readings.{entries_behind}
use Rattle.dm_alignment.proofs.NameLemmas.{same-count}
use Rattle.dm_alignment.proofs.added.entries_behind.Goals as goal

pub returns : goal.returns
unfolding entries_behind
returns c =
    let unit = c.args.unit.now in
    let reading = unit.reading.now in
    same-count unit.has_names c.entries_behind.result (names.entries_behind (source_in reading) (syntax_in reading) c.args.externals)
    (λ are. c.entries_behind.ensures reading.types reading.tokens reading.syntax reading.core are)
