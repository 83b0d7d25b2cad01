-- It is read where there are positions of some readings.
use Rattle.std.proofs.Common.{ap, ◌∙◌, not, length, ◌==◌}
use Rattle.std.specs.List.{list_any}
use Rattle.dm_rules.specs.Uses.{is_reading}
use Rattle.dm_rules.proofs.ListLemmas.{no-items, none-passes, not-not}
use Rattle.dm_rules.proofs.index.Index.reads.Goals as goal

pub returns : goal.returns
returns c =
    let read = c.args.self.now.reading.now.pp.read in
    let test = is_reading c.args.definition.now in
    ap not (c.is_empty.ensures ∙ ap (λ numbers. length numbers == 0) c.readings_of.ensures ∙ no-items _ ∙ none-passes test 0 read) ∙ not-not (list_any test read)
