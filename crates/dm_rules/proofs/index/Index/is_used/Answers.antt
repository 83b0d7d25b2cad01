-- There are expansions where there are positions of some.
use Rattle.std.proofs.Common.{ap, sym, ◌∙◌, not, length, ◌==◌}
use Rattle.dm_rules.specs.Uses.{is_expansion}
use Rattle.dm_rules.proofs.ListLemmas.{no-items, none-passes, none-left}
use Rattle.dm_rules.proofs.index.Index.is_used.Goals as goal

pub returns : goal.returns
returns c =
    let reading = c.args.self.now.reading.now in
    let test = is_expansion c.args.definition.now reading.pp.read in
    ap not (c.is_empty.ensures ∙ ap (λ numbers. length numbers == 0) c.expansions_of.ensures
    ∙ no-items _ ∙ none-passes test 0 reading.pp.expansions ∙ sym (none-left test reading.pp.expansions))
