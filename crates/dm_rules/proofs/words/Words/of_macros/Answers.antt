-- The macros of one unit further.
use Rattle.std.proofs.Common.{List, ◌||◌, ap, ◌∙◌}
use Rattle.std.specs.List.{list_any}
use Rattle.dm_token.specs.declared.unit.Read.{Read}
use Rattle.dm_mentions.specs.Mentions.{is_definition}
use Rattle.dm_rules.specs.declared.index.Index.{Index}
use Rattle.dm_rules.specs.Rules.{defines_in}
use Rattle.dm_rules.specs.Words.{has}
use Rattle.dm_rules.proofs.WordLemmas.{one-unit-further}
use Rattle.dm_rules.proofs.words.Words.of_macros.Goals as goal

pub loop-unit-preserved : goal.loop-unit-preserved
loop-unit-preserved c name =
    one-unit-further (defines_in name) c.args.units.now c.loop-unit.unit-index c.unit-item.result (has c.loop-unit.made name) _
    c.loop-unit-test.true (c.loop-unit.invariant name)
    (c.in_ok-add_definitions.ensures name
    ∙ ap (λ (read : List Read). has c.loop-unit.made name || list_any (is_definition name) read) c.items.ensures
    ∙ ap (λ (unit : Index). has c.loop-unit.made name || defines_in name unit.reading.now) c.unit-item.is)
