-- One name further.
use Rattle.std.proofs.Common.{◌||◌, ap, ◌∙◌}
use Rattle.dm_token.specs.declared.unit.Read.{Read}
use Rattle.dm_mentions.specs.Mentions.{is_definition}
use Rattle.dm_rules.specs.Words.{has}
use Rattle.dm_rules.proofs.WordLemmas.{one-further}
use Rattle.dm_rules.proofs.words.Words.add_definitions.Goals as goal

pub loop-one-preserved : goal.loop-one-preserved
loop-one-preserved c other =
    one-further (is_definition other) c.args.read.now c.loop-one.one-index c.one-item.result (has c.args.self.now other) (has c.loop-one.self other) _
    c.loop-one-test.true (c.loop-one.invariant other)
    (c.in_ok-add.ensures other ∙ ap (λ (one : Read). has c.loop-one.self other || is_definition other one) c.one-item.is)
