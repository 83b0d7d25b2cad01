-- A value that was taken out and changed stands in its object again.
use Rattle.std.proofs.Common.{◌≤◌, length, rules, ap, sym, ◌∙◌}
use Rattle.dm_meaning.specs.Values as values
use Rattle.dm_memory.specs.Blocks.{view_of_blocks}
use Rattle.dm_value.specs.Views.{view_of_value}
use Rattle.dm_memory.proofs.ChangedLemmas.{change-past, known-exchanged, stored, written-numbered}
use Rattle.dm_memory.proofs.blocks.Blocks.store.Goals as goal

pub returns-then-len-number-clause-view : goal.returns-then-len-number-clause-view
returns-then-len-number-clause-view c =
    let past : length c.args.self.now ≤ c.in-Numbered.number = search rules in
    λ table. sym (written-numbered _ c.args.at.now c.in-Numbered.number (view_of_value c.args.value) c.in-Numbered.is
    ∙ change-past table c.in-Numbered.number (λ block. record block { contents = values.with_part c.args.at.now.path (view_of_value c.args.value) block.contents }) c.args.self.now past)

pub returns-clause-view : goal.returns-clause-view
returns-clause-view c =
    let path = c.args.at.now.path in
    let value = view_of_value c.args.value in
    let changed = c.in_ok-after.ensures ∙ ap (λ steps. values.with_part steps value (view_of_value c.exchange-before.result)) c.steps.ensures in
    λ table. stored table c.args.self.now c.exchange-before.new.self c.exchange.new.self c.in-Numbered.number _ c.exchange-before.result c.in_ok-after.after c.exchange.result path value
    c.exchange-before.ensures changed c.exchange.ensures
    ∙ sym (written-numbered (view_of_blocks table c.args.self.now) c.args.at.now c.in-Numbered.number value c.in-Numbered.is)

pub returns-clause-known : goal.returns-clause-known
returns-clause-known c =
    λ table known. known-exchanged table c.exchange-before.new.self c.exchange.new.self _ _ _ c.exchange.ensures
    (known-exchanged table c.args.self.now c.exchange-before.new.self _ _ _ c.exchange-before.ensures known)
