use Rattle.std.proofs.Common.{List, map, ap, ◌∙◌}
use Rattle.std.proofs.lemmas.List.{take_all}
use Rattle.dm_runs.specs.declared.named.Named.{Named}
use Rattle.dm_runs.specs.Runs.{occurrence_in}
use Rattle.dm_runs.proofs.RunLemmas.{occurrences-more}
use Rattle.dm_runs.proofs.shape.Shape.occurrences.Goals as goal

pub loop-named-preserved : goal.loop-named-preserved
loop-named-preserved c =
    let stand = c.args.stand.now in (
      occurrences-more (occurrence_in stand.names.now c.args.self.now.tokens.now stand.definition.now c.args.prefix.now c.args.run) stand.named.now c.loop-named.named-index _
          c.in_ok-one.one c.loop-named.found.items c.push.new.self.items c.loop-named-test.true c.in_ok-one.ensures.occurrence c.loop-named.invariant.0 c.in_ok-push.ensures.items,
      c.in_ok-one.ensures.reach,
    )

pub returns : goal.returns
returns c =
    let stand = c.args.stand.now in
    let named : List Named = stand.named.now in
    c.from_vec.ensures ∙ c.loop-named.invariant.0
    ∙ ap (map (occurrence_in stand.names.now c.args.self.now.tokens.now stand.definition.now c.args.prefix.now c.args.run)) (take_all c.loop-named.named-index named c.loop-named-test.false)
