-- A unit with another main file is passed over.
use Rattle.std.proofs.Common.{◌≡◌, ◌∙◌, ◌∷◌, false, rules, bytes_eq}
use Rattle.dm_sources.proofs.Iterators.{items_of}
use Rattle.dm_sources.proofs.ListSteps.{All-others, take-items, unit_named-others}
use Rattle.dm_sources.proofs.finding.unit_in.Goals as goal

pub loop-unit-preserved : goal.loop-unit-preserved
loop-unit-preserved c =
    let is : items_of c.loop-unit.unit-iterator ≡ c.in-Some.unit ∷ items_of c.next.new.self = take-items _ _ c.in-Some.unit _ _ c.in-Some.ensures.steps.0 c.in-Some.ensures.steps.1 in
    let other : bytes_eq c.in-Some.unit.file c.args.file.now ≡ false = search rules in
    record {
      first = unit_named-others c.args.file.now (items_of c.loop-unit.unit-iterator) c.in-Some.unit (items_of c.next.new.self) is other ∙ c.loop-unit.invariant.first;
      lawful = All-others (items_of c.loop-unit.unit-iterator) c.in-Some.unit (items_of c.next.new.self) is c.loop-unit.invariant.lawful;
    }
