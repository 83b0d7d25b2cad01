-- The reading comes behind the others.
use Rattle.std.proofs.Common.{sym, subst}
use Rattle.std.proofs.lemmas.List.Elements.{All-push}
use Rattle.dm_tree.specs.TypeNumbers.{IsTypedUnit}
use Rattle.dm_reading.specs.declared.reading.Reading.{Reading}
use Rattle.dm_judge.specs.Units.{AreTyped}
use Rattle.judging_tests.proofs.projects.add_reading.Goals as goal

pub returns : goal.returns
returns g c =
    subst AreTyped (sym c.in_ok-push.ensures.items)
    (All-push (λ (each : Reading). IsTypedUnit each.types each.core) c.args.readings.now.items c.in_ok-reading.reading c.requires c.in_ok-reading.ensures)
