use Rattle.dm_names.specs.Positions.{lookup_in, entered_noted}
use Rattle.dm_names.proofs.PositionLemmas.{one-noted}
use Rattle.dm_names.proofs.positions.Positions.note_entered.Goals as goal

pub loop-one-preserved : goal.loop-one-preserved
loop-one-preserved c =
    one-noted (lookup_in c.loop-one.self) (lookup_in c.note.new.self) c.args.external c.args.entered.now c.loop-one.one-index c.one-item.result
    (entered_noted (lookup_in c.args.self.now) c.args.external c.args.entered.now) c.loop-one-test.true c.one-item.is c.in_ok-note.ensures c.loop-one.invariant
