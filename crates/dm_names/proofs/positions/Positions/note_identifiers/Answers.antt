use Rattle.dm_names.specs.Positions.{lookup_in, identifiers_noted}
use Rattle.dm_names.proofs.PositionLemmas.{one-placed}
use Rattle.dm_names.proofs.positions.Positions.note_identifiers.Goals as goal

pub loop-identifier-preserved : goal.loop-identifier-preserved
loop-identifier-preserved c =
    one-placed (lookup_in c.loop-identifier.self) (lookup_in c.note.new.self) c.loop-identifier.position c.in_ok-position.position c.args.identifiers.now c.loop-identifier.identifier-index _
    (identifiers_noted (lookup_in c.args.self.now) 0 c.args.identifiers.now) c.loop-identifier-test.true c.in_ok-note.ensures c.in_ok-position.ensures c.loop-identifier.invariant
