-- The positions behind the rest are those behind the whole.
use Rattle.std.proofs.Common.{◌≡◌, drop}
use Rattle.dm_names.specs.Positions as positions
use Rattle.dm_names.proofs.positions.Positions.note_entered.Given as goal

abbrev pub invariant-loop-one : goal.invariant-loop-one
invariant-loop-one l = positions.entered_noted (positions.lookup_in l.self) l.external (drop l.one-index l.entered) ≡ positions.entered_noted (positions.lookup_in l.fn.self) l.external l.entered
