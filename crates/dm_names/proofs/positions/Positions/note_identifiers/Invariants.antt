-- The positions behind the rest are those behind the whole.
use Rattle.std.proofs.Common.{◌≡◌, drop}
use Rattle.dm_names.specs.Positions as positions
use Rattle.dm_names.proofs.positions.Positions.note_identifiers.Given as goal

abbrev pub invariant-loop-identifier : goal.invariant-loop-identifier
invariant-loop-identifier l = positions.identifiers_noted (positions.lookup_in l.self) l.position (drop l.identifier-index l.identifiers) ≡ positions.identifiers_noted (positions.lookup_in l.fn.self) 0 l.identifiers
