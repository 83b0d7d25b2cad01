-- The positions behind the rest are those behind the whole.
use Rattle.std.proofs.Common.{◌≡◌, drop}
use Rattle.dm_names.specs.Positions as positions
use Rattle.dm_names.proofs.positions.Positions.note_shown.Given as goal

abbrev pub invariant-loop-shown : goal.invariant-loop-shown
invariant-loop-shown l = positions.shown_noted (positions.lookup_in l.self) l.external (drop l.shown-index l.all) ≡ positions.shown_noted (positions.lookup_in l.fn.self) 0 l.all
