-- The type is numbered in three steps.
use Rattle.dm_eunit.proofs.UnitLemmas.{argv-typed}
use Rattle.dm_eunit.proofs.unit.argv_type.Goals as goal

pub returns-clause-typed : goal.returns-clause-typed
returns-clause-typed c =
    argv-typed c.intern.new.self.types c.intern-2.new.self.types c.intern-3.new.self.types c.in_ok-plain.plain c.in_ok-pointer.pointer c.in_ok-array.array c.in_ok-pointer.ensures.grows.shapes
    c.in_ok-array.ensures.grows.shapes c.in_ok-plain.ensures.number c.in_ok-pointer.ensures.number c.in_ok-array.ensures.number
