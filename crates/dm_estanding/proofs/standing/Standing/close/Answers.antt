-- The entries of before have the types of before.
use Rattle.std.specs.Prelude.{refl}
use Rattle.dm_estanding.proofs.ScopeLemmas.{closes-around, within-closed}
use Rattle.dm_estanding.proofs.standing.Standing.close.Goals as goal

pub returns-clause-closed : goal.returns-clause-closed
returns-clause-closed c = λ outside opened opens within counted marked later on before inside stands stands-inside.
    closes-around later outside opened c.args.self.now _ c.args.self.now.links c.args.mark.declared c.args.mark.retyped opens within counted marked on before inside stands stands-inside
    c.leave.ensures.same.types c.leave.ensures.scopes c.leave.ensures.declared c.leave.ensures.same.begun c.leave.ensures.same.constants refl

pub returns-clause-around : goal.returns-clause-around
returns-clause-around c = λ outside opened opens within counted marked.
    within-closed outside opened c.args.self.now _ c.args.mark.declared c.args.mark.retyped opens within counted marked
    c.leave.ensures.same.types c.leave.ensures.changes c.leave.ensures.scopes c.leave.ensures.declared
