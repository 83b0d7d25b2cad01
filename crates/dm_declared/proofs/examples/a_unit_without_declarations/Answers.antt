use Rattle.std.specs.Prelude.{refl}
use Rattle.std.specs.List.{IsDistinct}
use Rattle.std.proofs.lemmas.List.Elements.{All-nil}
use Rattle.dm_declared.proofs.examples.a_unit_without_declarations.Goals as goal

pub returns-clause-layered : goal.returns-clause-layered
returns-clause-layered c = c.empty_reading.ensures

pub returns-clause-typed : goal.returns-clause-typed
unfolding IsDistinct
returns-clause-typed c = (_, _, refl, record { entries = All-nil _; externals = All-nil _; once = tt })
