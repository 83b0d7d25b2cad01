-- The program and its unit meet each premise of the laws on enumerators.
use Rattle.std.specs.Prelude.{refl}
use Rattle.dm_meaning.specs.Examples.{types, six_unit, enumerated_unit, enumerating_six, beyond_six}
use Rattle.dm_meaning.proofs.StartLemmas.{enumerated_refines}
use Rattle.dm_meaning.proofs.UnitLemmas.{units_refine}
use Rattle.dm_meaning.proofs.EnumeratorExample.{premises, unit_premises}
use Rattle.dm_meaning.proofs.examples.enumerators_refine.Goals as goal

pub returns-clause-new : goal.returns-clause-new
returns-clause-new c = refl

pub returns-clause-premises : goal.returns-clause-premises
returns-clause-premises c = premises

pub returns-clause-refines : goal.returns-clause-refines
returns-clause-refines c = enumerated_refines enumerating_six premises

pub returns-clause-unit_premises : goal.returns-clause-unit_premises
returns-clause-unit_premises c = unit_premises

pub returns-clause-units_refine : goal.returns-clause-units_refine
returns-clause-units_refine c = units_refine types enumerated_unit six_unit beyond_six unit_premises
