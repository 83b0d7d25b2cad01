-- The program and its unit meet each premise of the laws.
use Rattle.std.specs.Prelude.{pos}
use Rattle.dm_int.specs.declared.Kind.TheVariants.{Int}
use Rattle.dm_meaning.specs.Examples.{types}
use Rattle.dm_rewrite.specs.Examples.{naming_six, sum_unit, named_unit, beyond_added}
use Rattle.dm_rewrite.proofs.NamedStartLemmas.{named_constants_refine}
use Rattle.dm_rewrite.proofs.NamedUnitLemmas.{named_units_refine}
use Rattle.dm_rewrite.proofs.NamedExample.{premises, statics, unit_premises}
use Rattle.dm_rewrite.proofs.examples.a_named_constant_refines.Goals as goal

pub returns-clause-premises : goal.returns-clause-premises
returns-clause-premises c = premises

pub returns-clause-statics : goal.returns-clause-statics
returns-clause-statics c = statics

pub returns-clause-refines : goal.returns-clause-refines
returns-clause-refines c = named_constants_refine naming_six premises statics

pub returns-clause-unit_premises : goal.returns-clause-unit_premises
returns-clause-unit_premises c = unit_premises

pub returns-clause-units_refine : goal.returns-clause-units_refine
returns-clause-units_refine c = named_units_refine types named_unit sum_unit beyond_added 2 Int (pos 6) unit_premises
