-- The setting is that of the unit.
use Rattle.std.specs.Prelude.{map}
use Rattle.dm_syn.specs.Views as syntax
use Rattle.dm_eexpr.specs.Alone.{source_alone}
use Rattle.dm_edecl.specs.Units.{typed_unit}
use Rattle.dm_eunit.specs.Lacking.{has}
use Rattle.dm_eunit.specs.Elaborated.{typed_by}
use Rattle.dm_eunit.proofs.UnitLemmas.{elaborates-same, alike-unit, unit-well-typed, unit-inside}
use Rattle.dm_eunit.proofs.unit.elaborate.Goals as goal

pub returns-clause-unit : goal.returns-clause-unit
returns-clause-unit c =
    let tokens = c.args.tokens.now in
    let externals = map syntax.external c.args.externals.now in
    elaborates-same (source_alone tokens) (λ later. typed_by (record { source = source_alone tokens; lacks = has c.in_ok-names.names }) later externals) (λ later. typed_unit later tokens externals)
    (alike-unit tokens externals (has c.in_ok-names.names) c.in_ok-names.ensures) c.unit_of.result c.unit_of.ensures.unit

pub returns-clause-well_typed : goal.returns-clause-well_typed
returns-clause-well_typed c = λ sound are.
    unit-well-typed c.args.tokens.now (map syntax.external c.args.externals.now) c.unit_of.result (returns-clause-unit c) c.unit_of.ensures.numbered sound are

pub returns-clause-inside : goal.returns-clause-inside
returns-clause-inside c = λ are. unit-inside c.args.tokens.now (map syntax.external c.args.externals.now) c.unit_of.result (returns-clause-unit c) are
