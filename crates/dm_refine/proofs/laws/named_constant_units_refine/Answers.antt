use Rattle.dm_meaning.specs.Refinement.{refines_through}
use Rattle.dm_meaning.specs.Units.{machine_of, program_of}
use Rattle.dm_same.proofs.MachineLemmas.{refines_same}
use Rattle.std.specs.Prelude.{Some}
use Rattle.dm_align.specs.Units.{moved}
use Rattle.dm_refine.proofs.ConstantUnitLemmas.{constant_units}
use Rattle.dm_refine.proofs.laws.named_constant_units_refine.Goals as goal

pub returns : goal.returns
returns c old_types new_types old new runs put d value sound old_typed typed scoped aligned is =
    let naming = constant_units old_types new_types old new runs old_typed typed scoped put aligned d value is sound in
    refines_through (machine_of (program_of new_types new)) (machine_of (program_of old_types new)) (machine_of (program_of old_types old))
    (refines_same old_types new_types aligned.structs new)
    (c.named_units_refine.ensures old_types new old (moved (Some put)) d naming.0 value naming.1)
