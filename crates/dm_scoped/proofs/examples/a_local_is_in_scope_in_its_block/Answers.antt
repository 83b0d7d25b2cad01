use Rattle.std.specs.Prelude.{refl}
use Rattle.dm_scoped.proofs.examples.a_local_is_in_scope_in_its_block.Goals as goal

pub returns-clause-own : goal.returns-clause-own
returns-clause-own c = refl

pub returns-clause-early : goal.returns-clause-early
returns-clause-early c = refl

pub returns-clause-late : goal.returns-clause-late
returns-clause-late c = refl

pub returns-clause-foreign : goal.returns-clause-foreign
returns-clause-foreign c = refl
