-- `c++` meets each premise, and its step is computed.
use Rattle.std.specs.Prelude.{refl}
use Rattle.dm_meaning.specs.Programs.{layout}
use Rattle.dm_sound.specs.Examples.{program, counted}
use Rattle.dm_sound.proofs.ComeLemmas.{begun_comes}
use Rattle.dm_sound.proofs.ExampleLemmas.{program_typed, counted_typed, five_typed, world_typed, operands_fit}
use Rattle.dm_sound.proofs.examples.typed_counting.Goals as goal

pub returns-clause-scope : goal.returns-clause-scope
returns-clause-scope c = program_typed.scope

pub returns-clause-program : goal.returns-clause-program
returns-clause-program c = program_typed

pub returns-clause-tree : goal.returns-clause-tree
returns-clause-tree c = counted_typed

pub returns-clause-memory : goal.returns-clause-memory
returns-clause-memory c = five_typed

pub returns-clause-world : goal.returns-clause-world
returns-clause-world c = world_typed

pub returns-clause-operated : goal.returns-clause-operated
returns-clause-operated c = refl

pub returns-clause-operands : goal.returns-clause-operands
returns-clause-operands c = operands_fit

pub returns-clause-expression : goal.returns-clause-expression
returns-clause-expression c = refl

pub returns-clause-begun : goal.returns-clause-begun
returns-clause-begun c = begun_comes (layout program) counted

pub returns-clause-does : goal.returns-clause-does
returns-clause-does c = refl
