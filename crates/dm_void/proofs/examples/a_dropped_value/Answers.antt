use Rattle.std.specs.Prelude.{refl, []}
use Rattle.std.proofs.Common.{ap, inl, inr}
use Rattle.dm_type.specs.CTypes.{void}
use Rattle.dm_meaning.specs.Among.{IsAmong}
use Rattle.dm_meaning.specs.Programs.{Definition}
use Rattle.dm_sound.specs.Examples.{spans}
use Rattle.dm_void.specs.Bodies.{AreUncalled}
use Rattle.dm_void.specs.Examples.{program}
use Rattle.dm_void.proofs.ExampleLemmas.{program_typed}
use Rattle.dm_void.proofs.examples.a_dropped_value.Goals as goal

alone : AreUncalled program 0
alone definition (inl e) = inl (ap (λ (one : Definition). one.function) e)
alone definition (inr none) = absurd none

pub returns-clause-typed : goal.returns-clause-typed
returns-clause-typed c = program_typed

pub returns-clause-restated : goal.returns-clause-restated
returns-clause-restated c = record {
  before = [];
  behind = [];
  parameters = [];
  body = _;
  other_body = _;
  was = refl;
  is = refl;
  kind = void;
  spans = spans;
  drops = refl;
  other_kind = void;
  other_spans = spans;
  returns = refl;
}

pub returns-clause-nothing : goal.returns-clause-nothing
returns-clause-nothing c = refl

pub returns-clause-other : goal.returns-clause-other
returns-clause-other c = refl

pub returns-clause-gives : goal.returns-clause-gives
returns-clause-gives c = inl refl

pub returns-clause-void : goal.returns-clause-void
returns-clause-void c = refl

pub returns-clause-uncalled : goal.returns-clause-uncalled
returns-clause-uncalled c = alone

pub returns-clause-never : goal.returns-clause-never
returns-clause-never c = c.unnamed_functions_never_run.ensures program 0 alone refl
