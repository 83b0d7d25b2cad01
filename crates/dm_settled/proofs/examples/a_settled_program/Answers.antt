use Rattle.std.specs.Prelude.{refl}
use Rattle.std.proofs.Common.{sym, subst, inl, inr}
use Rattle.std.proofs.lemmas.Bool.{false≢true}
use Rattle.dm_meaning.specs.Among.{IsAmong}
use Rattle.dm_meaning.specs.Programs.{Definition}
use Rattle.dm_sound.specs.Examples.{running}
use Rattle.dm_sound.proofs.ExampleLemmas.{running_typed}
use Rattle.dm_safe.specs.Examples.{none, takes_none}
use Rattle.dm_safe.specs.Spared.{TreeSpares}
use Rattle.dm_safe.proofs.ExampleLemmas as safe
use Rattle.dm_late.specs.Settled.{erased_program}
use Rattle.dm_settled.proofs.examples.a_settled_program.Goals as goal

by_among : (definition : Definition) → IsAmong definition (erased_program running).functions → TreeSpares none takes_none definition.body
by_among definition (inl e) = subst (λ (one : Definition). TreeSpares none takes_none one.body) (sym e) (tt, tt)
by_among definition (inr k) = absurd k

pub returns-clause-typed : goal.returns-clause-typed
returns-clause-typed c = running_typed

pub returns-clause-settled : goal.returns-clause-settled
returns-clause-settled c = safe.settled

pub returns-clause-safe : goal.returns-clause-safe
returns-clause-safe c = record { trees = safe.numbers_are_safe (erased_program running); objects = λ tree d e. absurd (false≢true e); initialisers = by_among }

pub returns-clause-apart : goal.returns-clause-apart
returns-clause-apart c = (tt, tt)

pub returns-clause-stands_at : goal.returns-clause-stands_at
returns-clause-stands_at c = (refl, ((refl, tt), tt))

pub returns-clause-stands_in : goal.returns-clause-stands_in
returns-clause-stands_in c = inl refl
