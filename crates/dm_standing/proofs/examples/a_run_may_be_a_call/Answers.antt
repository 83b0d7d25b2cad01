-- By computing, and by comparing numbers of tokens.
use Rattle.std.specs.Prelude.{refl}
use Rattle.std.proofs.Common.{arith, inl, inr}
use Rattle.dm_scoped.specs.Spans.{IsLaidOut}
use Rattle.dm_standing.specs.Examples as calls
use Rattle.dm_standing.proofs.RunExample.{old_typed}
use Rattle.dm_standing.proofs.examples.a_run_may_be_a_call.Goals as goal

value_laid : IsLaidOut (calls.value_at 10)
value_laid = (
  omega arith,
  omega arith,
  refl,
  (inl (refl, omega arith, (refl, refl), tt, omega arith), tt),
  ((omega arith, omega arith, refl, (omega arith, tt), tt, tt), tt),
  tt,
)

pub returns-clause-typed : goal.returns-clause-typed
returns-clause-typed c = old_typed

pub returns-clause-layout : goal.returns-clause-layout
returns-clause-layout c = (
  refl,
  (omega arith, omega arith, tt),
  (
    refl,
    (
      omega arith,
      (
        omega arith,
        (
          omega arith,
          omega arith,
          refl,
          (inr (omega arith, omega arith, omega arith), tt),
          ((omega arith, omega arith, refl, (inr (omega arith, omega arith, omega arith), tt), (value_laid, tt), tt), tt),
          tt,
        ),
        omega arith,
      ),
      tt,
    ),
    tt,
  ),
)

pub returns-clause-may_call : goal.returns-clause-may_call
returns-clause-may_call c = refl
