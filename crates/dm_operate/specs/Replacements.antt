-- What an operator makes of the value of an object, as the code says it.
use Rattle.std.specs.Prelude.{◌≡◌, refl, Option, Some, None, Result, Ok, Err, ℤ}
use Rattle.dm_int.specs.declared.Fault.{Fault}
use Rattle.dm_int.specs.declared.Kind.{Kind}
use Rattle.dm_meaning.specs.declared.cause.Cause.{Cause}
use Rattle.dm_meaning.specs.Causes.{earliest}
use Rattle.dm_meaning.specs.Operations as operations
use Rattle.dm_meaning.specs.Values as values
use Rattle.dm_value.specs.Integers.{Number, integer_or_cause}
use Rattle.dm_value.specs.Views.{view_of_value}
use Rattle.dm_operate.specs.declared.replacement.Made.{Made}

-- the first of its causes, and its value
pub record Is (made : Made) (meant : operations.Made) : Type 0 where
  pub cause : made.cause ≡ earliest meant.causes
  pub value : view_of_value made.value ≡ meant.value

-- ---- numbers

abbrev pub cause_of : Result Number Cause → Option Cause
cause_of (Ok number) = None
cause_of (Err cause) = Some cause

abbrev pub value_of : Result Number Cause → values.Value
value_of (Ok number) = values.integer_value number.kind number.value
value_of (Err cause) = values.unset

pub cause_of-made : (kind : Kind) (r : Result ℤ Fault) → cause_of (integer_or_cause kind r) ≡ earliest (operations.made_number kind r).causes
cause_of-made kind (Ok z) = refl
cause_of-made kind (Err fault) = refl

pub value_of-made : (kind : Kind) (r : Result ℤ Fault) → value_of (integer_or_cause kind r) ≡ (operations.made_number kind r).value
value_of-made kind (Ok z) = refl
value_of-made kind (Err fault) = refl
