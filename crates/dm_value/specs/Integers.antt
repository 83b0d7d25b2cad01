-- Integers as they are kept, in 64 bits, and what operators on them answer.
use Rattle.std.specs.Prelude.{◌≡◌, ℕ, ◌<◌, ◌^◌, Bool, true, false, ℤ, pos, Result, Ok, Err}
use Rattle.std.proofs.Common.{refl}
use Rattle.std.proofs.lemmas.Int.{of_z-to_z}
use Rattle.std.specs.Int.{cast_signed, cast_unsigned}
use mir.Syntax.{w64}
use Rattle.dm_int.specs.declared.Fault.{Fault}
use Rattle.dm_int.specs.declared.Kind.{Kind}
use Rattle.dm_int.specs.Kinds.{is_signed}
use Rattle.dm_meaning.specs.declared.cause.Cause.{Cause}
use Rattle.dm_meaning.specs.Causes.{fault_cause}

-- an integer of a kind
pub record Number : Type 0 where
  pub kind : Kind
  pub value : ℤ

-- the number whose bits these are: in two's complement, or in pure binary (6.2.6.2)
abbrev pub number_by_bits : Bool → ℕ → ℤ
number_by_bits true bits = cast_signed w64 bits
number_by_bits false bits = pos bits

abbrev pub number_of_bits : Kind → ℕ → ℤ
number_of_bits kind bits = number_by_bits (is_signed kind) bits

-- and back
abbrev pub bits_of_number : ℤ → ℕ
bits_of_number z = cast_unsigned w64 z

bits_back_by : (signed : Bool) (bits : ℕ) → bits < 2 ^ 64 → bits_of_number (number_by_bits signed bits) ≡ bits
bits_back_by true bits within = of_z-to_z w64 bits within
bits_back_by false bits within = refl

pub bits_back : (kind : Kind) (bits : ℕ) → bits < 2 ^ 64 → bits_of_number (number_of_bits kind bits) ≡ bits
bits_back kind bits within = bits_back_by (is_signed kind) bits within

-- ---- answers

-- a number, or the cause why there is none
abbrev pub or_cause : Result ℤ Fault → Result ℤ Cause
or_cause (Ok z) = Ok z
or_cause (Err fault) = Err (fault_cause fault)

-- the number as an integer of a kind
abbrev pub integer_or_cause : Kind → Result ℤ Fault → Result Number Cause
integer_or_cause kind (Ok z) = Ok (record { kind = kind; value = z })
integer_or_cause kind (Err fault) = Err (fault_cause fault)
