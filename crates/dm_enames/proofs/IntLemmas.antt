-- Which numbers fit int.
use Rattle.std.specs.Prelude.{◌≡◌, ℤ, Bool, true, false, if◌then◌else◌, Some, None, FitsSigned, Result, Ok, Err, OkIff, refl}
use Rattle.std.specs.Result.{result_ok}
use Rattle.std.proofs.Common.{ap, sym, arith, ◌∙◌}
use Rattle.std.proofs.lemmas.Int.{ints}
use mir.Syntax.{w32}
use Rattle.dm_type.specs.TableLaws.{injected}
use Rattle.dm_typing.specs.Typing.{is_int}
use Rattle.dm_enames.specs.Tags.{if_int}

is-int : (z : ℤ) → FitsSigned w32 z → is_int z ≡ true
is-int z fits = grind (arith, ints)

is-no-int : (z : ℤ) → (FitsSigned w32 z → ⊥) → is_int z ≡ false
is-no-int z wide = grind (arith, ints)

int-fits : (z : ℤ) → FitsSigned w32 z → Some z ≡ if_int z
int-fits z fits = ap (λ (test : Bool). if test then Some z else None) (sym (is-int z fits))

int-wide : (z : ℤ) → (FitsSigned w32 z → ⊥) → None ≡ if_int z
int-wide z wide = ap (λ (test : Bool). if test then Some z else None) (sym (is-no-int z wide))

pub from-ok : {E : Type 0} (answer : Result ℤ E) (z : ℤ) → OkIff answer (FitsSigned w32 z) z → result_ok answer ≡ if_int z
from-ok (Ok x) z h = ap Some h.1 ∙ int-fits z h.0
from-ok (Err fault) z h = int-wide z h

-- what the answer says of the number
pub no-int : (z : ℤ) → None ≡ if_int z → is_int z ≡ false
no-int z h = by-test (is_int z) h
  where
    by-test : (test : Bool) → None ≡ (if test then Some z else None) → test ≡ false
    by-test true h = absurd (cc)
    by-test false h = refl

pub some-int : (value z : ℤ) → Some value ≡ if_int z → (is_int z ≡ true) × (value ≡ z)
some-int value z h = by-test (is_int z) h
  where
    by-test : (test : Bool) → Some value ≡ (if test then Some z else None) → (test ≡ true) × (value ≡ z)
    by-test true h = (refl, injected value z h)
    by-test false h = absurd (cc)
