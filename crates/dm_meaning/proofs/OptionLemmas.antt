-- What an answer that is there was made of.
use Rattle.std.specs.Prelude.{◌≡◌, refl, Bool, true, false, ◌&&◌, Option, Some, None, option_map, option_and_then, is_some, Result, Ok, Err, ℤ, if◌then◌else◌}
use Rattle.std.specs.Result.{result_ok}
use Rattle.std.proofs.Common.{ap}
use Rattle.dm_int.specs.declared.Fault.{Fault}

pub none_is_some : {A : Type 0} (a : A) → None ≡ Some a → ⊥
none_is_some a e = cc

pub some_is_some : {A : Type 0} (a b : A) → Some a ≡ Some b → a ≡ b
some_is_some a b e = cc

pub bound_some : {A B : Type 0} (f : A → Option B) (o : Option A) (b : B) → option_and_then f o ≡ Some b → (a : A) × (o ≡ Some a) × (f a ≡ Some b)
bound_some f None b e = absurd (none_is_some b e)
bound_some f (Some a) b e = (a, refl, e)

pub mapped_some : {A B : Type 0} (f : A → B) (o : Option A) (b : B) → option_map f o ≡ Some b → (a : A) × (o ≡ Some a) × (f a ≡ b)
mapped_some f None b e = absurd (none_is_some b e)
mapped_some f (Some a) b e = (a, refl, some_is_some (f a) b e)

pub is_some_some : {A : Type 0} (o : Option A) → is_some o ≡ true → (a : A) × (o ≡ Some a)
is_some_some None e = absurd (cc)
is_some_some (Some a) e = (a, refl)

pub without_fault : (r : Result ℤ Fault) (z : ℤ) → result_ok r ≡ Some z → r ≡ Ok z
without_fault (Ok y) z e = ap Ok (some_is_some y z e)
without_fault (Err fault) z e = absurd (none_is_some z e)

-- what stands under a condition stands without it
pub where_met : {A : Type 0} (b : Bool) (o : Option A) (a : A) → (if b then o else None) ≡ Some a → o ≡ Some a
where_met true o a e = e
where_met false o a e = absurd (none_is_some a e)

pub and_left : (a b : Bool) → (a && b) ≡ true → a ≡ true
and_left true b e = refl
and_left false b e = e

pub and_right : (a b : Bool) → (a && b) ≡ true → b ≡ true
and_right true b e = e
and_right false b e = absurd (cc)
