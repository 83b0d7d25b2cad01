-- The kinds of integer constants.
use Rattle.std.proofs.Common.{◌≡◌, ℕ, ◌≤◌, ◌^◌, false, List, [], ◌∷◌, Option, Some, None, option_map, pos, refl, ap, ◌∙◌, arith}
use Rattle.std.specs.Option.{option_and_then}
use Rattle.std.proofs.lemmas.Int.{ints}
use Rattle.std.proofs.lemmas.Bool.{cond-false}
use Rattle.std.proofs.lemmas.Bool.Decides.{nat_tests}
use Rattle.dm_int.specs.declared.Kind.{Kind}
use Rattle.dm_int.specs.Kinds.{is_in_range}
use Rattle.dm_ctok.specs.declared.integer.Constant.{Constant}
use Rattle.dm_ctok.specs.Integers.{kinds_for, first_fit, kind_of, if_small}

-- no kind has more than 64 bits
too_great : (kind : Kind) (value : ℕ) → 2 ^ 64 ≤ value → is_in_range kind (pos value) ≡ false
too_great kind value great = grind (arith, ints)

-- in no list of kinds such a value fits
first_fit-none : (value : ℕ) (kinds : List Kind) → 2 ^ 64 ≤ value → first_fit value kinds ≡ None
first_fit-none value [] great = refl
first_fit-none value (kind ∷ kinds) great = cond-false _ _ _ (too_great kind value great) ∙ first_fit-none value kinds great

-- a constant that doesn't fit 64 bits
great : (constant : Constant) → None ≡ if_small (Some constant) → 2 ^ 64 ≤ constant.value
great constant none = grind (arith, nat_tests)

-- it has no kind
pub no_kind : (constant : Option Constant) → None ≡ if_small constant → option_and_then {T = Constant} {U = ℕ × Kind} (λ c. option_map (λ kind. (c.value, kind)) (kind_of c)) constant ≡ None
unfolding kind_of
no_kind None none = refl
no_kind (Some constant) none = ap (option_map {T = Kind} {U = ℕ × Kind} (λ kind. (constant.value, kind))) (first_fit-none constant.value (kinds_for constant.is_decimal constant.suffix) (great constant none))
