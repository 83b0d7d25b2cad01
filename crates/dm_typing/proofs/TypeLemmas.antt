-- Types that are the same, compatible types, and composite types.
use Rattle.std.specs.Prelude.{◌≡◌, ℕ, Bool, true, false, ◌&&◌, ◌==◌, Option, Some, None, refl}
use Rattle.std.proofs.Common.{sym, ap, ap₂, ◌∙◌}
use Rattle.dm_int.specs.Kinds.{number_of}
use Rattle.dm_type.specs.Alike.{are_compatible, match_as_parameters, lengths_agree}
use Rattle.dm_type.specs.CTypes.{CType, CTypes, void, integer, pointer, array, struct, function, const, no_types, more_types, bare}
use Rattle.dm_typing.specs.Conversions.{is_same, are_same, is_same_length}
use Rattle.dm_typing.proofs.KindLemmas.{same-numbers, numbers-same, same-kinds}

pub both-hold : (one other : Bool) → (one && other) ≡ true → (one ≡ true) × (other ≡ true)
both-hold true other h = (refl, h)
both-hold false other h = absurd (cc)

pub both-true : (one other : Bool) → one ≡ true → other ≡ true → (one && other) ≡ true
both-true true other a b = b
both-true false other a b = absurd (cc)

same-lengths : (m n : Option ℕ) → is_same_length m n ≡ true → m ≡ n
same-lengths None None h = refl
same-lengths (Some m) (Some n) h = ap Some (same-numbers m n h)
same-lengths m n h = absurd (cc)

mutual
  -- types that are told to be one are
  pub same-types : (a b : CType) → is_same a b ≡ true → a ≡ b
  same-types void void h = refl
  same-types (integer kind) (integer other) h = ap integer (same-kinds kind other h)
  same-types (pointer a) (pointer b) h = ap pointer (same-types a b h)
  same-types (array a m) (array b n) h =
      let parts = both-hold (is_same_length m n) (is_same a b) h in ap₂ array (same-types a b parts.1) (same-lengths m n parts.0)
  same-types (struct m) (struct n) h = ap struct (same-numbers m n h)
  same-types (function a parameters) (function b others) h =
      let parts = both-hold (is_same a b) (are_same parameters others) h in ap₂ function (same-types a b parts.0) (same-lists parameters others parts.1)
  same-types (const a) (const b) h = ap const (same-types a b h)
  same-types a b h = absurd (cc)

  same-lists : (types others : CTypes) → are_same types others ≡ true → types ≡ others
  same-lists no_types no_types h = refl
  same-lists (more_types a types) (more_types b others) h =
      let parts = both-hold (is_same a b) (are_same types others) h in ap₂ more_types (same-types a b parts.0) (same-lists types others parts.1)
  same-lists types others h = absurd (cc)

lengths-agree : (n : Option ℕ) → lengths_agree n n ≡ true
lengths-agree None = refl
lengths-agree (Some n) = numbers-same n n refl

agree-back : (m n : Option ℕ) → lengths_agree m n ≡ true → lengths_agree n m ≡ true
agree-back None None h = refl
agree-back None (Some n) h = refl
agree-back (Some m) None h = refl
agree-back (Some m) (Some n) h = numbers-same n m (sym (same-numbers m n h))

-- parameters by the first of each
pub unqualified : (a b : CType) (types others : CTypes)
    → match_as_parameters (more_types a types) (more_types b others) ≡ (are_compatible (bare a) (bare b) && match_as_parameters types others)
unqualified (const a) b types others = refl
unqualified a b types others = refl

mutual
  -- a type is compatible with itself
  pub compatible-itself : (a : CType) → are_compatible a a ≡ true
  compatible-itself void = refl
  compatible-itself (integer kind) = numbers-same (number_of kind) (number_of kind) refl
  compatible-itself (pointer a) = compatible-itself a
  compatible-itself (array a n) = both-true (lengths_agree n n) (are_compatible a a) (lengths-agree n) (compatible-itself a)
  compatible-itself (struct n) = numbers-same n n refl
  compatible-itself (function a parameters) = both-true (are_compatible a a) (match_as_parameters parameters parameters) (compatible-itself a) (match-themselves parameters)
  compatible-itself (const a) = compatible-itself a

  match-themselves : (types : CTypes) → match_as_parameters types types ≡ true
  match-themselves no_types = refl
  match-themselves (more_types (const a) types) = both-true (are_compatible a a) (match_as_parameters types types) (compatible-itself a) (match-themselves types)
  match-themselves (more_types void types) = match-themselves types
  match-themselves (more_types (integer kind) types) =
      both-true (number_of kind == number_of kind) (match_as_parameters types types) (numbers-same (number_of kind) (number_of kind) refl) (match-themselves types)
  match-themselves (more_types (pointer a) types) = both-true (are_compatible a a) (match_as_parameters types types) (compatible-itself a) (match-themselves types)
  match-themselves (more_types (array a n) types) =
      both-true (lengths_agree n n && are_compatible a a) (match_as_parameters types types) (both-true (lengths_agree n n) (are_compatible a a) (lengths-agree n) (compatible-itself a)) (match-themselves types)
  match-themselves (more_types (struct n) types) = both-true (n == n) (match_as_parameters types types) (numbers-same n n refl) (match-themselves types)
  match-themselves (more_types (function a parameters) types) =
      both-true (are_compatible a a && match_as_parameters parameters parameters) (match_as_parameters types types)
      (both-true (are_compatible a a) (match_as_parameters parameters parameters) (compatible-itself a) (match-themselves parameters)) (match-themselves types)

mutual
  -- compatibility goes both ways
  pub compatible-back : (a b : CType) → are_compatible a b ≡ true → are_compatible b a ≡ true
  compatible-back void void h = refl
  compatible-back (integer kind) (integer other) h = numbers-same (number_of other) (number_of kind) (sym (same-numbers (number_of kind) (number_of other) h))
  compatible-back (pointer a) (pointer b) h = compatible-back a b h
  compatible-back (array a m) (array b n) h =
      let parts = both-hold (lengths_agree m n) (are_compatible a b) h in
      both-true (lengths_agree n m) (are_compatible b a) (agree-back m n parts.0) (compatible-back a b parts.1)
  compatible-back (struct m) (struct n) h = numbers-same n m (sym (same-numbers m n h))
  compatible-back (function a parameters) (function b others) h =
      let parts = both-hold (are_compatible a b) (match_as_parameters parameters others) h in
      both-true (are_compatible b a) (match_as_parameters others parameters) (compatible-back a b parts.0) (match-back parameters others parts.1)
  compatible-back (const a) (const b) h = compatible-back a b h
  compatible-back a b h = absurd (cc)

  match-back : (types others : CTypes) → match_as_parameters types others ≡ true → match_as_parameters others types ≡ true
  match-back no_types no_types h = refl
  match-back (more_types (const a) types) (more_types b others) h =
      let parts = both-hold (are_compatible a (bare b)) (match_as_parameters types others) h in
      unqualified b (const a) others types ∙ both-true (are_compatible (bare b) a) (match_as_parameters others types) (compatible-back a (bare b) parts.0) (match-back types others parts.1)
  match-back (more_types a types) (more_types b others) h =
      let parts = both-hold (are_compatible (bare a) (bare b)) (match_as_parameters types others) (sym (unqualified a b types others) ∙ h) in
      unqualified b a others types ∙ both-true (are_compatible (bare b) (bare a)) (match_as_parameters others types) (compatible-back a (bare b) parts.0) (match-back types others parts.1)
  match-back types others h = absurd (cc)
