-- Types that say all that others say.
use Rattle.std.specs.Prelude.{◌≡◌, ℕ, true, ◌&&◌, not, ◌==◌, Option, Some, None, refl}
use Rattle.std.proofs.Common.{sym, ◌∙◌, subst}
use Rattle.dm_int.specs.Kinds.{number_of}
use Rattle.dm_type.specs.Alike.{are_compatible, match_as_parameters, composite, composite_parameters, lengths_agree, known_length}
use Rattle.dm_type.specs.CTypes.{CType, CTypes, void, integer, pointer, array, struct, function as function_type, const, no_types, more_types, bare, is_const}
use Rattle.dm_tree.specs.Composites.{covers, cover_parameters, covers_length}
use Rattle.dm_tree.specs.Scenes.{is_array}
use Rattle.dm_typing.specs.Sound.{IsProper, AreProper}
use Rattle.dm_typing.proofs.ChoiceLemmas.{plain-part, composite-bare, composite-plain, const-plain}
use Rattle.dm_typing.proofs.KindLemmas.{same-numbers, numbers-same}
use Rattle.dm_typing.proofs.TypeLemmas.{both-hold, both-true, unqualified}

-- ---- lengths

length-itself : (n : Option ℕ) → covers_length n n ≡ true
length-itself None = refl
length-itself (Some n) = numbers-same n n refl

length-through : (l m n : Option ℕ) → covers_length l m ≡ true → covers_length m n ≡ true → covers_length l n ≡ true
length-through l m None h g = refl
length-through (Some l) (Some m) (Some n) h g = numbers-same l n (same-numbers l m h ∙ same-numbers m n g)
length-through (Some l) None (Some n) h g = absurd (cc)
length-through None (Some m) (Some n) h g = absurd (cc)
length-through None None (Some n) h g = absurd (cc)

length-agrees : (m n : Option ℕ) → covers_length m n ≡ true → lengths_agree m n ≡ true
length-agrees None n h = refl
length-agrees (Some m) None h = refl
length-agrees (Some m) (Some n) h = h

lengths-agree-below : (l m n : Option ℕ) → covers_length l m ≡ true → covers_length l n ≡ true → lengths_agree m n ≡ true
lengths-agree-below l None n h g = refl
lengths-agree-below l (Some m) None h g = refl
lengths-agree-below (Some l) (Some m) (Some n) h g = numbers-same m n (sym (same-numbers l m h) ∙ same-numbers l n g)
lengths-agree-below None (Some m) (Some n) h g = absurd (cc)

length-joined : (l m n : Option ℕ) → covers_length l m ≡ true → covers_length l n ≡ true → covers_length l (known_length m n) ≡ true
length-joined l None n h g = g
length-joined l (Some m) n h g = h

length-left : (m n : Option ℕ) → covers_length (known_length m n) m ≡ true
length-left None None = refl
length-left None (Some n) = refl
length-left (Some m) n = numbers-same m m refl

length-right : (m n : Option ℕ) → lengths_agree m n ≡ true → covers_length (known_length m n) n ≡ true
length-right None n h = length-itself n
length-right (Some m) None h = refl
length-right (Some m) (Some n) h = h

-- ---- parameters by the first of each

cover-unqualified : (a b : CType) (types others : CTypes)
    → cover_parameters (more_types a types) (more_types b others) ≡ (covers (bare a) (bare b) && cover_parameters types others)
cover-unqualified (const a) b types others = refl
cover-unqualified a b types others = refl

never-none : (b : CType) (others : CTypes) → cover_parameters (more_types b others) no_types ≡ true → ⊥
never-none (const b) others h = absurd (cc)
never-none b others h = absurd (cc)

-- ---- the order

mutual
  -- a type says what it says
  pub covers-itself : (a : CType) → covers a a ≡ true
  covers-itself void = refl
  covers-itself (integer kind) = numbers-same (number_of kind) (number_of kind) refl
  covers-itself (pointer a) = covers-itself a
  covers-itself (array a n) = both-true (covers_length n n) (covers a a) (length-itself n) (covers-itself a)
  covers-itself (struct n) = numbers-same n n refl
  covers-itself (function_type a parameters) = both-true (covers a a) (cover_parameters parameters parameters) (covers-itself a) (cover-themselves parameters)
  covers-itself (const a) = covers-itself a

  cover-themselves : (types : CTypes) → cover_parameters types types ≡ true
  cover-themselves no_types = refl
  cover-themselves (more_types (const a) types) = both-true (covers a a) (cover_parameters types types) (covers-itself a) (cover-themselves types)
  cover-themselves (more_types void types) = cover-themselves types
  cover-themselves (more_types (integer kind) types) =
      both-true (number_of kind == number_of kind) (cover_parameters types types) (numbers-same (number_of kind) (number_of kind) refl) (cover-themselves types)
  cover-themselves (more_types (pointer a) types) = both-true (covers a a) (cover_parameters types types) (covers-itself a) (cover-themselves types)
  cover-themselves (more_types (array a n) types) =
      both-true (covers_length n n && covers a a) (cover_parameters types types) (both-true (covers_length n n) (covers a a) (length-itself n) (covers-itself a)) (cover-themselves types)
  cover-themselves (more_types (struct n) types) = both-true (n == n) (cover_parameters types types) (numbers-same n n refl) (cover-themselves types)
  cover-themselves (more_types (function_type a parameters) types) =
      both-true (covers a a && cover_parameters parameters parameters) (cover_parameters types types)
      (both-true (covers a a) (cover_parameters parameters parameters) (covers-itself a) (cover-themselves parameters)) (cover-themselves types)

mutual
  -- what a type says that it says itself
  pub covers-through : (a b c : CType) → covers a b ≡ true → covers b c ≡ true → covers a c ≡ true
  covers-through void void void h g = refl
  covers-through (integer k) (integer l) (integer m) h g =
      numbers-same (number_of k) (number_of m) (same-numbers (number_of k) (number_of l) h ∙ same-numbers (number_of l) (number_of m) g)
  covers-through (pointer a) (pointer b) (pointer c) h g = covers-through a b c h g
  covers-through (array a l) (array b m) (array c n) h g =
      let one = both-hold (covers_length l m) (covers a b) h in
      let two = both-hold (covers_length m n) (covers b c) g in
      both-true (covers_length l n) (covers a c) (length-through l m n one.0 two.0) (covers-through a b c one.1 two.1)
  covers-through (struct l) (struct m) (struct n) h g = numbers-same l n (same-numbers l m h ∙ same-numbers m n g)
  covers-through (function_type a types) (function_type b others) (function_type c more) h g =
      let one = both-hold (covers a b) (cover_parameters types others) h in
      let two = both-hold (covers b c) (cover_parameters others more) g in
      both-true (covers a c) (cover_parameters types more) (covers-through a b c one.0 two.0) (cover-through types others more one.1 two.1)
  covers-through (const a) (const b) (const c) h g = covers-through a b c h g
  covers-through a b c h g = absurd (cc)

  cover-through : (types others more : CTypes) → cover_parameters types others ≡ true → cover_parameters others more ≡ true → cover_parameters types more ≡ true
  cover-through no_types no_types no_types h g = refl
  cover-through (more_types (const a) types) (more_types b others) (more_types c more) h g =
      let one = both-hold (covers a (bare b)) (cover_parameters types others) h in
      let two = both-hold (covers (bare b) (bare c)) (cover_parameters others more) (sym (cover-unqualified b c others more) ∙ g) in
      both-true (covers a (bare c)) (cover_parameters types more) (covers-through a (bare b) (bare c) one.0 two.0) (cover-through types others more one.1 two.1)
  cover-through (more_types a types) (more_types b others) (more_types c more) h g =
      let one = both-hold (covers a (bare b)) (cover_parameters types others) h in
      let two = both-hold (covers (bare b) (bare c)) (cover_parameters others more) (sym (cover-unqualified b c others more) ∙ g) in
      both-true (covers a (bare c)) (cover_parameters types more) (covers-through a (bare b) (bare c) one.0 two.0) (cover-through types others more one.1 two.1)
  cover-through (more_types (const a) types) (more_types b others) no_types h g = absurd (never-none b others g)
  cover-through (more_types a types) (more_types b others) no_types h g = absurd (never-none b others g)
  cover-through types others more h g = absurd (cc)

-- ---- compatible types

mutual
  -- a type is compatible with one that it covers
  pub covers-compatible : (a b : CType) → covers a b ≡ true → are_compatible a b ≡ true
  covers-compatible void void h = refl
  covers-compatible (integer kind) (integer other) h = h
  covers-compatible (pointer a) (pointer b) h = covers-compatible a b h
  covers-compatible (array a m) (array b n) h =
      let parts = both-hold (covers_length m n) (covers a b) h in
      both-true (lengths_agree m n) (are_compatible a b) (length-agrees m n parts.0) (covers-compatible a b parts.1)
  covers-compatible (struct m) (struct n) h = h
  covers-compatible (function_type a parameters) (function_type b others) h =
      let parts = both-hold (covers a b) (cover_parameters parameters others) h in
      both-true (are_compatible a b) (match_as_parameters parameters others) (covers-compatible a b parts.0) (cover-match parameters others parts.1)
  covers-compatible (const a) (const b) h = covers-compatible a b h
  covers-compatible a b h = absurd (cc)

  cover-match : (types others : CTypes) → cover_parameters types others ≡ true → match_as_parameters types others ≡ true
  cover-match no_types no_types h = refl
  cover-match (more_types (const a) types) (more_types b others) h =
      let parts = both-hold (covers a (bare b)) (cover_parameters types others) h in
      both-true (are_compatible a (bare b)) (match_as_parameters types others) (covers-compatible a (bare b) parts.0) (cover-match types others parts.1)
  cover-match (more_types a types) (more_types b others) h =
      let parts = both-hold (covers a (bare b)) (cover_parameters types others) h in
      both-true (are_compatible a (bare b)) (match_as_parameters types others) (covers-compatible a (bare b) parts.0) (cover-match types others parts.1)
  cover-match types others h = absurd (cc)

mutual
  -- two types that one type covers are compatible
  pub covered-compatible : (u a b : CType) → covers u a ≡ true → covers u b ≡ true → are_compatible a b ≡ true
  covered-compatible void void void h g = refl
  covered-compatible (integer k) (integer l) (integer m) h g =
      numbers-same (number_of l) (number_of m) (sym (same-numbers (number_of k) (number_of l) h) ∙ same-numbers (number_of k) (number_of m) g)
  covered-compatible (pointer u) (pointer a) (pointer b) h g = covered-compatible u a b h g
  covered-compatible (array u l) (array a m) (array b n) h g =
      let one = both-hold (covers_length l m) (covers u a) h in
      let two = both-hold (covers_length l n) (covers u b) g in
      both-true (lengths_agree m n) (are_compatible a b) (lengths-agree-below l m n one.0 two.0) (covered-compatible u a b one.1 two.1)
  covered-compatible (struct l) (struct m) (struct n) h g = numbers-same m n (sym (same-numbers l m h) ∙ same-numbers l n g)
  covered-compatible (function_type u types) (function_type a others) (function_type b more) h g =
      let one = both-hold (covers u a) (cover_parameters types others) h in
      let two = both-hold (covers u b) (cover_parameters types more) g in
      both-true (are_compatible a b) (match_as_parameters others more) (covered-compatible u a b one.0 two.0) (covered-match types others more one.1 two.1)
  covered-compatible (const u) (const a) (const b) h g = covered-compatible u a b h g
  covered-compatible u a b h g = absurd (cc)

  covered-match : (types others more : CTypes) → cover_parameters types others ≡ true → cover_parameters types more ≡ true → match_as_parameters others more ≡ true
  covered-match no_types no_types no_types h g = refl
  covered-match (more_types (const u) types) (more_types a others) (more_types b more) h g =
      let one = both-hold (covers u (bare a)) (cover_parameters types others) h in
      let two = both-hold (covers u (bare b)) (cover_parameters types more) g in
      unqualified a b others more
      ∙ both-true (are_compatible (bare a) (bare b)) (match_as_parameters others more) (covered-compatible u (bare a) (bare b) one.0 two.0) (covered-match types others more one.1 two.1)
  covered-match (more_types u types) (more_types a others) (more_types b more) h g =
      let one = both-hold (covers u (bare a)) (cover_parameters types others) h in
      let two = both-hold (covers u (bare b)) (cover_parameters types more) g in
      unqualified a b others more
      ∙ both-true (are_compatible (bare a) (bare b)) (match_as_parameters others more) (covered-compatible u (bare a) (bare b) one.0 two.0) (covered-match types others more one.1 two.1)
  covered-match types others more h g = absurd (cc)

-- ---- composite types

composed : (a b : CType) (types others : CTypes)
    → composite_parameters (more_types a types) (more_types b others) ≡ more_types (composite (bare a) (bare b)) (composite_parameters types others)
composed (const a) b types others = refl
composed a b types others = refl

bare-plain : (a : CType) → IsProper a → not (is_const (bare a)) ≡ true
bare-plain (const a) p = plain-part (is_const a) (is_array a) p.0
bare-plain a p = refl

proper-bare : (a : CType) → IsProper a → IsProper (bare a)
proper-bare (const a) p = p.1
proper-bare a p = p

mutual
  -- what covers two types covers the type that they make
  pub covers-joined : (u a b : CType) → IsProper a → covers u a ≡ true → covers u b ≡ true → covers u (composite a b) ≡ true
  covers-joined void void b p h g = refl
  covers-joined (integer k) (integer l) b p h g = h
  covers-joined (struct m) (struct n) b p h g = h
  covers-joined (pointer u) (pointer a) (pointer b) p h g = covers-joined u a b p h g
  covers-joined (array u l) (array a m) (array b n) p h g =
      let one = both-hold (covers_length l m) (covers u a) h in
      let two = both-hold (covers_length l n) (covers u b) g in
      both-true (covers_length l (known_length m n)) (covers u (composite a b)) (length-joined l m n one.0 two.0) (covers-joined u a b p one.1 two.1)
  covers-joined (function_type u types) (function_type a others) (function_type b more) p h g =
      let one = both-hold (covers u a) (cover_parameters types others) h in
      let two = both-hold (covers u b) (cover_parameters types more) g in
      both-true (covers u (composite a b)) (cover_parameters types (composite_parameters others more)) (covers-joined u a b p.0 one.0 two.0)
      (cover-joined types others more p.1 one.1 two.1)
  covers-joined (const u) (const a) (const b) p h g =
      subst (λ it. covers (const u) it ≡ true) (sym (const-plain (composite a b) (composite-plain a b p.0))) (covers-joined u a b p.1 h g)
  covers-joined u a b p h g = absurd (cc)

  cover-joined : (types others more : CTypes) → AreProper others → cover_parameters types others ≡ true → cover_parameters types more ≡ true
      → cover_parameters types (composite_parameters others more) ≡ true
  cover-joined no_types no_types no_types p h g = refl
  cover-joined (more_types (const u) types) (more_types a others) (more_types b more) p h g =
      let one = both-hold (covers u (bare a)) (cover_parameters types others) h in
      let two = both-hold (covers u (bare b)) (cover_parameters types more) g in
      let plain : bare (composite (bare a) (bare b)) ≡ composite (bare a) (bare b) = composite-bare (bare a) (bare b) (bare-plain a p.0) in
      subst (λ it. cover_parameters (more_types (const u) types) it ≡ true) (sym (composed a b others more))
      (both-true (covers u (bare (composite (bare a) (bare b)))) (cover_parameters types (composite_parameters others more))
      (subst (λ it. covers u it ≡ true) (sym plain) (covers-joined u (bare a) (bare b) (proper-bare a p.0) one.0 two.0)) (cover-joined types others more p.1 one.1 two.1))
  cover-joined (more_types u types) (more_types a others) (more_types b more) p h g =
      let one = both-hold (covers u (bare a)) (cover_parameters types others) h in
      let two = both-hold (covers u (bare b)) (cover_parameters types more) g in
      let plain : bare (composite (bare a) (bare b)) ≡ composite (bare a) (bare b) = composite-bare (bare a) (bare b) (bare-plain a p.0) in
      subst (λ it. cover_parameters (more_types u types) it ≡ true) (sym (composed a b others more))
      (both-true (covers u (bare (composite (bare a) (bare b)))) (cover_parameters types (composite_parameters others more))
      (subst (λ it. covers u it ≡ true) (sym plain) (covers-joined u (bare a) (bare b) (proper-bare a p.0) one.0 two.0)) (cover-joined types others more p.1 one.1 two.1))
  cover-joined types others more p h g = absurd (cc)

mutual
  -- the type that two compatible types make covers both
  pub composite-covers : (a b : CType) → IsProper a → are_compatible a b ≡ true → (covers (composite a b) a ≡ true) × (covers (composite a b) b ≡ true)
  composite-covers void void p h = (refl, refl)
  composite-covers (integer kind) (integer other) p h = (numbers-same (number_of kind) (number_of kind) refl, h)
  composite-covers (pointer a) (pointer b) p h = composite-covers a b p h
  composite-covers (array a m) (array b n) p h =
      let parts = both-hold (lengths_agree m n) (are_compatible a b) h in
      let inner = composite-covers a b p parts.1 in (
        both-true (covers_length (known_length m n) m) (covers (composite a b) a) (length-left m n) inner.0,
        both-true (covers_length (known_length m n) n) (covers (composite a b) b) (length-right m n parts.0) inner.1,
      )
  composite-covers (struct m) (struct n) p h = (numbers-same m m refl, h)
  composite-covers (function_type a types) (function_type b others) p h =
      let parts = both-hold (are_compatible a b) (match_as_parameters types others) h in
      let inner = composite-covers a b p.0 parts.0 in
      let rest = composites-cover types others p.1 parts.1 in (
        both-true (covers (composite a b) a) (cover_parameters (composite_parameters types others) types) inner.0 rest.0,
        both-true (covers (composite a b) b) (cover_parameters (composite_parameters types others) others) inner.1 rest.1,
      )
  composite-covers (const a) (const b) p h =
      let inner = composite-covers a b p.1 h in
      let plain = sym (const-plain (composite a b) (composite-plain a b p.0)) in (
        subst (λ it. covers it (const a) ≡ true) plain inner.0,
        subst (λ it. covers it (const b) ≡ true) plain inner.1,
      )
  composite-covers a b p h = absurd (cc)

  composites-cover : (types others : CTypes) → AreProper types → match_as_parameters types others ≡ true
      → (cover_parameters (composite_parameters types others) types ≡ true) × (cover_parameters (composite_parameters types others) others ≡ true)
  composites-cover no_types no_types p h = (refl, refl)
  composites-cover (more_types (const a) types) (more_types b others) p h =
      let parts = both-hold (are_compatible a (bare b)) (match_as_parameters types others) h in
      let plain : bare (composite a (bare b)) ≡ composite a (bare b) = composite-bare a (bare b) (plain-part (is_const a) (is_array a) p.0.0) in
      let inner = composite-covers a (bare b) p.0.1 parts.0 in
      let rest = composites-cover types others p.1 parts.1 in
      let all = composite_parameters types others in (
        cover-unqualified (composite a (bare b)) (const a) all types
            ∙ both-true (covers (bare (composite a (bare b))) a) (cover_parameters all types) (subst (λ it. covers it a ≡ true) (sym plain) inner.0) rest.0,
        cover-unqualified (composite a (bare b)) b all others
            ∙ both-true (covers (bare (composite a (bare b))) (bare b)) (cover_parameters all others) (subst (λ it. covers it (bare b) ≡ true) (sym plain) inner.1) rest.1,
      )
  composites-cover (more_types a types) (more_types b others) p h =
      let parts = both-hold (are_compatible a (bare b)) (match_as_parameters types others) h in
      let plain : bare (composite a (bare b)) ≡ composite a (bare b) = composite-bare a (bare b) refl in
      let inner = composite-covers a (bare b) p.0 parts.0 in
      let rest = composites-cover types others p.1 parts.1 in
      let all = composite_parameters types others in (
        cover-unqualified (composite a (bare b)) a all types
            ∙ both-true (covers (bare (composite a (bare b))) a) (cover_parameters all types) (subst (λ it. covers it a ≡ true) (sym plain) inner.0) rest.0,
        cover-unqualified (composite a (bare b)) b all others
            ∙ both-true (covers (bare (composite a (bare b))) (bare b)) (cover_parameters all others) (subst (λ it. covers it (bare b) ≡ true) (sym plain) inner.1) rest.1,
      )
  composites-cover types others p h = absurd (cc)
