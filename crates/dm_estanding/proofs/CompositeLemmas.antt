-- The composite type of several types is the same from either end (6.2.7p3).
use Rattle.std.specs.Prelude.{◌≡◌, true, not, Option, Some, None, ℕ, refl}
use Rattle.std.proofs.Common.{sym, ap, ap₂, ◌∙◌}
use Rattle.dm_type.specs.Alike.{are_compatible, match_as_parameters, lengths_agree, known_length, composite, composite_parameters}
use Rattle.dm_type.specs.CTypes.{CType, CTypes, void, integer, pointer, array, struct, function, const, no_types, more_types, bare, is_const, with_const}
use Rattle.dm_tree.specs.Scenes.{is_array}
use Rattle.dm_typing.specs.Sound.{IsProper, AreProper}
use Rattle.dm_typing.proofs.ChoiceLemmas.{composite-bare, composite-plain, const-plain, plain-part}
use Rattle.dm_typing.proofs.ConversionLemmas.{bare-proper}
use Rattle.dm_typing.proofs.TypeLemmas.{both-hold, unqualified}

known-on : (l m n : Option ℕ) → known_length (known_length l m) n ≡ known_length l (known_length m n)
known-on None m n = refl
known-on (Some l) m n = refl

-- parameters are joined without the const of each
parameters-by : (a b : CType) (types others : CTypes)
    → composite_parameters (more_types a types) (more_types b others) ≡ more_types (composite (bare a) (bare b)) (composite_parameters types others)
parameters-by (const a) b types others = refl
parameters-by a b types others = refl

const-joined : (a b : CType) → IsProper (const a) → with_const (composite a b) ≡ const (composite a b)
const-joined a b p = const-plain (composite a b) (composite-plain a b p.0)

-- without its const a type isn't const
bare-not : (type : CType) → IsProper type → not (is_const (bare type)) ≡ true
bare-not (const type) p = plain-part (is_const type) (is_array type) p.0
bare-not type p = refl

-- of two lists of parameters that match, neither is longer
no-more : (type : CType) (types : CTypes) → match_as_parameters (more_types type types) no_types ≡ true → ⊥
no-more (const type) types h = cc
no-more type types h = cc

mutual
  pub composite-on : (a b c : CType) → IsProper a → IsProper b → IsProper c → are_compatible a b ≡ true → are_compatible b c ≡ true
      → composite (composite a b) c ≡ composite a (composite b c)
  composite-on void void void p q r h k = refl
  composite-on (integer kind) (integer other) (integer third) p q r h k = refl
  composite-on (pointer a) (pointer b) (pointer c) p q r h k = ap pointer (composite-on a b c p q r h k)
  composite-on (array a l) (array b m) (array c n) p q r h k =
      let one = both-hold (lengths_agree l m) (are_compatible a b) h in
      let other = both-hold (lengths_agree m n) (are_compatible b c) k in
      ap₂ array (composite-on a b c p q r one.1 other.1) (known-on l m n)
  composite-on (struct l) (struct m) (struct n) p q r h k = refl
  composite-on (function a types) (function b others) (function c more) p q r h k =
      let one = both-hold (are_compatible a b) (match_as_parameters types others) h in
      let other = both-hold (are_compatible b c) (match_as_parameters others more) k in
      ap₂ function (composite-on a b c p.0 q.0 r.0 one.0 other.0) (parameters-on types others more p.1 q.1 r.1 one.1 other.1)
  composite-on (const a) (const b) (const c) p q r h k =
      ap (λ it. composite it (const c)) (const-joined a b p)
      ∙ ap with_const (composite-on a b c p.1 q.1 r.1 h k)
      ∙ sym (ap (composite (const a)) (const-joined b c q))
  composite-on a b c p q r h k = absurd (cc)

  parameters-on : (types others more : CTypes) → AreProper types → AreProper others → AreProper more
      → match_as_parameters types others ≡ true → match_as_parameters others more ≡ true
      → composite_parameters (composite_parameters types others) more ≡ composite_parameters types (composite_parameters others more)
  parameters-on no_types no_types no_types p q r h k = refl
  parameters-on (more_types (const a) types) (more_types b others) (more_types c more) p q r h k =
      let one = both-hold (are_compatible a (bare b)) (match_as_parameters types others) h in
      let other = both-hold (are_compatible (bare b) (bare c)) (match_as_parameters others more) (sym (unqualified b c others more) ∙ k) in
      parameters-by (composite a (bare b)) c (composite_parameters types others) more
      ∙ ap₂ more_types
      (ap (λ it. composite it (bare c)) (composite-bare a (bare b) (plain-part _ _ p.0.0))
      ∙ composite-on a (bare b) (bare c) p.0.1 (bare-proper b q.0) (bare-proper c r.0) one.0 other.0
      ∙ sym (ap (composite a) (composite-bare (bare b) (bare c) (bare-not b q.0))))
      (parameters-on types others more p.1 q.1 r.1 one.1 other.1)
      ∙ sym (ap (composite_parameters (more_types (const a) types)) (parameters-by b c others more))
  parameters-on (more_types a types) (more_types b others) (more_types c more) p q r h k =
      let one = both-hold (are_compatible a (bare b)) (match_as_parameters types others) h in
      let other = both-hold (are_compatible (bare b) (bare c)) (match_as_parameters others more) (sym (unqualified b c others more) ∙ k) in
      parameters-by (composite a (bare b)) c (composite_parameters types others) more
      ∙ ap₂ more_types
      (ap (λ it. composite it (bare c)) (composite-bare a (bare b) refl)
      ∙ composite-on a (bare b) (bare c) p.0 (bare-proper b q.0) (bare-proper c r.0) one.0 other.0
      ∙ sym (ap (composite a) (composite-bare (bare b) (bare c) (bare-not b q.0))))
      (parameters-on types others more p.1 q.1 r.1 one.1 other.1)
      ∙ sym (ap (composite_parameters (more_types a types)) (parameters-by b c others more))
  parameters-on (more_types a types) no_types more p q r h k = absurd (no-more a types h)
  parameters-on (more_types a types) (more_types b others) no_types p q r h k = absurd (no-more b others k)
  parameters-on types others more p q r h k = absurd (cc)
