-- A name has a type that its entry's type covers, and so a compatible one.
--     agrees_covered      objects of the one type are accessed as those of the other
--     IsObjectType type      it is neither void nor a function type
--     complete_type      a complete type is such, and so is one that it is compatible with or covers
use Rattle.std.specs.Prelude.{◌≡◌, refl, ℕ, true, false, Option, Some, None}
use Rattle.std.proofs.Common.{ap, sym, ◌∙◌}
use Rattle.std.proofs.lemmas.Bool.{true≢false, false≢true, and_from}
use Rattle.dm_type.specs.Alike.{lengths_agree, are_compatible, match_as_parameters}
use Rattle.dm_type.specs.CTypes.{CType, CTypes, void, integer, pointer, array, struct, function as function_type, const, no_types, more_types, bare}
use Rattle.dm_tree.specs.Composites.{covers_length, covers, cover_parameters}
use Rattle.dm_tree.specs.Scenes.{Scene, is_void, is_function, IsComplete}
use Rattle.dm_meaning.specs.Objects.{unqualified, agree_without_const}
use Rattle.dm_meaning.proofs.OptionLemmas.{and_left, and_right}

lengths : (m n : Option ℕ) → covers_length m n ≡ true → lengths_agree m n ≡ true
lengths None None e = refl
lengths (Some m) None e = refl
lengths None (Some n) e = refl
lengths (Some m) (Some n) e = e

mutual
  covered : (a b : CType) → covers a b ≡ true → are_compatible a b ≡ true
  covered void void e = refl
  covered (integer kind) (integer other) e = e
  covered (pointer a) (pointer b) e = covered a b e
  covered (array a m) (array b n) e = and_from (lengths_agree m n) (are_compatible a b) (lengths m n (and_left (covers_length m n) (covers a b) e)) (covered a b (and_right (covers_length m n) (covers a b) e))
  covered (struct m) (struct n) e = e
  covered (function_type a types) (function_type b others) e =
      and_from (are_compatible a b) (match_as_parameters types others) (covered a b (and_left (covers a b) (cover_parameters types others) e))
      (all_covered types others (and_right (covers a b) (cover_parameters types others) e))
  covered (const a) (const b) e = covered a b e
  covered a b e = absurd (false≢true e)

  all_covered : (types others : CTypes) → cover_parameters types others ≡ true → match_as_parameters types others ≡ true
  all_covered no_types no_types e = refl
  all_covered (more_types (const a) types) (more_types b others) e =
      and_from (are_compatible a (bare b)) (match_as_parameters types others) (covered a (bare b) (and_left (covers a (bare b)) (cover_parameters types others) e))
      (all_covered types others (and_right (covers a (bare b)) (cover_parameters types others) e))
  all_covered (more_types a types) (more_types b others) e =
      and_from (are_compatible a (bare b)) (match_as_parameters types others) (covered a (bare b) (and_left (covers a (bare b)) (cover_parameters types others) e))
      (all_covered types others (and_right (covers a (bare b)) (cover_parameters types others) e))
  all_covered types others e = absurd (false≢true e)

unqualified_bare : (type : CType) → unqualified (bare type) ≡ unqualified type
unqualified_bare (const type) = refl
unqualified_bare type = refl

agreeing : (a b : CType) → covers a b ≡ true → are_compatible (unqualified a) (unqualified b) ≡ true
agreeing void void e = refl
agreeing (integer kind) (integer other) e = e
agreeing (pointer a) (pointer b) e = covered a b e
agreeing (array a m) (array b n) e =
    and_from (lengths_agree m n) (are_compatible (unqualified a) (unqualified b)) (lengths m n (and_left (covers_length m n) (covers a b) e)) (agreeing a b (and_right (covers_length m n) (covers a b) e))
agreeing (struct m) (struct n) e = e
agreeing (function_type a types) (function_type b others) e = covered (function_type a types) (function_type b others) e
agreeing (const a) (const b) e = agreeing a b e
agreeing a b e = absurd (false≢true e)

pub agrees_covered : (whole part : CType) → covers whole part ≡ true → agree_without_const (bare whole) (bare part) ≡ true
agrees_covered whole part e =
    ap (λ (t : CType). are_compatible t (unqualified (bare part))) (unqualified_bare whole) ∙ (ap (λ (t : CType). are_compatible (unqualified whole) t) (unqualified_bare part) ∙ agreeing whole part e)

-- ---- object types

-- neither void nor that of a function, const apart
abbrev pub IsObjectType : CType → Type 0
IsObjectType type = (is_void (unqualified type) ≡ false) × (is_function (unqualified type) ≡ false)

pub complete_type : (scene : Scene) (type : CType) → IsComplete scene type → IsObjectType type
complete_type scene void h = absurd (false≢true h)
complete_type scene (function_type result kinds) h = absurd (false≢true h)
complete_type scene (const type) h = complete_type scene type h
complete_type scene type h = (refl, refl)

same_sort : (a b : CType) → are_compatible a b ≡ true → (is_void (unqualified a) ≡ is_void (unqualified b)) × (is_function (unqualified a) ≡ is_function (unqualified b))
same_sort void void e = (refl, refl)
same_sort (integer kind) (integer other) e = (refl, refl)
same_sort (pointer a) (pointer b) e = (refl, refl)
same_sort (array a m) (array b n) e = (refl, refl)
same_sort (struct m) (struct n) e = (refl, refl)
same_sort (function_type a types) (function_type b others) e = (refl, refl)
same_sort (const a) (const b) e = same_sort a b e
same_sort a b e = absurd (false≢true e)

pub compatible_type : (a b : CType) → are_compatible a b ≡ true → IsObjectType a → IsObjectType b
compatible_type a b e h = (sym (same_sort a b e).0 ∙ h.0, sym (same_sort a b e).1 ∙ h.1)

pub bare_type : (type : CType) → IsObjectType type → IsObjectType (bare type)
bare_type type h = (ap is_void (unqualified_bare type) ∙ h.0, ap is_function (unqualified_bare type) ∙ h.1)

pub covered_type : (whole part : CType) → covers whole part ≡ true → IsObjectType whole → IsObjectType part
covered_type whole part e h = compatible_type whole part (covered whole part e) h

pub no_void : (type : CType) → IsObjectType type → is_void (bare type) ≡ false
no_void void h = absurd (true≢false h.0)
no_void (const type) h = not_void type h
  where
    not_void : (one : CType) → IsObjectType one → is_void one ≡ false
    not_void void k = absurd (true≢false k.0)
    not_void one k = refl
no_void type h = refl

pub no_function : (type : CType) → IsObjectType type → is_function type ≡ false
no_function (function_type result kinds) h = absurd (true≢false h.1)
no_function type h = refl
