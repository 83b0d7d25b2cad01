-- Tables stay sound.
use Rattle.std.proofs.Common.{◌≡◌, ℕ, zero, suc, ◌<◌, Bool, true, false, cond, List, [], ◌∷◌, ◌++◌, length, Option, None, Some, IsSomeAnd, refl, sym, ap, ◌∙◌, subst, slice_get, arith, length-append, is_some}
use Rattle.std.specs.Ordering.{nat_cmp, eq_by_cmp}
use Rattle.std.specs.Cmp.Lexicographic.{slice_cmp, texts_ties}
use Rattle.std.specs.FinMap as map
use Rattle.std.proofs.lemmas.Cmp.{nat_list_cmp_total}
use Rattle.dm_name_map.specs.Numbers.{Numbers}
use Rattle.dm_token.specs.declared.expansion.Definition.{Definition}
use Rattle.dm_macro.specs.Tables.{table_of, with_name, IsSound}
use Rattle.dm_macro.proofs.SameLemmas.{bytes_equal}

-- the table before anything is read
pub empty_sound : IsSound (table_of [] map.empty)
empty_sound name number e = let none = map.get-empty {X = ℕ} (slice_cmp nat_cmp) name in absurd (never (sym none ∙ e))
  where
    never : ◌≡◌ {A = Option ℕ} None (Some number) → ⊥
    never h = cc

-- a name taken out
pub undefined_sound : (read : List Definition) (names : Numbers) (name : List ℕ) → IsSound (table_of read names) → IsSound (table_of read (map.remove names name))
undefined_sound read names name sound other number e =
    sound other number (kept (eq_by_cmp (slice_cmp nat_cmp) other name) (sym (map.get-remove nat_list_cmp_total names name other) ∙ e))
  where
    kept : (b : Bool) → cond b None (map.get names other) ≡ Some number → map.get names other ≡ Some number
    kept true h = absurd (let never : ◌≡◌ {A = Option ℕ} None (Some number) = h in cc)
    kept false h = h

at_front : (read more : List Definition) (number : ℕ) (name : List ℕ) → IsSomeAnd (slice_get read number) (λ definition. definition.name ≡ name)
    → IsSomeAnd (slice_get (read ++ more) number) (λ definition. definition.name ≡ name)
at_front [] more number name h = absurd h
at_front (definition ∷ read) more zero name h = h
at_front (definition ∷ read) more (suc number) name h = at_front read more number name h

at_end : (read : List Definition) (definition : Definition) → slice_get (read ++ definition ∷ []) (length read) ≡ Some definition
at_end [] definition = refl
at_end (first ∷ read) definition = at_end read definition

-- one more definition, whose name is new or not
pub recorded_sound : (read : List Definition) (names : Numbers) (definition : Definition) → IsSound (table_of read names)
    → IsSound (table_of (read ++ definition ∷ []) (with_name names definition.name (length read)))
recorded_sound read names definition sound name number = chosen (map.contains_key names definition.name)
  where
    kept : map.get names name ≡ Some number
        → (number < length (read ++ definition ∷ [])) × IsSomeAnd (slice_get (read ++ definition ∷ []) number) (λ one. one.name ≡ name)
    kept e = let old = sound name number e in (omega (arith, old.0, length-append read (definition ∷ [])), at_front read (definition ∷ []) number name old.1)

    new : length read ≡ number → definition.name ≡ name
        → (number < length (read ++ definition ∷ [])) × IsSomeAnd (slice_get (read ++ definition ∷ []) number) (λ one. one.name ≡ name)
    new e named = (
      omega (arith, length-append read (definition ∷ [])),
      subst (λ n. IsSomeAnd (slice_get (read ++ definition ∷ []) n) (λ one. one.name ≡ name)) e (subst (λ o. IsSomeAnd o (λ one. one.name ≡ name)) (sym (at_end read definition)) named),
    )

    inserted : (b : Bool) → eq_by_cmp (slice_cmp nat_cmp) name definition.name ≡ b → cond b (Some (length read)) (map.get names name) ≡ Some number
        → (number < length (read ++ definition ∷ [])) × IsSomeAnd (slice_get (read ++ definition ∷ []) number) (λ one. one.name ≡ name)
    inserted true tied e = new (let same : Some (length read) ≡ Some number = e in cc) (sym (bytes_equal name definition.name (texts_ties name definition.name ∙ tied)))
    inserted false tied e = kept e

    chosen : (b : Bool) → map.get (cond b names (map.insert names definition.name (length read))) name ≡ Some number
        → (number < length (read ++ definition ∷ [])) × IsSomeAnd (slice_get (read ++ definition ∷ []) number) (λ one. one.name ≡ name)
    chosen true e = kept e
    chosen false e = inserted _ refl (sym (map.get-insert nat_list_cmp_total names definition.name (length read) name) ∙ e)

-- the names after a definition of a new one
pub with_new : (names : Numbers) (name : List ℕ) (number : ℕ) → is_some (map.get names name) ≡ false → map.insert names name number ≡ with_name names name number
with_new names name number lacks = sym (ap (λ b. cond b names (map.insert names name number)) lacks)

-- and of one that is defined
pub with_old : (names : Numbers) (name : List ℕ) (number : ℕ) → is_some (map.get names name) ≡ true → names ≡ with_name names name number
with_old names name number has = sym (ap (λ b. cond b names (map.insert names name number)) has)
