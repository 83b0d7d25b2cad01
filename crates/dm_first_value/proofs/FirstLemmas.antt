-- The members of structs, one after the other, and copies of a value.
use Rattle.std.proofs.Common.{◌≡◌, ℕ, zero, suc, ◌+◌, ◌≤◌, false, List, [], ◌∷◌, ◌++◌, length, map, replicate, take, Option, Some, None, slice_get, refl, ap, sym, subst, arith, ◌∙◌}
use Rattle.std.proofs.lemmas.List.{map-append, replicate-append-replicate}
use Rattle.std.proofs.lemmas.Option.{none-some}
use Rattle.std.proofs.Math.Seq.{take-length}
use Rattle.dm_type.specs.CTypes.{CType, void}
use Rattle.dm_type.specs.Tables.{Table}
use Rattle.dm_layout.specs.declared.layout.Element.{Element}
use Rattle.dm_layout.specs.declared.layout.Element.TheVariants.{Of, Outside, Foreign}
use Rattle.dm_layout.specs.LaidOut.{view_of_element}
use Rattle.dm_meaning.specs.Objects.{Field, Reached, object_of, outside, foreign, unknown, reached_member}
use Rattle.dm_meaning.specs.Values as values
use Rattle.dm_value.specs.declared.value.Value.{Value}
use Rattle.dm_value.specs.Views.{view_of_value}

-- one more copy
pub one-copied : (value : values.Value) (n : ℕ) (items more : List Value) (one : Value) → map view_of_value items ≡ replicate n value → view_of_value one ≡ value → more ≡ items ++ one ∷ []
    → map view_of_value more ≡ replicate (n + 1) value
one-copied value n items more one so_far same is =
    ap (map view_of_value) is
    ∙ (map-append view_of_value items (one ∷ [])
    ∙ (ap (λ front. front ++ view_of_value one ∷ []) so_far
    ∙ (ap (λ last. replicate n value ++ last ∷ []) same ∙ replicate-append-replicate n 1 value)))

-- ---- members

abbrev other : {A : Type 0} → A → Option A → A
other x None = x
other x (Some y) = y

abbrev IsObject : Reached → Type 0
IsObject (object_of type fixed) = Unit {0}
IsObject outside = ⊥
IsObject foreign = ⊥
IsObject unknown = ⊥

abbrev kind_reached : Reached → CType
kind_reached (object_of type fixed) = type
kind_reached outside = void
kind_reached foreign = void
kind_reached unknown = void

found : (one : Option Field) (type : CType) → object_of type false ≡ reached_member one → (field : Field) × (one ≡ Some field) × (field.kind ≡ type)
found None type is = absurd (subst IsObject is tt)
found (Some field) type is = (field, refl, sym (ap kind_reached is))

taken : (fields : List Field) (n : ℕ) (field : Field) → slice_get fields n ≡ Some field → (suc n ≤ length fields) × (take (suc n) fields ≡ take n fields ++ field ∷ [])
taken [] n field is = absurd (none-some field is)
taken (first ∷ rest) zero field is = (omega arith, ap (λ one. one ∷ []) (ap (other first) is))
taken (first ∷ rest) (suc n) field is = let later = taken rest n field is in (omega (arith, later.0), ap (λ others. first ∷ others) later.1)

-- one more member
pub one-member : (G : CType → values.Value) (fields : List Field) (n m : ℕ) (type : CType) (items more : List Value) (one : Value)
    → object_of type false ≡ reached_member (slice_get fields n) → m ≡ suc n → more ≡ items ++ one ∷ [] → view_of_value one ≡ G type
    → map view_of_value items ≡ map (λ (field : Field). G field.kind) (take n fields)
    → (m ≤ length fields) × (map view_of_value more ≡ map (λ (field : Field). G field.kind) (take m fields))
one-member G fields n m type items more one reached next is same so_far =
    let field = found (slice_get fields n) type reached in
    let front = taken fields n field.0 field.1 in (
      subst (λ k. k ≤ length fields) (sym next) front.0,
      ap (map view_of_value) is
          ∙ (map-append view_of_value items (one ∷ [])
          ∙ (ap (λ front. front ++ view_of_value one ∷ []) so_far
          ∙ (ap (λ last. map (λ (field : Field). G field.kind) (take n fields) ++ last ∷ []) (same ∙ ap G (sym field.2))
          ∙ (sym (map-append (λ (field : Field). G field.kind) (take n fields) (field.0 ∷ []))
          ∙ ap (map (λ (field : Field). G field.kind)) (sym front.1 ∙ ap (λ k. take k fields) (sym next)))))),
    )

no-object : (table : Table) (element : Element) (field : Field) → ((id : ℕ) → element ≡ Of id → ⊥) → view_of_element table element ≡ object_of field.kind false → ⊥
no-object table (Of id) field never is = never id refl
no-object table Outside field never is = subst IsObject (sym is) tt
no-object table Foreign field never is = subst IsObject (sym is) tt

none-left : (table : Table) (element : Element) (one : Option Field) → ((id : ℕ) → element ≡ Of id → ⊥) → view_of_element table element ≡ reached_member one → one ≡ None
none-left table element None never is = refl
none-left table element (Some field) never is = absurd (no-object table element field never is)

past : (fields : List Field) (n : ℕ) → slice_get fields n ≡ None → length fields ≤ n
past [] n is = omega arith
past (first ∷ rest) zero is = absurd (none-some first (sym is))
past (first ∷ rest) (suc n) is = let later = past rest n is in omega (arith, later)

-- there are no more members
pub all-members : (table : Table) (element : Element) (fields : List Field) (n : ℕ) → ((id : ℕ) → element ≡ Of id → ⊥) → view_of_element table element ≡ reached_member (slice_get fields n)
    → n ≤ length fields → take n fields ≡ fields
all-members table element fields n never is within =
    let behind = past fields n (none-left table element (slice_get fields n) never is) in
    let e : n ≡ length fields = omega (arith, within, behind) in
    ap (λ k. take k fields) e ∙ take-length fields
