-- The members of structs, one after another.
use Rattle.std.proofs.Common.{◌≡◌, ℕ, ◌+◌, ◌<◌, ◌≤◌, Bool, true, false, nat_lt, List, [], ◌∷◌, ◌++◌, length, map, All, Option, Some, None, option_map, slice_index_or, refl, sym, ap, ◌∙◌, arith, ltb-true, ltb-false, append_assoc}
use Rattle.std.proofs.lemmas.List.{map_push, get_or_past}
use Rattle.std.proofs.lemmas.Option.{none-some, slice_get_past}
use Rattle.std.specs.Option.{option_and_then}
use Rattle.dm_type.specs.declared.shape.Member.{Member}
use Rattle.dm_type.specs.Layouts.{layout_of, offsets_from, placed, round_up}
use Rattle.dm_type.specs.Tables.{Table, IsId, type_of, members_of}
use Rattle.dm_meaning.specs.Programs.{fields_in, fields_with}
use Rattle.dm_layout.specs.declared.layout.Field.{Field}
use Rattle.dm_layout.specs.Fields.{AreFields, view_of_field}

abbrev first_of : Option (ℕ × ℕ) → ℕ
first_of None = 0
first_of (Some both) = both.0

abbrev second_of : Option (ℕ × ℕ) → ℕ
second_of None = 0
second_of (Some both) = both.1

-- where a member is, and where those behind it begin
placed-some : (end size alignment : ℕ) (others : ℕ → List ℕ) (found : _) (all : List ℕ) → all ≡ placed end others found
    → ◌≡◌ {A = Option (ℕ × ℕ)} (Some (size, alignment)) (option_map (λ layout. (layout.size, layout.alignment)) found)
    → all ≡ round_up alignment end ∷ others (round_up alignment end + size)
placed-some end size alignment others None all is room = absurd (none-some _ (sym room))
placed-some end size alignment others (Some layout) all is room =
    is ∙ (ap (λ a. round_up a end ∷ others (round_up a end + layout.size)) (sym (ap second_of room))
    ∙ ap (λ s. round_up alignment end ∷ others (round_up alignment end + s)) (sym (ap first_of room)))

-- one member more
pub next-field : (table : Table) (fields more : List Field) (field : Field) (member : Member) (left rest : List Member) (end behind size alignment : ℕ)
    → left ≡ member ∷ rest → ◌≡◌ {A = Option (ℕ × ℕ)} (Some (size, alignment)) (option_map (λ layout. (layout.size, layout.alignment)) (layout_of table (type_of table member.kind)))
    → more ≡ fields ++ field ∷ [] → field.kind ≡ member.kind → field.offset ≡ round_up alignment end → behind ≡ field.offset + size
    → map (view_of_field table) more ++ fields_with table rest (offsets_from table behind rest)
    ≡ map (view_of_field table) fields ++ fields_with table left (offsets_from table end left)
next-field table fields more field member left rest end behind size alignment is room pushed kind offset after =
    let next = placed-some end size alignment (λ at. offsets_from table at rest) (layout_of table (type_of table member.kind)) _ refl room in
    ap (λ all. map (view_of_field table) all ++ fields_with table rest (offsets_from table behind rest)) pushed
    ∙ (ap (λ seen. seen ++ fields_with table rest (offsets_from table behind rest)) (map_push (view_of_field table) fields field)
    ∙ (append_assoc (map (view_of_field table) fields) (view_of_field table field ∷ []) (fields_with table rest (offsets_from table behind rest))
    ∙ ap (λ others. map (view_of_field table) fields ++ others)
    (ap (λ k. record { kind = type_of table k; offset = field.offset } ∷ fields_with table rest (offsets_from table behind rest)) kind
    ∙ (ap (λ at. record { kind = type_of table member.kind; offset = field.offset } ∷ fields_with table rest (offsets_from table at rest)) after
    ∙ (ap (λ at. record { kind = type_of table member.kind; offset = at } ∷ fields_with table rest (offsets_from table (at + size) rest)) offset
    ∙ (ap (fields_with table (member ∷ rest)) (sym next) ∙ ap (λ all. fields_with table all (offsets_from table end all)) (sym is)))))))

-- all structs have their members
pub all-laid : (table : Table) (all : List (List Field)) (n : ℕ) → length all ≡ n → length table.structs ≤ n
    → ((k : ℕ) → k < n → map (view_of_field table) (slice_index_or all k []) ≡ fields_in table (members_of table k))
    → ((k : ℕ) → k < n → All (λ field. IsId table field.kind) (slice_index_or all k []))
    → AreFields table all
all-laid table all n counted enough same known = record { same = λ k. same_at k (nat_lt k n) refl; known = λ k. known_at k (nat_lt k n) refl }
  where
    none : (k : ℕ) → n ≤ k → slice_index_or all k [] ≡ []
    none k past = get_or_past all k [] (omega (arith, counted, past))

    same_at : (k : ℕ) (below : Bool) → nat_lt k n ≡ below → map (view_of_field table) (slice_index_or all k []) ≡ fields_in table (members_of table k)
    same_at k true is = same k (ltb-true k n is)
    same_at k false is =
        ap (map (view_of_field table)) (none k (ltb-false k n is))
        ∙ sym (ap (λ found. fields_in table (option_map (λ content. content.members) (option_and_then (λ entry. entry.content) found)))
        (slice_get_past table.structs k (let past = ltb-false k n is in omega (arith, past, enough))))

    known_at : (k : ℕ) (below : Bool) → nat_lt k n ≡ below → All (λ field. IsId table field.kind) (slice_index_or all k [])
    known_at k true is = known k (ltb-true k n is)
    known_at k false is = rw (none k (ltb-false k n is)) (λ j d less. elim less [ ])
