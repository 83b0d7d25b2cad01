-- What tables say is the same where types have other numbers.
use Rattle.std.specs.Prelude.{◌≡◌, ℕ, zero, suc, ℤ, pos, Bool, true, false, ◌||◌, if◌then◌else◌, List, [], ◌∷◌, length, map, Option, Some, None, is_some, option_map, option_and_then, slice_get, slice_set, bytes_eq, refl, ◌+◌}
use Rattle.std.proofs.Common.{sym, ap, ap₂, ◌∙◌}
use Rattle.std.proofs.lemmas.List.{map-append, map-set, length-map}
use Rattle.std.proofs.lemmas.Option.{slice_get-map}
use Rattle.dm_type.specs.declared.layout.Layout.{Layout}
use Rattle.dm_type.specs.declared.shape.Shape.{Shape}
use Rattle.dm_type.specs.declared.shape.Struct.{Struct}
use Rattle.dm_type.specs.declared.shape.Content.{Content}
use Rattle.dm_type.specs.declared.shape.Member.{Member}
use Rattle.dm_type.specs.CTypes.{CType, void, integer, pointer, array, struct, function as function_type, const, with_const, is_const}
use Rattle.dm_type.specs.Layouts.{layout_of, size_of, times, if_fits, padded, followed_by, joined, nothing, struct_layout, contained}
use Rattle.dm_type.specs.Tables.{Table, type_of, tag_of, content_of, members_of, with_struct, with_content}
use Rattle.dm_tree.specs.Constants.{is_constant_form, kinds_in, value_at, constant_value, constant_values, constant}
use Rattle.dm_tree.specs.Scenes.{member_type, part_type}
use Rattle.dm_tree.specs.Trees.{Label, Tree, Trees, node, no_trees, more_trees}
use Rattle.dm_tree.specs.Trees as label
use Rattle.dm_tree.specs.Units.{Declaration}
use Rattle.dm_typing.specs.Conversions.{any_member, any_of, element, members_in, has_const_within, has_const}
use Rattle.dm_typing.specs.Rules.{found_in}
use Rattle.dm_typing.specs.Typing.{TypedMember, fields}
use Rattle.dm_outcome.proofs.Renumbered.{Renumbers, moved_member, moved_content, moved_struct, moved, table_at}

pub and-then-same : {A B : Type 0} (found : Option A) (f g : A → Option B) → ((it : A) → f it ≡ g it) → option_and_then f found ≡ option_and_then g found
and-then-same None f g same = refl
and-then-same (Some it) f g same = same it

pub chosen : {A : Type 0} (test again : Bool) (x y z w : A) → test ≡ again → x ≡ y → z ≡ w → (if test then x else z) ≡ (if again then y else w)
chosen test again x y z w t e f = ap (λ it. if it then x else z) t ∙ go again
  where
    go : (it : Bool) → (if it then x else z) ≡ (if it then y else w)
    go true = e
    go false = f

module _ (one other : List Shape) (number : ℕ → ℕ) (re : Renumbers one other number) (structs : List Struct) where
  abbrev a : Table
  a = table_at one structs

  abbrev b : Table
  b = table_at other (moved number structs)

  -- ---- structs

  content-in : (found : Option Struct) → option_and_then (λ (entry : Struct). entry.content) (option_map (moved_struct number) found)
      ≡ option_map (moved_content number) (option_and_then (λ (entry : Struct). entry.content) found)
  content-in None = refl
  content-in (Some entry) = refl

  pub content-moved : (n : ℕ) → content_of b n ≡ option_map (moved_content number) (content_of a n)
  content-moved n = ap (option_and_then (λ (entry : Struct). entry.content)) (slice_get-map (moved_struct number) structs n) ∙ content-in (slice_get structs n)

  members-in-content : (found : Option Content) → option_map (λ (content : Content). content.members) (option_map (moved_content number) found)
      ≡ option_map (map (moved_member number)) (option_map (λ (content : Content). content.members) found)
  members-in-content None = refl
  members-in-content (Some content) = refl

  pub members-moved : (n : ℕ) → members_of b n ≡ option_map (map (moved_member number)) (members_of a n)
  members-moved n = ap (option_map (λ (content : Content). content.members)) (content-moved n) ∙ members-in-content (content_of a n)

  there-mapped : {A B : Type 0} (f : A → B) (found : Option A) → is_some (option_map f found) ≡ is_some found
  there-mapped f None = refl
  there-mapped f (Some it) = refl

  pub members-there : (n : ℕ) → is_some (members_of b n) ≡ is_some (members_of a n)
  members-there n = ap is_some (members-moved n) ∙ there-mapped (map (moved_member number)) (members_of a n)

  tag-in : (found : Option Struct) → option_and_then (λ (entry : Struct). entry.tag) (option_map (moved_struct number) found) ≡ option_and_then (λ (entry : Struct). entry.tag) found
  tag-in None = refl
  tag-in (Some entry) = refl

  tag-same : (n : ℕ) → tag_of b n ≡ tag_of a n
  tag-same n = ap (option_and_then (λ (entry : Struct). entry.tag)) (slice_get-map (moved_struct number) structs n) ∙ tag-in (slice_get structs n)

  -- ---- layouts

  layout-in : (found : Option Content) → option_and_then (λ (content : Content). content.layout) (option_map (moved_content number) found)
      ≡ option_and_then (λ (content : Content). content.layout) found
  layout-in None = refl
  layout-in (Some content) = refl

  pub layout-same : (type : CType) → layout_of b type ≡ layout_of a type
  layout-same void = refl
  layout-same (integer kind) = refl
  layout-same (pointer type) = refl
  layout-same (array type n) = ap (times n) (layout-same type)
  layout-same (struct n) = ap (option_and_then (λ (content : Content). content.layout)) (content-moved n) ∙ layout-in (content_of a n)
  layout-same (function_type result parameters) = refl
  layout-same (const type) = layout-same type

  pub size-same : (type : CType) → size_of b type ≡ size_of a type
  size-same type = ap (option_map (λ (layout : Layout). layout.size)) (layout-same type)

  joined-same : (before : Layout) (members : List Member) → joined b before (map (moved_member number) members) ≡ joined a before members
  joined-same before [] = refl
  joined-same before (member ∷ members) =
      ap (option_and_then (λ layout. joined b (followed_by before layout) (map (moved_member number) members))) (ap (layout_of b) (re.kinds member.kind) ∙ layout-same (type_of a member.kind))
      ∙ and-then-same (layout_of a (type_of a member.kind)) _ _ (λ layout. joined-same (followed_by before layout) members)

  pub struct-layout-same : (members : List Member) → struct_layout b (map (moved_member number) members) ≡ struct_layout a members
  struct-layout-same members = ap (option_and_then (λ (layout : Layout). if_fits (padded layout))) (joined-same nothing members)

  -- ---- members

  pub fields-moved : (members : List TypedMember) → fields b members ≡ map (moved_member number) (fields a members)
  fields-moved [] = refl
  fields-moved (member ∷ members) = ap₂ (λ (kind : ℕ) (others : List Member). record { name = member.name; kind = kind } ∷ others) (re.numbers member.kind) (fields-moved members)

  pub fields-laid-out : (members : List TypedMember) → struct_layout b (fields b members) ≡ struct_layout a (fields a members)
  fields-laid-out members = ap (struct_layout b) (fields-moved members) ∙ struct-layout-same (fields a members)

  pub found-same : (name : List ℕ) (n : ℕ) (members : List Member) → found_in b name n (map (moved_member number) members) ≡ found_in a name n members
  found-same name n [] = refl
  found-same name n (member ∷ members) =
      chosen (bytes_eq member.name name) (bytes_eq member.name name) _ _ _ _ refl (ap (λ type. Some (n, type)) (re.kinds member.kind)) (found-same name (n + 1) members)

  found-in-all : (name : List ℕ) (found : Option (List Member)) → option_and_then (found_in b name 0) (option_map (map (moved_member number)) found) ≡ option_and_then (found_in a name 0) found
  found-in-all name None = refl
  found-in-all name (Some members) = found-same name 0 members

  pub member-found : (name : List ℕ) (n : ℕ) → option_and_then (found_in b name 0) (members_of b n) ≡ option_and_then (found_in a name 0) (members_of a n)
  member-found name n = ap (option_and_then (found_in b name 0)) (members-moved n) ∙ found-in-all name (members_of a n)

  -- ---- const parts

  any-member-same : (test again : CType → Bool) → ((type : CType) → again type ≡ test type) → (members : List Member)
      → any_member again b (map (moved_member number) members) ≡ any_member test a members
  any-member-same test again same [] = refl
  any-member-same test again same (member ∷ members) =
      ap₂ (λ x y. x || y) (ap again (re.kinds member.kind) ∙ same (type_of a member.kind)) (any-member-same test again same members)

  any-same : (test again : CType → Bool) → ((type : CType) → again type ≡ test type) → (found : Option (List Member))
      → any_of again b (option_map (map (moved_member number)) found) ≡ any_of test a found
  any-same test again same None = refl
  any-same test again same (Some members) = any-member-same test again same members

  members-in-moved : (type : CType) → members_in b type ≡ option_map (map (moved_member number)) (members_in a type)
  members-in-moved (struct n) = members-moved n
  members-in-moved void = refl
  members-in-moved (integer kind) = refl
  members-in-moved (pointer type) = refl
  members-in-moved (array type n) = refl
  members-in-moved (function_type result parameters) = refl
  members-in-moved (const type) = refl

  const-within-same : (depth : ℕ) (type : CType) → has_const_within depth b type ≡ has_const_within depth a type
  unfolding has_const_within
  const-within-same zero type = refl
  const-within-same (suc depth) type =
      ap (λ inner. is_const (element type) || inner)
      (ap (any_of (has_const_within depth b) b) (members-in-moved (element type)) ∙ any-same (has_const_within depth a) (has_const_within depth b) (const-within-same depth) (members_in a (element type)))

  pub const-same : (type : CType) → has_const b type ≡ has_const a type
  const-same type = ap (λ depth. has_const_within depth b type) (length-map structs (moved_struct number)) ∙ const-within-same (length structs) type

  -- ---- parts

  nth-same : (n : ℕ) (found : Option (List Member)) → option_and_then (λ members. option_map (λ (it : Member). type_of b it.kind) (slice_get members n)) (option_map (map (moved_member number)) found)
      ≡ option_and_then (λ members. option_map (λ (it : Member). type_of a it.kind) (slice_get members n)) found
  nth-same n None = refl
  nth-same n (Some members) = ap (option_map (λ (it : Member). type_of b it.kind)) (slice_get-map (moved_member number) members n) ∙ go (slice_get members n)
    where
      go : (found : Option Member) → option_map (λ (it : Member). type_of b it.kind) (option_map (moved_member number) found) ≡ option_map (λ (it : Member). type_of a it.kind) found
      go None = refl
      go (Some member) = ap Some (re.kinds member.kind)

  member-type-same : (type : CType) (n : ℕ) → member_type b type n ≡ member_type a type n
  member-type-same (struct k) n =
      ap (option_and_then (λ members. option_map (λ (it : Member). type_of b it.kind) (slice_get members n))) (members-moved k) ∙ nth-same n (members_of a k)
  member-type-same void n = refl
  member-type-same (integer kind) n = refl
  member-type-same (pointer type) n = refl
  member-type-same (array type many) n = refl
  member-type-same (function_type result parameters) n = refl
  member-type-same (const type) n = refl

  pub part-same : (type : CType) (n : ℕ) → part_type b type n ≡ part_type a type n
  part-same (array type (Some many)) n = refl
  part-same (array type None) n = refl
  part-same (const type) n = ap (option_map with_const) (member-type-same type n)
  part-same (struct k) n = member-type-same (struct k) n
  part-same void n = refl
  part-same (integer kind) n = refl
  part-same (pointer type) n = refl
  part-same (function_type result parameters) n = refl

  -- ---- constants

  value-same : (declared : List Declaration) (form : Label) (kind : CType) (kinds : List CType) (values : List (Option ℤ)) → value_at b declared form kind kinds values ≡ value_at a declared form kind kinds values
  value-same declared label.sizeof_tree kind (operand ∷ []) values = ap (option_map pos) (size-same operand)
  value-same declared (label.sizeof_kind type) kind kinds values = ap (option_map pos) (size-same type)
  value-same declared form kind kinds values = refl

  mutual
    pub constant-value-same : (declared : List Declaration) (tree : Tree) → constant_value b declared tree ≡ constant_value a declared tree
    constant-value-same declared (node form kind spans parts) =
        value-same declared form kind (kinds_in parts) (constant_values b declared parts) ∙ ap (value_at a declared form kind (kinds_in parts)) (constant-values-same declared parts)

    constant-values-same : (declared : List Declaration) (parts : Trees) → constant_values b declared parts ≡ constant_values a declared parts
    constant-values-same declared no_trees = refl
    constant-values-same declared (more_trees first rest) = ap₂ (λ x xs. x ∷ xs) (constant-value-same declared first) (constant-values-same declared rest)

  pub constant-same : (declared : List Declaration) (tree : Tree) → constant b declared tree ≡ constant a declared tree
  constant-same declared tree = ap (λ value. if is_constant_form tree then value else None) (constant-value-same declared tree)

  -- ---- tables that grow

  pub struct-added : (tag : Option (List ℕ)) → with_struct b tag ≡ table_at other (moved number (with_struct a tag).structs)
  struct-added tag = ap (table_at other) (sym (map-append (moved_struct number) structs (record { tag = tag; content = None } ∷ [])))

  pub content-added : (n : ℕ) (members : List TypedMember) → with_content b n (contained b (fields b members)) ≡ table_at other (moved number (with_content a n (contained a (fields a members))).structs)
  content-added n members =
      ap (table_at other)
      (ap₂ (λ (tag : Option (List ℕ)) (content : Content). slice_set (moved number structs) n (record { tag = tag; content = Some content })) (tag-same n)
      (ap₂ (λ (members : List Member) (layout : Option Layout). record { members = members; layout = layout }) (fields-moved members) (fields-laid-out members))
      ∙ sym (map-set (moved_struct number) structs n (record { tag = tag_of a n; content = Some (contained a (fields a members)) })))
