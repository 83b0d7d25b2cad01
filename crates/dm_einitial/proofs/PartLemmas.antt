-- Parts of types, and the scalar that stands first.
use Rattle.std.specs.Prelude.{◌≡◌, ℕ, zero, suc, ◌+◌, ◌-◌, ◌<◌, ◌≤◌, length, Bool, true, false, nat_lt, if◌then◌else◌, List, Option, Some, None, IfSome, option_map, option_and_then, slice_get, refl}
use Rattle.std.proofs.Common.{sym, ap, ◌∙◌, arith}
use Rattle.dm_type.specs.declared.shape.Member.{Member}
use Rattle.dm_type.specs.declared.shape.Shape.{Shape}
use Rattle.dm_type.specs.declared.shape.Shape.TheVariants.{Void, Integer, Pointer, Array, Struct, Function, Const}
use Rattle.dm_type.specs.CTypes.{CType, array as array_type, struct, const, with_const}
use Rattle.dm_type.specs.Tables.{Table, as_is, members_of, IsId}
use Rattle.dm_tree.specs.Scenes.{is_scalar, member_type, part_type}
use Rattle.dm_typing.specs.Views.{Begins, type_over, table_over}
use Rattle.dm_typing.proofs.LaterLemmas.{type-later}
use Rattle.dm_einitial.specs.declared.parts.First.{First as FirstHeld}
use Rattle.dm_edecl.specs.Initialising.{First, deeper, first_if_scalar, first_in_array, first_in_struct, first_within}
use Rattle.dm_einitial.specs.Steps.{first_over, part_over, PartFits, bare_part, element_number, is_sized, member_number, within}

-- ---- members

module _ (table : Table) (later : List Shape) where
  found-member : (members : Option (List Member)) (n : ℕ)
      → option_map (type_over later) (option_and_then (λ (all : List Member). option_map (λ (one : Member). one.kind) (slice_get all n)) members)
      ≡ option_and_then (λ (all : List Member). option_map (λ (one : Member). type_over later one.kind) (slice_get all n)) members
  found-member None n = refl
  found-member (Some all) n = go (slice_get all n)
    where
      go : (found : Option Member) → option_map (type_over later) (option_map (λ (one : Member). one.kind) found) ≡ option_map (λ (one : Member). type_over later one.kind) found
      go None = refl
      go (Some one) = refl

  pub member-is : (number n : ℕ) (type : CType) → type ≡ struct number → option_map (type_over later) (member_number table number n) ≡ member_type (table_over later table) type n
  member-is number n type is = found-member (members_of table number) n ∙ ap (λ t. member_type (table_over later table) t n) (sym is)

  -- other types have none
  pub no-member : (types : List CType) (shape : Shape) (n : ℕ) → ((number : ℕ) → shape ≡ Struct number → ⊥) → member_type (table_over later table) (as_is types shape) n ≡ None
  no-member types Void n never = refl
  no-member types (Integer kind) n never = refl
  no-member types (Pointer id) n never = refl
  no-member types (Array id length) n never = refl
  no-member types (Struct number) n never = absurd (never number refl)
  no-member types (Function result parameters) n never = refl
  no-member types (Const id) n never = refl

  -- ---- parts

  plain-part : (found : Option ℕ) → option_map (part_over later) (option_map (bare_part false) found) ≡ option_map (type_over later) found
  plain-part None = refl
  plain-part (Some id) = refl

  const-part : (found : Option ℕ) → option_map (part_over later) (option_map (bare_part true) found) ≡ option_map with_const (option_map (type_over later) found)
  const-part None = refl
  const-part (Some id) = refl

  pub element-is : (inner n : ℕ) (many : Option ℕ) (type : CType) → type ≡ array_type (type_over later inner) many → option_map (part_over later) (element_number inner many n) ≡ part_type (table_over later table) type n
  element-is inner n many type is = go many ∙ ap (λ t. part_type (table_over later table) t n) (sym is)
    where
      go : (many : Option ℕ) → option_map (part_over later) (element_number inner many n) ≡ part_type (table_over later table) (array_type (type_over later inner) many) n
      go None = refl
      go (Some k) = test (nat_lt n k)
        where
          test : (b : Bool) → option_map (part_over later) (if b then Some (bare_part false inner) else None) ≡ (if b then Some (type_over later inner) else None)
          test true = refl
          test false = refl

  pub struct-part : (number n : ℕ) (type : CType) → type ≡ struct number → option_map (part_over later) (option_map (bare_part false) (member_number table number n)) ≡ part_type (table_over later table) type n
  struct-part number n type is =
      plain-part (member_number table number n) ∙ member-is number n (struct number) refl ∙ ap (λ t. part_type (table_over later table) t n) (sym is)

  pub const-part-is : (inner : CType) (n : ℕ) (found : Option ℕ) (type : CType) → type ≡ const inner → option_map (type_over later) found ≡ member_type (table_over later table) inner n
      → option_map (part_over later) (option_map (bare_part true) found) ≡ part_type (table_over later table) type n
  const-part-is inner n found type is one =
      const-part found ∙ ap (option_map with_const) one ∙ ap (λ t. part_type (table_over later table) t n) (sym is)

  pub no-part : (types : List CType) (shape : Shape) (n : ℕ) → ((id : ℕ) (length : Option ℕ) → shape ≡ Array id length → ⊥) → ((number : ℕ) → shape ≡ Struct number → ⊥) → ((id : ℕ) → shape ≡ Const id → ⊥)
      → part_type (table_over later table) (as_is types shape) n ≡ None
  no-part types Void n array never other = refl
  no-part types (Integer kind) n array never other = refl
  no-part types (Pointer id) n array never other = refl
  no-part types (Array id length) n array never other = absurd (array id length refl)
  no-part types (Struct number) n array never other = absurd (never number refl)
  no-part types (Function result parameters) n array never other = refl
  no-part types (Const id) n array never other = absurd (other id refl)

-- their types are numbered
pub element-fits : (table : Table) (inner n : ℕ) (many : Option ℕ) → IsId table inner → IfSome (element_number inner many n) (PartFits table)
element-fits table inner n None inside = tt
element-fits table inner n (Some k) inside = test (nat_lt n k)
  where
    test : (b : Bool) → IfSome (if b then Some (bare_part false inner) else None) (PartFits table)
    test true = inside
    test false = tt

pub part-fits : (table : Table) (becomes_const : Bool) (found : Option ℕ) → IfSome found (IsId table) → IfSome (option_map (bare_part becomes_const) found) (PartFits table)
part-fits table becomes_const None inside = tt
part-fits table becomes_const (Some id) inside = inside

-- ---- the scalar that stands first

-- one part more round it
pub within-deeper : (depth next : ℕ) (found : Option First) → next ≡ depth + 1 → within next found ≡ within depth (option_map deeper found)
within-deeper depth next None h = refl
within-deeper depth next (Some first) h = ap (λ d. Some (record { depth = d; kind = first.kind })) (omega (arith, h))

in-no-array : (first_of : CType → Option First) (type : CType) → is_sized type ≡ false → first_in_array first_of type ≡ first_of type
in-no-array first_of (array_type type (Some n)) h = absurd (cc)
in-no-array first_of type h = refl

module _ (table : Table) (type : CType) (element : is_sized type ≡ false) where
  abbrev itself : First
  itself = record { depth = 0; kind = type }

  pub first-here : (fuel : ℕ) → is_scalar type ≡ true → first_within (suc fuel) table type ≡ Some itself
  unfolding first_within
  first-here fuel h =
      in-no-array (first_in_struct (first_within fuel table) table) type element
      ∙ ap (λ b. if b then (if b then Some itself else None) else option_map deeper (option_and_then (first_within fuel table) (part_type table type 0))) h

  pub first-below : (fuel : ℕ) → is_scalar type ≡ false → first_within (suc fuel) table type ≡ option_map deeper (option_and_then (first_within fuel table) (part_type table type 0))
  unfolding first_within
  first-below fuel h =
      in-no-array (first_in_struct (first_within fuel table) table) type element
      ∙ ap (λ b. if b then (if b then Some itself else None) else option_map deeper (option_and_then (first_within fuel table) (part_type table type 0))) h

  pub first-last : first_within zero table type ≡ (if is_scalar type then Some itself else None)
  unfolding first_within
  first-last = in-no-array first_if_scalar type element

-- what stands first in a type, by its elements
pub first-within-array : (fuel : ℕ) (table : Table) → (first_of : CType → Option First) × ((type : CType) → first_within fuel table type ≡ first_in_array first_of type)
unfolding first_within
first-within-array zero table = (first_if_scalar, λ type. refl)
first-within-array (suc fuel) table = (first_in_struct (first_within fuel table) table, λ type. refl)

-- ---- the way to it

pub arrays-pass : (fuel : ℕ) (table : Table) (from to : ℕ) (whole inner : CType)
    → ((first_of : CType → Option First) → within to (first_in_array first_of inner) ≡ within from (first_in_array first_of whole))
    → within to (first_within fuel table inner) ≡ within from (first_within fuel table whole)
arrays-pass fuel table from to whole inner same =
    let by = first-within-array fuel table in ap (within to) (by.1 inner) ∙ same by.0 ∙ ap (within from) (sym (by.1 whole))

-- a scalar so deep
abbrev pub first_at : ℕ → CType → First
first_at depth type = record { depth = depth; kind = type }

module _ (table : Table) (type : CType) (element : is_sized type ≡ false) (depth : ℕ) where
  at-depth : within depth (Some (record { depth = 0; kind = type })) ≡ Some (record { depth = depth; kind = type })
  at-depth = ap (λ d. Some (record { depth = d; kind = type })) (omega arith)

  pub ends-here : (fuel : ℕ) → is_scalar type ≡ true → within depth (first_within (suc fuel) table type) ≡ Some (record { depth = depth; kind = type })
  ends-here fuel h = ap (within depth) (first-here table type element fuel h) ∙ at-depth

  pub ends-nowhere : (fuel : ℕ) → is_scalar type ≡ false → part_type table type 0 ≡ None → within depth (first_within (suc fuel) table type) ≡ None
  ends-nowhere fuel h none = ap (within depth) (first-below table type element fuel h ∙ ap (λ found. option_map deeper (option_and_then (first_within fuel table) found)) none)

  pub goes-below : (fuel next : ℕ) (part : CType) → is_scalar type ≡ false → part_type table type 0 ≡ Some part → next ≡ depth + 1
      → within next (first_within fuel table part) ≡ within depth (first_within (suc fuel) table type)
  goes-below fuel next part h some deep =
      within-deeper depth next (first_within fuel table part) deep
      ∙ ap (within depth) (sym (first-below table type element fuel h ∙ ap (λ found. option_map deeper (option_and_then (first_within fuel table) found)) some))

  pub ends-last : (test : Bool) → is_scalar type ≡ test → within depth (first_within zero table type) ≡ (if test then Some (record { depth = depth; kind = type }) else None)
  ends-last true h = ap (within depth) (first-last table type element ∙ ap (λ b. if b then Some (record { depth = 0; kind = type }) else None) h) ∙ at-depth
  ends-last false h = ap (within depth) (first-last table type element ∙ ap (λ b. if b then Some (record { depth = 0; kind = type }) else None) h)

-- where the way has come to, whatever numbers come
pub stands-at : (shapes later : List Shape) (table : Table) (fuel : ℕ) (at here : FirstHeld) (whole : Option First) → Begins shapes later → at.kind < length shapes
    → ((first_of : CType → Option First) → within here.depth (first_in_array first_of (type_over shapes here.kind)) ≡ within at.depth (first_in_array first_of (type_over shapes at.kind)))
    → within at.depth (first_within fuel table (type_over later at.kind)) ≡ whole → within here.depth (first_within fuel table (type_over shapes here.kind)) ≡ whole
stands-at shapes later table fuel at here whole begins inside same is =
    arrays-pass fuel table at.depth here.depth (type_over shapes at.kind) (type_over shapes here.kind) same
    ∙ ap (λ t. within at.depth (first_within fuel table t)) (sym (type-later shapes later at.kind begins inside))
    ∙ is

pub fuel-left : (fuel : ℕ) → 0 < fuel → suc (fuel - 1) ≡ fuel
fuel-left fuel some = omega (arith, some)

pub no-fuel : (fuel : ℕ) → fuel ≤ 0 → 0 ≡ fuel
no-fuel fuel none = omega (arith, none)

pub if-first : (later : List Shape) (here : FirstHeld) (test : Bool) → option_map (first_over later) (if test then Some here else None) ≡ (if test then Some (first_at here.depth (type_over later here.kind)) else None)
if-first later here true = refl
if-first later here false = refl
