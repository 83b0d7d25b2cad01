-- Tables that say the same of structs lay all types out alike, and give constant expressions the same values.
use Rattle.std.specs.Prelude.{◌≡◌, refl, ℕ, zero, suc, List, [], ◌∷◌, map, length, slice_get, Option, Some, None, option_map, option_and_then, ℤ, pos, if◌then◌else◌}
use Rattle.std.proofs.Common.{ap, sym, ◌∙◌}
use Rattle.dm_type.specs.declared.layout.Layout.{Layout as Extent}
use Rattle.dm_type.specs.declared.shape.Content.{Content}
use Rattle.dm_type.specs.declared.shape.Member.{Member}
use Rattle.dm_type.specs.declared.shape.Struct.{Struct}
use Rattle.dm_type.specs.CTypes.{CType, void, integer, pointer, array, struct, function, const}
use Rattle.dm_type.specs.Layouts.{layout_of, size_of, times, placed, offsets_from, offsets_of}
use Rattle.dm_type.specs.Structs.{shown_member, shown_content, shown_struct, AreSameStructs}
use Rattle.dm_type.specs.Tables.{Table, type_of, content_of, members_of}
use Rattle.dm_tree.specs.Constants.{value_at, kinds_in, constant_value, constant_values, is_constant_form}
use Rattle.dm_tree.specs.Trees.{Label, Tree, Trees, node, no_trees, more_trees}
use Rattle.dm_tree.specs.Trees as label
use Rattle.dm_tree.specs.Units.{Declaration}
use Rattle.dm_meaning.specs.Objects.{Field}
use Rattle.dm_meaning.specs.Programs.{Program, layout, fields_in, fields_with, or_zero, constant_of}
use Rattle.dm_sound.specs.SameTables.{over}

-- ---- structs by number

-- what is shown of a struct
abbrev Shown : Type 0
Shown = Option (List ℕ) × Option (List (List ℕ × CType) × Option Extent)

shown_in : (table : Table) (entries : List Struct) (number : ℕ)
    → option_map (shown_content table) (option_and_then (λ (entry : Struct). entry.content) (slice_get entries number))
    ≡ option_and_then (λ (shown : Shown). shown.1) (slice_get (map (shown_struct table) entries) number)
shown_in table [] number = refl
shown_in table (entry ∷ entries) zero = refl
shown_in table (entry ∷ entries) (suc number) = shown_in table entries number

shown_count : (table : Table) (entries : List Struct) → length (map (shown_struct table) entries) ≡ length entries
shown_count table [] = refl
shown_count table (entry ∷ entries) = ap suc (shown_count table entries)

-- ---- sizes

-- the layout that is kept of a struct, by what is shown of it
abbrev shown_layout : Option (List (List ℕ × CType) × Option Extent) → Option Extent
shown_layout None = None
shown_layout (Some shown) = shown.1

kept_layout : (table : Table) (content : Option Content) → option_and_then (λ (one : Content). one.layout) content ≡ shown_layout (option_map (shown_content table) content)
kept_layout table None = refl
kept_layout table (Some content) = refl

-- where members of these types begin, where types have these layouts
abbrev offsets_by : (CType → Option Extent) → ℕ → List (List ℕ × CType) → List ℕ
offsets_by lay end [] = []
offsets_by lay end (one ∷ others) = placed end (λ behind. offsets_by lay behind others) (lay one.1)

abbrev fields_by : List (List ℕ × CType) → List ℕ → List Field
fields_by (one ∷ others) (offset ∷ offsets) = record { kind = one.1; offset = offset } ∷ fields_by others offsets
fields_by others offsets = []

same_offsets : (table : Table) (members : List Member) (end : ℕ) → offsets_from table end members ≡ offsets_by (layout_of table) end (map (shown_member table) members)
same_offsets table [] end = refl
same_offsets table (one ∷ others) end = λ i. placed end (λ behind. same_offsets table others behind i) (layout_of table (type_of table one.kind))

same_fields_with : (table : Table) (members : List Member) (offsets : List ℕ) → fields_with table members offsets ≡ fields_by (map (shown_member table) members) offsets
same_fields_with table [] offsets = refl
same_fields_with table (one ∷ others) [] = refl
same_fields_with table (one ∷ others) (offset ∷ offsets) = ap (λ (fields : List Field). record { kind = type_of table one.kind; offset = offset } ∷ fields) (same_fields_with table others offsets)

-- the fields of a struct, by what is shown of it
abbrev fields_shown : (CType → Option Extent) → Option (List (List ℕ × CType) × Option Extent) → List Field
fields_shown lay None = []
fields_shown lay (Some shown) = fields_by shown.0 (offsets_by lay 0 shown.0)

fields_of_content : (table : Table) (content : Option Content) → fields_in table (option_map (λ (one : Content). one.members) content) ≡ fields_shown (layout_of table) (option_map (shown_content table) content)
fields_of_content table None = refl
fields_of_content table (Some content) =
    same_fields_with table content.members (offsets_of table content.members)
    ∙ ap (λ (offsets : List ℕ). fields_by (map (shown_member table) content.members) offsets) (same_offsets table content.members 0)

module _ (old new : Table) (same : AreSameStructs old new) where
  same_count : length new.structs ≡ length old.structs
  same_count = sym (shown_count new new.structs) ∙ ap (λ (list : List Shown). length list) same ∙ shown_count old old.structs

  same_content : (number : ℕ) → option_map (shown_content new) (content_of new number) ≡ option_map (shown_content old) (content_of old number)
  same_content number =
      shown_in new new.structs number
      ∙ ap (λ (list : List Shown). option_and_then (λ (shown : Shown). shown.1) (slice_get list number)) same
      ∙ sym (shown_in old old.structs number)

  same_layout : (type : CType) → layout_of new type ≡ layout_of old type
  same_layout void = refl
  same_layout (integer kind) = refl
  same_layout (pointer type) = refl
  same_layout (array type length) = ap (λ (extent : Option Extent). times length extent) (same_layout type)
  same_layout (struct number) =
      kept_layout new (content_of new number)
      ∙ ap (λ (shown : Option (List (List ℕ × CType) × Option Extent)). shown_layout shown) (same_content number)
      ∙ sym (kept_layout old (content_of old number))
  same_layout (function result parameters) = refl
  same_layout (const type) = same_layout type

  same_size : (type : CType) → size_of new type ≡ size_of old type
  same_size type = ap (λ (extent : Option Extent). option_map (λ (one : Extent). one.size) extent) (same_layout type)

  same_fields : (number : ℕ) → fields_in new (members_of new number) ≡ fields_in old (members_of old number)
  same_fields number =
      fields_of_content new (content_of new number)
      ∙ (λ i. fields_shown (λ type. same_layout type i) (same_content number i))
      ∙ sym (fields_of_content old (content_of old number))

  pub laid_out_alike : (program : Program) → layout (over program new) ≡ layout (over program old)
  laid_out_alike program = λ i. record {
    structs = same_count i;
    fields = λ number. same_fields number i;
    size = λ type. or_zero (same_size type i);
  }

  -- ---- constant expressions

  same_value : (declared : List Declaration) (form : Label) (kind : CType) (kinds : List CType) (values : List (Option ℤ)) → value_at new declared form kind kinds values ≡ value_at old declared form kind kinds values
  same_value declared label.sizeof_tree kind (operand ∷ []) values = ap (λ (size : Option ℕ). option_map pos size) (same_size operand)
  same_value declared label.sizeof_tree kind [] values = refl
  same_value declared label.sizeof_tree kind (a ∷ b ∷ kinds) values = refl
  same_value declared (label.sizeof_kind type) kind kinds values = ap (λ (size : Option ℕ). option_map pos size) (same_size type)
  same_value declared label.convert kind kinds [] = refl
  same_value declared label.convert kind kinds (a ∷ values) = refl
  same_value declared (label.unary sign) kind [] values = refl
  same_value declared (label.unary sign) kind (k ∷ []) [] = refl
  same_value declared (label.unary sign) kind (k ∷ []) (a ∷ []) = refl
  same_value declared (label.unary sign) kind (k ∷ []) (a ∷ b ∷ values) = refl
  same_value declared (label.unary sign) kind (k ∷ l ∷ kinds) values = refl
  same_value declared (label.binary op) kind [] values = refl
  same_value declared (label.binary op) kind (k ∷ []) values = refl
  same_value declared (label.binary op) kind (k ∷ l ∷ []) [] = refl
  same_value declared (label.binary op) kind (k ∷ l ∷ []) (a ∷ []) = refl
  same_value declared (label.binary op) kind (k ∷ l ∷ []) (a ∷ b ∷ []) = refl
  same_value declared (label.binary op) kind (k ∷ l ∷ []) (a ∷ b ∷ c ∷ values) = refl
  same_value declared (label.binary op) kind (k ∷ l ∷ m ∷ kinds) values = refl
  same_value declared label.both kind kinds [] = refl
  same_value declared label.both kind kinds (a ∷ []) = refl
  same_value declared label.both kind kinds (a ∷ b ∷ []) = refl
  same_value declared label.both kind kinds (a ∷ b ∷ c ∷ values) = refl
  same_value declared label.either kind kinds [] = refl
  same_value declared label.either kind kinds (a ∷ []) = refl
  same_value declared label.either kind kinds (a ∷ b ∷ []) = refl
  same_value declared label.either kind kinds (a ∷ b ∷ c ∷ values) = refl
  same_value declared label.choose kind kinds [] = refl
  same_value declared label.choose kind kinds (a ∷ []) = refl
  same_value declared label.choose kind kinds (a ∷ b ∷ []) = refl
  same_value declared label.choose kind kinds (a ∷ b ∷ c ∷ []) = refl
  same_value declared label.choose kind kinds (a ∷ b ∷ c ∷ d ∷ values) = refl
  same_value declared form kind kinds values = refl

  mutual
    same_constant : (declared : List Declaration) (tree : Tree) → constant_value new declared tree ≡ constant_value old declared tree
    same_constant declared (node form kind spans parts) =
        same_value declared form kind (kinds_in parts) (constant_values new declared parts)
        ∙ ap (λ (values : List (Option ℤ)). value_at old declared form kind (kinds_in parts) values) (same_constants declared parts)

    same_constants : (declared : List Declaration) (parts : Trees) → constant_values new declared parts ≡ constant_values old declared parts
    same_constants declared no_trees = refl
    same_constants declared (more_trees first rest) = λ i. same_constant declared first i ∷ same_constants declared rest i

  pub constants_alike : (program : Program) (tree : Tree) → constant_of (over program new) tree ≡ constant_of (over program old) tree
  constants_alike program tree = ap (λ (value : Option ℤ). if is_constant_form tree then value else None) (same_constant program.declared tree)
