-- The members of structs, as the code keeps them.
use Rattle.std.specs.Prelude.{◌≡◌, ℕ, List, [], map, All, slice_index_or}
use Rattle.dm_type.specs.Tables.{Table, IsId, type_of, members_of}
use Rattle.dm_meaning.specs.Objects as objects
use Rattle.dm_meaning.specs.Programs.{fields_in}
use Rattle.dm_layout.specs.declared.layout.Field.{Field}

abbrev pub view_of_field : Table → Field → objects.Field
view_of_field table field = record { kind = type_of table field.kind; offset = field.offset }

-- those of each struct, by its number; one that there isn't has none
pub record AreFields (table : Table) (fields : List (List Field)) : Type 0 where
  pub same : (number : ℕ) → map (view_of_field table) (slice_index_or fields number []) ≡ fields_in table (members_of table number)
  pub known : (number : ℕ) → All (λ field. IsId table field.kind) (slice_index_or fields number [])
