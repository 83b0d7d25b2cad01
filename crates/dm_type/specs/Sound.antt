-- What is true of a table.
--     IsSound table      each shape is made of earlier numbers, no two are the same, and each content fits
use Rattle.std.specs.Prelude.{◌≡◌, ℕ, ◌<◌, ◌≤◌, List, length, All, Some, IfSome, slice_get, slice_index_or}
use Rattle.dm_type.specs.declared.shape.Shape.{Shape}
use Rattle.dm_type.specs.declared.shape.Shape.TheVariants.{Void, Integer, Pointer, Array, Struct, Function, Const}
use Rattle.dm_type.specs.declared.shape.Content.{Content}
use Rattle.dm_type.specs.declared.layout.Layout.{Layout}
use Rattle.dm_type.specs.Tables.{Table, IsId, IsLength, content_of}
use Rattle.dm_token.specs.Limits.{most_type_bytes}

-- the shape is made of types below one number and of structs below another
abbrev pub IsBelow : ℕ → ℕ → Shape → Type 0
IsBelow types structs Void = Unit {0}
IsBelow types structs (Integer kind) = Unit {0}
IsBelow types structs (Pointer id) = id < types
IsBelow types structs (Array id length) = (id < types) × IsLength length
IsBelow types structs (Struct number) = number < structs
IsBelow types structs (Function result parameters) = (result < types) × All (λ id. id < types) parameters
IsBelow types structs (Const id) = id < types

-- a shape that may be const: it isn't const, and no array
abbrev pub CanBeConst : Shape → Type 0
CanBeConst Void = Unit {0}
CanBeConst (Integer kind) = Unit {0}
CanBeConst (Pointer id) = Unit {0}
CanBeConst (Array id length) = ⊥
CanBeConst (Struct number) = Unit {0}
CanBeConst (Function result parameters) = Unit {0}
CanBeConst (Const id) = ⊥

-- what is const may be so
abbrev pub IsPlain : List Shape → Shape → Type 0
IsPlain shapes Void = Unit {0}
IsPlain shapes (Integer kind) = Unit {0}
IsPlain shapes (Pointer id) = Unit {0}
IsPlain shapes (Array id length) = Unit {0}
IsPlain shapes (Struct number) = Unit {0}
IsPlain shapes (Function result parameters) = Unit {0}
IsPlain shapes (Const id) = CanBeConst (slice_index_or shapes id Void)

-- a layout that a type can have
pub record IsWithin (layout : Layout) : Type 0 where
  pub positive : 0 < layout.size
  pub fits : layout.size ≤ most_type_bytes
  pub aligned : 0 < layout.alignment
  pub least : layout.alignment ≤ 8

-- a content whose layout is one that a type can have
abbrev pub IsContent : Table → Content → Type 0
IsContent table content = All (λ member. IsId table member.kind) content.members × IfSome content.layout IsWithin

pub record IsSound (table : Table) : Type 0 where
  pub below : (k : ℕ) (shape : Shape) → slice_get table.shapes k ≡ Some shape → IsBelow k (length table.structs) shape
  pub plain : (k : ℕ) (shape : Shape) → slice_get table.shapes k ≡ Some shape → IsPlain table.shapes shape
  pub single : (j k : ℕ) (shape : Shape) → slice_get table.shapes j ≡ Some shape → slice_get table.shapes k ≡ Some shape → j ≡ k
  pub contents : (number : ℕ) (content : Content) → content_of table number ≡ Some content → IsContent table content
