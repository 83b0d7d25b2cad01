-- Entries that have another type in a scope, which they lose behind it (6.2.7p4).
--     set_kind number kind entries      entries, of which one has another type
--     undone changes entries      entries with the types of before the changes, of which the last is undone first
--     KeepsTypes old new      all but scopes and entries is the same
--     IsWithin old new      what is known now, in the scopes that were open or in further ones inside the innermost, can be undone
--     Opens outside opened      a scope opens, with names or without
use Rattle.std.specs.Prelude.{◌≡◌, ℕ, zero, suc, List, [], ◌∷◌, ◌++◌, length, map, take, drop}
use Rattle.dm_type.specs.declared.shape.Shape.{Shape}
use Rattle.dm_tree.specs.declared.unit.Declared.{Declared}
use Rattle.dm_typing.specs.declared.known.Known.{Known}
use Rattle.dm_typing.specs.Views.{Begins}
use Rattle.dm_estanding.specs.Summaries.{entry_over}
use Rattle.dm_estanding.specs.declared.standing.Retyped.{Retyped}
use Rattle.dm_estanding.specs.declared.standing.Standing.{Standing as Held}

-- all but scopes and entries is the same
pub record KeepsTypes (old new : Known) : Type 0 where
  pub types : new.types ≡ old.types
  pub begun : new.begun.items ≡ old.begun.items
  pub constants : new.constants ≡ old.constants

abbrev pub set_kind : ℕ → ℕ → List Declared → List Declared
set_kind n kind [] = []
set_kind zero kind (entry ∷ entries) = record entry { kind = kind } ∷ entries
set_kind (suc n) kind (entry ∷ entries) = entry ∷ set_kind n kind entries

abbrev pub undone : List Retyped → List Declared → List Declared
undone [] entries = entries
undone (change ∷ changes) entries = set_kind change.number change.kind (undone changes entries)

-- The entries of before have their types again once the changes since then are undone, and the scopes around the innermost are the same.
pub record IsWithin (old new : Held) : Type 0 where
  pub shapes : Begins old.known.types.shapes new.known.types.shapes
  pub changes : List Retyped
  pub retyped : new.retyped.items ≡ old.retyped.items ++ changes
  pub entries : (later : List Shape) → Begins new.known.types.shapes later
      → map (entry_over later) (take (length old.known.declared) (undone changes new.known.declared)) ≡ map (entry_over later) old.known.declared
  pub scopes : drop 1 new.known.scopes ≡ drop 1 old.known.scopes
  pub depth : length new.known.scopes ≡ length old.known.scopes

-- a scope opens, and all else is as before
pub record Opens (outside opened : Held) : Type 0 where
  pub types : opened.known.types ≡ outside.known.types
  pub declared : opened.known.declared ≡ outside.known.declared
  pub retyped : opened.retyped.items ≡ outside.retyped.items
  pub scopes : outside.known.scopes ≡ drop 1 opened.known.scopes
