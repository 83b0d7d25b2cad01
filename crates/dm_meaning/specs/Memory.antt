-- Memory: a finite map from the numbers of objects to what they hold (6.2.4, 6.2.6).
--     Block      an object: its type, its value, whether it is alive, and whether it may be written
--     look memory name      the object of a name
--     made, killed, written      memory with new objects, with objects that have died, with a part stored
--     IsFresh names memory      names that were never used
use Rattle.std.specs.Prelude.{◌≡◌, ℕ, suc, ◌==◌, Bool, true, false, not, List, [], ◌∷◌, ◌++◌, map, length, Option, Some, None, pos, if◌then◌else◌}
use Rattle.dm_int.specs.declared.Kind.TheVariants.{Char}
use Rattle.dm_int.specs.Kinds.{convert}
use Rattle.dm_type.specs.CTypes.{CType, integer, array, is_const}
use Rattle.dm_meaning.specs.Values.{Name, numbered, literal_of, elsewhere, Path, At, Value, integer_value, parts, unset, values, part_value, with_part}
use Rattle.dm_meaning.specs.Objects.{Layout, Reached, unknown, part_at, all_unset}

pub record Block : Type 0 where
  pub kind : CType
  pub contents : Value
  -- its lifetime hasn't ended (6.2.4p2)
  pub alive : Bool
  pub writable : Bool

abbrev pub Memory : Type 0
Memory = List (ℕ × Block)

-- the object of a number
abbrev pub look_up : Memory → ℕ → Option Block
look_up [] n = None
look_up (entry ∷ entries) n = if entry.0 == n then Some entry.1 else look_up entries n

-- a byte of a string literal, as a char
abbrev pub character : ℕ → Value
character byte = integer_value Char (convert Char (pos byte))

-- the array of a string literal, which has a 0 at its end and may not be written (6.4.5p6, p7)
abbrev pub literal_block : List ℕ → Block
literal_block bytes = record {
  kind = array (integer Char) (Some (suc (length bytes)));
  contents = parts (values (map character bytes ++ character 0 ∷ []));
  alive = true;
  writable = false;
}

-- the object of a name
abbrev pub look : Memory → Name → Option Block
look memory (numbered n) = look_up memory n
look memory (literal_of bytes unit) = Some (literal_block bytes)
look memory (elsewhere identifier) = None

-- memory with a change of one object
abbrev pub changed_block : ℕ → (Block → Block) → Memory → Memory
changed_block n change [] = []
changed_block n change (entry ∷ entries) =
    (entry.0, if entry.0 == n then change entry.1 else entry.1) ∷ changed_block n change entries

-- a new object whose scalars are unset, and that may be written unless it is const
abbrev pub new_block : Layout → CType → Block
new_block layout kind = record { kind = kind; contents = all_unset layout kind; alive = true; writable = not (is_const kind) }

-- memory with a value stored in a part of an object; a string literal stays as it is
abbrev pub written_in : Memory → Name → Path → Value → Memory
written_in memory (numbered n) path value = changed_block n (λ block. record block { contents = with_part path value block.contents }) memory
written_in memory other path value = memory

abbrev pub written : Memory → At → Value → Memory
written memory at value = written_in memory at.name at.path value

-- memory in which the lifetime of these objects has ended
abbrev pub killed : List ℕ → Memory → Memory
killed [] memory = memory
killed (n ∷ numbers) memory = killed numbers (changed_block n (λ block. record block { alive = false }) memory)

-- names that were never used
abbrev pub IsFresh : (ℕ → ℕ) → Memory → Type 0
IsFresh names memory = ((i j : ℕ) → names i ≡ names j → i ≡ j) × ((i : ℕ) → look_up memory (names i) ≡ None)

-- ---- what stands at a place

abbrev pub reached_in : Layout → Path → Option Block → Reached
reached_in layout path None = unknown
reached_in layout path (Some block) = part_at layout false block.kind path

-- what a place is
abbrev pub reached : Layout → Memory → At → Reached
reached layout memory at = reached_in layout at.path (look memory at.name)

abbrev pub value_in : Path → Option Block → Option Value
value_in path None = None
value_in path (Some block) = part_value block.contents path

-- the value of a place, unset where it has none
abbrev pub or_unset : Option Value → Value
or_unset None = unset
or_unset (Some value) = value

abbrev pub contents_at : Memory → At → Value
contents_at memory at = or_unset (value_in at.path (look memory at.name))

abbrev pub lives : Option Block → Bool
lives None = false
lives (Some block) = block.alive

abbrev pub may_be_written : Option Block → Bool
may_be_written None = false
may_be_written (Some block) = block.writable
