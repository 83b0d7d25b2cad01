-- New objects for those of static storage duration.
--     IsMade program ds objects blocks named made      the declarations ds name new objects, in order
use Rattle.std.specs.Prelude.{◌≡◌, ℕ, ◌+◌, List, length}
use Rattle.dm_type.specs.CTypes.{CType}
use Rattle.dm_memory.specs.declared.blocks.Block.{Block}
use Rattle.dm_memory.specs.Blocks.{view_of_blocks, AreKnown}
use Rattle.dm_meaning.specs.Memory as memory
use Rattle.dm_meaning.specs.Memory.{new_block}
use Rattle.dm_meaning.specs.Objects.{Layout, all_zero}
use Rattle.dm_meaning.specs.Operations.{Objects}
use Rattle.dm_meaning.specs.Programs.{Program}
use Rattle.dm_meaning.specs.Statements.{named_from}
use Rattle.dm_meaning.specs.Units.{static_numbers, zeroed_from}

-- the declarations of all of them
abbrev pub numbers_of : Program → List ℕ
numbers_of program = static_numbers program.statics

-- an object whose scalars are 0 or null pointers
abbrev pub zero_block : Layout → CType → memory.Block
zero_block layout kind = record (new_block layout kind) { contents = all_zero layout kind }

pub record IsMade (program : Program) (ds : List ℕ) (objects : Objects) (blocks : List Block) (named : Objects) (made : List Block) : Type 0 where
  pub names : named ≡ named_from (λ i. i) (length blocks) ds objects
  pub memory : view_of_blocks program.table made ≡ zeroed_from program (λ i. i) (length blocks) ds (view_of_blocks program.table blocks)
  pub count : length made ≡ length blocks + length ds
  pub known : AreKnown program.table made
