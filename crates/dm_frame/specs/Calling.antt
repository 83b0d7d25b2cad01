-- New objects for the parameters of a call.
--     IsGiven program ds values objects blocks named made      the parameters ds name new objects that have these values
use Rattle.std.specs.Prelude.{◌≡◌, ℕ, suc, ◌+◌, List, [], ◌∷◌, length, Option, Some, None}
use Rattle.dm_memory.specs.declared.blocks.Block.{Block}
use Rattle.dm_memory.specs.Blocks.{view_of_blocks, AreKnown}
use Rattle.dm_meaning.specs.Memory as memory
use Rattle.dm_meaning.specs.Memory.{Memory, new_block}
use Rattle.dm_meaning.specs.Operations.{Objects}
use Rattle.dm_meaning.specs.Programs.{Program, layout}
use Rattle.dm_meaning.specs.Statements.{type_declared}
use Rattle.dm_meaning.specs.Values.{Value}
use Rattle.dm_frame.specs.Entering.{named_on}

-- the first of some values, if there is one, and those behind it
abbrev pub first_of : List Value → Option Value
first_of [] = None
first_of (value ∷ values) = Some value

abbrev pub behind_first : List Value → List Value
behind_first [] = []
behind_first (value ∷ values) = values

-- the object of a parameter, with the value of its argument, if it has one
abbrev pub given_block : Program → ℕ → Option Value → memory.Block
given_block program d None = new_block (layout program) (type_declared program d)
given_block program d (Some value) = record (new_block (layout program) (type_declared program d)) { contents = value }

-- objects with numbers from n on
abbrev pub given_on : Program → ℕ → List ℕ → List Value → Memory → Memory
given_on program n [] values memory = memory
given_on program n (d ∷ ds) values memory = given_on program (suc n) ds (behind_first values) ((n, given_block program d (first_of values)) ∷ memory)

pub record IsGiven (program : Program) (ds : List ℕ) (arguments : List Value) (objects : Objects) (blocks : List Block) (named : Objects) (made : List Block) : Type 0 where
  pub names : named ≡ named_on (length blocks) ds objects
  pub memory : view_of_blocks program.table made ≡ given_on program (length blocks) ds arguments (view_of_blocks program.table blocks)
  pub count : length made ≡ length blocks + length ds
  pub known : AreKnown program.table made
