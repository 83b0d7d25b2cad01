-- New objects for declarations.
--     IsEntered program ds objects blocks named made      the declarations ds name new objects
use Rattle.std.specs.Prelude.{◌≡◌, ℕ, suc, ◌+◌, List, [], ◌∷◌, length, if◌then◌else◌}
use Rattle.dm_tree.specs.Trees.{Declarator}
use Rattle.dm_memory.specs.declared.blocks.Block.{Block}
use Rattle.dm_memory.specs.Blocks.{view_of_blocks, AreKnown}
use Rattle.dm_meaning.specs.Memory.{Memory, new_block}
use Rattle.dm_meaning.specs.Operations.{Objects}
use Rattle.dm_meaning.specs.Programs.{Program, layout}
use Rattle.dm_meaning.specs.Statements.{is_automatic, type_declared}

-- the declaration of a declarator that defines an object of automatic storage duration
abbrev pub automatic_one : Program → Declarator → List ℕ
automatic_one program declarator = if is_automatic program declarator then declarator.declared ∷ [] else []

-- objects with numbers from n on
abbrev pub named_on : ℕ → List ℕ → Objects → Objects
named_on n [] objects = objects
named_on n (d ∷ ds) objects = named_on (suc n) ds ((d, n) ∷ objects)

abbrev pub made_on : Program → ℕ → List ℕ → Memory → Memory
made_on program n [] memory = memory
made_on program n (d ∷ ds) memory = made_on program (suc n) ds ((n, new_block (layout program) (type_declared program d)) ∷ memory)

pub record IsEntered (program : Program) (ds : List ℕ) (objects : Objects) (blocks : List Block) (named : Objects) (made : List Block) : Type 0 where
  pub names : named ≡ named_on (length blocks) ds objects
  pub memory : view_of_blocks program.table made ≡ made_on program (length blocks) ds (view_of_blocks program.table blocks)
  pub count : length made ≡ length blocks + length ds
  pub known : AreKnown program.table made
