-- What a run begins with.
--     HasStatics source named blocks      the objects of static storage duration, with their first values
--     IsArgv source before number after      one more object, that of argv
--     IsStart source input running      the state at the beginning of a run
use Rattle.std.specs.Prelude.{◌≡◌, ℕ, suc, List, [], ◌∷◌, length, Some}
use Rattle.dm_layout.specs.LaidOut.{laid_out}
use Rattle.dm_memory.specs.declared.blocks.Block.{Block}
use Rattle.dm_memory.specs.Blocks.{view_of_blocks, AreKnown}
use Rattle.dm_meaning.specs.Operations.{Objects}
use Rattle.dm_meaning.specs.Programs.{Definition}
use Rattle.dm_meaning.specs.Statements.{named_from}
use Rattle.dm_meaning.specs.Units.{argv_kind, main_of, start, statics_memory}
use Rattle.dm_program.specs.Sources.{Source, meant}
use Rattle.dm_state.specs.declared.running.Running.{Running}
use Rattle.dm_state.specs.Fits.{RunningFits}
use Rattle.dm_state.specs.Views.{view_of_running}
use Rattle.dm_start.specs.Making.{numbers_of, zero_block}

-- the objects of static storage duration have the numbers in order
abbrev pub static_names : Source → Objects
static_names source = named_from (λ i. i) 0 (numbers_of (meant source)) []

pub record HasStatics (source : Source) (named : Objects) (blocks : List Block) : Type 0 where
  pub names : named ≡ static_names source
  pub memory : view_of_blocks source.table blocks ≡ statics_memory (meant source) (λ i. i) (static_names source)
  pub count : length blocks ≡ length (meant source).statics
  pub known : AreKnown source.table blocks

pub record IsArgv (source : Source) (before : List Block) (number : ℕ) (after : List Block) : Type 0 where
  pub next : number ≡ length before
  pub memory : view_of_blocks source.table after ≡ (length before, zero_block (laid_out source.table) argv_kind) ∷ view_of_blocks source.table before
  pub count : length after ≡ suc (length before)
  pub known : AreKnown source.table after

-- The state stands for the one in which a run on the input begins, and fits the program. New objects have the numbers in order.
pub record IsStart (source : Source) (input : List ℕ) (running : Running) : Type 0 where
  pub main : Definition
  pub is_main : main_of (meant source) ≡ Some main
  pub same : view_of_running source.table running ≡ start (λ i. i) (meant source) main input
  pub fits : RunningFits source.table running
