-- The state at the beginning of a run.
use Rattle.std.proofs.Common.{◌≡◌, ℕ, suc, ◌+◌, List, [], ◌∷◌, length, refl, ap, sym, zero-add, ◌∙◌}
use Rattle.dm_layout.specs.LaidOut.{laid_out}
use Rattle.dm_memory.specs.declared.blocks.Block.{Block}
use Rattle.dm_memory.specs.Blocks.{view_of_blocks, AreKnown}
use Rattle.dm_meaning.specs.Choices.{in_order}
use Rattle.dm_meaning.specs.Machines.{going}
use Rattle.dm_meaning.specs.Memory.{Memory}
use Rattle.dm_meaning.specs.Operations.{Objects}
use Rattle.dm_meaning.specs.Programs.{Definition, Program}
use Rattle.dm_meaning.specs.Programs as programs
use Rattle.dm_meaning.specs.States as states
use Rattle.dm_meaning.specs.Steps.{opened_frame, opened_memory}
use Rattle.dm_meaning.specs.Units.{all_initialised, argv_kind, arguments_for, start, static_numbers, statics_memory, zeroed_from}
use Rattle.dm_meaning.specs.Values as values
use Rattle.dm_program.specs.Sources.{Source, meant}
use Rattle.dm_frame.proofs.EnterLemmas.{length-view}
use Rattle.dm_start.specs.declared.scene.Scene.{Scene}
use Rattle.dm_start.specs.Beginnings.{static_names, HasStatics, IsArgv}
use Rattle.dm_start.specs.Making.{numbers_of, zero_block, IsMade}
use Rattle.dm_start.specs.Scenes.{memory_in, program_in, types_in}
use Rattle.dm_start.specs.Storing.{kept_all, with_values}
use Rattle.dm_start.proofs.StoringLemmas.{length-with_values, stored-all}

-- as many numbers as objects
pub count-numbers : (statics : List programs.Static) → length (static_numbers statics) ≡ length statics
count-numbers [] = refl
count-numbers (one ∷ others) = ap suc (count-numbers others)

-- objects that are made and have the values that are found for them are those of the definition
pub has-statics : (scene : Scene) (found : List (ℕ × values.Value)) (stored : List Block) → found ≡ kept_all scene (program_in scene).statics
    → IsMade (program_in scene) (numbers_of (program_in scene)) [] [] scene.names.now scene.blocks.now
    → view_of_blocks (types_in scene) stored ≡ with_values found (memory_in scene) → AreKnown (types_in scene) stored
    → HasStatics scene.program.now scene.names.now stored
has-statics scene found stored is made stores known =
    let program = program_in scene in
    let zeroed : Memory → Objects → Memory = λ memory names. all_initialised program names memory program.statics memory in
    record {
      names = made.names;
      memory = stores
          ∙ (ap (λ all. with_values all (memory_in scene)) is
          ∙ (stored-all scene program.statics (memory_in scene)
          ∙ (ap (λ memory. zeroed memory scene.names.now) made.memory
          ∙ ap (zeroed (zeroed_from program (λ i. i) 0 (numbers_of program) [])) made.names)));
      count = sym (length-view (types_in scene) stored)
          ∙ (ap length stores
          ∙ (length-with_values found (memory_in scene)
          ∙ (length-view (types_in scene) scene.blocks.now
          ∙ (made.count ∙ (zero-add (length (numbers_of program)) ∙ count-numbers program.statics)))));
      known = known;
    }

abbrev state_of : states.Frame → Objects → Memory → List ℕ → states.State
state_of frame statics memory input = record {
  standing = going;
  frame = frame;
  callers = [];
  statics = statics;
  world = record { memory = memory; input = input; output = [] };
}

-- the frame of `main` in front of these objects
pub started : (source : Source) (input : List ℕ) (main : Definition) (frame : states.Frame) (named : Objects) (number : ℕ) (statics argv : List Block) (memory : Memory) (arguments : List values.Value)
    → HasStatics source named statics → IsArgv source statics number argv → arguments ≡ arguments_for number main.parameters
    → frame ≡ opened_frame (meant source) (in_order (view_of_blocks source.table argv)) main
    → memory ≡ opened_memory (meant source) (in_order (view_of_blocks source.table argv)) main arguments (view_of_blocks source.table argv)
    → state_of frame named memory input ≡ start (λ i. i) (meant source) main input
started source input main frame named number statics argv memory arguments has one given framed made =
    let program = meant source in
    let table = source.table in
    let n = length program.statics in
    let before = view_of_blocks table argv in
    let count : length before ≡ suc n = length-view table argv ∙ (one.count ∙ ap suc has.count) in
    let from : ℕ → ℕ → ℕ = λ k i. k + i in
    let order : in_order before ≡ (λ i. suc n + i) = ap from count in
    let front : before ≡ (n, zero_block (laid_out table) argv_kind) ∷ statics_memory program (λ i. i) (static_names source) =
    one.memory
    ∙ (ap (λ k. (k, zero_block (laid_out table) argv_kind) ∷ view_of_blocks table statics) has.count
    ∙ ap (λ all. (n, zero_block (laid_out table) argv_kind) ∷ all) has.memory) in
    let arguments_are : arguments ≡ arguments_for n main.parameters = given ∙ ap (λ k. arguments_for k main.parameters) (one.next ∙ has.count) in
    ap (λ f. state_of f named memory input) (framed ∙ ap (λ names. opened_frame program names main) order)
    ∙ (ap (λ objects. state_of (opened_frame program (λ i. suc n + i) main) objects memory input) has.names
    ∙ ap (λ all. state_of (opened_frame program (λ i. suc n + i) main) (static_names source) all input)
    (made
    ∙ (ap (λ names. opened_memory program names main arguments before) order
    ∙ (ap (λ all. opened_memory program (λ i. suc n + i) main arguments all) front
    ∙ ap (λ values. opened_memory program (λ i. suc n + i) main values ((n, zero_block (laid_out table) argv_kind) ∷ statics_memory program (λ i. i) (static_names source))) arguments_are))))
