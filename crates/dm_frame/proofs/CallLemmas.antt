-- New objects for the parameters of a call, one after the other.
use Rattle.std.proofs.Common.{◌≡◌, ℕ, suc, ◌+◌, List, [], ◌∷◌, ◌++◌, length, length-append, Option, Some, None, refl, ap, sym, arith, ◌∙◌}
use Rattle.dm_type.specs.Tables.{Table}
use Rattle.dm_memory.proofs.ChangedLemmas.{more-view}
use Rattle.dm_memory.specs.declared.blocks.Block.{Block}
use Rattle.dm_memory.specs.Blocks.{view_of_block, view_of_blocks, AreKnown}
use Rattle.dm_meaning.specs.Choices.{in_order}
use Rattle.dm_meaning.specs.Memory.{Memory, new_block}
use Rattle.dm_meaning.specs.Operations.{Objects}
use Rattle.dm_meaning.specs.Programs.{Program, layout}
use Rattle.dm_meaning.specs.Statements.{made_from, named_from, type_declared}
use Rattle.dm_meaning.specs.Steps.{given_from}
use Rattle.dm_meaning.specs.Values.{Value}
use Rattle.dm_frame.specs.Entering.{named_on, IsEntered}
use Rattle.dm_frame.proofs.EnterLemmas.{length-view, made-order, named-order}
use Rattle.dm_frame.specs.Calling.{behind_first, first_of, given_block, given_on, IsGiven}

pub none-given : (program : Program) (arguments : List Value) (objects : Objects) (blocks : List Block) → AreKnown program.table blocks → IsGiven program [] arguments objects blocks objects blocks
none-given program arguments objects blocks known = record { names = refl; memory = refl; count = omega arith; known = known }

-- the first parameter, and then the others
pub one-given : (program : Program) (d : ℕ) (ds : List ℕ) (arguments others : List Value) (block : Block) (objects between named : Objects) (blocks more made : List Block)
    → view_of_block program.table block ≡ given_block program d (first_of arguments) → between ≡ (d, length blocks) ∷ objects → more ≡ blocks ++ block ∷ [] → others ≡ behind_first arguments
    → IsGiven program ds others between more named made → IsGiven program (d ∷ ds) arguments objects blocks named made
one-given program d ds arguments others block objects between named blocks more made seen names makes behind later =
    let l : length (blocks ++ block ∷ []) ≡ length blocks + 1 = length-append blocks (block ∷ []) in
    let count : length more ≡ suc (length blocks) = ap length makes ∙ omega (arith, l) in
    let memory : view_of_blocks program.table more ≡ (length blocks, given_block program d (first_of arguments)) ∷ view_of_blocks program.table blocks =
    ap (view_of_blocks program.table) makes ∙ (more-view program.table blocks block ∙ ap (λ one. (length blocks, one) ∷ view_of_blocks program.table blocks) seen) in
    let total = later.count in
    record {
      names = later.names ∙ (ap (λ n. named_on n ds between) count ∙ ap (named_on (suc (length blocks)) ds) names);
      memory = later.memory
          ∙ (ap (λ n. given_on program n ds others (view_of_blocks program.table more)) count
          ∙ (ap (λ values. given_on program (suc (length blocks)) ds values (view_of_blocks program.table more)) behind
          ∙ ap (given_on program (suc (length blocks)) ds (behind_first arguments)) memory));
      count = omega (arith, count, total);
      known = later.known;
    }

-- the definition gives the same, where its names are in order
pub given-order : (program : Program) (memory : Memory) (i n : ℕ) (ds : List ℕ) (arguments : List Value) (after : Memory) → length memory + i ≡ n
    → given_from program (in_order memory) i ds arguments after ≡ given_on program n ds arguments after
given-order program memory i n [] arguments after e = refl
given-order program memory i n (d ∷ ds) [] after e =
    given-order program memory (suc i) (suc n) ds [] ((length memory + i, new_block (layout program) (type_declared program d)) ∷ after) (omega (arith, e))
    ∙ ap (λ k. given_on program (suc n) ds [] ((k, new_block (layout program) (type_declared program d)) ∷ after)) e
given-order program memory i n (d ∷ ds) (value ∷ values) after e =
    given-order program memory (suc i) (suc n) ds values ((length memory + i, record (new_block (layout program) (type_declared program d)) { contents = value }) ∷ after) (omega (arith, e))
    ∙ ap (λ k. given_on program (suc n) ds values ((k, record (new_block (layout program) (type_declared program d)) { contents = value }) ∷ after)) e

-- the objects of a call: those of the parameters, and those that the body declares
pub opened-so : (program : Program) (parameters ds : List ℕ) (arguments : List Value) (blocks between made : List Block) (given named : Objects)
    → IsGiven program parameters arguments [] blocks given between → IsEntered program ds given between named made
    → let memory = view_of_blocks program.table blocks in
    (named_from (in_order memory) (length parameters) ds (named_from (in_order memory) 0 parameters []) ≡ named)
    × (made_from program (in_order memory) (length parameters) ds (given_from program (in_order memory) 0 parameters arguments memory) ≡ view_of_blocks program.table made)
opened-so program parameters ds arguments blocks between made given named first second =
    let memory = view_of_blocks program.table blocks in
    let l = length-view program.table blocks in
    let start : length memory + 0 ≡ length blocks = omega (arith, l) in
    let count = first.count in
    let behind : length memory + length parameters ≡ length between = omega (arith, l, count) in (
      ap (named_from (in_order memory) (length parameters) ds) (named-order memory 0 (length blocks) parameters [] start ∙ sym first.names)
          ∙ (named-order memory (length parameters) (length between) ds given behind ∙ sym second.names),
      ap (made_from program (in_order memory) (length parameters) ds) (given-order program memory 0 (length blocks) parameters arguments memory start ∙ sym first.memory)
          ∙ (made-order program memory (length parameters) (length between) ds (view_of_blocks program.table between) behind ∙ sym second.memory),
    )
