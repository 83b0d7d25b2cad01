-- New objects, one after the other.
use Rattle.std.proofs.Common.{◌≡◌, ℕ, suc, List, [], ◌∷◌, length, map, Option, Some, None, Bor, refl, ap, arith, ◌∙◌}
use Rattle.dm_type.specs.Tables.{Table}
use Rattle.dm_tree.specs.declared.tree.Initial.{Initial}
use Rattle.dm_memory.specs.declared.blocks.Block.{Block}
use Rattle.dm_memory.specs.Blocks.{view_of_blocks, AreKnown}
use Rattle.dm_meaning.specs.Operations.{Objects}
use Rattle.dm_meaning.specs.Programs.{Program}
use Rattle.dm_meaning.specs.Statements.{named_from}
use Rattle.dm_meaning.specs.Units.{static_numbers, zeroed_from}
use Rattle.dm_program.specs.declared.fixed.Static.{Static}
use Rattle.dm_program.specs.Statics.{view_of_static}
use Rattle.dm_start.specs.Making.{IsMade}

pub none-made : (program : Program) (objects : Objects) (blocks : List Block) → AreKnown program.table blocks → IsMade program [] objects blocks objects blocks
none-made program objects blocks known = record { names = refl; memory = refl; count = omega arith; known = known }

-- one object, and then the others
pub more-made : (program : Program) (d : ℕ) (ds : List ℕ) (objects between named : Objects) (blocks more made : List Block)
    → IsMade program (d ∷ []) objects blocks between more → IsMade program ds between more named made → IsMade program (d ∷ ds) objects blocks named made
more-made program d ds objects between named blocks more made first later =
    let count : length more ≡ suc (length blocks) = first.count ∙ omega arith in
    record {
      names = later.names
          ∙ (ap (λ n. named_from (λ i. i) n ds between) count ∙ ap (named_from (λ i. i) (suc (length blocks)) ds) first.names);
      memory = later.memory
          ∙ (ap (λ n. zeroed_from program (λ i. i) n ds (view_of_blocks program.table more)) count
          ∙ ap (zeroed_from program (λ i. i) (suc (length blocks)) ds) first.memory);
      count = omega (arith, later.count, count);
      known = later.known;
    }

-- ---- declarations

declared-by : (table : Table) (one : Static) (initial : Option (Bor Initial)) → one.initial ≡ initial → (view_of_static table one).declared ≡ one.declared
declared-by table one None is = ap (λ (given : Option (Bor Initial)). (view_of_static table (record { declared = one.declared; initial = given })).declared) is
declared-by table one (Some initial) is = ap (λ (given : Option (Bor Initial)). (view_of_static table (record { declared = one.declared; initial = given })).declared) is

pub static-declared : (table : Table) (one : Static) → (view_of_static table one).declared ≡ one.declared
static-declared table one = declared-by table one one.initial refl

pub statics-declared : (table : Table) (all : List Static) → static_numbers (map (view_of_static table) all) ≡ map (λ (one : Static). one.declared) all
statics-declared table [] = refl
statics-declared table (one ∷ others) =
    ap (λ d. d ∷ static_numbers (map (view_of_static table) others)) (static-declared table one)
    ∙ ap (λ ds. one.declared ∷ ds) (statics-declared table others)
