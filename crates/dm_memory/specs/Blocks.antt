-- What the objects of a run stand for.
--     view_of_blocks table blocks      memory, the newest object first
--     look_up-view      the object of a number is the one at that place
use Rattle.std.specs.Prelude.{◌≡◌, ℕ, zero, suc, ◌+◌, ◌<◌, ◌≤◌, List, [], ◌∷◌, Some, None, option_map, slice_get, slice_set, All, if◌then◌else◌}
use Rattle.std.proofs.Common.{refl, ap, ◌∙◌, arith, eq-eqb, ne_eqb}
use Rattle.dm_type.specs.Tables.{Table, IsId, type_of}
use Rattle.dm_meaning.specs.Memory as memory
use Rattle.dm_meaning.specs.Memory.{Memory, look_up}
use Rattle.dm_memory.specs.declared.blocks.Block.{Block}
use Rattle.dm_value.specs.declared.value.Value.{Value}
use Rattle.dm_value.specs.Views.{view_of_value}

abbrev pub view_of_block : Table → Block → memory.Block
view_of_block table block = record {
  kind = type_of table block.kind;
  contents = view_of_value block.contents;
  alive = block.alive;
  writable = block.writable;
}

-- the type of each is one of the table
abbrev pub AreKnown : Table → List Block → Type 0
AreKnown table blocks = All (λ block. IsId table block.kind) blocks

-- another value stands in the object of a number, in place of this one
pub record IsExchanged (before : List Block) (number : ℕ) (contents taken : Value) (after : List Block) : Type 0 where
  pub block : Block
  pub found : slice_get before number ≡ Some block
  pub was : taken ≡ block.contents
  pub now : after ≡ slice_set before number (record block { contents = contents })

-- objects with numbers from n on, in front of older ones
abbrev pub numbered_from : Table → ℕ → List Block → Memory → Memory
numbered_from table n [] older = older
numbered_from table n (block ∷ blocks) older = numbered_from table (suc n) blocks ((n, view_of_block table block) ∷ older)

abbrev pub view_of_blocks : Table → List Block → Memory
view_of_blocks table blocks = numbered_from table 0 blocks []

-- ---- the object of a number

-- newer objects don't hide one with a smaller number
older-up : (table : Table) (m n : ℕ) (blocks : List Block) (older : Memory) → n < m → look_up (numbered_from table m blocks older) n ≡ look_up older n
older-up table m n [] older less = refl
older-up table m n (block ∷ blocks) older less =
    older-up table (suc m) n blocks ((m, view_of_block table block) ∷ older) (omega (arith, less))
    ∙ ap (λ same. if same then Some (view_of_block table block) else look_up older n) (ne_eqb m n (λ e. omega (arith, less, e)))

numbered-up : (table : Table) (m n k : ℕ) (blocks : List Block) (older : Memory) → n ≡ m + k → ((j : ℕ) → m ≤ j → look_up older j ≡ None)
    → look_up (numbered_from table m blocks older) n ≡ option_map (view_of_block table) (slice_get blocks k)
numbered-up table m n k [] older is none = none n (omega (arith, is))
numbered-up table m n zero (block ∷ blocks) older is none =
    older-up table (suc m) n blocks ((m, view_of_block table block) ∷ older) (omega (arith, is))
    ∙ ap (λ same. if same then Some (view_of_block table block) else look_up older n) (eq-eqb m n (omega (arith, is)))
numbered-up table m n (suc k) (block ∷ blocks) older is none =
    numbered-up table (suc m) n k blocks ((m, view_of_block table block) ∷ older) (omega (arith, is))
    (λ j later. ap (λ same. if same then Some (view_of_block table block) else look_up older j) (ne_eqb m j (λ e. omega (arith, later, e))) ∙ none j (omega (arith, later)))

-- the object of a number is the one at that place
pub look_up-view : (table : Table) (blocks : List Block) (n : ℕ) → look_up (view_of_blocks table blocks) n ≡ option_map (view_of_block table) (slice_get blocks n)
look_up-view table blocks n = numbered-up table 0 n n blocks [] (omega arith) (λ j later. refl)
