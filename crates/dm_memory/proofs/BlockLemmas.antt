-- Objects among those of a run, and what they stand for.
use Rattle.std.proofs.Common.{◌≡◌, ℕ, List, Option, Some, None, option_map, slice_get, Bor, not, refl, sym, ap, ◌∙◌}
use Rattle.std.specs.Option.{MatchOption}
use Rattle.dm_type.specs.Tables.{Table}
use Rattle.dm_meaning.specs.declared.cause.Cause.TheVariants.{Life}
use Rattle.dm_meaning.specs.Causes.{earliest, when, absence_causes}
use Rattle.dm_meaning.specs.Memory.{look_up, look, lives}
use Rattle.dm_memory.specs.declared.blocks.Block.{Block}
use Rattle.dm_value.specs.declared.place.Name.{Name}
use Rattle.dm_value.specs.declared.place.Name.TheVariants.{Numbered}
use Rattle.dm_memory.specs.Blocks.{view_of_block, view_of_blocks, look_up-view}
use Rattle.dm_value.specs.Places.{view_of_name}

-- the object of a number, found among them
pub seen : (table : Table) (blocks items : List Block) (number : ℕ) (result : Option (Bor Block)) → items ≡ blocks
    → MatchOption result (slice_get items number ≡ None) (λ block. slice_get items number ≡ Some block.now)
    → MatchOption result (look_up (view_of_blocks table blocks) number ≡ None) (λ block. look_up (view_of_blocks table blocks) number ≡ Some (view_of_block table block.now))
seen table blocks items number None same found = look_up-view table blocks number ∙ ap (option_map (view_of_block table)) (ap (λ all. slice_get all number) (sym same) ∙ found)
seen table blocks items number (Some block) same found = look_up-view table blocks number ∙ ap (option_map (view_of_block table)) (ap (λ all. slice_get all number) (sym same) ∙ found)

-- an object with a number can't be used where its lifetime has ended
pub numbered-absent : (table : Table) (blocks : List Block) (name : Name) (number : ℕ) → name ≡ Numbered number
    → earliest (when Life (not (lives (look (view_of_blocks table blocks) (view_of_name name))))) ≡ earliest (absence_causes (view_of_blocks table blocks) (view_of_name name))
numbered-absent table blocks name number is = rw is refl
