-- First values that are found before they are stored are those that the definition stores one after the other.
use Rattle.std.proofs.Common.{◌≡◌, ℕ, suc, length, List, [], ◌∷◌, ◌++◌, map, append_assoc, Option, Some, None, option_map, option_to_list, refl, ap, sym, ◌∙◌}
use Rattle.std.proofs.lemmas.List.{map-append}
use Rattle.dm_tree.specs.Trees.{Initialiser}
use Rattle.dm_meaning.specs.Memory.{Block, Memory, changed_block, written}
use Rattle.dm_meaning.specs.Operations.{object_named, whole}
use Rattle.dm_meaning.specs.Programs.{Static}
use Rattle.dm_meaning.specs.Units.{all_initialised, initialised}
use Rattle.dm_meaning.specs.Values as values
use Rattle.dm_program.specs.declared.fixed.Static as fixed
use Rattle.dm_start.specs.declared.scene.Scene.{Scene}
use Rattle.dm_start.specs.declared.storing.Kept.{Kept}
use Rattle.dm_start.specs.Scenes.{memory_in, program_in}
use Rattle.dm_start.specs.Storing.{kept_all, kept_by, kept_one, view_of_kept, with_values}

listed-map : (kept : Option Kept) → map view_of_kept (option_to_list kept) ≡ option_to_list (option_map view_of_kept kept)
listed-map None = refl
listed-map (Some kept) = refl

-- one value stored, and then the others
pub one-stored : (before after all : Memory) (place : values.At) (n : ℕ) (stored given : values.Value) (others : List (ℕ × values.Value))
    → after ≡ written before place stored → place ≡ whole (values.numbered n) → stored ≡ given → with_values ((n, given) ∷ others) before ≡ all → with_values others after ≡ all
one-stored before after all place n stored given others is there same so_far =
    ap (with_values others) (is ∙ (ap (λ at. written before at stored) there ∙ ap (written before (whole (values.numbered n))) same)) ∙ so_far

length-changed : (n : ℕ) (change : Block → Block) (memory : Memory) → length (changed_block n change memory) ≡ length memory
length-changed n change [] = refl
length-changed n change (entry ∷ entries) = ap suc (length-changed n change entries)

-- as many objects as before
pub length-with_values : (kept : List (ℕ × values.Value)) (memory : Memory) → length (with_values kept memory) ≡ length memory
length-with_values [] memory = refl
length-with_values (one ∷ others) memory =
    length-with_values others (written memory (whole (values.numbered one.0)) one.1)
    ∙ length-changed one.0 (λ block. record block { contents = values.with_part [] one.1 block.contents }) memory

module _ (scene : Scene) where
  stored-by : (static : Static) (n : Option ℕ) (initialiser : Option Initialiser) (rest : List (ℕ × values.Value)) (memory : Memory)
      → with_values (kept_by scene static n initialiser ++ rest) memory ≡ with_values rest (initialised (program_in scene) scene.names.now (memory_in scene) static n initialiser memory)
  stored-by static None None rest memory = refl
  stored-by static None (Some initialiser) rest memory = refl
  stored-by static (Some n) None rest memory = refl
  stored-by static (Some n) (Some initialiser) rest memory = refl

  -- ---- the first value of an object

  -- one more first value, if there is one
  pub one-kept : (view : fixed.Static → Static) (all more : List Kept) (kept : Option Kept) (one : fixed.Static) (left rest : List fixed.Static) (whole : List (ℕ × values.Value))
      → left ≡ one ∷ rest → more ≡ all ++ option_to_list kept → option_to_list (option_map view_of_kept kept) ≡ kept_one scene (view one)
      → map view_of_kept all ++ kept_all scene (map view left) ≡ whole → map view_of_kept more ++ kept_all scene (map view rest) ≡ whole
  one-kept view all more kept one left rest whole splits is same so_far =
      ap (λ items. map view_of_kept items ++ kept_all scene (map view rest)) is
      ∙ (ap (λ front. front ++ kept_all scene (map view rest)) (map-append view_of_kept all (option_to_list kept))
      ∙ (append_assoc (map view_of_kept all) (map view_of_kept (option_to_list kept)) (kept_all scene (map view rest))
      ∙ (ap (λ some. map view_of_kept all ++ (some ++ kept_all scene (map view rest))) (listed-map kept ∙ same)
      ∙ (ap (λ items. map view_of_kept all ++ kept_all scene (map view items)) (sym splits) ∙ so_far))))

  -- ---- all of them

  pub stored-all : (statics : List Static) (memory : Memory)
      → with_values (kept_all scene statics) memory ≡ all_initialised (program_in scene) scene.names.now (memory_in scene) statics memory
  stored-all [] memory = refl
  stored-all (static ∷ statics) memory =
      stored-by static (object_named scene.names.now static.declared) static.initialiser (kept_all scene statics) memory
      ∙ stored-all statics (initialised (program_in scene) scene.names.now (memory_in scene) static (object_named scene.names.now static.declared) static.initialiser memory)
