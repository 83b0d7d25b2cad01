-- The new numbers of old declarations, and what is told of them.
--     moved_injective, moved_apart      each has a number of its own, and none of what is put in
--     entry_told      it has the facts of its entry at its new number
use Rattle.std.specs.Prelude.{◌≡◌, refl, ℕ, List, map, Option, Some, None, option_map, slice_get}
use Rattle.std.proofs.Common.{ap, sym, ◌∙◌, arith}
use Rattle.std.proofs.lemmas.Bool.Decides.{nat_tests}
use Rattle.dm_type.specs.CTypes.{CType}
use Rattle.dm_tree.specs.declared.unit.Linkage.{Linkage}
use Rattle.dm_tree.specs.declared.unit.Sort.{Sort}
use Rattle.dm_tree.specs.Units.{Declaration}
use Rattle.dm_meaning.specs.Programs.{declaration_at}
use Rattle.dm_meaning.specs.Replaced.{facts_of}
use Rattle.dm_align.specs.Units.{Insertion, IsPut, moved, other_entries, entry_of}
use Rattle.dm_align.proofs.NumberLemmas.{entry-stays}

pub moved_injective : (put : Option Insertion) (c d : ℕ) → moved put c ≡ moved put d → c ≡ d
moved_injective None c d e = e
moved_injective (Some put) c d e = grind (arith, nat_tests, e)

pub moved_apart : (put : Insertion) (d : ℕ) → IsPut put (moved (Some put) d) → ⊥
moved_apart put d h = grind (arith, nat_tests, h)

-- the facts in what two entries have in common
facts_in : List ℕ × Sort × CType × Linkage → List ℕ × Sort × CType
facts_in common = (common.0, common.1, common.2)

common_facts : (found : Option Declaration) → option_map facts_of found ≡ option_map facts_in (option_map entry_of found)
unfolding facts_in
common_facts None = refl
common_facts (Some entry) = refl

pub entry_told : (put : Option Insertion) (new old : List Declaration) → map entry_of (other_entries put new) ≡ map entry_of old
    → (d : ℕ) → option_map facts_of (declaration_at new (moved put d)) ≡ option_map facts_of (declaration_at old d)
entry_told put new old same d =
    common_facts (slice_get new (moved put d)) ∙ (ap (option_map facts_in) (entry-stays put new old same d) ∙ sym (common_facts (slice_get old d)))
