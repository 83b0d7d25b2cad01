-- The parts of a tree that only names closed objects: they do too.
use Rattle.std.specs.Prelude.{◌≡◌, ◌⊎◌, ℕ, false, List, [], ◌∷◌}
use Rattle.std.proofs.Common.{ap, sym, ◌∙◌, inl, inr}
use Rattle.dm_type.specs.CTypes.{CType}
use Rattle.dm_meaning.specs.Among.{IsAmong}
use Rattle.dm_meaning.specs.Operations.{of_value, World}
use Rattle.dm_meaning.specs.Running.{Run, done, Hole, here, within, Holes, in_first, in_others, filled_in, all_filled_in, IsOpen, AreOpen, Open, first_open, others_open, open_parts}
use Rattle.dm_meaning.specs.Values.{At, Value}
use Rattle.dm_rewrite.specs.Closed.{Avoids, MemoryAvoids, May, only_closed, unseen, names_first, IsClosedIn, IsPlace}
use Rattle.dm_rewrite.specs.Effects.{on_object, on_others, Stage, by_number, target_effects}
use Rattle.dm_rewrite.proofs.ClosedRunLemmas.{unseen_shut}
use Rattle.dm_rewrite.proofs.ShrinkEffectLemmas.{AllFirst, AllRuns, all_parts, first_of}

module _ (stage : Stage) (world : World) (locks : List At) (clear : (n : ℕ) → IsAmong n stage.closed → MemoryAvoids n world.memory) where
  mutual
    pub part_first : (hole : Hole) (run : Run) → IsOpen hole → AllFirst stage world locks (filled_in hole run) → AllFirst stage world locks run
    part_first here run o h = h
    part_first (within doing kind place holes) run o h =
        part_first_in (names_first doing) (open_parts doing) (unseen_shut doing) holes run o (all_parts stage world locks doing kind place (all_filled_in holes run) h)

    pub part_first_in : (may : May) (opens : Open) → (may ≡ unseen → first_open opens ≡ false) → (holes : Holes) (run : Run) → AreOpen opens holes → AllRuns stage world locks may (all_filled_in holes run) → AllFirst stage world locks run
    part_first_in may opens shut (in_first hole rest) run o h =
        part_first hole run o.1 (first_of stage world locks clear may (first_open opens) (filled_in hole run) rest shut o.0 h)
    part_first_in may opens shut (in_others first holes) run o h =
        part_first_in only_closed (others_open opens) (λ e. absurd (cc)) holes run o (λ n c. (h n c).1)

-- such a result is no pointer to a closed object
pub value_avoids : (stage : Stage) (world : World) (locks : List At) (kind : CType) (value : Value) (own : List At) → AllFirst stage world locks (done kind (of_value value) own) → (n : ℕ) → IsAmong n stage.closed → Avoids n value
value_avoids stage world locks kind value own h n c = by_either (h n c)
  where
    by_either : IsClosedIn n stage.scene.objects (done kind (of_value value) own) ⊎ IsPlace n stage.scene.objects (done kind (of_value value) own) → Avoids n value
    by_either (inl k) = k
    by_either (inr (inl (d, other, place, e, f))) = absurd (cc)
    by_either (inr (inr (other, locked, e))) = absurd (cc)

-- a tree that names no object is closed, and no place
pub no_place_closed : (stage : Stage) (run : Run) → target_effects stage.scene.objects run ≡ on_others ∷ [] → (n : ℕ) → IsClosedIn n stage.scene.objects run ⊎ IsPlace n stage.scene.objects run → IsClosedIn n stage.scene.objects run
no_place_closed stage run e n (inl h) = h
no_place_closed stage run e n (inr (inl h)) =
    absurd (not_named (sym (ap by_number h.4) ∙ sym (ap (target_effects stage.scene.objects) h.3) ∙ e))
  where
    not_named : on_object n ∷ [] ≡ on_others ∷ [] → ⊥
    not_named f = cc
no_place_closed stage run e n (inr (inr h)) = absurd (not_named (sym (ap (target_effects stage.scene.objects) h.2) ∙ e))
  where
    not_named : on_object n ∷ [] ≡ on_others ∷ [] → ⊥
    not_named f = cc
