-- What the operands of a node that may be evaluated may write: no more behind a step of one of them.
use Rattle.std.specs.Prelude.{◌≡◌, refl, ◌⊎◌, ℕ, Bool, true, false, List, [], ◌∷◌, map, Some, if◌then◌else◌}
use Rattle.std.proofs.Common.{sym, subst, inl, inr}
use Rattle.dm_type.specs.CTypes.{CType}
use Rattle.dm_meaning.specs.Among.{IsAmong}
use Rattle.dm_meaning.specs.Values.{At, Value}
use Rattle.dm_meaning.specs.Operations.{of_value, World}
use Rattle.dm_meaning.specs.Running.{Run, done, Runs, no_runs, more_runs, Open, first_open, others_open, Hole, Holes, in_first, in_others, filled_in, all_filled_in, AreOpen}
use Rattle.dm_meaning.specs.Expressions.{Move, goes, calls, fails, exits, lifted, where_open, moves, moves_in}
use Rattle.dm_meaning.proofs.AmongLemmas.{among_left, among_right, among_either, among-map_from}
use Rattle.dm_rewrite.specs.Closed.{MemoryAvoids, May, unseen, only_closed}
use Rattle.dm_rewrite.specs.Effects.{Effect, on_others, Stage, target_effects, effects_of, lock_effects, call_effects, IsNoMore, LeavesNoMore}
use Rattle.dm_rewrite.proofs.ShrinkEffectLemmas.{AllRuns, first_of, run_calm}
use Rattle.dm_central.specs.Agreement.{open_effects}
use Rattle.dm_central.proofs.AgreementLemmas.{Included, no_more_both}
use Rattle.dm_central.proofs.CallLemmas.{effect_inside, filled_no_more}

module _ (stage : Stage) (world : World) (locks : List At) where
  abbrev pub MovesOpen : Open → Runs → Move Runs Holes → Type 0
  MovesOpen opens parts (goes after later) = IsNoMore stage (open_effects stage opens parts) (open_effects stage opens later)
  MovesOpen opens parts (calls g arguments kind holes) =
      ((effect : Effect) → IsAmong effect (call_effects stage.quiet (Some g)) → IsAmong effect (open_effects stage opens parts))
      × ((value : Value) (own : List At) → IsNoMore stage (call_effects stage.quiet (Some g)) (lock_effects own)
      → IsNoMore stage (open_effects stage opens parts) (open_effects stage opens (all_filled_in holes (done kind (of_value value) own))))
  MovesOpen opens parts (fails cause place) = Unit {0}
  MovesOpen opens parts (exits status) = Unit {0}

  abbrev effects_if : Bool → Run → List Effect
  effects_if b run = if b then effects_of stage run else []

  same_no_more : (effects : List Effect) → IsNoMore stage effects effects
  same_no_more effects n free = free

  first_moves : (opens : Open) (first : Run) (rest : Runs) → first_open opens ≡ true → (x : Move Run Hole) → LeavesNoMore stage (effects_of stage first) x
      → MovesOpen opens (more_runs first rest) (lifted (λ run. more_runs run rest) (λ hole. in_first hole rest) x)
  first_moves opens first rest o (goes after later) h =
      no_more_both stage (effects_if (first_open opens) first) (open_effects stage (others_open opens) rest) (effects_if (first_open opens) later) (open_effects stage (others_open opens) rest)
      (subst (λ b. IsNoMore stage (effects_if b first) (effects_if b later)) (sym o) h) (same_no_more (open_effects stage (others_open opens) rest))
  first_moves opens first rest o (calls g arguments kind hole) h = (
    λ effect k. among_left effect (effects_if (first_open opens) first) (open_effects stage (others_open opens) rest) (subst (λ b. IsAmong effect (effects_if b first)) (sym o) (h.0 effect k)),
    λ value own c.
        no_more_both stage (effects_if (first_open opens) first) (open_effects stage (others_open opens) rest) (effects_if (first_open opens) (filled_in hole (done kind (of_value value) own))) (open_effects stage (others_open opens) rest)
        (subst (λ b. IsNoMore stage (effects_if b first) (effects_if b (filled_in hole (done kind (of_value value) own)))) (sym o) (h.1 value own c)) (same_no_more (open_effects stage (others_open opens) rest)),
  )
  first_moves opens first rest o (fails cause place) h = tt
  first_moves opens first rest o (exits status) h = tt

  rest_moves : (opens : Open) (first : Run) (rest : Runs) (x : Move Runs Holes) → MovesOpen (others_open opens) rest x → MovesOpen opens (more_runs first rest) (lifted (more_runs first) (in_others first) x)
  rest_moves opens first rest (goes after later) h =
      no_more_both stage (effects_if (first_open opens) first) (open_effects stage (others_open opens) rest) (effects_if (first_open opens) first) (open_effects stage (others_open opens) later)
      (same_no_more (effects_if (first_open opens) first)) h
  rest_moves opens first rest (calls g arguments kind holes) h = (
    λ effect k. among_right effect (effects_if (first_open opens) first) (open_effects stage (others_open opens) rest) (h.0 effect k),
    λ value own c.
        no_more_both stage (effects_if (first_open opens) first) (open_effects stage (others_open opens) rest) (effects_if (first_open opens) first) (open_effects stage (others_open opens) (all_filled_in holes (done kind (of_value value) own)))
        (same_no_more (effects_if (first_open opens) first)) (h.1 value own c),
  )
  rest_moves opens first rest (fails cause place) h = tt
  rest_moves opens first rest (exits status) h = tt

  module _ (avoid : (n : ℕ) → IsAmong n stage.closed → MemoryAvoids n world.memory) where
    pub open_moves : (may : May) (opens : Open) → (may ≡ unseen → first_open opens ≡ false) → (parts : Runs) → AllRuns stage world locks may parts → (m : Move Runs Holes)
        → IsAmong m (moves_in stage.scene world locks opens parts) → MovesOpen opens parts m
    open_moves may opens shut no_runs h m k = absurd k
    open_moves may opens shut (more_runs first rest) h m k =
        by_either (first_open opens) refl (among_either m _ _ k) (open_moves only_closed (others_open opens) (λ e. absurd (cc)) rest (λ n c. (h n c).1))
      where
        by_either : (b : Bool) → first_open opens ≡ b
            → IsAmong m (where_open b (map (lifted (λ run. more_runs run rest) (λ hole. in_first hole rest)) (moves stage.scene world locks first))) ⊎ IsAmong m (map (lifted (more_runs first) (in_others first)) (moves_in stage.scene world locks (others_open opens) rest))
            → ((x : Move Runs Holes) → IsAmong x (moves_in stage.scene world locks (others_open opens) rest) → MovesOpen (others_open opens) rest x) → MovesOpen opens (more_runs first rest) m
        by_either true o (inl l) later =
            let from = among-map_from (lifted (λ run. more_runs run rest) (λ hole. in_first hole rest)) m _ l in
            subst (MovesOpen opens (more_runs first rest)) (sym from.2)
            (first_moves opens first rest o from.0 (run_calm stage world locks avoid first (first_of stage world locks avoid may (first_open opens) first rest shut o h) from.0 from.1))
        by_either false o (inl l) later = absurd l
        by_either b o (inr l) later =
            let from = among-map_from (lifted (more_runs first) (in_others first)) m _ l in
            subst (MovesOpen opens (more_runs first rest)) (sym from.2) (rest_moves opens first rest from.0 (later from.0 from.1))

  -- ---- parts

  -- what a part may write, the operands may
  pub open_inside : (opens : Open) (holes : Holes) → AreOpen opens holes → (run : Run) → Included (effects_of stage run) (open_effects stage opens (all_filled_in holes run))
  open_inside opens (in_first hole rest) o run effect k =
      among_left effect (effects_if (first_open opens) (filled_in hole run)) (open_effects stage (others_open opens) rest)
      (subst (λ b. IsAmong effect (effects_if b (filled_in hole run))) (sym o.0) (effect_inside stage hole run effect k))
  open_inside opens (in_others first holes) o run effect k =
      among_right effect (effects_if (first_open opens) first) (open_effects stage (others_open opens) (all_filled_in holes run)) (open_inside (others_open opens) holes o run effect k)

  -- a value in the place of a part, as in `filled_no_more`
  pub filled_open : (run : Run) (kind : CType) (value : Value) (own : List At) → target_effects stage.scene.objects run ≡ on_others ∷ [] → IsNoMore stage (effects_of stage run) (lock_effects own)
      → (opens : Open) (holes : Holes) → AreOpen opens holes
      → IsNoMore stage (open_effects stage opens (all_filled_in holes run)) (open_effects stage opens (all_filled_in holes (done kind (of_value value) own)))
  filled_open run kind value own no_name less opens (in_first hole rest) o =
      no_more_both stage (effects_if (first_open opens) (filled_in hole run)) (open_effects stage (others_open opens) rest) (effects_if (first_open opens) (filled_in hole (done kind (of_value value) own))) (open_effects stage (others_open opens) rest)
      (subst (λ b. IsNoMore stage (effects_if b (filled_in hole run)) (effects_if b (filled_in hole (done kind (of_value value) own)))) (sym o.0) (filled_no_more stage run kind value own no_name less hole o.1))
      (same_no_more (open_effects stage (others_open opens) rest))
  filled_open run kind value own no_name less opens (in_others first holes) o =
      no_more_both stage (effects_if (first_open opens) first) (open_effects stage (others_open opens) (all_filled_in holes run)) (effects_if (first_open opens) first)
      (open_effects stage (others_open opens) (all_filled_in holes (done kind (of_value value) own)))
      (same_no_more (effects_if (first_open opens) first)) (filled_open run kind value own no_name less (others_open opens) holes o)
