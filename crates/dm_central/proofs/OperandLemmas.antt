-- The operands of a node when one of them takes a step: the others still agree, in the world that it leaves and beside what it may still write.
use Rattle.std.specs.Prelude.{◌≡◌, refl, ◌⊎◌, Bool, true, false, List, [], ◌++◌, map, if◌then◌else◌}
use Rattle.std.proofs.Common.{sym, subst, inl, inr}
use Rattle.dm_meaning.specs.Among.{IsAmong}
use Rattle.dm_meaning.specs.Values.{At}
use Rattle.dm_meaning.specs.Operations.{World}
use Rattle.dm_meaning.specs.Running.{Hole, Holes, Run, Runs, no_runs, more_runs, Open, first_open, others_open, in_first, in_others}
use Rattle.dm_meaning.specs.Expressions.{Move, goes, calls, fails, exits, lifted, where_open, moves, moves_in}
use Rattle.dm_meaning.specs.Called.{Called}
use Rattle.dm_meaning.proofs.AmongLemmas.{among_left, among_right, among_either, among-map_from}
use Rattle.dm_rewrite.specs.Effects.{Effect, Stage, effects_of, ChangesOnly, IsNoMore}
use Rattle.dm_rewrite.proofs.EffectLemmas.{MoveWrites, MovesWrite, writes_more, move_writes}
use Rattle.dm_central.specs.Agreement.{Mode, open_effects, beside_first, before_rest, IsReading, AreUnbegun, IfOpen, RunAgrees, RunsAgree}
use Rattle.dm_central.proofs.AgreementLemmas.{Included, changes_more, run_kept, no_more_both, run_beside_less, runs_beside_less}

-- ---- operands that may be evaluated write only what they may

module _ (stage : Stage) (world : World) (locks : List At) where
  first_effects : (first : Run) (rest : Runs) (opens : Open) → first_open opens ≡ true → (m : Move Run Hole) → MoveWrites world (effects_of stage first) m
      → MovesWrite world (open_effects stage opens (more_runs first rest)) (lifted (λ run. more_runs run rest) (λ hole. in_first hole rest) m)
  first_effects first rest opens o (goes after run) h =
      writes_more world after (effects_of stage first) (open_effects stage opens (more_runs first rest))
      (λ effect k. subst (λ b. IsAmong effect ((if b then effects_of stage first else []) ++ open_effects stage (others_open opens) rest)) (sym o) (among_left effect (effects_of stage first) (open_effects stage (others_open opens) rest) k)) h
  first_effects first rest opens o (calls f arguments kind hole) h = tt
  first_effects first rest opens o (fails cause place) h = tt
  first_effects first rest opens o (exits status) h = tt

  rest_effects : (first : Run) (rest : Runs) (opens : Open) (m : Move Runs Holes) → MovesWrite world (open_effects stage (others_open opens) rest) m → MovesWrite world (open_effects stage opens (more_runs first rest)) (lifted (more_runs first) (in_others first) m)
  rest_effects first rest opens (goes after later) h =
      writes_more world after (open_effects stage (others_open opens) rest) (open_effects stage opens (more_runs first rest)) (λ effect k. among_right effect (if first_open opens then effects_of stage first else []) (open_effects stage (others_open opens) rest) k) h
  rest_effects first rest opens (calls f arguments kind holes) h = tt
  rest_effects first rest opens (fails cause place) h = tt
  rest_effects first rest opens (exits status) h = tt

  pub open_moves_write : (opens : Open) (parts : Runs) (m : Move Runs Holes) → IsAmong m (moves_in stage.scene world locks opens parts) → MovesWrite world (open_effects stage opens parts) m
  open_moves_write opens no_runs m k = absurd k
  open_moves_write opens (more_runs first rest) m k = by_either (first_open opens) refl (among_either m _ _ k) (open_moves_write (others_open opens) rest)
    where
      by_either : (b : Bool) → first_open opens ≡ b
          → IsAmong m (where_open b (map (lifted (λ run. more_runs run rest) (λ hole. in_first hole rest)) (moves stage.scene world locks first))) ⊎ IsAmong m (map (lifted (more_runs first) (in_others first)) (moves_in stage.scene world locks (others_open opens) rest))
          → ((x : Move Runs Holes) → IsAmong x (moves_in stage.scene world locks (others_open opens) rest) → MovesWrite world (open_effects stage (others_open opens) rest) x) → MovesWrite world (open_effects stage opens (more_runs first rest)) m
      by_either true o (inl l) later =
          let from = among-map_from (lifted (λ run. more_runs run rest) (λ hole. in_first hole rest)) m _ l in
          subst (MovesWrite world (open_effects stage opens (more_runs first rest))) (sym from.2) (first_effects first rest opens o from.0 (move_writes stage world locks first from.0 from.1))
      by_either false o (inl l) later = absurd l
      by_either b o (inr l) later =
          let from = among-map_from (lifted (more_runs first) (in_others first)) m _ l in
          subst (MovesWrite world (open_effects stage opens (more_runs first rest))) (sym from.2) (rest_effects first rest opens from.0 (later from.0 from.1))

-- ---- the others

module _ (change : Called) (stage : Stage) (mode : Mode) (world after : World) where
  abbrev PartAt : World → List Effect → List Effect → Open → Run → Run → Runs → Type 0
  PartAt at before beside opens first other others =
      IfOpen (first_open opens) (RunAgrees change stage mode at (beside_first stage opens before beside others) first other ⊎ IsReading change mode first other) (AreUnbegun change stage mode beside first other)

  -- what stands before an operand may change memory: those that may be evaluated are beside it, the others aren't begun
  part_kept : (before beside moved : List Effect) (opens : Open) (first other : Run) (others : Runs) → ChangesOnly stage moved world after
      → (first_open opens ≡ true → Included moved (beside_first stage opens before beside others)) → PartAt world before beside opens first other others → PartAt after before beside opens first other others
  part_kept before beside moved opens first other others k within h = by_open (first_open opens) within h
    where
      by_open : (b : Bool) → (b ≡ true → Included moved (beside_first stage opens before beside others))
          → IfOpen b (RunAgrees change stage mode world (beside_first stage opens before beside others) first other ⊎ IsReading change mode first other) (AreUnbegun change stage mode beside first other)
          → IfOpen b (RunAgrees change stage mode after (beside_first stage opens before beside others) first other ⊎ IsReading change mode first other) (AreUnbegun change stage mode beside first other)
      by_open true w (inl x) = inl (run_kept change stage mode world after (beside_first stage opens before beside others) first other (changes_more stage moved (beside_first stage opens before beside others) world after (w refl) k) x)
      by_open true w (inr x) = inr x
      by_open false w x = x

  before_within : (opens : Open) (before beside : List Effect) (others : Runs) → first_open opens ≡ true → Included before (beside_first stage opens before beside others)
  before_within opens before beside others o effect l =
      subst (λ b. IsAmong effect (if b then before ++ (open_effects stage (others_open opens) others ++ beside) else beside)) (sym o) (among_left effect before (open_effects stage (others_open opens) others ++ beside) l)

  before_later : (opens : Open) (before : List Effect) (other : Run) → Included before (before_rest stage opens before other)
  before_later opens before other effect l = by_bool (first_open opens)
    where
      by_bool : (b : Bool) → IsAmong effect (if b then before ++ effects_of stage other else before)
      by_bool true = among_left effect before (effects_of stage other) l
      by_bool false = l

  runs_kept_before : (before beside : List Effect) (opens : Open) (parts others : Runs) → ChangesOnly stage before world after → RunsAgree change stage mode world before beside opens parts others → RunsAgree change stage mode after before beside opens parts others
  runs_kept_before before beside opens no_runs no_runs k h = tt
  runs_kept_before before beside opens no_runs (more_runs other others) k h = absurd h
  runs_kept_before before beside opens (more_runs first rest) no_runs k h = absurd h
  runs_kept_before before beside opens (more_runs first rest) (more_runs other others) k h = (
    part_kept before beside before opens first other others k (λ o. before_within opens before beside others o) h.0,
    runs_kept_before (before_rest stage opens before other) beside (others_open opens) rest others (changes_more stage before (before_rest stage opens before other) world after (before_later opens before other) k) h.1,
  )

  no_more_later : (opens : Open) (before : List Effect) (other later : Run) → IsNoMore stage (effects_of stage other) (effects_of stage later) → IsNoMore stage (before_rest stage opens before other) (before_rest stage opens before later)
  no_more_later opens before other later c = by_bool (first_open opens)
    where
      by_bool : (b : Bool) → IsNoMore stage (if b then before ++ effects_of stage other else before) (if b then before ++ effects_of stage later else before)
      by_bool true = no_more_both stage before (effects_of stage other) before (effects_of stage later) (λ n free. free) c
      by_bool false = λ n free. free

  -- The first operand, which may be evaluated, takes a step.
  pub first_moved : (before beside : List Effect) (opens : Open) (first : Run) (rest : Runs) (other : Run) (others : Runs) (first_later other_later : Run) → first_open opens ≡ true
      → RunsAgree change stage mode world before beside opens (more_runs first rest) (more_runs other others) → ChangesOnly stage (effects_of stage other) world after → IsNoMore stage (effects_of stage other) (effects_of stage other_later)
      → RunAgrees change stage mode after (beside_first stage opens before beside others) first_later other_later ⊎ IsReading change mode first_later other_later
      → RunsAgree change stage mode after before beside opens (more_runs first_later rest) (more_runs other_later others)
  first_moved before beside opens first rest other others first_later other_later o h k c now = (
    subst (λ b. IfOpen b (RunAgrees change stage mode after (beside_first stage opens before beside others) first_later other_later ⊎ IsReading change mode first_later other_later) (AreUnbegun change stage mode beside first_later other_later)) (sym o) now,
    runs_beside_less change stage mode after (before_rest stage opens before other) (before_rest stage opens before other_later) beside beside (no_more_later opens before other other_later c) (λ n free. free) (others_open opens) rest others
        (runs_kept_before (before_rest stage opens before other) beside (others_open opens) rest others
        (changes_more stage (effects_of stage other) (before_rest stage opens before other) world after
        (λ effect l. subst (λ b. IsAmong effect (if b then before ++ effects_of stage other else before)) (sym o) (among_right effect before (effects_of stage other) l)) k) h.1),
  )

  -- Another one does.
  pub rest_moved : (before beside : List Effect) (opens : Open) (first : Run) (rest : Runs) (other : Run) (others rest_later others_later : Runs)
      → RunsAgree change stage mode world before beside opens (more_runs first rest) (more_runs other others) → ChangesOnly stage (open_effects stage (others_open opens) others) world after
      → IsNoMore stage (open_effects stage (others_open opens) others) (open_effects stage (others_open opens) others_later)
      → RunsAgree change stage mode after (before_rest stage opens before other) beside (others_open opens) rest_later others_later
      → RunsAgree change stage mode after before beside opens (more_runs first rest_later) (more_runs other others_later)
  rest_moved before beside opens first rest other others rest_later others_later h k c now = (
    by_open (first_open opens) (λ n free. free) h.0,
    now,
  )
    where
      within : Included (open_effects stage (others_open opens) others) (before ++ (open_effects stage (others_open opens) others ++ beside))
      within effect l = among_right effect before (open_effects stage (others_open opens) others ++ beside) (among_left effect (open_effects stage (others_open opens) others) beside l)

      calmer : IsNoMore stage (before ++ (open_effects stage (others_open opens) others ++ beside)) (before ++ (open_effects stage (others_open opens) others_later ++ beside))
      calmer = no_more_both stage before (open_effects stage (others_open opens) others ++ beside) before (open_effects stage (others_open opens) others_later ++ beside) (λ n free. free) (no_more_both stage (open_effects stage (others_open opens) others) beside (open_effects stage (others_open opens) others_later) beside c (λ n free. free))

      by_open : (b : Bool) → IsNoMore stage beside beside
          → IfOpen b (RunAgrees change stage mode world (if b then before ++ (open_effects stage (others_open opens) others ++ beside) else beside) first other ⊎ IsReading change mode first other) (AreUnbegun change stage mode beside first other)
          → IfOpen b (RunAgrees change stage mode after (if b then before ++ (open_effects stage (others_open opens) others_later ++ beside) else beside) first other ⊎ IsReading change mode first other) (AreUnbegun change stage mode beside first other)
      by_open true u (inl x) =
          inl (run_beside_less change stage mode after (before ++ (open_effects stage (others_open opens) others ++ beside)) (before ++ (open_effects stage (others_open opens) others_later ++ beside)) calmer first other
          (run_kept change stage mode world after (before ++ (open_effects stage (others_open opens) others ++ beside)) first other
          (changes_more stage (open_effects stage (others_open opens) others) (before ++ (open_effects stage (others_open opens) others ++ beside)) world after within k) x))
      by_open true u (inr x) = inr x
      by_open false u x = x
