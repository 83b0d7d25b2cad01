-- A step of the arguments of a call of the added function that isn't evaluated yet: met by a step of the old program, or by none, or the old
-- program can go wrong; and where the added function is called in an argument, the old program goes on in the expression, or stands still.
use Rattle.std.specs.Prelude.{◌≡◌, refl, ◌⊎◌, ℕ, suc, true, false, List, [], ◌∷◌, ◌++◌, length, Option, Some, None}
use Rattle.std.proofs.Common.{true≢false, ap, sym, ◌∙◌, subst, inl, inr}
use Rattle.dm_token.specs.declared.place.Place.{Place}
use Rattle.dm_type.specs.CTypes.{CType}
use Rattle.dm_tree.specs.Trees.{object, store, update, count, call, Tree}
use Rattle.dm_meaning.specs.Among.{IsAmong}
use Rattle.dm_meaning.specs.Values.{At, Value}
use Rattle.dm_meaning.specs.Operations.{of_value, Objects, World, Scene}
use Rattle.dm_meaning.specs.Running.{Doing, evaluates, gives_truth, gives_value, Run, done, to_do, Runs, no_runs, more_runs, begun, Open, every, first_open, others_open, open_parts, Hole, here, within, Holes, in_first, in_others, filled_in, all_filled_in, IsOpen, AreOpen, hole_in, holes_in}
use Rattle.dm_meaning.specs.Expressions.{Move, goes, calls, fails, exits, lifted, moves, moves_in, kind_of_run}
use Rattle.dm_meaning.specs.Steps.{lacks_value}
use Rattle.dm_meaning.specs.Called.{Called}
use Rattle.dm_meaning.specs.CalledWithAll.{given}
use Rattle.dm_meaning.proofs.AmongLemmas.{among_left, among_right}
use Rattle.dm_meaning.proofs.MoveLemmas.{move_lifts, moves_lift}
use Rattle.dm_meaning.proofs.MatchLemmas.{IsNamedRun, filled_twice, all_filled_twice}
use Rattle.dm_meaning.proofs.StandLemmas.{run_list}
use Rattle.dm_meaning.proofs.PassRunLemmas.{AllYield, MoveYieldsAll, all_filled_yield}
use Rattle.dm_rewrite.specs.Computed.{Computed, computed, IsPure, ArePure, is_pure_doing}
use Rattle.dm_rewrite.specs.PureSteps.{Meets}
use Rattle.dm_rewrite.specs.Aside.{Claims, Follows, IsForeseen}
use Rattle.dm_rewrite.specs.Closed.{Avoids, MemoryAvoids, May, only_closed, may_name, unseen, names_first, IsPlace, FirstIs, IsClosedIn, IsClosedInAll}
use Rattle.dm_rewrite.specs.Effects.{Effect, on_others, Stage, target_effects, own_effects, effects_of, effects_in, lock_effects, call_effects, IsFree, ChangesOnly, IsNoMore, LeavesNoMore}
use Rattle.dm_rewrite.proofs.SettleLemmas.{FailsBeside, hopeless, locked_out, undefined_meets}
use Rattle.dm_rewrite.proofs.AsideLemmas.{filled_pure, part_pure, fails_inside, part_foreseen}
use Rattle.dm_rewrite.proofs.EffectLemmas.{writes_keep, moves_write}
use Rattle.dm_rewrite.proofs.ShrinkEffectLemmas.{AllFirst, run_calm, MovesCalm, runs_calm}
use Rattle.dm_rewrite.proofs.ClosedRunLemmas.{runs_clear}
use Rattle.dm_central.specs.Added.{IsAdded}
use Rattle.dm_central.specs.Arguments.{Way, at_once, untouched, IsFollowed, AllFollowed, runs_at, trees_at, StandsWhole, ReadsSomewhere, ReadsFirst}
use Rattle.dm_central.specs.Agreement.{Mode, is_inside, AreClosedIn, IsPassed, RunAgrees, RunsAgree}
use Rattle.dm_central.specs.ArgumentSteps.{IsAtOnce, StepsAtOnce, StepsAside, FailsNow, ArgumentStep}
use Rattle.dm_central.specs.Outcomes.{AvoidsClosed, Entered, GivesOne, AgreesBehind, AllAgreeBehind, StepAgrees, StepsAgree, Met, AreSafe}
use Rattle.dm_central.proofs.PartLemmas.{part_first_in, no_place_closed}
use Rattle.dm_central.proofs.AgreementLemmas.{Included, changes_more, all_followed_kept, no_more_both, followed_beside_less}
use Rattle.dm_central.proofs.ArgumentStepLemmas.{argument_step}
use Rattle.dm_central.proofs.ArgumentPlaceLemmas.{at_once_there, first_there}
use Rattle.dm_central.proofs.SafeLemmas.{safe_argument}
use Rattle.dm_central.proofs.StandingLemmas.{result_no_more}

-- ---- effects of parts

module _ (stage : Stage) where
  pure_own : (doing : Doing) (parts : Runs) → is_pure_doing doing ≡ true → own_effects stage doing parts ≡ []
  pure_own (evaluates store) parts h = absurd (true≢false (sym h))
  pure_own (evaluates (update op works)) parts h = absurd (true≢false (sym h))
  pure_own (evaluates (count plus before)) parts h = absurd (true≢false (sym h))
  pure_own (evaluates call) parts h = absurd (true≢false (sym h))
  pure_own (evaluates label) parts h = refl
  pure_own gives_truth parts h = refl
  pure_own gives_value parts h = refl

  mutual
    pure_effects : (run : Run) → IsPure run → effects_of stage run ≡ []
    pure_effects (done kind result locks) h = ap lock_effects h
    pure_effects (to_do doing kind place parts) h =
        ap (λ es. es ++ effects_in stage parts) (pure_own doing parts h.0) ∙ all_pure_effects parts h.1

    all_pure_effects : (parts : Runs) → ArePure parts → effects_in stage parts ≡ []
    all_pure_effects no_runs h = refl
    all_pure_effects (more_runs first rest) h = ap (λ es. es ++ effects_in stage rest) (pure_effects first h.0) ∙ all_pure_effects rest h.1

  mutual
    -- what a part may write, the whole may
    pub effect_inside : (hole : Hole) (run : Run) → Included (effects_of stage run) (effects_of stage (filled_in hole run))
    effect_inside here run effect k = k
    effect_inside (within doing kind place holes) run effect k =
        among_right effect (own_effects stage doing (all_filled_in holes run)) (effects_in stage (all_filled_in holes run)) (effects_inside holes run effect k)

    effects_inside : (holes : Holes) (run : Run) → Included (effects_of stage run) (effects_in stage (all_filled_in holes run))
    effects_inside (in_first hole rest) run effect k = among_left effect (effects_of stage (filled_in hole run)) (effects_in stage rest) (effect_inside hole run effect k)
    effects_inside (in_others first holes) run effect k = among_right effect (effects_of stage first) (effects_in stage (all_filled_in holes run)) (effects_inside holes run effect k)

  -- a value that may have locked no more than what the part may write stands in its place; the part is no name
  module _ (run : Run) (kind : CType) (value : Value) (locks : List At) (no_name : target_effects stage.scene.objects run ≡ on_others ∷ []) (less : IsNoMore stage (effects_of stage run) (lock_effects locks)) where
    abbrev filler : Run
    filler = done kind (of_value value) locks

    same_target : (hole : Hole) → target_effects stage.scene.objects (filled_in hole run) ≡ target_effects stage.scene.objects (filled_in hole filler)
    same_target here = no_name
    same_target (within (evaluates (object d)) own place holes) = refl
    same_target (within (evaluates label) own place holes) = refl
    same_target (within gives_truth own place holes) = refl
    same_target (within gives_value own place holes) = refl

    same_first : (doing : Doing) (hole : Hole) (rest : Runs) → first_open (open_parts doing) ≡ true
        → own_effects stage doing (more_runs (filled_in hole run) rest) ≡ own_effects stage doing (more_runs (filled_in hole filler) rest)
    same_first (evaluates store) hole rest o = same_target hole
    same_first (evaluates (update op works)) hole rest o = same_target hole
    same_first (evaluates (count plus before)) hole rest o = same_target hole
    same_first (evaluates call) hole rest o = absurd (true≢false (sym o))
    same_first (evaluates label) hole rest o = refl
    same_first gives_truth hole rest o = refl
    same_first gives_value hole rest o = refl

    same_others : (doing : Doing) (first : Run) (rest more : Runs) → own_effects stage doing (more_runs first rest) ≡ own_effects stage doing (more_runs first more)
    same_others (evaluates store) first rest more = refl
    same_others (evaluates (update op works)) first rest more = refl
    same_others (evaluates (count plus before)) first rest more = refl
    same_others (evaluates call) first rest more = refl
    same_others (evaluates label) first rest more = refl
    same_others gives_truth first rest more = refl
    same_others gives_value first rest more = refl

    same_own : (doing : Doing) (holes : Holes) → AreOpen (open_parts doing) holes → own_effects stage doing (all_filled_in holes run) ≡ own_effects stage doing (all_filled_in holes filler)
    same_own doing (in_first hole rest) o = same_first doing hole rest o.0
    same_own doing (in_others first holes) o = same_others doing first (all_filled_in holes run) (all_filled_in holes filler)

    same_no_more : (was now : List Effect) → was ≡ now → IsNoMore stage was now
    same_no_more was now e n free = subst (λ es. IsFree stage.closed es n) e free

    mutual
      pub filled_no_more : (hole : Hole) → IsOpen hole → IsNoMore stage (effects_of stage (filled_in hole run)) (effects_of stage (filled_in hole filler))
      filled_no_more here o = less
      filled_no_more (within doing own place holes) o =
          no_more_both stage (own_effects stage doing (all_filled_in holes run)) (effects_in stage (all_filled_in holes run)) (own_effects stage doing (all_filled_in holes filler)) (effects_in stage (all_filled_in holes filler))
          (same_no_more (own_effects stage doing (all_filled_in holes run)) (own_effects stage doing (all_filled_in holes filler)) (same_own doing holes o)) (all_filled_no_more (open_parts doing) holes o)

      all_filled_no_more : (opens : Open) (holes : Holes) → AreOpen opens holes → IsNoMore stage (effects_in stage (all_filled_in holes run)) (effects_in stage (all_filled_in holes filler))
      all_filled_no_more opens (in_first hole rest) o =
          no_more_both stage (effects_of stage (filled_in hole run)) (effects_in stage rest) (effects_of stage (filled_in hole filler)) (effects_in stage rest) (filled_no_more hole o.1) (λ n free. free)
      all_filled_no_more opens (in_others first holes) o =
          no_more_both stage (effects_of stage first) (effects_in stage (all_filled_in holes run)) (effects_of stage first) (effects_in stage (all_filled_in holes filler)) (λ n free. free) (all_filled_no_more (others_open opens) holes o)

-- ---- closed objects

-- the parts of a node
abbrev parts_of_run : Run → Runs
parts_of_run (done kind result locks) = no_runs
parts_of_run (to_do doing kind place parts) = parts

-- a value without pointers to the object stands in the place of a part
module _ (n : ℕ) (objects : Objects) (run : Run) (kind : CType) (value : Value) (locks : List At) (avoids : Avoids n value) where
  some_parts : (holes : Holes) → all_filled_in holes run ≡ no_runs → ⊥
  some_parts (in_first hole rest) e = cc
  some_parts (in_others first holes) e = cc

  no_place : (doing : Doing) (own : CType) (place : Place) (holes : Holes) → IsPlace n objects (to_do doing own place (all_filled_in holes run)) → ⊥
  no_place doing own place holes (inl h) = some_parts holes (ap parts_of_run h.3)
  no_place doing own place holes (inr h) = cc h.2

  first_filled : (may : May) (hole : Hole) → (IsClosedIn n objects (filled_in hole run) → IsClosedIn n objects (filled_in hole (done kind (of_value value) locks)))
      → FirstIs may (IsClosedIn n objects (filled_in hole run)) (IsPlace n objects (filled_in hole run))
      → FirstIs may (IsClosedIn n objects (filled_in hole (done kind (of_value value) locks))) (IsPlace n objects (filled_in hole (done kind (of_value value) locks)))
  first_filled only_closed hole below h = below h
  first_filled may_name hole below (inl h) = inl (below h)
  first_filled may_name here below (inr h) = inl avoids
  first_filled may_name (within doing own place holes) below (inr h) = absurd (no_place doing own place holes h)
  first_filled unseen hole below h = tt

  mutual
    pub filled_closed : (hole : Hole) → IsClosedIn n objects (filled_in hole run) → IsClosedIn n objects (filled_in hole (done kind (of_value value) locks))
    filled_closed here h = avoids
    filled_closed (within doing own place holes) h = (h.0, all_filled_closed (names_first doing) holes h.1)

    all_filled_closed : (may : May) (holes : Holes) → IsClosedInAll n objects may (all_filled_in holes run) → IsClosedInAll n objects may (all_filled_in holes (done kind (of_value value) locks))
    all_filled_closed may (in_first hole rest) h = (first_filled may hole (λ x. filled_closed hole x) h.0, h.1)
    all_filled_closed may (in_others first holes) h = (h.0, all_filled_closed only_closed holes h.1)

-- ---- trees that come to nothing, or read what is locked

module _ (scene : Scene) (world : World) (locks : List At) where
  fails_by : (run : Run) → IsPure run → Meets locks (computed scene world run) → FailsBeside scene world locks run
  fails_by run pure meets = by_found (computed scene world run) refl meets
    where
      by_found : (o : Option Computed) → computed scene world run ≡ o → Meets locks o → FailsBeside scene world locks run
      by_found None e m = hopeless scene world locks run pure e
      by_found (Some found) e m = locked_out scene world locks run pure found e m.0 m.1 m.2

  -- so does a tree with such a part that may be evaluated
  pub meets_inside : (hole : Hole) → IsOpen hole → (run : Run) → IsPure (filled_in hole run) → Meets locks (computed scene world run) → Meets locks (computed scene world (filled_in hole run))
  meets_inside hole o run pure meets = by_found (computed scene world (filled_in hole run)) refl
    where
      by_found : (found : Option Computed) → computed scene world (filled_in hole run) ≡ found → Meets locks found
      by_found None e = tt
      by_found (Some was) e = undefined_meets scene world locks (filled_in hole run) pure (fails_inside scene world locks hole o run pure (fails_by run (part_pure hole run pure) meets)) was e

  -- and so does the tree that is followed
  aside_meets : (tree aside : Run) → Follows scene world tree aside → Meets locks (computed scene world aside) → Meets locks (computed scene world tree)
  aside_meets tree aside (inl e) meets = subst (λ a. Meets locks (computed scene world a)) e meets
  aside_meets tree aside (inr c) meets =
      let met = subst (Meets locks) c.is_now meets in
      subst (Meets locks) (sym c.is) (met.0, c.leads.fewer met.0 met.1, met.2)

module _ (change : Called) (stage : Stage) (mode : Mode) (world : World) (locks : List At) (beside : List Effect) (added : IsAdded change)
    (kind : CType) (place : Place) (other : Run) (inner : Runs) (passed : IsPassed change stage mode world beside (evaluates call) kind other inner) (named : Run) (is_named : IsNamedRun change named)
    (avoid : (n : ℕ) → IsAmong n stage.closed → MemoryAvoids n world.memory) (safe : AreSafe stage mode world locks beside other) (shut : AllFirst stage world locks other) where
  -- ---- what steps of the old arguments change

  lifts : (holes : Holes) (run : Run) (m : Move Run Hole) → AreOpen every holes → inner ≡ all_filled_in holes run → IsAmong m (moves stage.scene world locks run)
      → IsAmong (lifted (all_filled_in holes) (holes_in holes) m) (moves_in stage.scene world locks every inner)
  lifts holes run m o e k = subst (λ rs. IsAmong (lifted (all_filled_in holes) (holes_in holes) m) (moves_in stage.scene world locks every rs)) (sym e) (moves_lift stage.scene world locks every holes run m o k)

  shrinks : (m : Move Runs Holes) → IsAmong m (moves_in stage.scene world locks every inner) → MovesCalm stage world locks every inner m
  shrinks m k = runs_calm stage world locks avoid only_closed every (λ e. absurd (cc)) inner passed.closed m k

  -- the old arguments stay closed
  still_closed : (later : Runs) (after : World) → IsAmong (goes after later) (moves_in stage.scene world locks every inner) → AreClosedIn stage later
  still_closed later after k n c = (runs_clear n stage.scene world (avoid n c) locks only_closed every (λ e. absurd (cc)) inner (passed.closed n c) (goes after later) k).0

  closed_behind : (g : ℕ) (values : List Value) (type : CType) (holes : Holes) → IsAmong (calls g values type holes) (moves_in stage.scene world locks every inner) → (value : Value) (own_locks : List At)
      → AvoidsClosed stage value → AreClosedIn stage (all_filled_in holes (done type (of_value value) own_locks))
  closed_behind g values type holes k value own_locks avoids n c =
      (runs_clear n stage.scene world (avoid n c) locks only_closed every (λ e. absurd (cc)) inner (passed.closed n c) (calls g values type holes) k).1 value own_locks (avoids n c)

  argument_changes : (holes : Holes) (run later : Run) (after : World) → AreOpen every holes → inner ≡ all_filled_in holes run → IsAmong (goes after later) (moves stage.scene world locks run)
      → ChangesOnly stage (effects_in stage inner) world after × IsNoMore stage (effects_in stage inner) (effects_in stage (all_filled_in holes later))
  argument_changes holes run later after o e k =
      let there = lifts holes run (goes after later) o e k in
      (writes_keep stage (effects_in stage inner) world after (moves_write stage world locks every inner (goes after (all_filled_in holes later)) there), (shrinks (goes after (all_filled_in holes later)) there).0)

  argument_calls : (holes : Holes) (run : Run) (g : ℕ) (values : List Value) (type : CType) (hole : Hole) → AreOpen every holes → inner ≡ all_filled_in holes run
      → IsAmong (calls g values type hole) (moves stage.scene world locks run)
      → ((effect : Effect) → IsAmong effect (call_effects stage.quiet (Some g)) → IsAmong effect (effects_in stage inner))
      × ((value : Value) (own_locks : List At) → IsNoMore stage (call_effects stage.quiet (Some g)) (lock_effects own_locks)
      → IsNoMore stage (effects_in stage inner) (effects_in stage (all_filled_in holes (filled_in hole (done type (of_value value) own_locks)))))
  argument_calls holes run g values type hole o e k =
      let there = shrinks (calls g values type (holes_in holes hole)) (lifts holes run (calls g values type hole) o e k) in (
        there.0,
        λ value own_locks c. subst (λ rs. IsNoMore stage (effects_in stage inner) (effects_in stage rs)) (all_filled_twice holes hole (done type (of_value value) own_locks)) (there.1 value own_locks c).0,
      )

  -- ---- the call

  abbrev calling_run : Runs → Run
  calling_run parts = to_do (evaluates call) kind place (more_runs named parts)

  abbrev calling_hole : Holes → Hole
  calling_hole holes = within (evaluates call) kind place (in_others named holes)

  -- the followed arguments don't depend on the others
  followed_filled : (ways : List Way) (at : World) (around : List Effect) (holes : Holes) (run after : Run) → IsAtOnce ways holes → AllFollowed stage at around ways (all_filled_in holes run) → AllFollowed stage at around ways (all_filled_in holes after)
  followed_filled [] at around holes run after i h = absurd i
  followed_filled (at_once ∷ ways) at around (in_first hole rest) run after i h = h
  followed_filled (untouched tree ∷ ways) at around (in_first hole rest) run after i h = absurd i
  followed_filled (at_once ∷ ways) at around (in_others first holes) run after i h = followed_filled ways at around holes run after i h
  followed_filled (untouched tree ∷ ways) at around (in_others first holes) run after i h = (h.0, followed_filled ways at around holes run after i h.1)

  filled_count : (holes : Holes) (run after : Run) → length (run_list (all_filled_in holes after)) ≡ length (run_list (all_filled_in holes run))
  filled_count (in_first hole rest) run after = refl
  filled_count (in_others first holes) run after = ap suc (filled_count holes run after)

  -- the call stands for another expression, with other arguments
  abbrev passed_later : (at : World) (later : Runs) (now : Run) → StandsWhole change (given change.added.parameters passed.kinds) (given change.added.parameters (trees_at passed.ways)) (given change.added.parameters (runs_at passed.ways later)) change.body now
      → length (run_list later) ≡ length (run_list inner) → AllFollowed stage at (effects_in stage later ++ beside) passed.ways later → AreClosedIn stage later
      → IsNoMore stage (effects_of stage other) (effects_of stage now) → IsPassed change stage mode at beside (evaluates call) kind now later
  passed_later at later now stands same_length followed closed less = record {
    safe = passed.safe;
    elsewhere = passed.elsewhere;
    is = refl;
    typed = passed.typed;
    kinds = passed.kinds;
    ways = passed.ways;
    stands = stands;
    each = same_length ∙ passed.each;
    once = passed.once;
    followed = followed;
    calm = λ tree k before found e place l n f. less n (passed.calm tree k before found e place l n f);
    late = passed.late;
    closed = closed;
  }

  agrees_later : (at : World) (parts later : Runs) (now : Run) → IsPassed change stage mode at beside (evaluates call) kind now later → AllYield passed.kinds parts → RunsAgree change stage mode at [] beside every parts later
      → (p : IsPassed change stage mode at beside (evaluates call) kind now later) → p.kinds ≡ passed.kinds → RunAgrees change stage mode at beside (calling_run parts) now
  agrees_later at parts later (done other_kind result own) q y r p e = (later, p, (is_named, subst (λ ks. AllYield ks parts) (sym e) y, r))
  agrees_later at parts later (to_do doing other_kind spot others) q y r p e = inr (later, p, (is_named, subst (λ ks. AllYield ks parts) (sym e) y, r))

  -- the untouched arguments may write no more behind the step
  still_followed : (later : Runs) → IsAmong (goes world later) (moves_in stage.scene world locks every inner) → AllFollowed stage world (effects_in stage inner ++ beside) passed.ways later
      → AllFollowed stage world (effects_in stage later ++ beside) passed.ways later
  still_followed later k h =
      followed_beside_less stage world (effects_in stage inner ++ beside) (effects_in stage later ++ beside)
      (no_more_both stage (effects_in stage inner) beside (effects_in stage later) beside (runs_calm stage world locks avoid only_closed every (λ e. absurd (cc)) inner passed.closed (goes world later) k).0 (λ m free. free)) passed.ways later h

  -- a step aside: the old program stands still
  aside_met : (x n : Move Runs Holes) → MoveYieldsAll passed.kinds x → StepsAgree change stage mode world [] beside every x n → IsAmong n (moves_in stage.scene world locks every inner)
      → StepsAside stage world (effects_in stage inner ++ beside) passed.ways inner n → Met change stage mode world locks beside other (lifted calling_run calling_hole x)
  aside_met x n y agrees among aside = by_move x y (subst (StepsAgree change stage mode world [] beside every x) aside.is agrees)
    where
      by_move : (z : Move Runs Holes) → MoveYieldsAll passed.kinds z → StepsAgree change stage mode world [] beside every z (goes world aside.later) → Met change stage mode world locks beside other (lifted calling_run calling_hole z)
      by_move (goes after parts) y k =
          let here = subst (λ m. IsAmong m (moves_in stage.scene world locks every inner)) aside.is among in
          let p =
          passed_later world aside.later other
          (subst (λ rs. StandsWhole change (given change.added.parameters passed.kinds) (given change.added.parameters (trees_at passed.ways)) (given change.added.parameters rs) change.body other) (sym aside.same) passed.stands) aside.count (still_followed aside.later here aside.followed) (still_closed aside.later world here) (λ n free. free) in
          inr (inl (record {
            run = calling_run parts;
            is = ap (λ w. goes w (calling_run parts)) k.0;
            agrees = agrees_later world parts aside.later other p y (subst (λ w. RunsAgree change stage mode w [] beside every parts aside.later) k.0 k.1) p refl;
          }))
      by_move (calls f arguments called_kind holes) y k = absurd k
      by_move (fails cause at) y k = absurd k
      by_move (exits status) y k = absurd k

  followed_pure : (ways : List Way) (at : World) (around : List Effect) (runs : Runs) → AllFollowed stage at around ways runs → (tree : Tree) → IsAmong (untouched tree) ways → IsPure (begun tree)
  followed_pure [] at around runs h tree k = absurd k
  followed_pure (at_once ∷ ways) at around no_runs h tree k = absurd h
  followed_pure (untouched t ∷ ways) at around no_runs h tree k = absurd h
  followed_pure (at_once ∷ ways) at around (more_runs first rest) h tree (inl e) = absurd (cc)
  followed_pure (at_once ∷ ways) at around (more_runs first rest) h tree (inr k) = followed_pure ways at around rest h tree k
  followed_pure (untouched t ∷ ways) at around (more_runs first rest) h tree (inl e) = subst (λ u. IsPure (begun u)) (sym (its_tree tree t e)) h.0.pure
    where
      its_tree : (a b : Tree) → untouched a ≡ untouched b → a ≡ b
      its_tree a b f = cc
  followed_pure (untouched t ∷ ways) at around (more_runs first rest) h tree (inr k) = followed_pure ways at around rest h.1 tree k

  -- an untouched argument comes to nothing: so the old program can go wrong, since it may evaluate it at once
  failed_met : FailsNow stage world locks passed.ways → (m : Move Run Hole) → Met change stage mode world locks beside other m
  failed_met failing m = by_place (passed.late failing.tree failing.among)
    where
      by_place : ((passed.safe failing.tree ≡ true) × ((p : ℕ) → given change.added.parameters passed.ways p ≡ Some (untouched failing.tree) → ReadsSomewhere p change.body))
          ⊎ ((p : ℕ) → given change.added.parameters passed.ways p ≡ Some (untouched failing.tree) → ReadsFirst p change.body) → Met change stage mode world locks beside other m
      by_place (inl h) = absurd (safe_argument change stage mode world locks added beside kind other inner passed safe failing.tree failing.among h.0 failing.meets)
      by_place (inr reads) =
          let there = first_there change stage mode world beside added.distinct added.own kind other inner passed failing.tree failing.among reads in
          inr (inr (inr (inl (record {
            hole = there.hole;
            opened = there.opened;
            tree = begun failing.tree;
            pure = followed_pure passed.ways world (effects_in stage inner ++ beside) inner passed.followed failing.tree failing.among;
            is = there.is;
            meets = failing.meets;
          }))))

  -- a step of an argument that stands in the old program
  at_once_met : (x n : Move Runs Holes) → MoveYieldsAll passed.kinds x → StepsAgree change stage mode world [] beside every x n → (s : StepsAtOnce stage.scene world locks passed.ways inner n) → IsAmong n (moves_in stage.scene world locks every inner) → Met change stage mode world locks beside other (lifted calling_run calling_hole x)
  at_once_met x n y agrees s among =
      let part = at_once_there change stage mode world beside added.distinct added.own kind other inner passed s.holes s.run s.is s.position in
      let opened = part.opened s.opened in
      inl (record {
        step = lifted (filled_in part.hole) (hole_in part.hole) s.step;
        among = subst (λ r. IsAmong (lifted (filled_in part.hole) (hole_in part.hole) s.step) (moves stage.scene world locks r)) (sym part.is) (move_lifts stage.scene world locks part.hole s.run s.step opened s.among);
        agrees = by_step part.hole part.again s.step s.among
            (run_calm stage world locks avoid other shut (lifted (filled_in part.hole) (hole_in part.hole) s.step)
            (subst (λ r. IsAmong (lifted (filled_in part.hole) (hole_in part.hole) s.step) (moves stage.scene world locks r)) (sym part.is) (move_lifts stage.scene world locks part.hole s.run s.step opened s.among))) x y (subst (StepsAgree change stage mode world [] beside every x) s.same agrees);
      })
    where
      by_step : (hole : Hole)
          → ((after : Run) → StandsWhole change (given change.added.parameters passed.kinds) (given change.added.parameters (trees_at passed.ways)) (given change.added.parameters (runs_at passed.ways (all_filled_in s.holes after))) change.body (filled_in hole after))
          → (step : Move Run Hole) → IsAmong step (moves stage.scene world locks s.run) → LeavesNoMore stage (effects_of stage other) (lifted (filled_in hole) (hole_in hole) step) → (z : Move Runs Holes) → MoveYieldsAll passed.kinds z → StepsAgree change stage mode world [] beside every z (lifted (all_filled_in s.holes) (holes_in s.holes) step)
          → StepAgrees change stage mode world beside (lifted calling_run calling_hole z) (lifted (filled_in hole) (hole_in hole) step)
      by_step hole again (fails cause at) k shrunk z yields c = tt
      by_step hole again (goes after later) k shrunk (goes new_after parts) yields c =
          let changed = argument_changes s.holes s.run later after s.opened s.is k in
          let followed_here = subst (AllFollowed stage world (effects_in stage inner ++ beside) passed.ways) s.is passed.followed in
          let around = effects_in stage inner ++ beside in
          let kept = changes_more stage (effects_in stage inner) around world after (λ effect l. among_left effect (effects_in stage inner) beside l) changed.0 in
          let moved = followed_filled passed.ways after around s.holes s.run later s.position (all_followed_kept stage around world after kept passed.ways (all_filled_in s.holes s.run) followed_here) in
          let p =
          passed_later after (all_filled_in s.holes later) (filled_in hole later) (again later) (filled_count s.holes s.run later ∙ sym (ap (λ rs. length (run_list rs)) s.is))
          (followed_beside_less stage after around (effects_in stage (all_filled_in s.holes later) ++ beside)
          (no_more_both stage (effects_in stage inner) beside (effects_in stage (all_filled_in s.holes later)) beside changed.1 (λ m free. free)) passed.ways (all_filled_in s.holes later) moved)
          (still_closed (all_filled_in s.holes later) after (lifts s.holes s.run (goes after later) s.opened s.is k)) shrunk in
          (c.0, subst (λ w. RunAgrees change stage mode w beside (calling_run parts) (filled_in hole later)) (sym c.0) (agrees_later after parts (all_filled_in s.holes later) (filled_in hole later) p yields (subst (λ w. RunsAgree change stage mode w [] beside every parts (all_filled_in s.holes later)) c.0 c.1) p refl))
      by_step hole again (goes after later) k shrunk (calls f arguments called_kind holes) yields c = absurd c
      by_step hole again (goes after later) k shrunk (fails cause at) yields c = absurd c
      by_step hole again (goes after later) k shrunk (exits status) yields c = absurd c
      by_step hole again (exits status) k shrunk (exits other_status) yields c = c
      by_step hole again (exits status) k shrunk (goes new_after parts) yields c = absurd c
      by_step hole again (exits status) k shrunk (calls f arguments called_kind holes) yields c = absurd c
      by_step hole again (exits status) k shrunk (fails cause at) yields c = absurd c
      by_step hole again (calls g values type inner_hole) k shrunk (calls f arguments called_kind holes) yields c =
          let changed = argument_calls s.holes s.run g values type inner_hole s.opened s.is k in
          (c.0, c.1, c.2, λ later kept value own lacks avoids covered. closure changed shrunk later kept value own lacks avoids covered)
        where
          closure : ((effect : Effect) → IsAmong effect (call_effects stage.quiet (Some g)) → IsAmong effect (effects_in stage inner))
              × ((value : Value) (own : List At) → IsNoMore stage (call_effects stage.quiet (Some g)) (lock_effects own) → IsNoMore stage (effects_in stage inner) (effects_in stage (all_filled_in s.holes (filled_in inner_hole (done type (of_value value) own)))))
              → LeavesNoMore stage (effects_of stage other) (calls g values type (hole_in hole inner_hole))
              → AgreesBehind change stage mode world beside (call_effects stage.quiet (Some g)) called_kind (calling_hole holes) (hole_in hole inner_hole)
          closure changed shrunk later kept value own lacks avoids covered =
              let filler = done called_kind (of_value value) own in
              let typed : done type (of_value value) own ≡ filler = ap (λ t. done t (of_value value) own) (sym c.2) in
              let inner_run = filled_in inner_hole filler in
              let around = effects_in stage inner ++ beside in
              let followed_here = subst (AllFollowed stage world around passed.ways) s.is passed.followed in
              let more = changes_more stage (call_effects stage.quiet (Some g)) around world later (λ effect l. among_left effect (effects_in stage inner) beside (changed.0 effect l)) kept in
              let moved = followed_filled passed.ways later around s.holes s.run inner_run s.position (all_followed_kept stage around world later more passed.ways (all_filled_in s.holes s.run) followed_here) in
              let no_more = subst (λ r. IsNoMore stage (effects_in stage inner) (effects_in stage (all_filled_in s.holes (filled_in inner_hole r)))) typed (changed.1 value own covered) in
              let p =
              passed_later later (all_filled_in s.holes inner_run) (filled_in hole inner_run) (again inner_run) (filled_count s.holes s.run inner_run ∙ sym (ap (λ rs. length (run_list rs)) s.is))
              (followed_beside_less stage later around (effects_in stage (all_filled_in s.holes inner_run) ++ beside)
              (no_more_both stage (effects_in stage inner) beside (effects_in stage (all_filled_in s.holes inner_run)) beside no_more (λ m free. free)) passed.ways (all_filled_in s.holes inner_run) moved)
              (subst (AreClosedIn stage) (all_filled_twice s.holes inner_hole (done type (of_value value) own) ∙ ap (λ r. all_filled_in s.holes (filled_in inner_hole r)) typed)
              (closed_behind g values type (holes_in s.holes inner_hole) (lifts s.holes s.run (calls g values type inner_hole) s.opened s.is k) value own avoids))
              (subst (λ r. IsNoMore stage (effects_of stage other) (effects_of stage r)) (filled_twice hole inner_hole (done type (of_value value) own) ∙ ap (λ r. filled_in hole (filled_in inner_hole r)) typed) (shrunk.1 value own covered)) in
              let runs =
              subst (λ rs. RunsAgree change stage mode later [] beside every (all_filled_in holes (done called_kind (of_value value) [])) rs) (all_filled_twice s.holes inner_hole filler) (c.3 later kept value own lacks avoids covered) in
              subst (λ r. RunAgrees change stage mode later beside (filled_in (calling_hole holes) (done called_kind (of_value value) [])) r) (sym (filled_twice hole inner_hole filler))
              (agrees_later later (all_filled_in holes (done called_kind (of_value value) [])) (all_filled_in s.holes inner_run) (filled_in hole inner_run) p
              (all_filled_yield passed.kinds called_kind holes (done called_kind (of_value value) []) yields (refl, value, refl, lacks)) runs p refl)
      by_step hole again (calls g values type inner_hole) k shrunk (goes new_after parts) yields c = absurd c
      by_step hole again (calls g values type inner_hole) k shrunk (fails cause at) yields c = absurd c
      by_step hole again (calls g values type inner_hole) k shrunk (exits status) yields c = absurd c

  -- A step of the old arguments meets that of the new ones.
  pub arguments_stepped : (x n : Move Runs Holes) → MoveYieldsAll passed.kinds x → IsAmong n (moves_in stage.scene world locks every inner) → StepsAgree change stage mode world [] beside every x n
      → Met change stage mode world locks beside other (lifted calling_run calling_hole x)
  arguments_stepped x n y among agrees = by_kind (argument_step stage world locks (effects_in stage inner ++ beside) passed.ways inner passed.followed n among)
    where
      by_kind : ArgumentStep stage world locks (effects_in stage inner ++ beside) passed.ways inner n → Met change stage mode world locks beside other (lifted calling_run calling_hole x)
      by_kind (inl s) = at_once_met x n y agrees s among
      by_kind (inr (inl s)) = aside_met x n y agrees among s
      by_kind (inr (inr s)) = failed_met s (lifted calling_run calling_hole x)

  -- ---- the arguments of a call: other outcomes

  -- the old arguments stand still
  pub arguments_stood : (x : Move Runs Holes) → MoveYieldsAll passed.kinds x → (parts : Runs) → x ≡ goes world parts → RunsAgree change stage mode world [] beside every parts inner → Met change stage mode world locks beside other (lifted calling_run calling_hole x)
  arguments_stood x y parts e agrees =
      inr (inl (record {
        run = calling_run parts;
        is = ap (lifted calling_run calling_hole) e;
        agrees = agrees_later world parts inner other passed (subst (MoveYieldsAll passed.kinds) e y) agrees passed refl;
      }))

  -- where a part of an argument is: in one that stands in the old program, or in one that is followed
  pub record IsAside (ways : List Way) (at : World) (around : List Effect) (holes : Holes) (run : Run) : Type 0 where
    pub tree : Tree
    pub among : IsAmong (untouched tree) ways
    pub hole : Hole
    pub opened : AreOpen every holes → IsOpen hole
    pub followed : IsFollowed stage at around tree (filled_in hole run)
    -- with another part there
    pub again : (later : World) (after : Run) → AllFollowed stage later around ways (all_filled_in holes run) → IsFollowed stage later around tree (filled_in hole after) → AllFollowed stage later around ways (all_filled_in holes after)
    pub same : (after : Run) → runs_at ways (all_filled_in holes after) ≡ runs_at ways (all_filled_in holes run)
    pub effects : (after : Run) → IsPure (filled_in hole after) → effects_in stage (all_filled_in holes after) ≡ effects_in stage (all_filled_in holes run)

  position_of : (ways : List Way) (at : World) (around : List Effect) (holes : Holes) (run : Run) → AllFollowed stage at around ways (all_filled_in holes run) → IsAtOnce ways holes ⊎ IsAside ways at around holes run
  position_of [] at around (in_first hole rest) run h = absurd h
  position_of [] at around (in_others first holes) run h = absurd h
  position_of (at_once ∷ ways) at around (in_first hole rest) run h = inl tt
  position_of (untouched tree ∷ ways) at around (in_first hole rest) run h =
      inr (record {
        tree = tree;
        among = inl refl;
        hole = hole;
        opened = λ o. o.1;
        followed = h.0;
        again = λ later after k f. (f, k.1);
        same = λ after. refl;
        effects = λ after pure. ap (λ es. es ++ effects_in stage rest) (pure_effects stage (filled_in hole after) pure ∙ sym (pure_effects stage (filled_in hole run) h.0.pure_aside));
      })
  position_of (at_once ∷ ways) at around (in_others first holes) run h = by_rest (position_of ways at around holes run h)
    where
      by_rest : IsAtOnce ways holes ⊎ IsAside ways at around holes run → IsAtOnce (at_once ∷ ways) (in_others first holes) ⊎ IsAside (at_once ∷ ways) at around (in_others first holes) run
      by_rest (inl i) = inl i
      by_rest (inr a) =
          inr (record {
            tree = a.tree;
            among = inr a.among;
            hole = a.hole;
            opened = a.opened;
            followed = a.followed;
            again = λ later after k f. a.again later after k f;
            same = λ after. ap (λ rs. Some first ∷ rs) (a.same after);
            effects = λ after pure. ap (λ es. effects_of stage first ++ es) (a.effects after pure);
          })
  position_of (untouched tree ∷ ways) at around (in_others first holes) run h = by_rest (position_of ways at around holes run h.1)
    where
      by_rest : IsAtOnce ways holes ⊎ IsAside ways at around holes run → IsAtOnce (untouched tree ∷ ways) (in_others first holes) ⊎ IsAside (untouched tree ∷ ways) at around (in_others first holes) run
      by_rest (inl i) = inl i
      by_rest (inr a) =
          inr (record {
            tree = a.tree;
            among = inr a.among;
            hole = a.hole;
            opened = a.opened;
            followed = a.followed;
            again = λ later after k f. (k.0, a.again later after k.1 f);
            same = λ after. ap (λ rs. None ∷ rs) (a.same after);
            effects = λ after pure. ap (λ es. effects_of stage first ++ es) (a.effects after pure);
          })

  -- a part of an old argument comes to nothing, or reads what is locked
  pub arguments_failed : (m : Move Run Hole) (holes : Holes) → AreOpen every holes → (tree : Run) → IsPure tree → inner ≡ all_filled_in holes tree → Meets locks (computed stage.scene world tree)
      → Met change stage mode world locks beside other m
  arguments_failed m holes open_there tree pure e meets =
      by_position (position_of passed.ways world (effects_in stage inner ++ beside) holes tree (subst (AllFollowed stage world (effects_in stage inner ++ beside) passed.ways) e passed.followed))
    where
      by_position : IsAtOnce passed.ways holes ⊎ IsAside passed.ways world (effects_in stage inner ++ beside) holes tree → Met change stage mode world locks beside other m
      by_position (inl i) =
          let part = at_once_there change stage mode world beside added.distinct added.own kind other inner passed holes tree e i in
          inr (inr (inr (inl (record { hole = part.hole; opened = part.opened open_there; tree = tree; pure = pure; is = part.is; meets = meets }))))
      by_position (inr a) =
          let inside = meets_inside stage.scene world locks a.hole (a.opened open_there) tree a.followed.pure_aside meets in
          failed_met (record { tree = a.tree; among = a.among; meets = aside_meets stage.scene world locks (begun a.tree) (filled_in a.hole tree) a.followed.follows inside }) m

  same_kind : (hole : Hole) (x y : Run) → kind_of_run x ≡ kind_of_run y → kind_of_run (filled_in hole x) ≡ kind_of_run (filled_in hole y)
  same_kind here x y f = f
  same_kind (within doing own spot holes) x y f = refl

  -- The added function is called in an argument. The run is the expression with its own arguments, which is no name.
  module _ (elsewhere : is_inside mode ≡ false) (values : List Value) (called_kind : CType) (holes other_holes : Holes) (open_there : AreOpen every other_holes) (run : Run) (is_inner : inner ≡ all_filled_in other_holes run)
      (no_name : target_effects stage.scene.objects run ≡ on_others ∷ []) (behind : AllAgreeBehind change stage mode world [] beside every (effects_of stage run) called_kind holes other_holes)
      (yields : MoveYieldsAll passed.kinds (calls change.added.function values called_kind holes)) where
    followed_here : AllFollowed stage world (effects_in stage inner ++ beside) passed.ways (all_filled_in other_holes run)
    followed_here = subst (AllFollowed stage world (effects_in stage inner ++ beside) passed.ways) is_inner passed.followed

    value_closed : (value : Value) (own_locks : List At) → AvoidsClosed stage value → AreClosedIn stage (all_filled_in other_holes (done called_kind (of_value value) own_locks))
    value_closed value own_locks avoids n c =
        all_filled_closed n stage.scene.objects run called_kind value own_locks (avoids n c) only_closed other_holes (subst (IsClosedInAll n stage.scene.objects only_closed) is_inner (passed.closed n c))

    same_count : (after : Run) → length (run_list (all_filled_in other_holes after)) ≡ length (run_list inner)
    same_count after = filled_count other_holes run after ∙ sym (ap (λ rs. length (run_list rs)) is_inner)

    -- the argument stands in the old program: so does the expression
    entered_at_once : GivesOne stage world called_kind run → kind_of_run run ≡ called_kind → Entered change stage world values called_kind run → IsAtOnce passed.ways other_holes → Met change stage mode world locks beside other (lifted calling_run calling_hole (calls change.added.function values called_kind holes))
    entered_at_once gives typed entered i =
        let part = at_once_there change stage mode world beside added.distinct added.own kind other inner passed other_holes run is_inner i in
        inr (inr (inr (inr (inl (record {
          elsewhere = elsewhere;
          values = values;
          kind = called_kind;
          hole = calling_hole holes;
          called = refl;
          other_hole = part.hole;
          opened = part.opened open_there;
          run = run;
          is = part.is;
          no_name = no_name;
          typed = typed;
          gives = gives;
          entered = entered;
          agrees = λ later kept value own_locks lacks avoids less.
              let filler = done called_kind (of_value value) own_locks in
              let around = effects_in stage inner ++ beside in
              let within : Included (effects_of stage run) around = λ effect l.
              among_left effect (effects_in stage inner) beside (subst (λ rs. IsAmong effect (effects_in stage rs)) (sym is_inner) (effects_inside stage other_holes run effect l)) in
              let more = changes_more stage (effects_of stage run) around world later within kept in
              let moved = followed_filled passed.ways later around other_holes run filler i (all_followed_kept stage around world later more passed.ways (all_filled_in other_holes run) followed_here) in
              let fewer : IsNoMore stage (effects_in stage inner) (effects_in stage (all_filled_in other_holes filler)) =
              subst (λ rs. IsNoMore stage (effects_in stage rs) (effects_in stage (all_filled_in other_holes filler))) (sym is_inner) (all_filled_no_more stage run called_kind value own_locks no_name less every other_holes open_there) in
              let p =
              passed_later later (all_filled_in other_holes filler) (filled_in part.hole filler) (part.again filler) (same_count filler)
              (followed_beside_less stage later around (effects_in stage (all_filled_in other_holes filler) ++ beside)
              (no_more_both stage (effects_in stage inner) beside (effects_in stage (all_filled_in other_holes filler)) beside fewer (λ m free. free)) passed.ways (all_filled_in other_holes filler) moved)
              (value_closed value own_locks avoids)
              (subst (λ r. IsNoMore stage (effects_of stage r) (effects_of stage (filled_in part.hole filler))) (sym part.is) (filled_no_more stage run called_kind value own_locks no_name less part.hole (part.opened open_there))) in
              agrees_later later (all_filled_in holes (done called_kind (of_value value) [])) (all_filled_in other_holes filler) (filled_in part.hole filler) p
              (all_filled_yield passed.kinds called_kind holes (done called_kind (of_value value) []) yields (refl, value, refl, lacks)) (behind later kept value own_locks lacks avoids less) p refl;
        })))))

    -- it is untouched in the old program: what the call comes to is known
    module _ (pure : IsPure run) (gives_one : GivesOne stage world called_kind run) (typed : kind_of_run run ≡ called_kind) (entered : Entered change stage world values called_kind run) where
      entered_within : (a : IsAside passed.ways world (effects_in stage inner ++ beside) other_holes run) → IsForeseen stage.scene world (begun a.tree) a.hole run
          → Met change stage mode world locks beside other (lifted calling_run calling_hole (calls change.added.function values called_kind holes))
      entered_within a h =
          let around = effects_in stage inner ++ beside in
          let there = gives_one pure h.part h.is in
          let value = there.0 in
          let filler = done called_kind (of_value value) [] in
          let result_is : done (kind_of_run run) h.part.result [] ≡ filler = ap (λ t. done t h.part.result []) typed ∙ ap (λ r. done called_kind r []) there.1 in
          let filled = filled_in a.hole filler in
          let claims = subst (λ r. Claims stage.scene world (begun a.tree) (filled_in a.hole r)) result_is h.claims in
          let after_pure = filled_pure a.hole run filler a.followed.pure_aside refl in
          let follows_now : IsFollowed stage world around a.tree filled =
          record { pure = a.followed.pure; pure_aside = after_pure; typed = same_kind a.hole filler run (sym typed) ∙ a.followed.typed; apart = a.followed.apart; follows = inr claims; parts = λ part stands. a.followed.parts part (result_no_more a.hole run called_kind (of_value value) [] part stands) } in
          let now = a.again world filler followed_here follows_now in
          let same_effects : effects_in stage inner ≡ effects_in stage (all_filled_in other_holes filler) = ap (effects_in stage) is_inner ∙ sym (a.effects filler after_pure) in
          inr (inr (inr (inr (inr (record {
            elsewhere = elsewhere;
            values = values;
            kind = called_kind;
            hole = calling_hole holes;
            called = refl;
            run = run;
            pure = pure;
            found = h.part;
            is = h.is;
            value = value;
            comes = there.1;
            lacks = there.2;
            entered = entered;
            closed = λ n c.
                no_place_closed stage run no_name n
                (part_first_in stage world locks avoid only_closed every (λ e. absurd (cc)) other_holes run open_there (subst (λ rs. (m : ℕ) → IsAmong m stage.closed → IsClosedInAll m stage.scene.objects only_closed rs) is_inner passed.closed) n c);
            agrees = λ later kept.
                let more = changes_more stage [] around world later (λ effect l. absurd l) kept in
                let p =
                passed_later later (all_filled_in other_holes filler) other
                (subst (λ rs. StandsWhole change (given change.added.parameters passed.kinds) (given change.added.parameters (trees_at passed.ways)) (given change.added.parameters rs) change.body other) (sym (a.same filler ∙ sym (ap (runs_at passed.ways) is_inner))) passed.stands)
                (same_count filler)
                (subst (λ es. AllFollowed stage later (es ++ beside) passed.ways (all_filled_in other_holes filler)) same_effects (all_followed_kept stage around world later more passed.ways (all_filled_in other_holes filler) now))
                (value_closed value [] there.3) (λ n free. free) in
                agrees_later later (all_filled_in holes filler) (all_filled_in other_holes filler) other p
                (all_filled_yield passed.kinds called_kind holes filler yields (refl, value, refl, there.2))
                (behind later (changes_more stage [] (effects_of stage run) world later (λ effect l. absurd l) kept) value [] there.2 there.3 (λ n free effect l. absurd l)) p refl;
          })))))

      entered_aside : IsAside passed.ways world (effects_in stage inner ++ beside) other_holes run → Met change stage mode world locks beside other (lifted calling_run calling_hole (calls change.added.function values called_kind holes))
      entered_aside a = by_either (part_foreseen stage.scene world (begun a.tree) a.hole run (a.opened open_there) a.followed.pure_aside a.followed.follows)
        where
          by_either : IsForeseen stage.scene world (begun a.tree) a.hole run ⊎ (computed stage.scene world (begun a.tree) ≡ None)
              → Met change stage mode world locks beside other (lifted calling_run calling_hole (calls change.added.function values called_kind holes))
          by_either (inl h) = entered_within a h
          by_either (inr e) = failed_met (record { tree = a.tree; among = a.among; meets = subst (Meets locks) (sym e) tt }) _

    pub arguments_entered : GivesOne stage world called_kind run → kind_of_run run ≡ called_kind → Entered change stage world values called_kind run
        → Met change stage mode world locks beside other (lifted calling_run calling_hole (calls change.added.function values called_kind holes))
    arguments_entered gives typed entered = by_position (position_of passed.ways world (effects_in stage inner ++ beside) other_holes run followed_here)
      where
        by_position : IsAtOnce passed.ways other_holes ⊎ IsAside passed.ways world (effects_in stage inner ++ beside) other_holes run
            → Met change stage mode world locks beside other (lifted calling_run calling_hole (calls change.added.function values called_kind holes))
        by_position (inl i) = entered_at_once gives typed entered i
        by_position (inr a) = entered_aside (part_pure a.hole run a.followed.pure_aside) gives typed entered a

  -- it is called in a part that stands nowhere, within such an argument or in another one
  pub arguments_entered_aside : (elsewhere : is_inside mode ≡ false) (values : List Value) (called_kind : CType) (holes : Holes) (run : Run) → IsPure run → (found : Computed) → computed stage.scene world run ≡ Some found
      → (value : Value) → found.result ≡ of_value value → lacks_value called_kind value ≡ false → Entered change stage world values called_kind run
      → ((n : ℕ) → IsAmong n stage.closed → IsClosedIn n stage.scene.objects run) → MoveYieldsAll passed.kinds (calls change.added.function values called_kind holes)
      → ((later : World) → ChangesOnly stage [] world later → RunsAgree change stage mode later [] beside every (all_filled_in holes (done called_kind (of_value value) [])) inner)
      → Met change stage mode world locks beside other (lifted calling_run calling_hole (calls change.added.function values called_kind holes))
  arguments_entered_aside elsewhere values called_kind holes run pure found is value comes lacks entered closed yields behind =
      inr (inr (inr (inr (inr (record {
        elsewhere = elsewhere;
        values = values;
        kind = called_kind;
        hole = calling_hole holes;
        called = refl;
        run = run;
        pure = pure;
        found = found;
        is = is;
        value = value;
        comes = comes;
        lacks = lacks;
        entered = entered;
        closed = closed;
        agrees = λ later kept.
            let around = effects_in stage inner ++ beside in
            let more = changes_more stage [] around world later (λ effect l. absurd l) kept in
            let p = passed_later later inner other passed.stands refl (all_followed_kept stage around world later more passed.ways inner passed.followed) passed.closed (λ n free. free) in
            agrees_later later (all_filled_in holes (done called_kind (of_value value) [])) inner other p
            (all_filled_yield passed.kinds called_kind holes (done called_kind (of_value value) []) yields (refl, value, refl, lacks)) (behind later kept) p refl;
      })))))
