-- Trees that agree still do when others change memory, and beside trees that may write less; trees of which nothing is evaluated agree in every
-- world.
use Rattle.std.specs.Prelude.{◌≡◌, refl, ◌⊎◌, ℕ, Bool, true, false, List, [], ◌∷◌, ◌++◌, Some, if◌then◌else◌}
use Rattle.std.proofs.Common.{ap, sym, ◌∙◌, subst, inl, inr}
use Rattle.dm_type.specs.CTypes.{CType}
use Rattle.dm_tree.specs.Trees.{Label, Tree, Trees, node, no_trees, more_trees, label_of, trees_of}
use Rattle.dm_meaning.specs.Among.{IsAmong}
use Rattle.dm_meaning.specs.Values.{Name, numbered, literal_of, elsewhere}
use Rattle.dm_meaning.specs.Memory.{contents_at, look, value_in, or_unset}
use Rattle.dm_meaning.specs.Causes.{absence_causes}
use Rattle.dm_meaning.specs.Operations.{World}
use Rattle.dm_meaning.specs.Running.{Doing, evaluates, Run, done, to_do, Runs, no_runs, more_runs, begun, all_begun, Open, every, first_open, others_open, open_of, open_parts}
use Rattle.dm_meaning.specs.Expressions.{kind_of_run}
use Rattle.dm_meaning.specs.Called.{Called}
use Rattle.dm_meaning.proofs.AmongLemmas.{among_left, among_right, among_either}
use Rattle.dm_rewrite.specs.Computed.{Computed, computed, IsPure}
use Rattle.dm_rewrite.specs.Aside.{Follows}
use Rattle.dm_rewrite.specs.KeptMemory.{KeepsPlaces}
use Rattle.dm_rewrite.specs.Effects.{Effect, Stage, effects_of, effects_in, Hits, IsFree, ChangesOnly, IsNoMore}
use Rattle.dm_rewrite.proofs.AsideLemmas.{claims_kept}
use Rattle.dm_central.specs.Standing.{StandsIn}
use Rattle.dm_central.specs.Arguments.{ReadsApart, Way, at_once, untouched, IsFollowed, AllFollowed}
use Rattle.dm_central.specs.Agreement.{Mode, outside, inside, IsReading, open_effects, beside_first, before_rest, AllUntouched, IsCall, BegunOutside, AllBegun, BegunPasses, BegunAgrees, AreUnbegun, IfOpen, IsPassed, RunAgrees, RunsAgree, PassesRun}

abbrev pub Included : List Effect → List Effect → Type 0
Included fewer more = (effect : Effect) → IsAmong effect fewer → IsAmong effect more

pub changes_more : (stage : Stage) (fewer more : List Effect) (world later : World) → Included fewer more → ChangesOnly stage fewer world later → ChangesOnly stage more world later
changes_more stage fewer more world later h k = record { same_objects = k.same_objects; same = λ at n e free. k.same at n e (λ effect l. free effect (h effect l)) }

-- what an untouched tree reads is kept
pub reads_kept : (stage : Stage) (beside : List Effect) (world later : World) → (k : ChangesOnly stage beside world later) → (tree : Run) → ReadsApart stage beside tree → (found : Computed) → computed stage.scene world tree ≡ Some found
    → KeepsPlaces world.memory later.memory found.reads
reads_kept stage beside world later k tree apart found e at among absent = by_its_name at.name refl
  where
    by_its_name : (name : Name) → at.name ≡ name → contents_at later.memory at ≡ contents_at world.memory at
    by_its_name (numbered n) f = k.same at n f (apart world found e at among n f) absent
    by_its_name (literal_of bytes unit) f =
        ap (λ name. or_unset (value_in at.path (look later.memory name))) f ∙ sym (ap (λ name. or_unset (value_in at.path (look world.memory name))) f)
    by_its_name (elsewhere identifier) f = absurd (not_there (ap (absence_causes world.memory) (sym f) ∙ absent))
      where
        not_there : absence_causes world.memory (elsewhere identifier) ≡ [] → ⊥
        not_there g = cc

-- ---- while others change memory

followed_kept : (stage : Stage) (beside : List Effect) (world later : World) → ChangesOnly stage beside world later → (tree : Tree) (aside : Run) → IsFollowed stage world beside tree aside → IsFollowed stage later beside tree aside
followed_kept stage beside world later k tree aside h = record { pure = h.pure; pure_aside = h.pure_aside; typed = h.typed; apart = h.apart; follows = by_follows h.follows; parts = h.parts }
  where
    by_follows : Follows stage.scene world (begun tree) aside → Follows stage.scene later (begun tree) aside
    by_follows (inl e) = inl e
    by_follows (inr c) = inr (claims_kept stage.scene world later k.same_objects (begun tree) aside h.pure h.pure_aside c (reads_kept stage beside world later k (begun tree) h.apart c.found c.is))

pub all_followed_kept : (stage : Stage) (beside : List Effect) (world later : World) → ChangesOnly stage beside world later → (ways : List Way) (inner : Runs) → AllFollowed stage world beside ways inner → AllFollowed stage later beside ways inner
all_followed_kept stage beside world later k [] no_runs h = tt
all_followed_kept stage beside world later k (at_once ∷ ways) (more_runs run rest) h = all_followed_kept stage beside world later k ways rest h
all_followed_kept stage beside world later k (untouched tree ∷ ways) (more_runs aside rest) h = (followed_kept stage beside world later k tree aside h.0, all_followed_kept stage beside world later k ways rest h.1)
all_followed_kept stage beside world later k [] (more_runs run rest) h = absurd h
all_followed_kept stage beside world later k (at_once ∷ ways) no_runs h = absurd h
all_followed_kept stage beside world later k (untouched tree ∷ ways) no_runs h = absurd h

module _ (change : Called) (stage : Stage) (mode : Mode) (world later : World) where
  abbrev passed_kept : (beside : List Effect) (doing : Doing) (kind : CType) (other : Run) (inner : Runs) → ChangesOnly stage beside world later → IsPassed change stage mode world beside doing kind other inner
      → IsPassed change stage mode later beside doing kind other inner
  passed_kept beside doing kind other inner k h = record {
    safe = h.safe;
    elsewhere = h.elsewhere;
    is = h.is;
    typed = h.typed;
    kinds = h.kinds;
    ways = h.ways;
    stands = h.stands;
    each = h.each;
    once = h.once;
    followed =
        all_followed_kept stage (effects_in stage inner ++ beside) world later
        (changes_more stage beside (effects_in stage inner ++ beside) world later (λ effect l. among_right effect (effects_in stage inner) beside l) k) h.ways inner h.followed;
    calm = h.calm;
    late = h.late;
    closed = h.closed;
  }

  included_first : (opens : Open) (before beside : List Effect) (others : Runs) → Included beside (beside_first stage opens before beside others)
  included_first opens before beside others effect l = by_bool (first_open opens)
    where
      by_bool : (b : Bool) → IsAmong effect (if b then before ++ (open_effects stage (others_open opens) others ++ beside) else beside)
      by_bool true = among_right effect before _ (among_right effect (open_effects stage (others_open opens) others) beside l)
      by_bool false = l

  mutual
    -- Trees that agree still do in a later world that differs only in what others write.
    pub run_kept : (beside : List Effect) (run other : Run) → ChangesOnly stage beside world later → RunAgrees change stage mode world beside run other → RunAgrees change stage mode later beside run other
    run_kept beside (done kind result locks) (done other_kind other_result other_locks) k h = h
    run_kept beside (done kind result locks) (to_do doing other_kind place parts) k h = absurd h
    run_kept beside (to_do doing kind place parts) (done other_kind result locks) k h =
        (h.0, passed_kept beside doing kind (done other_kind result locks) h.0 k h.1, passes_kept beside h.1.kinds parts h.0 k h.2)
    run_kept beside (to_do doing kind place parts) (to_do other other_kind other_place others) k (inl h) = inl (h.0, h.1, h.2, runs_kept [] beside (open_parts other) parts others k h.3)
    run_kept beside (to_do doing kind place parts) (to_do other other_kind other_place others) k (inr h) =
        inr (h.0, passed_kept beside doing kind (to_do other other_kind other_place others) h.0 k h.1, passes_kept beside h.1.kinds parts h.0 k h.2)

    pub runs_kept : (before beside : List Effect) (opens : Open) (parts others : Runs) → ChangesOnly stage beside world later → RunsAgree change stage mode world before beside opens parts others
        → RunsAgree change stage mode later before beside opens parts others
    runs_kept before beside opens no_runs no_runs k h = tt
    runs_kept before beside opens no_runs (more_runs other others) k h = absurd h
    runs_kept before beside opens (more_runs first rest) no_runs k h = absurd h
    runs_kept before beside opens (more_runs first rest) (more_runs other others) k (h, r) = (
      by_open (first_open opens) h (λ x. run_kept (beside_first stage opens before beside others) first other (changes_more stage beside (beside_first stage opens before beside others) world later (included_first opens before beside others) k) x),
      runs_kept (before_rest stage opens before other) beside (others_open opens) rest others k r,
    )
      where
        by_either : RunAgrees change stage mode world (beside_first stage opens before beside others) first other ⊎ IsReading change mode first other
            → (RunAgrees change stage mode world (beside_first stage opens before beside others) first other → RunAgrees change stage mode later (beside_first stage opens before beside others) first other)
            → RunAgrees change stage mode later (beside_first stage opens before beside others) first other ⊎ IsReading change mode first other
        by_either (inl x) later_one = inl (later_one x)
        by_either (inr x) later_one = inr x

        by_open : (b : Bool) → IfOpen b (RunAgrees change stage mode world (beside_first stage opens before beside others) first other ⊎ IsReading change mode first other) (AreUnbegun change stage mode beside first other)
            → (RunAgrees change stage mode world (beside_first stage opens before beside others) first other → RunAgrees change stage mode later (beside_first stage opens before beside others) first other)
            → IfOpen b (RunAgrees change stage mode later (beside_first stage opens before beside others) first other ⊎ IsReading change mode first other) (AreUnbegun change stage mode beside first other)
        by_open true x later_one = by_either x later_one
        by_open false x later_one = x

    passes_kept : (beside : List Effect) (kinds : List CType) (parts inner : Runs) → ChangesOnly stage beside world later → PassesRun change stage mode world beside kinds parts inner → PassesRun change stage mode later beside kinds parts inner
    passes_kept beside kinds no_runs inner k h = absurd h
    passes_kept beside kinds (more_runs named rest) inner k h = (h.0, h.1, runs_kept [] beside every rest inner k h.2)

-- ---- trees that aren't begun

all_followed_first : (stage : Stage) (world : World) (beside : List Effect) (ways : List Way) (arguments : Trees) → AllUntouched stage beside ways arguments → AllFollowed stage world beside ways (all_begun arguments)
all_followed_first stage world beside [] no_trees h = tt
all_followed_first stage world beside [] (more_trees first rest) h = absurd h
all_followed_first stage world beside (at_once ∷ ways) no_trees h = absurd h
all_followed_first stage world beside (untouched tree ∷ ways) no_trees h = absurd h
all_followed_first stage world beside (at_once ∷ ways) (more_trees first rest) h = all_followed_first stage world beside ways rest h
all_followed_first stage world beside (untouched tree ∷ ways) (more_trees first rest) h = (
  record { pure = h.1; pure_aside = subst (λ t. IsPure (begun t)) (sym h.0) h.1; typed = ap (λ t. kind_of_run (begun t)) h.0; apart = h.2; follows = inl (ap begun h.0); parts = λ part stands. subst (λ t. StandsIn (begun part) (begun t)) h.0 stands },
  all_followed_first stage world beside ways rest h.3,
)

module _ (change : Called) (stage : Stage) (safe : Tree → Bool) (world : World) where
  abbrev passed_first : (beside : List Effect) (label : Label) (kind : CType) (other : Tree) (arguments : Trees) → IsCall change stage safe beside label kind other arguments
      → IsPassed change stage (outside safe) world beside (evaluates label) kind (begun other) (all_begun arguments)
  passed_first beside label kind other arguments h = record {
    safe = safe;
    elsewhere = refl;
    is = ap evaluates h.is;
    typed = h.typed;
    kinds = h.kinds;
    ways = h.ways;
    stands = h.stands;
    each = h.each;
    once = h.once;
    followed = all_followed_first stage world (effects_in stage (all_begun arguments) ++ beside) h.ways arguments h.untouched_ones;
    calm = h.calm;
    late = h.late;
    closed = h.closed;
  }

  mutual
    -- They agree in every world.
    pub begun_agrees : (beside : List Effect) (tree other : Tree) → BegunOutside change stage safe beside tree other → RunAgrees change stage (outside safe) world beside (begun tree) (begun other)
    begun_agrees beside (node label kind spans parts) (node other other_kind other_spans others) (inl h) =
        inl (ap evaluates h.0, h.1, refl, all_begun_agree [] beside (open_of other) parts others h.2)
    begun_agrees beside (node label kind spans parts) (node other other_kind other_spans others) (inr h) =
        inr (all_begun h.0, passed_first beside label kind (node other other_kind other_spans others) h.0 h.1, begun_passes beside h.1.kinds parts h.0 h.2)

    pub all_begun_agree : (before beside : List Effect) (opens : Open) (trees others : Trees) → AllBegun change stage safe before beside opens trees others
        → RunsAgree change stage (outside safe) world before beside opens (all_begun trees) (all_begun others)
    all_begun_agree before beside opens no_trees no_trees h = tt
    all_begun_agree before beside opens no_trees (more_trees other others) h = absurd h
    all_begun_agree before beside opens (more_trees first rest) no_trees h = absurd h
    all_begun_agree before beside opens (more_trees first rest) (more_trees other others) h =
        (by_open (first_open opens) refl (begun_agrees (beside_first stage opens before beside (all_begun others)) first other h.0), all_begun_agree (before_rest stage opens before (begun other)) beside (others_open opens) rest others h.1)
      where
        by_open : (b : Bool) → first_open opens ≡ b → RunAgrees change stage (outside safe) world (beside_first stage opens before beside (all_begun others)) (begun first) (begun other)
            → IfOpen b (RunAgrees change stage (outside safe) world (beside_first stage opens before beside (all_begun others)) (begun first) (begun other) ⊎ IsReading change (outside safe) (begun first) (begun other)) (AreUnbegun change stage (outside safe) beside (begun first) (begun other))
        by_open true e later = inl later
        by_open false e later = record { tree = first; was = other; is = refl; stands = refl; agrees = subst (λ b. BegunOutside change stage safe (if b then before ++ (open_effects stage (others_open opens) (all_begun others) ++ beside) else beside) first other) e h.0 }

    begun_passes : (beside : List Effect) (kinds : List CType) (parts arguments : Trees) → BegunPasses change stage safe beside kinds parts arguments
        → PassesRun change stage (outside safe) world beside kinds (all_begun parts) (all_begun arguments)
    begun_passes beside kinds no_trees arguments h = absurd h
    begun_passes beside kinds (more_trees named rest) arguments h = (h.0, h.1, all_begun_agree [] beside every rest arguments h.2)

-- ---- beside trees that may write less

module _ (stage : Stage) where
  free_left : (xs ys : List Effect) (n : ℕ) → IsFree stage.closed (xs ++ ys) n → IsFree stage.closed xs n
  free_left xs ys n h effect k = h effect (among_left effect xs ys k)

  free_right : (xs ys : List Effect) (n : ℕ) → IsFree stage.closed (xs ++ ys) n → IsFree stage.closed ys n
  free_right xs ys n h effect k = h effect (among_right effect xs ys k)

  free_both : (xs ys : List Effect) (n : ℕ) → IsFree stage.closed xs n → IsFree stage.closed ys n → IsFree stage.closed (xs ++ ys) n
  free_both xs ys n h k effect l = by_either (among_either effect xs ys l)
    where
      by_either : IsAmong effect xs ⊎ IsAmong effect ys → Hits stage.closed effect n → ⊥
      by_either (inl a) = h effect a
      by_either (inr b) = k effect b

  pub no_more_both : (xs ys xs' ys' : List Effect) → IsNoMore stage xs xs' → IsNoMore stage ys ys' → IsNoMore stage (xs ++ ys) (xs' ++ ys')
  no_more_both xs ys xs' ys' h k n free = free_both xs' ys' n (h n (free_left xs ys n free)) (k n (free_right xs ys n free))

  no_more_first : (opens : Open) (before before' beside beside' : List Effect) (others : Runs) → IsNoMore stage before before' → IsNoMore stage beside beside'
      → IsNoMore stage (beside_first stage opens before beside others) (beside_first stage opens before' beside' others)
  no_more_first opens before before' beside beside' others h k = by_bool (first_open opens)
    where
      by_bool : (b : Bool) → IsNoMore stage (if b then before ++ (open_effects stage (others_open opens) others ++ beside) else beside) (if b then before' ++ (open_effects stage (others_open opens) others ++ beside') else beside')
      by_bool true = no_more_both before (open_effects stage (others_open opens) others ++ beside) before' (open_effects stage (others_open opens) others ++ beside') h (no_more_both (open_effects stage (others_open opens) others) beside (open_effects stage (others_open opens) others) beside' (λ n free. free) k)
      by_bool false = k

  no_more_rest : (opens : Open) (before before' : List Effect) (other : Run) → IsNoMore stage before before' → IsNoMore stage (before_rest stage opens before other) (before_rest stage opens before' other)
  no_more_rest opens before before' other h = by_bool (first_open opens)
    where
      by_bool : (b : Bool) → IsNoMore stage (if b then before ++ effects_of stage other else before) (if b then before' ++ effects_of stage other else before')
      by_bool true = no_more_both before (effects_of stage other) before' (effects_of stage other) h (λ n free. free)
      by_bool false = h

  apart_beside_less : (beside beside' : List Effect) (tree : Run) → IsNoMore stage beside beside' → ReadsApart stage beside tree → ReadsApart stage beside' tree
  apart_beside_less beside beside' tree c h world found e at k n f = c n (h world found e at k n f)

  untouched_beside_less : (beside beside' : List Effect) → IsNoMore stage beside beside' → (ways : List Way) (trees : Trees) → AllUntouched stage beside ways trees → AllUntouched stage beside' ways trees
  untouched_beside_less beside beside' c [] no_trees h = tt
  untouched_beside_less beside beside' c [] (more_trees first rest) h = absurd h
  untouched_beside_less beside beside' c (at_once ∷ ways) no_trees h = absurd h
  untouched_beside_less beside beside' c (untouched tree ∷ ways) no_trees h = absurd h
  untouched_beside_less beside beside' c (at_once ∷ ways) (more_trees first rest) h = untouched_beside_less beside beside' c ways rest h
  untouched_beside_less beside beside' c (untouched tree ∷ ways) (more_trees first rest) h = (h.0, h.1, apart_beside_less beside beside' (begun tree) c h.2, untouched_beside_less beside beside' c ways rest h.3)

  pub followed_beside_less : (world : World) (beside beside' : List Effect) → IsNoMore stage beside beside' → (ways : List Way) (inner : Runs) → AllFollowed stage world beside ways inner → AllFollowed stage world beside' ways inner
  followed_beside_less world beside beside' c [] no_runs h = tt
  followed_beside_less world beside beside' c [] (more_runs first rest) h = absurd h
  followed_beside_less world beside beside' c (at_once ∷ ways) no_runs h = absurd h
  followed_beside_less world beside beside' c (untouched tree ∷ ways) no_runs h = absurd h
  followed_beside_less world beside beside' c (at_once ∷ ways) (more_runs first rest) h = followed_beside_less world beside beside' c ways rest h
  followed_beside_less world beside beside' c (untouched tree ∷ ways) (more_runs first rest) h =
      (record { pure = h.0.pure; pure_aside = h.0.pure_aside; typed = h.0.typed; apart = apart_beside_less beside beside' (begun tree) c h.0.apart; follows = h.0.follows; parts = h.0.parts }, followed_beside_less world beside beside' c ways rest h.1)

module _ (change : Called) (stage : Stage) (safe : Tree → Bool) where
  abbrev call_beside_less : (beside beside' : List Effect) → IsNoMore stage beside beside' → (label : Label) (kind : CType) (other : Tree) (arguments : Trees) → IsCall change stage safe beside label kind other arguments → IsCall change stage safe beside' label kind other arguments
  call_beside_less beside beside' c label kind other arguments h = record {
    is = h.is;
    typed = h.typed;
    kinds = h.kinds;
    ways = h.ways;
    stands = h.stands;
    each = h.each;
    once = h.once;
    untouched_ones = untouched_beside_less stage (effects_in stage (all_begun arguments) ++ beside) (effects_in stage (all_begun arguments) ++ beside') (no_more_both stage (effects_in stage (all_begun arguments)) beside (effects_in stage (all_begun arguments)) beside' (λ n free. free) c) h.ways arguments h.untouched_ones;
    calm = h.calm;
    late = h.late;
    closed = h.closed;
  }

  mutual
    pub begun_beside_less : (beside beside' : List Effect) → IsNoMore stage beside beside' → (tree other : Tree) → BegunOutside change stage safe beside tree other → BegunOutside change stage safe beside' tree other
    begun_beside_less beside beside' c (node label kind spans parts) other (inl h) = inl (h.0, h.1, all_begun_beside_less [] [] beside beside' (λ n free. free) c (open_of (label_of other)) parts (trees_of other) h.2)
    begun_beside_less beside beside' c (node label kind spans parts) other (inr h) = inr (h.0, call_beside_less beside beside' c label kind other h.0 h.1, begun_passes_beside_less beside beside' c h.1.kinds parts h.0 h.2)

    all_begun_beside_less : (before before' beside beside' : List Effect) → IsNoMore stage before before' → IsNoMore stage beside beside' → (opens : Open) (trees others : Trees) → AllBegun change stage safe before beside opens trees others
        → AllBegun change stage safe before' beside' opens trees others
    all_begun_beside_less before before' beside beside' b c opens no_trees no_trees h = tt
    all_begun_beside_less before before' beside beside' b c opens no_trees (more_trees other others) h = absurd h
    all_begun_beside_less before before' beside beside' b c opens (more_trees first rest) no_trees h = absurd h
    all_begun_beside_less before before' beside beside' b c opens (more_trees first rest) (more_trees other others) h = (
      begun_beside_less (beside_first stage opens before beside (all_begun others)) (beside_first stage opens before' beside' (all_begun others)) (no_more_first stage opens before before' beside beside' (all_begun others) b c) first other h.0,
      all_begun_beside_less (before_rest stage opens before (begun other)) (before_rest stage opens before' (begun other)) beside beside' (no_more_rest stage opens before before' (begun other) b) c (others_open opens) rest others h.1,
    )

    begun_passes_beside_less : (beside beside' : List Effect) → IsNoMore stage beside beside' → (kinds : List CType) (parts arguments : Trees) → BegunPasses change stage safe beside kinds parts arguments → BegunPasses change stage safe beside' kinds parts arguments
    begun_passes_beside_less beside beside' c kinds no_trees arguments h = absurd h
    begun_passes_beside_less beside beside' c kinds (more_trees named rest) arguments h = (h.0, h.1, all_begun_beside_less [] [] beside beside' (λ n free. free) c every rest arguments h.2)

module _ (change : Called) (stage : Stage) where
  mode_beside_less : (mode : Mode) (beside beside' : List Effect) → IsNoMore stage beside beside' → (tree other : Tree) → BegunAgrees change stage mode beside tree other → BegunAgrees change stage mode beside' tree other
  mode_beside_less (outside safe) beside beside' c tree other h = begun_beside_less change stage safe beside beside' c tree other h
  mode_beside_less (inside entries) beside beside' c tree other h = h

  module _ (mode : Mode) (world : World) where
    abbrev passed_beside_less : (beside beside' : List Effect) → IsNoMore stage beside beside' → (doing : Doing) (kind : CType) (other : Run) (inner : Runs) → IsPassed change stage mode world beside doing kind other inner
        → IsPassed change stage mode world beside' doing kind other inner
    passed_beside_less beside beside' c doing kind other inner h = record {
      safe = h.safe;
      elsewhere = h.elsewhere;
      is = h.is;
      typed = h.typed;
      kinds = h.kinds;
      ways = h.ways;
      stands = h.stands;
      each = h.each;
      once = h.once;
      followed = followed_beside_less stage world (effects_in stage inner ++ beside) (effects_in stage inner ++ beside') (no_more_both stage (effects_in stage inner) beside (effects_in stage inner) beside' (λ n free. free) c) h.ways inner h.followed;
      calm = h.calm;
      late = h.late;
      closed = h.closed;
    }

    mutual
      -- Trees that agree still do beside trees that may write less.
      pub run_beside_less : (beside beside' : List Effect) → IsNoMore stage beside beside' → (run other : Run) → RunAgrees change stage mode world beside run other → RunAgrees change stage mode world beside' run other
      run_beside_less beside beside' c (done kind result locks) (done other_kind other_result other_locks) h = h
      run_beside_less beside beside' c (done kind result locks) (to_do doing other_kind place parts) h = absurd h
      run_beside_less beside beside' c (to_do doing kind place parts) (done other_kind result locks) h =
          (h.0, passed_beside_less beside beside' c doing kind (done other_kind result locks) h.0 h.1, passes_beside_less beside beside' c h.1.kinds parts h.0 h.2)
      run_beside_less beside beside' c (to_do doing kind place parts) (to_do other other_kind other_place others) (inl h) =
          inl (h.0, h.1, h.2, runs_beside_less [] [] beside beside' (λ n free. free) c (open_parts other) parts others h.3)
      run_beside_less beside beside' c (to_do doing kind place parts) (to_do other other_kind other_place others) (inr h) =
          inr (h.0, passed_beside_less beside beside' c doing kind (to_do other other_kind other_place others) h.0 h.1, passes_beside_less beside beside' c h.1.kinds parts h.0 h.2)

      pub runs_beside_less : (before before' beside beside' : List Effect) → IsNoMore stage before before' → IsNoMore stage beside beside' → (opens : Open) (parts others : Runs) → RunsAgree change stage mode world before beside opens parts others
          → RunsAgree change stage mode world before' beside' opens parts others
      runs_beside_less before before' beside beside' b c opens no_runs no_runs h = tt
      runs_beside_less before before' beside beside' b c opens no_runs (more_runs other others) h = absurd h
      runs_beside_less before before' beside beside' b c opens (more_runs first rest) no_runs h = absurd h
      runs_beside_less before before' beside beside' b c opens (more_runs first rest) (more_runs other others) h = (
        by_open (first_open opens) h.0 (λ x. run_beside_less (beside_first stage opens before beside others) (beside_first stage opens before' beside' others) (no_more_first stage opens before before' beside beside' others b c) first other x),
        runs_beside_less (before_rest stage opens before other) (before_rest stage opens before' other) beside beside' (no_more_rest stage opens before before' other b) c (others_open opens) rest others h.1,
      )
        where
          unbegun_part : AreUnbegun change stage mode beside first other → AreUnbegun change stage mode beside' first other
          unbegun_part x = record { tree = x.tree; was = x.was; is = x.is; stands = x.stands; agrees = mode_beside_less mode beside beside' c x.tree x.was x.agrees }

          by_either : RunAgrees change stage mode world (beside_first stage opens before beside others) first other ⊎ IsReading change mode first other
              → (RunAgrees change stage mode world (beside_first stage opens before beside others) first other → RunAgrees change stage mode world (beside_first stage opens before' beside' others) first other)
              → RunAgrees change stage mode world (beside_first stage opens before' beside' others) first other ⊎ IsReading change mode first other
          by_either (inl x) later = inl (later x)
          by_either (inr x) later = inr x

          by_open : (t : Bool) → IfOpen t (RunAgrees change stage mode world (beside_first stage opens before beside others) first other ⊎ IsReading change mode first other) (AreUnbegun change stage mode beside first other)
              → (RunAgrees change stage mode world (beside_first stage opens before beside others) first other → RunAgrees change stage mode world (beside_first stage opens before' beside' others) first other)
              → IfOpen t (RunAgrees change stage mode world (beside_first stage opens before' beside' others) first other ⊎ IsReading change mode first other) (AreUnbegun change stage mode beside' first other)
          by_open true x later = by_either x later
          by_open false x later = unbegun_part x

      passes_beside_less : (beside beside' : List Effect) → IsNoMore stage beside beside' → (kinds : List CType) (parts inner : Runs) → PassesRun change stage mode world beside kinds parts inner → PassesRun change stage mode world beside' kinds parts inner
      passes_beside_less beside beside' c kinds no_runs inner h = absurd h
      passes_beside_less beside beside' c kinds (more_runs named rest) inner h = (h.0, h.1, runs_beside_less [] [] beside beside' (λ n free. free) c every rest inner h.2)
