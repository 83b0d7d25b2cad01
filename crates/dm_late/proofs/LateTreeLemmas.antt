-- Expressions of aligned units, where calls of the added function stand in place of runs: they agree wherever they are evaluated.
--     IsEarly judged body      each parameter is read first, and once unless it is read late
--     tree_begun      trees that agree begin alike, beside trees that write certain objects
use Rattle.std.specs.Prelude.{◌≡◌, refl, ◌⊎◌, ℕ, zero, suc, ◌+◌, Bool, true, false, not, ◌==◌, List, [], ◌∷◌, ◌++◌, length, map, All, Some, option_map, slice_get, if◌then◌else◌}
use Rattle.std.proofs.Common.{arith, ap, sym, ◌∙◌, subst, inl, inr}
use Rattle.std.proofs.lemmas.List.{length-map}
use Rattle.std.proofs.lemmas.Bool.{true≢false}
use Rattle.dm_runs.specs.declared.run.Run.{Run}
use Rattle.dm_type.specs.CTypes.{CType}
use Rattle.dm_type.specs.Tables.{Table}
use Rattle.dm_tree.specs.Constants.{constant}
use Rattle.dm_tree.specs.Scenes.{Scene}
use Rattle.dm_tree.specs.Trees.{Label, object, function, convert, sizeof_tree, sizeof_kind, is_statement, Spans, Tree, Trees, node, no_trees, more_trees, kind_of, listed}
use Rattle.dm_tree.specs.Typing.{Fits, inside, IsEntry, IsWellTyped, AreWellTyped}
use Rattle.dm_meaning.specs.Among.{IsAmong}
use Rattle.dm_meaning.specs.Called.{Called, new_of, Gives, is_nowhere_local}
use Rattle.dm_meaning.specs.CalledWith.{IsNamed}
use Rattle.dm_meaning.specs.CalledWithAll.{given, AreDistinct, times_named, times_named_in}
use Rattle.dm_meaning.specs.Operations.{Objects, object_named}
use Rattle.dm_meaning.specs.Programs.{declaration_of}
use Rattle.dm_meaning.specs.Replaced.{facts_of}
use Rattle.dm_meaning.specs.Running.{evaluates, begun, all_begun, Open, every, others_open, open_of}
use Rattle.dm_meaning.specs.Wholes.{is_expression, are_expressions}
use Rattle.dm_meaning.proofs.GrowLemmas.{equal_is, differ_is}
use Rattle.dm_meaning.proofs.MatchLemmas.{IsNamedRun}
use Rattle.dm_meaning.proofs.OptionLemmas.{none_is_some, some_is_some, and_left, and_right}
use Rattle.dm_meaning.proofs.PassRunLemmas.{AllYield}
use Rattle.dm_meaning.proofs.YieldLemmas.{begun_yields}
use Rattle.dm_effect.specs.Entities.{function_first}
use Rattle.dm_effect.specs.Scoped.{is_scoped}
use Rattle.dm_rewrite.specs.Closed.{May, only_closed, may_name, unseen, names_first, FirstIs}
use Rattle.dm_rewrite.specs.ClosedStates.{IsName, NamesOnly, AllNameOnly}
use Rattle.dm_rewrite.specs.Computed.{IsPure}
use Rattle.dm_rewrite.specs.Effects.{Effect, Stage, effects_of, effects_in}
use Rattle.dm_agree.specs.Standing.{runs_below}
use Rattle.dm_agree.specs.Agreement.{Added, Rewriting, here_at, SameBody, Left, standing_for, IsCallOf, AtRun, Agrees, AllAgree, PassesFrom}
use Rattle.dm_central.specs.Agreement as central
use Rattle.dm_central.specs.Agreement.{IsCall, BegunOutside, AllBegun, before_rest}
use Rattle.dm_central.specs.Arguments.{ReadsApart, at_once, untouched, runs_at, trees_at, ReadsSomewhere, ReadsBelow, ReadsFirst, ReadsFirstBelow}
use Rattle.dm_central.specs.Standing.{standing_of}
use Rattle.dm_plain.specs.Plain.{AreTypesPlain}
use Rattle.dm_refine.specs.Calls.{is_name_of, names, any_names, NotInSizeof, IsEvaluated, AreEvaluated}
use Rattle.dm_refine.proofs.CallBodyLemmas.{slice_among, not_true, counted}
use Rattle.dm_refine.proofs.CallGivesLemmas.{gives}
use Rattle.dm_refine.proofs.CallLocalLemmas.{same_statement}
use Rattle.dm_refine.proofs.CallTreeLemmas.{AddsFunction, IsAddedEntry, AreArguments, at_run, call_parts, some_run, first_left, arguments_from, as_many, given_from, or_left, or_right}
use Rattle.dm_refine.proofs.ConstantTreeLemmas.{inside_declared}
use Rattle.dm_refine.proofs.ReadFirstLemmas.{read_first, named}
use Rattle.dm_late.specs.Late.{Judged, IsRead, IsStable, IsSafe, trees_left, trees_from, AreStable, beside_first, before_others, EvaluatesAlike, AllAlike, PassAlikeFrom}
use Rattle.dm_late.proofs.ArgumentLemmas.{same_kind, body_kind, passed_give, passed_names}
use Rattle.dm_late.specs.Settled.{erased, all_erased}
use Rattle.dm_late.proofs.ErasedLemmas.{erased_list}
use Rattle.dm_late.proofs.GivenLemmas.{given_mapped, given_among, AreUnlessFirst, of_given, runs_as_many, ways_of, given_tree, given_run, once_early, AreLateOnes, of_untouched, all_untouched}
use Rattle.dm_late.proofs.LateBodyLemmas.{early, early_among, IsGiven, body_stands}
use Rattle.dm_late.proofs.LateCallLemmas.{HasFirst, some_left, first_is, first_among, closed_trees, first_beside, rest_before, AreThere, there_first, there_rest, rest_cover, run_covers, first_covers}
use Rattle.dm_late.proofs.SameTreeLemmas.{all_left_among, same_passed}
use Rattle.dm_late.proofs.StableLemmas.{Covers, more_cover, appended_cover, itself_covers, erased_pure, stable_apart}

-- where a run stands
abbrev pub IsEarly : Judged → List ℕ → Tree → Type 0
IsEarly judged ps body = (p : ℕ) → IsAmong p ps → IsRead judged p body

-- ---- what is read first is read somewhere

every_below : (p : ℕ) (opens : Open) (trees : Trees) → ReadsBelow p opens trees → ReadsBelow p every trees
every_below p opens no_trees h = h
every_below p opens (more_trees first rest) (inl h) = inl (refl, h.1)
every_below p opens (more_trees first rest) (inr h) = inr (every_below p (others_open opens) rest h)

somewhere_below : (p : ℕ) (label : Label) (trees : Trees) → ReadsBelow p (open_of label) trees → ReadsBelow p (standing_of label) trees
somewhere_below p convert trees h = h
somewhere_below p (sizeof_kind type) trees h = h
somewhere_below p label trees h = every_below p (open_of label) trees h

mutual
  first_somewhere : (p : ℕ) (tree : Tree) → ReadsFirst p tree → ReadsSomewhere p tree
  first_somewhere p (node label kind spans parts) (inl h) = inl h
  first_somewhere p (node label kind spans parts) (inr h) = inr (somewhere_below p label parts (same_below p (open_of label) parts h))

  same_below : (p : ℕ) (opens : Open) (trees : Trees) → ReadsFirstBelow p opens trees → ReadsBelow p opens trees
  same_below p opens no_trees h = h
  same_below p opens (more_trees first rest) (inl h) = inl (h.0, first_somewhere p first h.1)
  same_below p opens (more_trees first rest) (inr h) = inr (same_below p (others_open opens) rest h)

mutual
  named_somewhere : (p : ℕ) (tree : Tree) → ReadsSomewhere p tree → times_named p tree ≡ 0 → ⊥
  named_somewhere p (node label kind spans parts) (inl h) e = named p (node label kind spans parts) (inl h) e
  named_somewhere p (node label kind spans parts) (inr h) e = named_below p (standing_of label) parts h (omega (arith, e))

  named_below : (p : ℕ) (opens : Open) (trees : Trees) → ReadsBelow p opens trees → times_named_in p trees ≡ 0 → ⊥
  named_below p opens no_trees h e = absurd h
  named_below p opens (more_trees first rest) (inl h) e = named_somewhere p first h.1 (omega (arith, e))
  named_below p opens (more_trees first rest) (inr h) e = named_below p (others_open opens) rest h (omega (arith, e))

by_test : (b : Bool) (R : Type 0) → (b ≡ true → R) → (b ≡ false → R) → R
by_test true R f g = f refl
by_test false R f g = g refl

read_somewhere : (judged : Judged) (p : ℕ) (body : Tree) → IsRead judged p body → ReadsSomewhere p body
read_somewhere judged p body h = by_test (judged.first p) (ReadsSomewhere p body) (λ e. first_somewhere p body (h.1 e)) (λ e. (h.2 e).1)

early_first : (judged : Judged) (p : ℕ) (body : Tree) → IsRead judged p body → judged.late p ≡ false → (times_named p body ≡ 1) × ReadsFirst p body
early_first judged p body h once =
    by_test (judged.first p) ((times_named p body ≡ 1) × ReadsFirst p body) (λ e. (h.0 once, h.1 e)) (λ e. absurd (true≢false (sym (h.2 e).0 ∙ once)))

seen_sizeof : (label : Label) (b : Bool) → names_first (evaluates label) ≡ unseen → NotInSizeof label b → b ≡ false
seen_sizeof sizeof_tree b e h = h
seen_sizeof label b e h = absurd (cc)

by_may : (may : May) (R : Type 0) → (may ≡ unseen → R) → ((may ≡ unseen → ⊥) → R) → R
by_may unseen R f g = f refl
by_may only_closed R f g = g (λ e. cc)
by_may may_name R f g = g (λ e. cc)

-- a part that is named, or names closed objects only where it reads or writes them
either_is : (may : May) (P Q : Type 0) → (may ≡ unseen → ⊥) → FirstIs may P Q → P ⊎ Q
either_is only_closed P Q n h = inl h
either_is may_name P Q n h = h
either_is unseen P Q n h = absurd (n refl)

abbrev pub NamesOr : ℕ → Tree → Type 0
NamesOr d tree = NamesOnly d tree ⊎ IsName d tree

abbrev pub AllNameOr : ℕ → Trees → Type 0
AllNameOr d no_trees = Unit {0}
AllNameOr d (more_trees first rest) = NamesOr d first × AllNameOr d rest

pub all_name_or : (d : ℕ) (may : May) (trees : Trees) → (may ≡ unseen → ⊥) → AllNameOnly d may trees → AllNameOr d trees
all_name_or d may no_trees n h = tt
all_name_or d may (more_trees first rest) n h = (either_is may (NamesOnly d first) (IsName d first) n h.0, all_name_or d only_closed rest (λ e. cc) h.1)

-- the parts of a node that is no name
pub only_parts : (d : ℕ) (label : Label) (kind : CType) (spans : Spans) (parts : Trees) → NamesOr d (node label kind spans parts) → AllNameOnly d (names_first (evaluates label)) parts
only_parts d label kind spans parts (inl h) = h.1
only_parts d label kind spans parts (inr h) = subst (AllNameOnly d (names_first (evaluates label))) (sym (no_parts label kind h.0 spans h.1 parts h.2)) tt
  where
    no_parts : (label : Label) (kind own : CType) (spans own_spans : Spans) (parts : Trees) → node label kind spans parts ≡ node (object d) own own_spans no_trees → parts ≡ no_trees
    no_parts label kind own spans own_spans parts e = cc

module _ (at : Spans) (change : Called) (told : (d : ℕ) → option_map facts_of (declaration_of (new_of change) (change.rename d)) ≡ option_map facts_of (declaration_of change.old d))
    (injective : (c d : ℕ) → change.rename c ≡ change.rename d → c ≡ d) (types : Table) (entries : All IsEntry change.declared)
    (entry : IsAddedEntry types change.declared change.added.function change.added.parameters) (runs : List Run) (added : Added) (adds : AddsFunction change added)
    (distinct : AreDistinct change.added.parameters) (own : (p : ℕ) → IsAmong p change.added.parameters → (d : ℕ) → change.rename d ≡ p → ⊥)
    (apart : (d : ℕ) → change.rename d ≡ change.added.function → ⊥) (body_expression : is_expression change.body ≡ true) (body_value : Gives change.body)
    (automatic : ℕ → Bool) (still : (d : ℕ) → automatic (change.rename d) ≡ false → is_nowhere_local change.old d ≡ true) (body_scoped : is_scoped automatic change.added.parameters change.body ≡ true)
    (body_scene : Scene) (body_declared : body_scene.declared ≡ change.declared) (body_typed : IsWellTyped body_scene change.body)
    (judged : Judged) (local : (d : ℕ) → judged.closed d ≡ true → automatic (change.rename d) ≡ true) where
  abbrev ps : List ℕ
  ps = change.added.parameters

  abbrev f : ℕ
  f = change.added.function

  abbrev it : Rewriting
  it = record { runs = runs; added = added; rename = change.rename; value = constant change.old.table change.old.declared }

  -- what is asked of the expression where a run stands
  abbrev Early : Type 0
  Early = IsEarly judged ps change.body × AreTypesPlain automatic change.body

  run_here : (run : Run) (inner : List Run) (label : Label) (kind : CType) (parts : Trees) (other : Tree) (Passed : Type 0) → AtRun it added run inner label kind parts other Passed
      → IsCallOf it f ps change.body run inner label kind parts other × Passed
  run_here run inner label kind parts other Passed h = at_run change told injective types entries entry runs added adds distinct added adds run inner label kind parts other Passed h

  -- each parameter is read
  there : Early → (run : Run) (inner : List Run) (other : Tree) → SameBody it ps run (here_at run inner other) change.body other → (n p : ℕ) → slice_get ps n ≡ Some p → HasFirst (standing_for it run inner n other)
  there early_ones run inner other same n p e =
      some_left (standing_for it run inner n other)
      (λ none.
      named_somewhere p change.body (read_somewhere judged p change.body (early_ones.0 p (slice_among ps n p e)))
      (sym (counted change own distinct n p e it refl run body_scene body_declared (here_at run inner other) change.body other body_typed same) ∙ none))

  module _ (objects : Objects) (numbers : List ℕ) (named_apart : (c d n : ℕ) → object_named objects c ≡ Some n → object_named objects d ≡ Some n → c ≡ d)
      (closed_ones : (d n : ℕ) → judged.closed d ≡ true → object_named objects d ≡ Some n → IsAmong n numbers)
      (closed_names : (d n : ℕ) → IsAmong n numbers → object_named objects d ≡ Some n → judged.closed d ≡ true) where
    abbrev stage : Stage
    stage = record { scene = record { program = change.old; objects = objects }; closed = numbers; quiet = judged.quiet }

    abbrev safe : Tree → Bool
    safe tree = judged.safe tree

    abbrev Covering : List Tree → List Effect → Type 0
    Covering trees effects = Covers at change.old objects numbers judged named_apart closed_ones trees effects

    -- ---- trees without calls of the function

    unnamed_function : (parts : Trees) → function_first parts ≡ Some f → any_names f parts ≡ false → ⊥
    unnamed_function (more_trees (node (function d) kind spans below) rest) e n =
        true≢false (sym (equal_is d f (some_is_some d f e)) ∙ or_left (d == f) (any_names f below) (or_left (names f (node (function d) kind spans below)) (any_names f rest) n))
    unnamed_function (more_trees (node label kind spans below) rest) e n = none_is_some f e
    unnamed_function no_trees e n = none_is_some f e

    mutual
      tree_unnamed : (standing : List Run) (tree other : Tree) → names f tree ≡ false → Agrees it standing tree other → (effects : List Effect) → BegunOutside change stage safe effects tree (erased at other)
      tree_unnamed [] (node label kind spans parts) (node other other_kind other_spans others) n h effects =
          inl (h.0.0, h.0.1, trees_unnamed other other_spans (open_of other) parts others (or_right (is_name_of f label) (any_names f parts) n) h.1 [] effects)
      tree_unnamed (run ∷ inner) (node label kind spans parts) other n h effects =
          absurd (unnamed_function parts (run_here run inner label kind parts other _ h).0.2 (or_right (is_name_of f label) (any_names f parts) n))

      trees_unnamed : (label : Label) (spans : Spans) (opens : Open) (trees others : Trees) → any_names f trees ≡ false → AllAgree it label spans trees others → (before effects : List Effect)
          → AllBegun change stage safe before effects opens trees (all_erased at others)
      trees_unnamed label spans opens no_trees no_trees n h before effects = tt
      trees_unnamed label spans opens no_trees (more_trees other others) n h before effects = absurd h
      trees_unnamed label spans opens (more_trees first rest) no_trees n h before effects = absurd h
      trees_unnamed label spans opens (more_trees first rest) (more_trees other others) n h before effects = (
        tree_unnamed (runs_below runs label spans other) first other (or_left (names f first) (any_names f rest) n) h.0 (central.beside_first stage opens before effects (all_begun (all_erased at others))),
        trees_unnamed label spans (others_open opens) rest others (or_right (names f first) (any_names f rest) n) h.1 (before_rest stage opens before (begun (erased at other))) effects,
      )

    -- ---- the call of a run

    module _ (early_ones : Early) (run : Run) (inner : List Run) (other : Tree) (same : SameBody it ps run (here_at run inner other) change.body other) where
      abbrev lefts : ℕ → List Left
      lefts n = standing_for it run inner n other

      some : AreThere at change.old objects numbers judged named_apart closed_ones it run inner other 0 ps
      some k p e n number = there early_ones run inner other same n p (ap (slice_get ps) (omega (arith, number)) ∙ e)

      abbrev old_arguments : ℕ → Trees → Trees
      old_arguments n rest = all_erased at (arguments_from lefts other n rest)

      -- arguments that are read late
      late_ones : (P : Tree → Type 0) (Q : Tree → Type 0) → ((tree : Tree) → Q tree → P (erased at tree)) → (beside : List Tree) (m : ℕ) (qs : List ℕ) (rest : Trees) → AreArguments qs rest
          → AreThere at change.old objects numbers judged named_apart closed_ones it run inner other m qs → ((n : ℕ) → (left : Left) → IsStable judged (other ∷ beside) left.tree → Q left.tree)
          → AreStable judged it at beside m qs run inner other → AreLateOnes judged.late P qs (old_arguments m rest)
      late_ones P Q g beside m [] rest arguments some_ones stable h = tt
      late_ones P Q g beside m (q ∷ qs) no_trees arguments some_ones stable h = absurd arguments
      late_ones P Q g beside m (q ∷ qs) (more_trees first rest) arguments some_ones stable h =
          let one = there_first at change.old objects numbers judged named_apart closed_ones it run inner other m q qs some_ones in (
            (λ e.
                subst (λ (tree : Tree). P (erased at tree)) (sym (first_is other (lefts m) one))
                (g one.left.tree (stable m one.left (all_left_among (λ left_runs left_tree. IsStable judged (other ∷ beside) left_tree × IsSafe judged at q left_tree) (lefts m) (h.0 e) one.left (first_among (lefts m) one)).0))),
            late_ones P Q g beside (suc m) qs rest arguments.1 (there_rest at change.old objects numbers judged named_apart closed_ones it run inner other m q qs some_ones) stable h.1,
          )

      -- those whose parameters aren't read first are safe
      safe_ones : (beside : List Tree) (m : ℕ) (qs : List ℕ) (rest : Trees) → AreArguments qs rest → AreThere at change.old objects numbers judged named_apart closed_ones it run inner other m qs
          → AreStable judged it at beside m qs run inner other → AreUnlessFirst judged.late judged.first (λ tree. judged.safe tree ≡ true) qs (old_arguments m rest)
      safe_ones beside m [] rest arguments some_ones h = tt
      safe_ones beside m (q ∷ qs) no_trees arguments some_ones h = absurd arguments
      safe_ones beside m (q ∷ qs) (more_trees first rest) arguments some_ones h =
          let one = there_first at change.old objects numbers judged named_apart closed_ones it run inner other m q qs some_ones in (
            (λ e unless.
                subst (λ (tree : Tree). judged.safe (erased at tree) ≡ true) (sym (first_is other (lefts m) one))
                ((all_left_among (λ left_runs left_tree. IsStable judged (other ∷ beside) left_tree × IsSafe judged at q left_tree) (lefts m) (h.0 e) one.left (first_among (lefts m) one)).1 unless)),
            safe_ones beside (suc m) qs rest arguments.1 (there_rest at change.old objects numbers judged named_apart closed_ones it run inner other m q qs some_ones) h.1,
          )

      -- an argument is safe, or the parameters for which it is passed are read first
      late_or : (trees : Trees) → AreUnlessFirst judged.late judged.first (λ tree. judged.safe tree ≡ true) ps trees → (tree : Tree)
          → ((judged.safe tree ≡ true) × ((p : ℕ) → given ps (ways_of judged.late ps trees) p ≡ Some (untouched tree) → ReadsSomewhere p change.body))
          ⊎ ((p : ℕ) → given ps (ways_of judged.late ps trees) p ≡ Some (untouched tree) → ReadsFirst p change.body)
      late_or trees h tree = by_test (judged.safe tree) _ safely firstly
        where
          safely : judged.safe tree ≡ true
              → ((judged.safe tree ≡ true) × ((p : ℕ) → given ps (ways_of judged.late ps trees) p ≡ Some (untouched tree) → ReadsSomewhere p change.body))
              ⊎ ((p : ℕ) → given ps (ways_of judged.late ps trees) p ≡ Some (untouched tree) → ReadsFirst p change.body)
          safely e = inl (e, λ p g. read_somewhere judged p change.body (early_ones.0 p (given_among ps (ways_of judged.late ps trees) p (untouched tree) g)))

          firstly : judged.safe tree ≡ false
              → ((judged.safe tree ≡ true) × ((p : ℕ) → given ps (ways_of judged.late ps trees) p ≡ Some (untouched tree) → ReadsSomewhere p change.body))
              ⊎ ((p : ℕ) → given ps (ways_of judged.late ps trees) p ≡ Some (untouched tree) → ReadsFirst p change.body)
          firstly e =
              inr (λ p g.
              by_test (judged.first p) (ReadsFirst p change.body) (λ k. (early_ones.0 p (given_among ps (ways_of judged.late ps trees) p (untouched tree) g)).1 k)
              (λ k. absurd (true≢false (sym (of_given judged.late judged.first (λ one. judged.safe one ≡ true) ps trees h p tree g k) ∙ e))))

      apart_ones : (beside : List Tree) (effects : List Effect) → Covering (other ∷ beside) effects → (rest : Trees) → AreArguments ps rest → AreStable judged it at beside 0 ps run inner other
          → AreLateOnes judged.late (λ tree. IsPure (begun tree) × ReadsApart stage effects (begun tree)) ps (old_arguments 0 rest)
      apart_ones beside effects covers rest arguments h =
          late_ones (λ tree. IsPure (begun tree) × ReadsApart stage effects (begun tree)) (IsStable judged (other ∷ beside))
          (λ tree stable. (erased_pure at tree stable.0, stable_apart at change.old objects numbers judged named_apart closed_ones (other ∷ beside) effects covers tree stable)) beside 0 ps rest arguments some
          (λ n left stable. stable) h

      only_second : (P Q : Tree → Type 0) (qs : List ℕ) (trees : Trees) → AreLateOnes judged.late (λ tree. P tree × Q tree) qs trees → AreLateOnes judged.late Q qs trees
      only_second P Q [] trees h = tt
      only_second P Q (q ∷ qs) no_trees h = tt
      only_second P Q (q ∷ qs) (more_trees first rest) h = ((λ e. (h.0 e).1), only_second P Q qs rest h.1)

      module _ (scene : Scene) (e : scene.declared ≡ change.declared) (rest : Trees) (arguments : AreArguments ps rest) (typed : AreWellTyped scene rest) (expression : are_expressions rest ≡ true)
          (passes : PassesFrom it 0 rest run inner other) where
        -- all trees that stand for a parameter are the argument
        argument_is : (n p : ℕ) → slice_get ps n ≡ Some p → (left : Left) → IsAmong left (lefts n) → given ps (listed (old_arguments 0 rest)) p ≡ Some (erased at left.tree)
        argument_is n p g left l =
            let one = there early_ones run inner other same n p g in
            ap (λ (trees : List Tree). given ps trees p) (erased_list at (arguments_from lefts other 0 rest))
            ∙ (given_mapped (erased at) ps (listed (arguments_from lefts other 0 rest)) p (first_left other (lefts n)) (given_from lefts other 0 ps rest distinct arguments n p g n (omega arith))
            ∙ ap Some (ap (erased at) (first_is other (lefts n) one)
            ∙ same_passed at change told injective types entries entry runs added adds distinct own apart body_expression scene e 0 ps rest arguments typed expression run run inner inner other other passes passes n p g n (omega arith) one.left left
            (first_among (lefts n) one) l))

        kind_is : (m : ℕ) (qs : List ℕ) (trees : Trees) → AreDistinct qs → AreArguments qs trees → PassesFrom it m trees run inner other → (k p : ℕ) → slice_get qs k ≡ Some p → (n : ℕ) → n ≡ m + k → (left : Left)
            → IsAmong left (lefts n) → given qs (map kind_of (listed trees)) p ≡ Some (kind_of left.tree)
        kind_is m [] trees distinct_ones args h i p g n number left l = absurd (none_is_some p g)
        kind_is m (q ∷ qs) no_trees distinct_ones args h i p g n number left l = absurd args
        kind_is m (q ∷ qs) (more_trees first trees) distinct_ones args h zero p g n number left l =
            let at_m : n ≡ m = omega (arith, number) in
            ap (λ b. if b then Some (kind_of first) else given qs (map kind_of (listed trees)) p) (equal_is q p (some_is_some q p g))
            ∙ ap Some (same_kind at change told injective types entries entry runs added adds distinct own apart body_expression left.runs first left.tree
            (all_left_among (λ left_runs left_tree. Agrees it left_runs first left_tree) (lefts m) h.0 left (subst (λ i. IsAmong left (lefts i)) at_m l)))
        kind_is m (q ∷ qs) (more_trees first trees) distinct_ones args h (suc i) p g n number left l =
            ap (λ b. if b then Some (kind_of first) else given qs (map kind_of (listed trees)) p) (differ_is q p (λ is. distinct_ones.0 (subst (λ x. IsAmong x qs) (sym is) (slice_among qs i p g))))
            ∙ kind_is (suc m) qs trees distinct_ones.1 args.1 h.1 i p g n (omega (arith, number)) left l

        abbrev kinds : List CType
        kinds = map kind_of (listed rest)

        given_ones : (n : ℕ) (left : Left) → IsAmong left (lefts n) → (p : ℕ) → slice_get ps n ≡ Some p
            → IsGiven at change own automatic still judged.late (given ps kinds) (given ps (trees_at (ways_of judged.late ps (old_arguments 0 rest))))
            (given ps (runs_at (ways_of judged.late ps (old_arguments 0 rest)) (all_begun (old_arguments 0 rest)))) p left.tree
        given_ones n left l p g = record {
          kind_is = kind_is 0 ps rest distinct arguments passes n p g n (omega arith) left l;
          tree_is = given_tree judged.late ps (old_arguments 0 rest) p (erased at left.tree) (argument_is n p g left l);
          run_is = given_run judged.late ps (old_arguments 0 rest) p (erased at left.tree) (argument_is n p g left l);
          gives = λ late.
              passed_give at change told injective types entries entry runs added adds distinct own apart body_expression body_value scene e 0 ps rest arguments typed run inner other passes n p g n (omega arith) left l;
        }

        -- closed objects are only read and written by name in the arguments
        old_only : (m : ℕ) (qs : List ℕ) (trees : Trees) → AreArguments qs trees → AreWellTyped scene trees → AreThere at change.old objects numbers judged named_apart closed_ones it run inner other m qs
            → ((d : ℕ) → judged.closed d ≡ true → AllNameOnly (change.rename d) only_closed trees) → PassesFrom it m trees run inner other
            → (d : ℕ) → judged.closed d ≡ true → AllNameOnly d only_closed (old_arguments m trees)
        old_only m [] no_trees args well some_ones only h d picked = tt
        old_only m [] (more_trees first trees) args well some_ones only h d picked = absurd args
        old_only m (q ∷ qs) no_trees args well some_ones only h d picked = absurd args
        old_only m (q ∷ qs) (more_trees first trees) args well some_ones only h d picked =
            let one = there_first at change.old objects numbers judged named_apart closed_ones it run inner other m q qs some_ones in (
              subst (λ (tree : Tree). NamesOnly d (erased at tree)) (sym (first_is other (lefts m) one))
                  (passed_names at change told injective types entries entry runs added adds distinct own apart body_expression automatic d (local d picked) body_scoped early_ones.1 scene e m (q ∷ qs) (more_trees first trees) args well (only d picked)
                  run inner other h 0 q refl m (omega arith) one.left (first_among (lefts m) one)),
              old_only (suc m) qs trees args.1 well.1 (there_rest at change.old objects numbers judged named_apart closed_ones it run inner other m q qs some_ones) (λ c k. (only c k).1) h.1 d picked,
            )

        call_of : (label : Label) (kind : CType) (parts : Trees) → IsCallOf it f ps change.body run inner label kind parts other → (beside : List Tree) (effects : List Effect) → Covering beside effects
            → AreStable judged it at beside 0 ps run inner other → ((d : ℕ) → judged.closed d ≡ true → AllNameOnly (change.rename d) only_closed rest)
            → (called : IsCall change stage safe effects label kind (erased at other) (old_arguments 0 rest)) × (called.kinds ≡ kinds)
        call_of label kind parts h beside effects covers stable only =
            let itself = more_cover at change.old objects numbers judged named_apart closed_ones (other ∷ []) (other ∷ beside) in
            let many : length (listed (old_arguments 0 rest)) ≡ length ps = ap length (erased_list at (arguments_from lefts other 0 rest)) ∙ (length-map (listed (arguments_from lefts other 0 rest)) (erased at) ∙ as_many lefts other 0 ps rest arguments) in (
              record {
                is = h.0;
                typed = h.1 ∙ sym (body_kind at change told injective types entries entry runs added adds distinct own apart body_expression run (here_at run inner other) change.body other same);
                kinds = kinds;
                ways = ways_of judged.late ps (old_arguments 0 rest);
                stands = body_stands at change own automatic still judged.late (given ps kinds) (given ps (trees_at (ways_of judged.late ps (old_arguments 0 rest))))
                    (given ps (runs_at (ways_of judged.late ps (old_arguments 0 rest)) (all_begun (old_arguments 0 rest)))) it refl run body_scene body_declared (here_at run inner other) change.body other body_typed body_expression
                    body_scoped early_ones.1 (read_first (early judged.late ps) change.body (λ p k. let found = early_among judged.late ps p k in early_first judged p change.body (early_ones.0 p found.0) found.1)) same given_ones;
                each = runs_as_many (old_arguments 0 rest) ∙ many;
                once = λ d g. (early_ones.0 d (given_among ps (ways_of judged.late ps (old_arguments 0 rest)) d at_once g)).0 (once_early judged.late ps (old_arguments 0 rest) d g);
                untouched_ones = all_untouched judged.late stage (effects_in stage (all_begun (old_arguments 0 rest)) ++ effects) ps (old_arguments 0 rest) many
                    (apart_ones beside (effects_in stage (all_begun (old_arguments 0 rest)) ++ effects)
                    (appended_cover at change.old objects numbers judged named_apart closed_ones (other ∷ []) beside (effects_in stage (all_begun (old_arguments 0 rest))) effects
                    (run_covers at change.old objects numbers judged named_apart closed_ones it run inner other 0 ps rest arguments some) covers) rest arguments stable);
                calm = of_untouched judged.late (λ tree. ReadsApart stage (effects_of stage (begun (erased at other))) (begun tree)) ps (old_arguments 0 rest)
                    (only_second (λ tree. IsPure (begun tree)) (λ tree. ReadsApart stage (effects_of stage (begun (erased at other))) (begun tree)) ps (old_arguments 0 rest)
                    (apart_ones beside (effects_of stage (begun (erased at other)))
                    (itself (effects_of stage (begun (erased at other))) (λ tree l. first_only tree l) (itself_covers at change.old objects numbers judged named_apart closed_ones other)) rest arguments stable));
                late = λ tree k. late_or (old_arguments 0 rest) (safe_ones beside 0 ps rest arguments some stable) tree;
                closed = λ n k. closed_trees change.old objects numbers judged closed_names n k only_closed (old_arguments 0 rest) (old_only 0 ps rest arguments typed some only passes);
              },
              refl,
            )
          where
            first_only : (tree : Tree) → IsAmong tree (other ∷ []) → IsAmong tree (other ∷ beside)
            first_only tree (inl g) = inl g
            first_only tree (inr g) = absurd g

    named_run : (named : Tree) → IsNamed change named → IsNamedRun change (begun named)
    named_run named h = record { kind = h.kind; place = h.spans.place; is = ap begun h.is }

    all_yield : (scene : Scene) → scene.declared ≡ change.declared → (qs : List ℕ) (rest : Trees) → AreArguments qs rest → AreWellTyped scene rest → AllYield (map kind_of (listed rest)) (all_begun rest)
    all_yield scene e [] no_trees arguments typed = tt
    all_yield scene e [] (more_trees first rest) arguments typed = absurd arguments
    all_yield scene e (q ∷ qs) no_trees arguments typed = absurd arguments
    all_yield scene e (q ∷ qs) (more_trees first rest) arguments typed =
        (begun_yields first (gives change.declared entries scene e first typed.0 arguments.0.0 arguments.0.2), arguments.0.1, all_yield scene e qs rest arguments.1 typed.1)

    -- ---- trees

    mutual
      pub tree_begun : (scene : Scene) → scene.declared ≡ change.declared → (standing : List Run) → ((run : Run) → IsAmong run standing → Early) → (all : (run : Run) → IsAmong run runs → Early) → (tree other : Tree)
          → IsWellTyped scene tree → is_expression tree ≡ true → IsEvaluated f tree → ((d : ℕ) → judged.closed d ≡ true → NamesOr (change.rename d) tree) → Agrees it standing tree other
          → (beside : List Tree) → EvaluatesAlike judged it ps at beside standing tree other → (effects : List Effect) → Covering beside effects → BegunOutside change stage safe effects tree (erased at other)
      tree_begun scene e [] known all (node label kind spans parts) (node other other_kind other_spans others) typed expression evaluated only h beside alike effects covers =
          by_may (names_first (evaluates label)) (BegunOutside change stage safe effects (node label kind spans parts) (erased at (node other other_kind other_spans others)))
          (λ sized. inl (h.0.0, h.0.1, trees_unnamed other other_spans (open_of other) parts others (seen_sizeof label (any_names f parts) sized evaluated.0) h.1 [] effects))
          (λ seen.
          inl (
            h.0.0,
            h.0.1,
            trees_begun (inside scene label (listed parts)) (inside_declared scene label (listed parts) ∙ e) all other other_spans (open_of other) parts others typed.1 (and_right (not (is_statement label)) _ expression) evaluated.1
                (λ d picked. all_name_or (change.rename d) (names_first (evaluates label)) parts seen (only_parts (change.rename d) label kind spans parts (only d picked))) h.1 [] beside
                (subst (λ b. AllAlike judged it ps b (open_of other) at [] beside other other_spans parts others)
                (sym (same_statement change.rename other) ∙ (ap is_statement (sym h.0.0) ∙ not_true (is_statement label) (and_left (not (is_statement label)) _ expression))) alike) [] (λ effect l. absurd l) effects covers,
          ))
      tree_begun scene e (run ∷ inner) known all (node label kind spans no_trees) other typed expression evaluated only h beside alike effects covers =
          absurd (none_is_some f (run_here run inner label kind no_trees other _ h).0.2)
      tree_begun scene e (run ∷ inner) known all (node label kind spans (more_trees function_name rest)) other typed expression evaluated only h beside alike effects covers =
          let found = run_here run inner label kind (more_trees function_name rest) other _ h in
          let early_ones = known run (inl refl) in
          let below = inside scene label (function_name ∷ listed rest) in
          let declared : below.declared ≡ change.declared = inside_declared scene label (function_name ∷ listed rest) ∙ e in
          let parts = call_parts change told injective types entries entry scene e kind function_name rest found.0.2 (subst (λ (l : Label). Fits scene l kind (function_name ∷ listed rest)) found.0.0 typed.0)
          (subst (λ (l : Label). IsWellTyped (inside scene l (function_name ∷ listed rest)) function_name) found.0.0 typed.1.0) in
          let expressions = and_right (is_expression function_name) _ (and_right (not (is_statement label)) _ expression) in
          let names_ones : (d : ℕ) → judged.closed d ≡ true → AllNameOnly (change.rename d) only_closed rest = λ d picked. (only_parts (change.rename d) label kind spans (more_trees function_name rest) (only d picked)).1 in
          let called = call_of early_ones run inner other found.0.3 below declared rest parts.1 typed.1.1 expressions found.1 label kind (more_trees function_name rest) found.0 beside effects covers alike.0 names_ones in
          inr (
            all_erased at (arguments_from (λ n. standing_for it run inner n other) other 0 rest),
            called.0,
            (
              named_run function_name parts.0,
              subst (λ (types : List CType). AllYield types (all_begun rest)) (sym called.1) (all_yield below declared ps rest parts.1 typed.1.1),
              passes_begun below declared early_ones all run inner other 0 ps rest parts.1 (some early_ones run inner other found.0.3) typed.1.1 expressions evaluated.1.1 names_ones found.1 [] beside alike.1 [] (λ effect l. absurd l) effects
                  covers,
            ),
          )

      trees_begun : (scene : Scene) → scene.declared ≡ change.declared → (all : (run : Run) → IsAmong run runs → Early) → (label : Label) (spans : Spans) (opens : Open) (trees others : Trees) → AreWellTyped scene trees
          → are_expressions trees ≡ true → AreEvaluated f trees → ((d : ℕ) → judged.closed d ≡ true → AllNameOr (change.rename d) trees) → AllAgree it label spans trees others → (before beside : List Tree)
          → AllAlike judged it ps false opens at before beside label spans trees others → (before_effects : List Effect) → Covering before before_effects → (effects : List Effect) → Covering beside effects
          → AllBegun change stage safe before_effects effects opens trees (all_erased at others)
      trees_begun scene e all label spans opens no_trees no_trees typed expression evaluated only h before beside alike before_effects befores effects covers = tt
      trees_begun scene e all label spans opens no_trees (more_trees other others) typed expression evaluated only h before beside alike before_effects befores effects covers = absurd h
      trees_begun scene e all label spans opens (more_trees first rest) no_trees typed expression evaluated only h before beside alike before_effects befores effects covers = absurd h
      trees_begun scene e all label spans opens (more_trees first rest) (more_trees other others) typed expression evaluated only h before beside alike before_effects befores effects covers = (
        tree_begun scene e (runs_below runs label spans other) (λ run k. all run (some_run runs _ run k)) all first other typed.0 (and_left (is_expression first) _ expression) evaluated.0 (λ d picked. (only d picked).0) h.0
            (beside_first opens before beside others) alike.0 (central.beside_first stage opens before_effects effects (all_begun (all_erased at others)))
            (first_beside at change.old objects numbers judged named_apart closed_ones opens before beside others before_effects effects befores covers),
        trees_begun scene e all label spans (others_open opens) rest others typed.1 (and_right (is_expression first) _ expression) evaluated.1 (λ d picked. (only d picked).1) h.1 (before_others opens before other) beside alike.1
            (before_rest stage opens before_effects (begun (erased at other))) (rest_before at change.old objects numbers judged named_apart closed_ones opens before other before_effects befores) effects covers,
      )

      -- the arguments of a call, each beside the others
      passes_begun : (scene : Scene) → scene.declared ≡ change.declared → Early → (all : (run : Run) → IsAmong run runs → Early) → (run : Run) (inner : List Run) (other : Tree) (m : ℕ) (qs : List ℕ) (rest : Trees)
          → AreArguments qs rest → AreThere at change.old objects numbers judged named_apart closed_ones it run inner other m qs → AreWellTyped scene rest → are_expressions rest ≡ true → AreEvaluated f rest
          → ((d : ℕ) → judged.closed d ≡ true → AllNameOnly (change.rename d) only_closed rest) → PassesFrom it m rest run inner other → (before beside : List Tree)
          → PassAlikeFrom judged it ps at before beside m rest run inner other → (before_effects : List Effect) → Covering before before_effects → (effects : List Effect) → Covering beside effects
          → AllBegun change stage safe before_effects effects every rest (all_erased at (arguments_from (λ n. standing_for it run inner n other) other m rest))
      passes_begun scene e early_ones all run inner other m [] no_trees arguments some_ones typed expression evaluated only h before beside alike before_effects befores effects covers = tt
      passes_begun scene e early_ones all run inner other m [] (more_trees first rest) arguments some_ones typed expression evaluated only h before beside alike before_effects befores effects covers = absurd arguments
      passes_begun scene e early_ones all run inner other m (q ∷ qs) no_trees arguments some_ones typed expression evaluated only h before beside alike before_effects befores effects covers = absurd arguments
      passes_begun scene e early_ones all run inner other m (q ∷ qs) (more_trees first rest) arguments some_ones typed expression evaluated only h before beside alike before_effects befores effects covers =
          let lefts_m = standing_for it run inner m other in
          let one = there_first at change.old objects numbers judged named_apart closed_ones it run inner other m q qs some_ones in
          let others = there_rest at change.old objects numbers judged named_apart closed_ones it run inner other m q qs some_ones in
          let behind = all_erased at (arguments_from (λ n. standing_for it run inner n other) other (suc m) rest) in
          let around = before ++ (trees_from it (suc m) rest run inner other ++ beside) in
          let around_effects = central.beside_first stage every before_effects effects (all_begun behind) in (
            subst (λ (tree : Tree). BegunOutside change stage safe around_effects first (erased at tree)) (sym (first_is other lefts_m one))
                (tree_begun scene e one.left.runs (λ each k. early_ones) all first one.left.tree typed.0 (and_left (is_expression first) _ expression) evaluated.0 (λ d picked. inl (only d picked).0)
                (all_left_among (λ left_runs left_tree. Agrees it left_runs first left_tree) lefts_m h.0 one.left (first_among lefts_m one)) around
                (all_left_among (λ left_runs left_tree. EvaluatesAlike judged it ps at around left_runs first left_tree) lefts_m alike.0 one.left (first_among lefts_m one)) around_effects
                (appended_cover at change.old objects numbers judged named_apart closed_ones before (trees_from it (suc m) rest run inner other ++ beside) before_effects (central.open_effects stage every (all_begun behind) ++ effects) befores
                (appended_cover at change.old objects numbers judged named_apart closed_ones (trees_from it (suc m) rest run inner other) beside (central.open_effects stage every (all_begun behind)) effects
                (rest_cover at change.old objects numbers judged named_apart closed_ones it run inner other (suc m) qs rest arguments.1 others) covers))),
            passes_begun scene e early_ones all run inner other (suc m) qs rest arguments.1 others typed.1 (and_right (is_expression first) _ expression) evaluated.1 (λ d picked. (only d picked).1) h.1
                (before ++ trees_left lefts_m) beside alike.1 (before_rest stage every before_effects (begun (erased at (first_left other lefts_m))))
                (appended_cover at change.old objects numbers judged named_apart closed_ones before (trees_left lefts_m) before_effects (effects_of stage (begun (erased at (first_left other lefts_m)))) befores
                (first_covers at change.old objects numbers judged named_apart closed_ones other lefts_m one)) effects covers,
          )
