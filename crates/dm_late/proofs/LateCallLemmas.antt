-- The arguments of a call of the added function, by the trees that stand for them in a run.
--     closed_tree      a tree that names closed objects only where it reads or writes them is closed in each frame
--     HasFirst lefts      some tree stands for a parameter
--     first_covers, rest_cover      effects of arguments are those of trees that stand for them
use Rattle.std.specs.Prelude.{◌≡◌, refl, ◌⊎◌, ℕ, suc, ◌+◌, ◌==◌, Bool, true, false, List, [], ◌∷◌, ◌++◌, length, Option, Some, None, slice_get, if◌then◌else◌}
use Rattle.std.proofs.Common.{arith, ap, sym, ◌∙◌, subst, inl, inr}
use Rattle.std.proofs.lemmas.Bool.{true≢false}
use Rattle.dm_runs.specs.declared.run.Run.{Run}
use Rattle.dm_type.specs.CTypes.{CType}
use Rattle.dm_tree.specs.Trees.{Label, object, Spans, Tree, Trees, node, no_trees, more_trees}
use Rattle.dm_meaning.specs.Among.{IsAmong}
use Rattle.dm_meaning.specs.Operations.{Objects, object_named}
use Rattle.dm_meaning.specs.Programs.{Program}
use Rattle.dm_meaning.specs.Running.{evaluates, begun, all_begun, Open, every, first_open, others_open}
use Rattle.dm_meaning.proofs.AmongLemmas.{among-map}
use Rattle.dm_meaning.proofs.GrowLemmas.{equal_is, equal_of}
use Rattle.dm_meaning.proofs.OptionLemmas.{none_is_some, some_is_some}
use Rattle.dm_rewrite.specs.Closed.{May, only_closed, may_name, unseen, names_first, FirstIs, IsNotNamed, IsClosedIn, IsClosedInAll, IsPlace}
use Rattle.dm_rewrite.specs.ClosedStates.{IsOther, IsName, NamesOnly, AllNameOnly}
use Rattle.dm_rewrite.specs.Effects.{Effect, Stage, effects_of, effects_in}
use Rattle.dm_agree.specs.Agreement.{Rewriting, Left, here_at, standing_for}
use Rattle.dm_central.specs.Agreement as central
use Rattle.dm_central.specs.Agreement.{open_effects, before_rest}
use Rattle.dm_refine.proofs.CallTreeLemmas.{first_left, AreArguments, arguments_from}
use Rattle.dm_late.specs.Late.{Judged, open_trees, beside_first, before_others, trees_left, trees_from}
use Rattle.dm_late.proofs.ArgumentLemmas.{left_effect}
use Rattle.dm_late.specs.Settled.{erased, all_erased}
use Rattle.dm_late.proofs.StableLemmas.{Covers, both_cover, appended_cover, itself_covers}

-- ---- trees that stand for a parameter

pub record HasFirst (lefts : List Left) : Type 0 where
  pub left : Left
  pub more : List Left
  pub is : lefts ≡ left ∷ more

pub some_left : (lefts : List Left) → (length lefts ≡ 0 → ⊥) → HasFirst lefts
some_left [] n = absurd (n refl)
some_left (left ∷ more) n = record { left = left; more = more; is = refl }

pub first_is : (other : Tree) (lefts : List Left) → (one : HasFirst lefts) → first_left other lefts ≡ one.left.tree
first_is other lefts one = ap (first_left other) one.is

pub first_among : (lefts : List Left) → (one : HasFirst lefts) → IsAmong one.left lefts
first_among lefts one = subst (IsAmong one.left) (sym one.is) (inl refl)

-- ---- closed objects

module _ (program : Program) (objects : Objects) (numbers : List ℕ) (judged : Judged)
    (closed_names : (d n : ℕ) → IsAmong n numbers → object_named objects d ≡ Some n → judged.closed d ≡ true) (n : ℕ) (among : IsAmong n numbers) where
  abbrev OldOnly : Tree → Type 0
  OldOnly tree = (d : ℕ) → judged.closed d ≡ true → NamesOnly d tree

  not_named : (label : Label) → ((d : ℕ) → judged.closed d ≡ true → IsOther d label) → IsNotNamed n objects (evaluates label)
  not_named (object e) h = λ f. h e (closed_names e n among f) refl
  not_named label h = tt

  name_place : (e : ℕ) (kind : CType) (spans : Spans) (found : Option ℕ) → object_named objects e ≡ found
      → IsClosedIn n objects (begun (node (object e) kind spans no_trees)) ⊎ IsPlace n objects (begun (node (object e) kind spans no_trees))
  name_place e kind spans None f = inl ((λ g. none_is_some n (sym f ∙ g)), tt)
  name_place e kind spans (Some m) f = by_bool (m == n) refl
    where
      by_bool : (b : Bool) → (m == n) ≡ b → IsClosedIn n objects (begun (node (object e) kind spans no_trees)) ⊎ IsPlace n objects (begun (node (object e) kind spans no_trees))
      by_bool true g = inr (inl (e, kind, spans.place, refl, f ∙ ap Some (equal_of m n g)))
      by_bool false g = inl ((λ k. true≢false (sym (equal_is m n (some_is_some m n (sym f ∙ k))) ∙ g)), tt)

  no_name : (d : ℕ) (tree : Tree) → (IsName d tree → ⊥) → NamesOnly d tree ⊎ IsName d tree → NamesOnly d tree
  no_name d tree f (inl h) = h
  no_name d tree f (inr h) = absurd (f h)

  first_closed : (may : May) (first : Tree) → (OldOnly first → IsClosedIn n objects (begun first)) → ((d : ℕ) → judged.closed d ≡ true → FirstIs may (NamesOnly d first) (IsName d first))
      → FirstIs may (IsClosedIn n objects (begun first)) (IsPlace n objects (begun first))
  first_closed only_closed first f h = f h
  first_closed unseen first f h = tt
  first_closed may_name (node (object e) kind spans no_trees) f h = name_place e kind spans (object_named objects e) refl
  first_closed may_name (node (object e) kind spans (more_trees first rest)) f h =
      inl (f (λ d picked. no_name d (node (object e) kind spans (more_trees first rest)) (λ (k : IsName d (node (object e) kind spans (more_trees first rest))). more_none d e kind spans first rest k.0 k.1 k.2) (h d picked)))
    where
      more_none : (d e : ℕ) (kind : CType) (spans : Spans) (first : Tree) (rest : Trees) (other : CType) (others : Spans) → node (object e) kind spans (more_trees first rest) ≡ node (object d) other others no_trees → ⊥
      more_none d e kind spans first rest other others k = cc
  first_closed may_name (node label kind spans parts) f h =
      inl (f (λ d picked. no_name d (node label kind spans parts) (λ (k : IsName d (node label kind spans parts)). absurd (cc)) (h d picked)))

  mutual
    pub closed_tree : (tree : Tree) → OldOnly tree → IsClosedIn n objects (begun tree)
    closed_tree (node label kind spans parts) only = (not_named label (λ d picked. (only d picked).0), closed_trees (names_first (evaluates label)) parts (λ d picked. (only d picked).1))

    pub closed_trees : (may : May) (trees : Trees) → ((d : ℕ) → judged.closed d ≡ true → AllNameOnly d may trees) → IsClosedInAll n objects may (all_begun trees)
    closed_trees may no_trees only = tt
    closed_trees may (more_trees first rest) only =
        (first_closed may first (λ k. closed_tree first k) (λ d picked. (only d picked).0), closed_trees only_closed rest (λ d picked. (only d picked).1))

-- ---- effects

module _ (at : Spans) (program : Program) (objects : Objects) (numbers : List ℕ) (judged : Judged)
    (apart : (c d n : ℕ) → object_named objects c ≡ Some n → object_named objects d ≡ Some n → c ≡ d)
    (closed_ones : (d n : ℕ) → judged.closed d ≡ true → object_named objects d ≡ Some n → IsAmong n numbers) where
  abbrev stage : Stage
  stage = record { scene = record { program = program; objects = objects }; closed = numbers; quiet = judged.quiet }

  abbrev Covering : List Tree → List Effect → Type 0
  Covering trees effects = Covers at program objects numbers judged apart closed_ones trees effects

  pub open_cover : (opens : Open) (trees : Trees) → Covering (open_trees opens trees) (open_effects stage opens (all_begun (all_erased at trees)))
  open_cover opens no_trees = λ effect l. absurd l
  open_cover opens (more_trees first rest) =
      appended_cover at program objects numbers judged apart closed_ones (if first_open opens then first ∷ [] else []) (open_trees (others_open opens) rest)
      (if first_open opens then effects_of stage (begun (erased at first)) else []) (open_effects stage (others_open opens) (all_begun (all_erased at rest))) (by_bool (first_open opens)) (open_cover (others_open opens) rest)
    where
      by_bool : (b : Bool) → Covering (if b then first ∷ [] else []) (if b then effects_of stage (begun (erased at first)) else [])
      by_bool true = itself_covers at program objects numbers judged apart closed_ones first
      by_bool false = λ effect l. absurd l

  -- beside the first part, and before the others
  pub first_beside : (opens : Open) (before beside : List Tree) (others : Trees) (before_effects effects : List Effect) → Covering before before_effects → Covering beside effects
      → Covering (beside_first opens before beside others) (central.beside_first stage opens before_effects effects (all_begun (all_erased at others)))
  first_beside opens before beside others before_effects effects h k = by_bool (first_open opens)
    where
      by_bool : (b : Bool) → Covering (if b then before ++ (open_trees (others_open opens) others ++ beside) else beside)
          (if b then before_effects ++ (open_effects stage (others_open opens) (all_begun (all_erased at others)) ++ effects) else effects)
      by_bool true =
          appended_cover at program objects numbers judged apart closed_ones before (open_trees (others_open opens) others ++ beside) before_effects (open_effects stage (others_open opens) (all_begun (all_erased at others)) ++ effects) h
          (appended_cover at program objects numbers judged apart closed_ones (open_trees (others_open opens) others) beside (open_effects stage (others_open opens) (all_begun (all_erased at others))) effects
          (open_cover (others_open opens) others) k)
      by_bool false = k

  pub rest_before : (opens : Open) (before : List Tree) (other : Tree) (before_effects : List Effect) → Covering before before_effects
      → Covering (before_others opens before other) (before_rest stage opens before_effects (begun (erased at other)))
  rest_before opens before other before_effects h = by_bool (first_open opens)
    where
      by_bool : (b : Bool) → Covering (if b then before ++ other ∷ [] else before) (if b then before_effects ++ effects_of stage (begun (erased at other)) else before_effects)
      by_bool true = appended_cover at program objects numbers judged apart closed_ones before (other ∷ []) before_effects (effects_of stage (begun (erased at other))) h (itself_covers at program objects numbers judged apart closed_ones other)
      by_bool false = h

  -- a tree that stands for a parameter has the effects of the argument
  pub first_covers : (other : Tree) (lefts : List Left) → HasFirst lefts → Covering (trees_left lefts) (effects_of stage (begun (erased at (first_left other lefts))))
  first_covers other lefts one effect l = record {
    tree = one.left.tree;
    among = among-map (λ (left : Left). left.tree) one.left lefts (first_among lefts one);
    has = subst (λ (tree : Tree). IsAmong effect (effects_of stage (begun (erased at tree)))) (first_is other lefts one) l;
  }

  module _ (it : Rewriting) (run : Run) (inner : List Run) (other : Tree) where
    abbrev lefts : ℕ → List Left
    lefts n = standing_for it run inner n other

    -- each argument from the m-th on stands somewhere
    abbrev pub AreThere : ℕ → List ℕ → Type 0
    AreThere m qs = (k p : ℕ) → slice_get qs k ≡ Some p → (n : ℕ) → n ≡ m + k → HasFirst (lefts n)

    pub there_first : (m q : ℕ) (qs : List ℕ) → AreThere m (q ∷ qs) → HasFirst (lefts m)
    there_first m q qs some = some 0 q refl m (omega arith)

    pub there_rest : (m q : ℕ) (qs : List ℕ) → AreThere m (q ∷ qs) → AreThere (suc m) qs
    there_rest m q qs some k p e n at = some (suc k) p e n (omega (arith, at))

    pub rest_cover : (m : ℕ) (qs : List ℕ) (rest : Trees) → AreArguments qs rest → AreThere m qs
        → Covering (trees_from it m rest run inner other) (open_effects stage every (all_begun (all_erased at (arguments_from lefts other m rest))))
    rest_cover m [] no_trees arguments some = λ effect l. absurd l
    rest_cover m [] (more_trees first rest) arguments some = absurd arguments
    rest_cover m (q ∷ qs) no_trees arguments some = absurd arguments
    rest_cover m (q ∷ qs) (more_trees first rest) arguments some =
        appended_cover at program objects numbers judged apart closed_ones (trees_left (lefts m)) (trees_from it (suc m) rest run inner other) (effects_of stage (begun (erased at (first_left other (lefts m)))))
        (open_effects stage every (all_begun (all_erased at (arguments_from lefts other (suc m) rest)))) (first_covers other (lefts m) (there_first m q qs some))
        (rest_cover (suc m) qs rest arguments.1 (there_rest m q qs some))

    -- the run has the effects of all
    pub run_covers : (m : ℕ) (qs : List ℕ) (rest : Trees) → AreArguments qs rest → AreThere m qs → Covering (other ∷ []) (effects_in stage (all_begun (all_erased at (arguments_from lefts other m rest))))
    run_covers m [] no_trees arguments some = λ effect l. absurd l
    run_covers m [] (more_trees first rest) arguments some = absurd arguments
    run_covers m (q ∷ qs) no_trees arguments some = absurd arguments
    run_covers m (q ∷ qs) (more_trees first rest) arguments some =
        both_cover at program objects numbers judged apart closed_ones (other ∷ []) (effects_of stage (begun (erased at (first_left other (lefts m))))) (effects_in stage (all_begun (all_erased at (arguments_from lefts other (suc m) rest))))
        (λ effect l.
        let one = there_first m q qs some in
        record {
          tree = other;
          among = inl refl;
          has = left_effect at stage it run m one.left effect (subst (λ (tree : Tree). IsAmong effect (effects_of stage (begun (erased at tree)))) (first_is other (lefts m) one) l) (here_at run inner other) other (first_among (lefts m) one);
        })
        (run_covers (suc m) qs rest arguments.1 (there_rest m q qs some))
