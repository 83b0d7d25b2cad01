-- Arguments that are stable read nothing that trees beside them write.
--     Covers stage trees effects      these are effects of the trees
--     stable_apart      a stable argument reads nothing that has such effects
use Rattle.std.specs.Prelude.{◌≡◌, refl, ◌⊎◌, ℕ, ◌==◌, Bool, true, false, List, [], ◌∷◌, ◌++◌, Option, Some, None, if◌then◌else◌}
use Rattle.std.specs.List.{AllByRecursion}
use Rattle.std.proofs.Common.{true≢false, ap, sym, ◌∙◌, subst, inl, inr}
use Rattle.dm_type.specs.CTypes.{CType}
use Rattle.dm_tree.specs.Trees.{Label, object, function, read, store, update, count, call, Spans, Tree, Trees, node, no_trees, more_trees}
use Rattle.dm_meaning.specs.Among.{IsAmong}
use Rattle.dm_meaning.specs.Operations.{Objects, object_named}
use Rattle.dm_meaning.specs.Programs.{Program}
use Rattle.dm_meaning.specs.Running.{evaluates, begun, all_begun}
use Rattle.dm_meaning.specs.Expressions.{function_named}
use Rattle.dm_meaning.proofs.AmongLemmas.{among_left, among_right, among_either}
use Rattle.dm_meaning.proofs.GrowLemmas.{equal_is}
use Rattle.dm_effect.specs.Entities.{object_first, is_this, writes_here}
use Rattle.dm_rewrite.specs.Effects.{Effect, on_object, on_others, Stage, Hits, IsFree, by_number, target_effects, call_effects, own_effects, effects_of, effects_in}
use Rattle.dm_rewrite.specs.Computed.{IsPure, ArePure}
use Rattle.dm_central.specs.Apart.{ReadsFreeName, ReadsFreeNames, AllReadFreeNames}
use Rattle.dm_central.specs.Arguments.{ReadsApart}
use Rattle.dm_central.specs.QuietFrames.{is_quiet_node, WritesNothing, AllWriteNothing}
use Rattle.dm_central.proofs.ApartLemmas.{apart_by_names}
use Rattle.dm_late.specs.Late.{Judged, NotWritten, NoneWritten, ReadsSteady, IsSteady, AreSteady, IsStable}
use Rattle.dm_late.specs.Settled.{erased, all_erased}

-- ---- nothing in an argument stores or calls

mutual
  pub erased_pure : (at : Spans) (tree : Tree) → IsPure (begun tree) → IsPure (begun (erased at tree))
  erased_pure at (node label kind spans parts) h = (h.0, all_erased_pure at parts h.1)

  all_erased_pure : (at : Spans) (trees : Trees) → ArePure (all_begun trees) → ArePure (all_begun (all_erased at trees))
  all_erased_pure at no_trees h = tt
  all_erased_pure at (more_trees first rest) h = (erased_pure at first h.0, all_erased_pure at rest h.1)

abbrev NoEffects : List Effect → Type 0
NoEffects effects = (effect : Effect) → IsAmong effect effects → ⊥

neither : (xs ys : List Effect) → NoEffects xs → NoEffects ys → NoEffects (xs ++ ys)
neither xs ys h k effect l = by_side (among_either effect xs ys l)
  where
    by_side : IsAmong effect xs ⊎ IsAmong effect ys → ⊥
    by_side (inl m) = h effect m
    by_side (inr m) = k effect m

free_both : (closed : List ℕ) (xs ys : List Effect) (n : ℕ) → IsFree closed xs n → IsFree closed ys n → IsFree closed (xs ++ ys) n
free_both closed xs ys n h k effect l = by_side (among_either effect xs ys l)
  where
    by_side : IsAmong effect xs ⊎ IsAmong effect ys → Hits closed effect n → ⊥
    by_side (inl m) = h effect m
    by_side (inr m) = k effect m

module _ (at : Spans) (program : Program) (objects : Objects) (numbers : List ℕ) (judged : Judged)
    (apart : (c d n : ℕ) → object_named objects c ≡ Some n → object_named objects d ≡ Some n → c ≡ d)
    (closed_ones : (d n : ℕ) → judged.closed d ≡ true → object_named objects d ≡ Some n → IsAmong n numbers) where
  abbrev pub stage : Stage
  stage = record { scene = record { program = program; objects = objects }; closed = numbers; quiet = judged.quiet }

  -- ---- trees that write nothing

  call_none : (b : Bool) → b ≡ true → NoEffects (if b then [] else on_others ∷ [])
  call_none true e effect l = l
  call_none false e effect l = true≢false (sym e)

  node_none : (label : Label) (parts : Trees) → is_quiet_node judged.quiet label parts ≡ true → NoEffects (own_effects stage (evaluates label) (all_begun (all_erased at parts)))
  node_none call (more_trees (node (function g) kind spans no_trees) rest) h = call_none (judged.quiet g) h
  node_none call (more_trees (node (function g) kind spans (more_trees below others)) rest) h = absurd (true≢false (sym h))
  node_none call (more_trees (node label kind spans parts) rest) h = absurd (true≢false (sym h))
  node_none call no_trees h = absurd (true≢false (sym h))
  node_none store parts h = absurd (true≢false (sym h))
  node_none (update op works) parts h = absurd (true≢false (sym h))
  node_none (count plus before) parts h = absurd (true≢false (sym h))
  node_none label parts h = λ effect l. l

  mutual
    tree_none : (tree : Tree) → WritesNothing judged.quiet tree → NoEffects (effects_of stage (begun (erased at tree)))
    tree_none (node label kind spans parts) h =
        neither (own_effects stage (evaluates label) (all_begun (all_erased at parts))) (effects_in stage (all_begun (all_erased at parts))) (node_none label parts h.0) (trees_none parts h.1)

    trees_none : (trees : Trees) → AllWriteNothing judged.quiet trees → NoEffects (effects_in stage (all_begun (all_erased at trees)))
    trees_none no_trees h = λ effect l. l
    trees_none (more_trees first rest) h =
        neither (effects_of stage (begun (erased at first))) (effects_in stage (all_begun (all_erased at rest))) (tree_none first h.0) (trees_none rest h.1)

  -- ---- trees that don't write an object

  module _ (d n : ℕ) (picked : judged.closed d ≡ true) (names : object_named objects d ≡ Some n) where
    others_free : IsFree numbers (on_others ∷ []) n
    others_free effect (inl e) hit = subst (λ x. Hits numbers x n) e hit (closed_ones d n picked names)
    others_free effect (inr k) hit = absurd k

    call_free : (o : Option ℕ) → IsFree numbers (call_effects judged.quiet o) n
    call_free None = others_free
    call_free (Some f) = by_bool (judged.quiet f)
      where
        by_bool : (b : Bool) → IsFree numbers (if b then [] else on_others ∷ []) n
        by_bool true = λ effect l hit. absurd l
        by_bool false = others_free

    named_free : (e m : ℕ) → (e == d) ≡ false → object_named objects e ≡ Some m → IsFree numbers (on_object m ∷ []) n
    named_free e m other f effect (inl is) hit = true≢false (sym (equal_is e d (apart e d n (f ∙ ap Some (subst (λ x. Hits numbers x n) is hit)) names)) ∙ other)
    named_free e m other f effect (inr k) hit = absurd k

    name_free : (e : ℕ) → (e == d) ≡ false → (o : Option ℕ) → object_named objects e ≡ o → IsFree numbers (by_number o) n
    name_free e other None f = λ effect l hit. absurd l
    name_free e other (Some m) f = named_free e m other f

    target_free : (left : Tree) (rest : Trees) → is_this d (object_first (more_trees left rest)) ≡ false → IsFree numbers (target_effects objects (begun (erased at left))) n
    target_free (node (object e) kind spans parts) rest h = name_free e h (object_named objects e) refl
    target_free (node label kind spans parts) rest h = others_free

    no_effect : IsFree numbers [] n
    no_effect effect l hit = absurd l

    own_free : (label : Label) (kind : CType) (spans : Spans) (parts : Trees) → writes_here d (node label kind spans parts) ≡ false → IsFree numbers (own_effects stage (evaluates label) (all_begun (all_erased at parts))) n
    own_free store kind spans (more_trees left rest) h = target_free left rest h
    own_free store kind spans no_trees h = no_effect
    own_free (update op works) kind spans (more_trees left rest) h = target_free left rest h
    own_free (update op works) kind spans no_trees h = no_effect
    own_free (count plus before) kind spans (more_trees left rest) h = target_free left rest h
    own_free (count plus before) kind spans no_trees h = no_effect
    own_free call kind spans (more_trees named rest) h = call_free (function_named (begun (erased at named)))
    own_free call kind spans no_trees h = no_effect
    own_free label kind spans parts h = no_effect

    mutual
      tree_free : (tree : Tree) → NotWritten d tree → IsFree numbers (effects_of stage (begun (erased at tree))) n
      tree_free (node label kind spans parts) h =
          free_both numbers (own_effects stage (evaluates label) (all_begun (all_erased at parts))) (effects_in stage (all_begun (all_erased at parts))) n (own_free label kind spans parts h.0) (trees_free parts h.1)

      trees_free : (trees : Trees) → NoneWritten d trees → IsFree numbers (effects_in stage (all_begun (all_erased at trees))) n
      trees_free no_trees h = no_effect
      trees_free (more_trees first rest) h =
          free_both numbers (effects_of stage (begun (erased at first))) (effects_in stage (all_begun (all_erased at rest))) n (tree_free first h.0) (trees_free rest h.1)

  -- ---- effects of trees

  -- one of the trees has the effect
  pub record HasEffect (trees : List Tree) (effect : Effect) : Type 0 where
    pub tree : Tree
    pub among : IsAmong tree trees
    pub has : IsAmong effect (effects_of stage (begun (erased at tree)))

  abbrev pub Covers : List Tree → List Effect → Type 0
  Covers trees effects = (effect : Effect) → IsAmong effect effects → HasEffect trees effect

  pub more_cover : (trees others : List Tree) (effects : List Effect) → ((tree : Tree) → IsAmong tree trees → IsAmong tree others) → Covers trees effects → Covers others effects
  more_cover trees others effects f h effect l = let found = h effect l in record { tree = found.tree; among = f found.tree found.among; has = found.has }

  pub both_cover : (trees : List Tree) (xs ys : List Effect) → Covers trees xs → Covers trees ys → Covers trees (xs ++ ys)
  both_cover trees xs ys h k effect l = by_side (among_either effect xs ys l)
    where
      by_side : IsAmong effect xs ⊎ IsAmong effect ys → HasEffect trees effect
      by_side (inl m) = h effect m
      by_side (inr m) = k effect m

  pub appended_cover : (trees others : List Tree) (xs ys : List Effect) → Covers trees xs → Covers others ys → Covers (trees ++ others) (xs ++ ys)
  appended_cover trees others xs ys h k =
      both_cover (trees ++ others) xs ys (more_cover trees (trees ++ others) xs (λ tree l. among_left tree trees others l) h) (more_cover others (trees ++ others) ys (λ tree l. among_right tree trees others l) k)

  pub itself_covers : (tree : Tree) → Covers (tree ∷ []) (effects_of stage (begun (erased at tree)))
  itself_covers tree effect l = record { tree = tree; among = inl refl; has = l }

  -- ---- stable arguments

  all_there : (P : Tree → Type 0) (trees : List Tree) → AllByRecursion P trees → (tree : Tree) → IsAmong tree trees → P tree
  all_there P [] h tree l = absurd l
  all_there P (first ∷ rest) h tree (inl e) = subst P (sym e) h.0
  all_there P (first ∷ rest) h tree (inr k) = all_there P rest h.1 tree k

  module _ (trees : List Tree) (effects : List Effect) (covers : Covers trees effects) where
    read_free : (label : Label) (parts : Trees) → ReadsSteady judged trees label parts → ReadsFreeName stage effects label (all_erased at parts)
    read_free read (more_trees (node (object d) kind spans no_trees) no_trees) h =
        λ n names effect l hit. let found = covers effect l in tree_free d n h.0 names found.tree (all_there (NotWritten d) trees h.1 found.tree found.among) effect found.has hit
    read_free read no_trees h = absurd h
    read_free read (more_trees (node (object d) kind spans no_trees) (more_trees second rest)) h = absurd h
    read_free read (more_trees (node (object d) kind spans (more_trees below others)) rest) h = absurd h
    read_free read (more_trees (node label kind spans parts) rest) h = absurd h
    read_free label parts h = tt

    mutual
      reads_free : (tree : Tree) → IsSteady judged trees tree → ReadsFreeNames stage effects (erased at tree)
      reads_free (node label kind spans parts) h = (read_free label parts h.0, all_read_free parts h.1)

      all_read_free : (parts : Trees) → AreSteady judged trees parts → AllReadFreeNames stage effects (all_erased at parts)
      all_read_free no_trees h = tt
      all_read_free (more_trees first rest) h = (reads_free first h.0, all_read_free rest h.1)

    pub stable_apart : (argument : Tree) → IsStable judged trees argument → ReadsApart stage effects (begun (erased at argument))
    stable_apart argument h = by_case h.1
      where
        by_case : AllByRecursion (WritesNothing judged.quiet) trees ⊎ IsSteady judged trees argument → ReadsApart stage effects (begun (erased at argument))
        by_case (inl quiet) =
            λ world found e at among n name effect l hit. let one = covers effect l in absurd (tree_none one.tree (all_there (WritesNothing judged.quiet) trees quiet one.tree one.among) effect one.has)
        by_case (inr steady) = apart_by_names stage effects (erased at argument) (reads_free argument steady)
