-- What stands in a typed full expression under evaluation, and of which nothing is evaluated, is typed.
use Rattle.std.specs.Prelude.{◌≡◌, ◌⊎◌, ℕ, true, List}
use Rattle.std.proofs.Common.{subst, inl, inr}
use Rattle.dm_type.specs.CTypes.{CType}
use Rattle.dm_tree.specs.Trees.{comma, choose, Tree, Trees, node, no_trees, more_trees, label_of, trees_of}
use Rattle.dm_meaning.specs.Values.{At}
use Rattle.dm_meaning.specs.Objects.{Layout}
use Rattle.dm_meaning.specs.Programs.{Program}
use Rattle.dm_meaning.specs.Operations.{Result}
use Rattle.dm_meaning.specs.Running.{evaluates, gives_truth, gives_value, Run, done, to_do, Runs, no_runs, more_runs, begun, all_begun, Open, every, first_open, others_open, open_of}
use Rattle.dm_meaning.specs.Wholes.{is_expression, are_expressions}
use Rattle.dm_meaning.proofs.OptionLemmas.{and_left, and_right}
use Rattle.dm_sound.specs.TypedRuns.{only, ComesFrom, AllComeFrom}
use Rattle.dm_sound.specs.TypedTrees.{IsTyped}
use Rattle.dm_sound.proofs.ComeLemmas.{AllTyped, typed_parts, typed_only}
use Rattle.dm_spans.specs.SameTrees.{IsSame, AreSame}
use Rattle.dm_spans.proofs.ExpressionLemmas.{expression_typed}
use Rattle.dm_central.specs.Standing.{standing_parts, StandsIn, StandsAmong}
use Rattle.dm_safe.proofs.ScopeLemmas.{part_comes, only_whole, below_whole}

module _ (laid : Layout) where
  mutual
    -- a tree that has come to another of which nothing is evaluated is that, but for where its nodes stand
    begun_same : (whole tree : Tree) → ComesFrom laid whole (begun tree) → IsSame whole tree
    begun_same (node label kind spans parts) (node other other_kind other_spans others) h = (h.1.0, h.0, all_begun_same (open_of other) parts others h.1.1)

    all_begun_same : (opens : Open) (trees others : Trees) → AllComeFrom laid opens trees (all_begun others) → AreSame trees others
    all_begun_same opens no_trees no_trees h = tt
    all_begun_same opens no_trees (more_trees other others) h = absurd h
    all_begun_same opens (more_trees first rest) no_trees h = absurd h
    all_begun_same opens (more_trees first rest) (more_trees other others) h =
        (begun_same first other (part_comes laid (first_open opens) first (begun other) h.0), all_begun_same (others_open opens) rest others h.1)

module _ (program : Program) (laid : Layout) (result : CType) (tree : Tree) where
  whole_typed : (whole : Tree) (run : Run) → run ≡ begun tree → ComesFrom laid whole run → IsTyped program result whole → is_expression whole ≡ true → IsTyped program result tree
  whole_typed whole run same h t e = expression_typed program result whole tree (begun_same laid whole tree (subst (ComesFrom laid whole) same h)) e t

  typed_below : (whole : Tree) → IsTyped program result whole → AllTyped program result (trees_of whole)
  typed_below (node label kind spans parts) t = typed_parts program result label kind spans parts t

  not_done : (kind : CType) (given : Result) (locks : List At) → done kind given locks ≡ begun tree → ⊥
  not_done kind given locks same = by_tree tree same
    where
      by_tree : (t : Tree) → done kind given locks ≡ begun t → ⊥
      by_tree (node label own spans parts) e = cc

  mutual
    pub stands_typed : (whole : Tree) (run : Run) → ComesFrom laid whole run → IsTyped program result whole → is_expression whole ≡ true → StandsIn (begun tree) run → IsTyped program result tree
    stands_typed whole (done kind given locks) h t e same = absurd (not_done kind given locks same)
    stands_typed whole (to_do doing kind place parts) h t e (inl same) = whole_typed whole (to_do doing kind place parts) same h t e
    stands_typed whole (to_do (evaluates label) kind place parts) h t e (inr among) =
        among_typed (standing_parts (evaluates label)) (open_of label) (trees_of whole) parts h.1.1 (typed_below whole t) (below_whole whole e) among
    stands_typed whole (to_do gives_truth kind place parts) h t e (inr among) =
        among_typed every every (only 1 (trees_of whole)) parts h.1.1 (typed_only program result 1 (trees_of whole) (typed_below whole t)) (only_whole 1 (trees_of whole) (below_whole whole e)) among
    stands_typed whole (to_do gives_value kind place parts) h t e (inr among) =
        by_chosen h.1 (λ n come. among_typed every every (only n (trees_of whole)) parts come (typed_only program result n (trees_of whole) (typed_below whole t)) (only_whole n (trees_of whole) (below_whole whole e)) among)
      where
        by_chosen : ((label_of whole ≡ comma) × AllComeFrom laid every (only 1 (trees_of whole)) parts)
            ⊎ ((label_of whole ≡ choose) × (AllComeFrom laid every (only 1 (trees_of whole)) parts ⊎ AllComeFrom laid every (only 2 (trees_of whole)) parts))
            → ((n : ℕ) → AllComeFrom laid every (only n (trees_of whole)) parts → IsTyped program result tree) → IsTyped program result tree
        by_chosen (inl (f, come)) next = next 1 come
        by_chosen (inr (f, inl come)) next = next 1 come
        by_chosen (inr (f, inr come)) next = next 2 come

    among_typed : (stand opens : Open) (trees : Trees) (runs : Runs) → AllComeFrom laid opens trees runs → AllTyped program result trees → are_expressions trees ≡ true → StandsAmong (begun tree) stand runs
        → IsTyped program result tree
    among_typed stand opens no_trees no_runs h t e among = absurd among
    among_typed stand opens no_trees (more_runs first rest) h t e among = absurd h
    among_typed stand opens (more_trees first rest) no_runs h t e among = absurd among
    among_typed stand opens (more_trees first rest) (more_runs run runs) h t e (inl one) =
        stands_typed first run (part_comes laid (first_open opens) first run h.0) t.0 (and_left (is_expression first) (are_expressions rest) e) one.1
    among_typed stand opens (more_trees first rest) (more_runs run runs) h t e (inr among) =
        among_typed (others_open stand) (others_open opens) rest runs h.1 t.1 (and_right (is_expression first) (are_expressions rest) e) among
