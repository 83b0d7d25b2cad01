-- Trees of aligned units, where the added enumerator stands in place of runs.
--     AddsValue change added      nothing is added, or an enumerator with its value
--     tree_enumerated      trees that agree are the same but for enumerators in place of constant expressions
use Rattle.std.specs.Prelude.{◌≡◌, refl, ℕ, List, [], ◌∷◌, Some, All}
use Rattle.std.proofs.Common.{sym, ◌∙◌, subst, inl, inr}
use Rattle.std.proofs.lemmas.List.Elements.{All-head, All-tail}
use Rattle.dm_runs.specs.declared.run.Run.{Run}
use Rattle.dm_int.specs.declared.Kind.TheVariants.{Int}
use Rattle.dm_type.specs.CTypes.{CType, integer}
use Rattle.dm_type.specs.Tables.{Table}
use Rattle.dm_tree.specs.Constants.{constant, enumerator_value}
use Rattle.dm_tree.specs.Scenes.{Scene}
use Rattle.dm_tree.specs.Trees.{Label, enumerator, Spans, Tree, Trees, node, no_trees, more_trees, listed}
use Rattle.dm_tree.specs.Typing.{Fits, inside, IsWellTyped, AreWellTyped}
use Rattle.dm_meaning.specs.Replaced as replaced
use Rattle.dm_meaning.specs.Replaced.{Replaced, Zipped, IsEnumerated}
use Rattle.dm_agree.specs.Standing.{runs_at, runs_below}
use Rattle.dm_agree.specs.Agreement.{Added, nothing, added_function, added_enumerator, added_constant, Rewriting, Agrees, AllAgree, AtRun, AgreesWhole}

-- nothing is added, or an enumerator, which has the value that it is told to have
abbrev pub AddsValue : Replaced → Added → Type 0
AddsValue change nothing = Unit {0}
AddsValue change (added_enumerator d value) = enumerator_value change.declared d ≡ Some value
AddsValue change (added_function f parameters body) = ⊥
AddsValue change (added_constant d value) = ⊥

-- a well-typed enumerator is an int
enumerator_int : (scene : Scene) (label : Label) (kind : CType) (parts : Trees) (d : ℕ) → label ≡ enumerator d → parts ≡ no_trees → Fits scene label kind (listed parts)
    → kind ≡ integer Int
enumerator_int scene label kind parts d e leaf fits =
    (subst (λ (trees : Trees). Fits scene (enumerator d) kind (listed trees)) leaf (subst (λ (l : Label). Fits scene l kind (listed parts)) e fits)).1

module _ (types : Table) (runs : List Run) (change : Replaced) (added : Added) (adds : AddsValue change added) where
  abbrev it : Rewriting
  it = record { runs = runs; added = added; rename = change.rename; value = constant change.old.table change.old.declared }

  -- what stands at a run
  at_run : (rewriting : Rewriting) (one : Added) → AddsValue change one → (run : Run) (inner : List Run) (label : Label) (kind : CType) (parts : Trees) (other : Tree) (Passed : Type 0)
      → rewriting.value other ≡ constant change.old.table change.old.declared other
      → (scene new_scene : Scene) → Fits new_scene label kind (listed parts) → IsWellTyped scene other
      → AtRun rewriting one run inner label kind parts other Passed → IsEnumerated change label kind parts other
  at_run rewriting nothing named run inner label kind parts other Passed is scene new_scene fits typed h = absurd h
  at_run rewriting (added_function f parameters body) named run inner label kind parts other Passed is scene new_scene fits typed h = absurd named
  at_run rewriting (added_constant d value) named run inner label kind parts other Passed is scene new_scene fits typed h = absurd named
  at_run rewriting (added_enumerator d value) named run inner label kind parts other Passed is scene new_scene fits typed h =
      let int = enumerator_int new_scene label kind parts d h.0 h.2 fits in
      record {
        declared = d;
        value = value;
        is = h.0;
        leaf = h.2;
        int = int;
        other_int = sym h.1 ∙ int;
        constant = sym is ∙ h.3;
        named = named;
        scene = scene;
        typed = typed;
      }

  mutual
    tree_enumerated : (scene new_scene : Scene) (standing : List Run) (tree other : Tree) → IsWellTyped new_scene tree → IsWellTyped scene other
        → Agrees it standing tree other → replaced.Agrees change tree other
    tree_enumerated scene new_scene [] (node label kind spans parts) (node other other_kind other_spans others) t u h =
        inl (h.0.0, h.0.1, trees_enumerated (inside scene other (listed others)) (inside new_scene label (listed parts)) other other_spans parts others t.1 u.1 h.1)
    tree_enumerated scene new_scene (run ∷ inner) (node label kind spans parts) other t u h =
        inr (at_run it added adds run inner label kind parts other _ refl scene new_scene t.0 u h)

    trees_enumerated : (scene new_scene : Scene) (label : Label) (spans : Spans) (trees others : Trees) → AreWellTyped new_scene trees → AreWellTyped scene others
        → AllAgree it label spans trees others → replaced.AllAgree change trees others
    trees_enumerated scene new_scene label spans no_trees no_trees t u h = tt
    trees_enumerated scene new_scene label spans no_trees (more_trees other others) t u h = absurd h
    trees_enumerated scene new_scene label spans (more_trees first rest) no_trees t u h = absurd h
    trees_enumerated scene new_scene label spans (more_trees first rest) (more_trees other others) t u h = (
      tree_enumerated scene new_scene (runs_below runs label spans other) first other t.0 u.0 h.0,
      trees_enumerated scene new_scene label spans rest others t.1 u.1 h.1,
    )

  pub trees_whole_enumerated : (scene new_scene : Scene) (trees others : List Tree) → All (IsWellTyped new_scene) trees → All (IsWellTyped scene) others
      → Zipped (AgreesWhole it) trees others → Zipped (replaced.Agrees change) trees others
  trees_whole_enumerated scene new_scene [] [] t u h = tt
  trees_whole_enumerated scene new_scene [] (other ∷ others) t u h = absurd h
  trees_whole_enumerated scene new_scene (tree ∷ trees) [] t u h = absurd h
  trees_whole_enumerated scene new_scene (tree ∷ trees) (other ∷ others) t u h = (
    tree_enumerated scene new_scene (runs_at runs other) tree other (All-head (IsWellTyped new_scene) tree trees t) (All-head (IsWellTyped scene) other others u) h.0,
    trees_whole_enumerated scene new_scene trees others (All-tail (IsWellTyped new_scene) tree trees t) (All-tail (IsWellTyped scene) other others u) h.1,
  )

  pub whole_enumerated : (scene new_scene : Scene) (tree other : Tree) → IsWellTyped new_scene tree → IsWellTyped scene other → AgreesWhole it tree other → replaced.Agrees change tree other
  whole_enumerated scene new_scene tree other t u h = tree_enumerated scene new_scene (runs_at runs other) tree other t u h
