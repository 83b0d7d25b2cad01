-- A full expression that begins has no effect on a closed object for which no name stands in its frame.
use Rattle.std.specs.Prelude.{◌≡◌, ◌⊎◌, ℕ, Bool, true, false, List, [], ◌∷◌, ◌++◌, Option, Some, None, if◌then◌else◌}
use Rattle.std.proofs.Common.{ap, subst, inl, inr}
use Rattle.dm_tree.specs.Trees.{Label, object, store, update, count, call, Tree, Trees, node, no_trees, more_trees}
use Rattle.dm_meaning.specs.Among.{IsAmong}
use Rattle.dm_meaning.specs.Expressions.{function_named}
use Rattle.dm_meaning.specs.Operations.{object_named}
use Rattle.dm_meaning.specs.Running.{evaluates, begun, all_begun}
use Rattle.dm_meaning.proofs.AmongLemmas.{among_either}
use Rattle.dm_rewrite.specs.Effects.{Effect, on_others, Stage, by_number, target_effects, call_effects, own_effects, effects_of, effects_in, Hits, IsFree}

module _ (stage : Stage) (n : ℕ) (closed : IsAmong n stage.closed) (unnamed : (d : ℕ) → object_named stage.scene.objects d ≡ Some n → ⊥) where
  abbrev Free : List Effect → Type 0
  Free effects = IsFree stage.closed effects n

  none_free : Free []
  none_free effect l hit = absurd l

  others_free : Free (on_others ∷ [])
  others_free effect (inl e) hit = subst (λ x. Hits stage.closed x n) e hit closed
  others_free effect (inr l) hit = absurd l

  joined_free : (xs ys : List Effect) → Free xs → Free ys → Free (xs ++ ys)
  joined_free xs ys h k effect l hit = by_side (among_either effect xs ys l)
    where
      by_side : IsAmong effect xs ⊎ IsAmong effect ys → ⊥
      by_side (inl m) = h effect m hit
      by_side (inr m) = k effect m hit

  number_free : (o : Option ℕ) → (o ≡ Some n → ⊥) → Free (by_number o)
  number_free None h effect l hit = absurd l
  number_free (Some m) h effect (inl e) hit = h (ap Some (subst (λ x. Hits stage.closed x n) e hit))
  number_free (Some m) h effect (inr l) hit = absurd l

  target_free : (tree : Tree) → Free (target_effects stage.scene.objects (begun tree))
  target_free (node (object d) kind spans parts) = number_free (object_named stage.scene.objects d) (unnamed d)
  target_free (node label kind spans parts) = others_free

  call_free : (o : Option ℕ) → Free (call_effects stage.quiet o)
  call_free None = others_free
  call_free (Some f) = by_quiet (stage.quiet f)
    where
      by_quiet : (b : Bool) → Free (if b then [] else on_others ∷ [])
      by_quiet true = none_free
      by_quiet false = others_free

  own_free : (label : Label) (parts : Trees) → Free (own_effects stage (evaluates label) (all_begun parts))
  own_free store (more_trees left rest) = target_free left
  own_free (update op works) (more_trees left rest) = target_free left
  own_free (count plus before) (more_trees left rest) = target_free left
  own_free call (more_trees named rest) = call_free (function_named (begun named))
  own_free label parts = none_free

  mutual
    pub begun_free : (tree : Tree) → Free (effects_of stage (begun tree))
    begun_free (node label kind spans parts) =
        joined_free (own_effects stage (evaluates label) (all_begun parts)) (effects_in stage (all_begun parts)) (own_free label parts) (all_begun_free parts)

    all_begun_free : (parts : Trees) → Free (effects_in stage (all_begun parts))
    all_begun_free no_trees = none_free
    all_begun_free (more_trees first rest) = joined_free (effects_of stage (begun first)) (effects_in stage (all_begun rest)) (begun_free first) (all_begun_free rest)
