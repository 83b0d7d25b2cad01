-- A tree that neither stores nor calls others than quiet functions has no effects, whatever its names stand for.
use Rattle.std.specs.Prelude.{◌≡◌, ◌⊎◌, ℕ, Bool, true, false, List, [], ◌∷◌, ◌++◌, if◌then◌else◌}
use Rattle.std.proofs.Common.{true≢false, sym, inl, inr}
use Rattle.dm_tree.specs.Trees.{Label, function, store, update, count, call, Tree, Trees, node, no_trees, more_trees}
use Rattle.dm_meaning.specs.Among.{IsAmong}
use Rattle.dm_meaning.specs.Operations.{Objects}
use Rattle.dm_meaning.specs.Programs.{Program}
use Rattle.dm_meaning.specs.Running.{evaluates, begun, all_begun}
use Rattle.dm_meaning.proofs.AmongLemmas.{among_either}
use Rattle.dm_rewrite.specs.Effects.{Effect, on_others, own_effects, effects_of, effects_in}
use Rattle.dm_central.specs.QuietFrames.{quiet_stage, is_quiet_node, WritesNothing, AllWriteNothing}

module _ (program : Program) (quiet : ℕ → Bool) (objects : Objects) where
  abbrev NoEffects : List Effect → Type 0
  NoEffects effects = (effect : Effect) → IsAmong effect effects → ⊥

  neither : (xs ys : List Effect) → NoEffects xs → NoEffects ys → NoEffects (xs ++ ys)
  neither xs ys h k effect l = by_side (among_either effect xs ys l)
    where
      by_side : IsAmong effect xs ⊎ IsAmong effect ys → ⊥
      by_side (inl m) = h effect m
      by_side (inr m) = k effect m

  call_none : (b : Bool) → b ≡ true → NoEffects (if b then [] else on_others ∷ [])
  call_none true e effect l = l
  call_none false e effect l = true≢false (sym e)

  node_none : (label : Label) (parts : Trees) → is_quiet_node quiet label parts ≡ true → NoEffects (own_effects (quiet_stage program quiet objects) (evaluates label) (all_begun parts))
  node_none call (more_trees (node (function g) kind spans no_trees) rest) h = call_none (quiet g) h
  node_none call (more_trees (node (function g) kind spans (more_trees below others)) rest) h = absurd (true≢false (sym h))
  node_none call (more_trees (node label kind spans parts) rest) h = absurd (true≢false (sym h))
  node_none call no_trees h = absurd (true≢false (sym h))
  node_none store parts h = absurd (true≢false (sym h))
  node_none (update op works) parts h = absurd (true≢false (sym h))
  node_none (count plus before) parts h = absurd (true≢false (sym h))
  node_none label parts h = λ effect l. l

  mutual
    tree_none : (tree : Tree) → WritesNothing quiet tree → NoEffects (effects_of (quiet_stage program quiet objects) (begun tree))
    tree_none (node label kind spans parts) h =
        neither (own_effects (quiet_stage program quiet objects) (evaluates label) (all_begun parts)) (effects_in (quiet_stage program quiet objects) (all_begun parts)) (node_none label parts h.0) (trees_none parts h.1)

    trees_none : (trees : Trees) → AllWriteNothing quiet trees → NoEffects (effects_in (quiet_stage program quiet objects) (all_begun trees))
    trees_none no_trees h = λ effect l. l
    trees_none (more_trees first rest) h =
        neither (effects_of (quiet_stage program quiet objects) (begun first)) (effects_in (quiet_stage program quiet objects) (all_begun rest)) (tree_none first h.0) (trees_none rest h.1)

pub writes_nothing : (program : Program) (quiet : ℕ → Bool) (tree : Tree) → WritesNothing quiet tree → (objects : Objects) (effect : Effect)
    → IsAmong effect (effects_of (quiet_stage program quiet objects) (begun tree)) → ⊥
writes_nothing program quiet tree h objects effect l = tree_none program quiet objects tree h effect l
