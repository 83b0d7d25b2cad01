-- The state meets each premise of the law.
use Rattle.std.specs.Prelude.{◌≡◌, refl, ℕ, false, List, [], ◌∷◌, Option, Some, None, replicate, IsSomeAnd}
use Rattle.std.proofs.Common.{arith, inl, inr, sym, subst}
use Rattle.dm_meaning.specs.Choices.{run_by}
use Rattle.dm_meaning.specs.Examples.{and_count}
use Rattle.dm_meaning.specs.Memory.{look_up}
use Rattle.dm_meaning.specs.States.{State}
use Rattle.dm_meaning.specs.Steps.{Step}
use Rattle.dm_rewrite.specs.Effects.{Effect, on_object, Hits, IsFree}
use Rattle.dm_rewrite.specs.Examples as examples
use Rattle.dm_rewrite.specs.StepEffects.{stage_of, next_effects, StillHolds}
use Rattle.dm_rewrite.proofs.StepEffectLemmas.{step_holds}
use Rattle.dm_rewrite.proofs.examples.a_step_leaves_other_objects.Goals as goal

-- what a state has that is there, it has
some_with : (o : Option State) (P Q : State → Type 0) → ((state : State) → P state → Q state) → IsSomeAnd o P → IsSomeAnd o Q
some_with None P Q h k = absurd k
some_with (Some state) P Q h k = h state k

-- x holds 2, and the next task names y alone
abbrev NamesY : State → Type 0
NamesY state =
    (look_up state.world.memory 1 ≡ Some (examples.holding 2))
    × (next_effects (stage_of (and_count 2) (1 ∷ []) (λ f. false) state) state ≡ on_object 2 ∷ [])

another : (k : ℕ) → k ≡ 2 → k ≡ 1 → ⊥
another k e f = omega (arith, e, f)

free : IsFree (1 ∷ []) (on_object 2 ∷ []) 1
free effect (inl e) hit = another 2 refl (subst (λ x. Hits (1 ∷ []) x 1) e hit)
free effect (inr k) hit = absurd k

left : (state : State) → NamesY state → (other : State) → Step (and_count 2) state other → StillHolds other.world.memory 1 (examples.holding 2)
left state h other step =
    step_holds (and_count 2) (1 ∷ []) (λ f. false) state other step 1 (examples.holding 2) h.0
    (subst (λ (effects : List Effect). IsFree (1 ∷ []) effects 1) (sym h.1) free)

there : IsSomeAnd (run_by (and_count 2) (replicate 12 0) []) NamesY
there = (refl, refl)

pub returns-clause-effects : goal.returns-clause-effects
returns-clause-effects c = refl

pub returns-clause-steps : goal.returns-clause-steps
returns-clause-steps c = some_with (run_by (and_count 2) (replicate 12 0) []) NamesY _ left there
