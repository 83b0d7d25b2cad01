-- The call meets each premise of the law.
use Rattle.std.specs.Prelude.{◌≡◌, refl, ℕ, [], ◌∷◌, None, pos}
use Rattle.std.proofs.Common.{inl, inr, ap, ◌∙◌}
use Rattle.dm_int.specs.declared.Kind.TheVariants.{Int}
use Rattle.dm_meaning.specs.Among.{IsAmong}
use Rattle.dm_meaning.specs.Examples.{and_count}
use Rattle.dm_meaning.specs.Memory.{look_up, IsFresh}
use Rattle.dm_meaning.specs.Steps.{opened_memory}
use Rattle.dm_meaning.specs.Values.{integer_value}
use Rattle.dm_rewrite.specs.Effects.{ChangesOnly}
use Rattle.dm_rewrite.specs.Examples as examples
use Rattle.dm_rewrite.proofs.FrameChangeLemmas.{changes_opened, changes_ended}
use Rattle.dm_rewrite.proofs.examples.a_call_leaves_other_objects.Goals as goal

-- at first nothing has changed
unchanged : ChangesOnly examples.stage [] (examples.world 5) (examples.world 5)
unchanged = record { same_objects = λ name there. refl; same = λ at n e free there. refl }

gone : (names : ℕ → ℕ) → IsFresh names (examples.world 5).memory → (n : ℕ) → IsAmong n (names 0 ∷ []) → look_up (examples.world 5).memory n ≡ None
gone names fresh n (inl e) = ap (look_up (examples.world 5).memory) e ∙ fresh.1 0
gone names fresh n (inr k) = absurd k

pub returns : goal.returns
returns c = λ names fresh.
    let arguments = integer_value Int (pos 3) ∷ [] in
    let opened = changes_opened examples.stage [] (examples.world 5) (examples.world 5) (and_count 2) names examples.function arguments fresh.1 unchanged in
    changes_ended examples.stage [] (examples.world 5)
    (record (examples.world 5) { memory = opened_memory (and_count 2) names examples.function arguments (examples.world 5).memory })
    (names 0 ∷ []) (gone names fresh) opened
