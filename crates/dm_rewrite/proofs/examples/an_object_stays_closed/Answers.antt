-- The tree and the world meet each premise of the laws on closed objects.
use Rattle.std.specs.Prelude.{◌≡◌, refl, ℕ, [], ◌∷◌, Some}
use Rattle.std.proofs.Common.{arith, inl, inr, sym, subst}
use Rattle.dm_int.specs.declared.Kind.TheVariants.{Int}
use Rattle.dm_type.specs.CTypes.{integer}
use Rattle.dm_meaning.specs.Among.{IsAmong}
use Rattle.dm_meaning.specs.Examples.{at}
use Rattle.dm_meaning.specs.Operations.{object_named}
use Rattle.dm_rewrite.specs.Closed.{MemoryAvoids, IsClosedIn}
use Rattle.dm_rewrite.specs.Examples as examples
use Rattle.dm_meaning.proofs.OptionLemmas.{none_is_some, some_is_some}
use Rattle.dm_rewrite.proofs.ClosedLemmas.{added_avoids}
use Rattle.dm_rewrite.proofs.ClosedRunLemmas.{run_clear}
use Rattle.dm_rewrite.proofs.ShrinkEffectLemmas.{run_calm}
use Rattle.dm_rewrite.proofs.examples.an_object_stays_closed.Goals as goal

memory : MemoryAvoids 1 (examples.world 5).memory
memory = added_avoids 1 2 (examples.holding 5) ((1, examples.holding 2) ∷ []) tt (added_avoids 1 1 (examples.holding 2) [] tt (λ j found e. absurd (none_is_some found e)))

-- y is another object
other : object_named examples.objects 2 ≡ Some 1 → ⊥
other e = omega (arith, some_is_some 2 1 e)

closed : IsClosedIn 1 examples.objects examples.both_read
closed = (tt, ((tt, (inr (inl (1, integer Int, at 0, refl, refl)), tt)), ((tt, (inl (other, tt), tt)), tt)))

all_memory : (n : ℕ) → IsAmong n (1 ∷ []) → MemoryAvoids n (examples.world 5).memory
all_memory n (inl e) = subst (λ m. MemoryAvoids m (examples.world 5).memory) (sym e) memory
all_memory n (inr k) = absurd k

all_closed : (n : ℕ) → IsAmong n (1 ∷ []) → IsClosedIn n examples.objects examples.both_read
all_closed n (inl e) = subst (λ m. IsClosedIn m examples.objects examples.both_read) (sym e) closed
all_closed n (inr k) = absurd k

pub returns-clause-memory : goal.returns-clause-memory
returns-clause-memory c = memory

pub returns-clause-closed : goal.returns-clause-closed
returns-clause-closed c = closed

pub returns-clause-steps : goal.returns-clause-steps
returns-clause-steps c = λ locks move k. run_clear 1 examples.stage.scene (examples.world 5) memory locks examples.both_read closed move k

pub returns-clause-no_more : goal.returns-clause-no_more
returns-clause-no_more c = λ locks move k.
    run_calm examples.stage (examples.world 5) locks all_memory examples.both_read (λ n a. inl (all_closed n a)) move k

pub returns-clause-not_closed : goal.returns-clause-not_closed
returns-clause-not_closed c = λ h. h.1.0.0 refl
