-- Scopes whose objects are set: what is said of one holds of a greater one, and in later memory.
use Rattle.std.specs.Prelude.{◌≡◌, ◌⊎◌, ℕ, Bool, List, [], ◌∷◌, take, drop, zero, suc, Option, Some, None}
use Rattle.std.proofs.Common.{subst, inl, inr}
use Rattle.dm_type.specs.CTypes.{CType}
use Rattle.dm_tree.specs.Trees.{Tree, Trees, no_trees, more_trees, listed}
use Rattle.dm_meaning.specs.Among.{IsAmong}
use Rattle.dm_meaning.specs.Values.{numbered}
use Rattle.dm_meaning.specs.Memory.{Memory}
use Rattle.dm_meaning.specs.Programs.{Program}
use Rattle.dm_meaning.specs.Operations.{Objects, object_named, whole}
use Rattle.dm_meaning.specs.Running.{Run}
use Rattle.dm_meaning.specs.States.{Loop, Use, drops, chooses, selects, repeats, continues, returns, initialises, Task, begins, declares, initials, evaluates, again, tests, ends, ends_switch, leaves, skips, hands_back, Caller}
use Rattle.dm_sound.specs.TypedValues.{StaySet}
use Rattle.dm_effect.specs.Scoped.{Scope, same_scopes}
use Rattle.dm_initialised.specs.Settled.{AreSettled}
use Rattle.dm_initialised.specs.SetStates.{AreSet, Within, NoObject, AllSettled, Stands, StandsIfThere, LoopStands, GivesWhole, GivesObject, IsUnderWay, IsSetBy, UseStands, EvaluationStands, TasksSet, IsSetCaller, AreSetCallers, AreSetStatics}

module _ (needs : ℕ → Bool) (objects : Objects) where
  -- ---- scopes

  abbrev Named : ℕ → (ℕ → Type 0) → Type 0
  Named d Other = (n : ℕ) × (object_named objects d ≡ Some n) × Other n

  pub within_same : (scope : Scope) (Other : ℕ → Type 0) → Within needs objects scope Other scope
  within_same scope Other d h a = inl a

  in_scope : (scope : Scope) (d : ℕ) → IsAmong d scope ⊎ Named d NoObject → IsAmong d scope
  in_scope scope d (inl a) = a
  in_scope scope d (inr x) = absurd x.2

  pub within_then : (scope later : Scope) (Other : ℕ → Type 0) (inner : Scope) → Within needs objects scope NoObject later → Within needs objects later Other inner → Within needs objects scope Other inner
  within_then scope later Other inner w v d h a = by_scope (v d h a)
    where
      by_scope : IsAmong d later ⊎ Named d Other → IsAmong d scope ⊎ Named d Other
      by_scope (inl b) = inl (in_scope scope d (w d h b))
      by_scope (inr x) = inr x

  pub within_other : (scope : Scope) (Other More : ℕ → Type 0) (inner : Scope) → ((n : ℕ) → Other n → More n) → Within needs objects scope Other inner → Within needs objects scope More inner
  within_other scope Other More inner f w d h a = by_scope (w d h a)
    where
      by_scope : IsAmong d scope ⊎ Named d Other → IsAmong d scope ⊎ Named d More
      by_scope (inl b) = inl b
      by_scope (inr x) = inr (x.0, x.1, f x.0 x.2)

  pub set_within : (memory : Memory) (scope later : Scope) → Within needs objects scope NoObject later → AreSet needs memory objects scope → AreSet needs memory objects later
  set_within memory scope later w s d h a = s d h (in_scope scope d (w d h a))

  -- ---- trees

  pub stands_more : (scope later : Scope) (Other : ℕ → Type 0) (trees : List Tree) → Within needs objects scope NoObject later → Stands needs objects later Other trees → Stands needs objects scope Other trees
  stands_more scope later Other trees w s = record { inner = s.inner; within = within_then scope later Other s.inner w s.within; settled = s.settled }

  pub stands_other : (scope : Scope) (Other More : ℕ → Type 0) (trees : List Tree) → ((n : ℕ) → Other n → More n) → Stands needs objects scope Other trees → Stands needs objects scope More trees
  stands_other scope Other More trees f s = record { inner = s.inner; within = within_other scope Other More s.inner f s.within; settled = s.settled }

  there_more : (scope later : Scope) (o : Option Tree) → Within needs objects scope NoObject later → StandsIfThere needs objects later o → StandsIfThere needs objects scope o
  there_more scope later None w s = tt
  there_more scope later (Some tree) w s = stands_more scope later NoObject (tree ∷ []) w s

  pub loop_more : (scope later : Scope) (loop : Loop) → Within needs objects scope NoObject later → LoopStands needs objects later loop → LoopStands needs objects scope loop
  loop_more scope later loop w s = (there_more scope later loop.condition w s.0, there_more scope later loop.after w s.1, stands_more scope later NoObject (loop.body ∷ []) w s.2)

  use_more : (scope later : Scope) (use_of : Use) → Within needs objects scope NoObject later → UseStands needs objects later use_of → UseStands needs objects scope use_of
  use_more scope later drops w s = s
  use_more scope later (chooses first second) w s = (stands_more scope later NoObject (first ∷ []) w s.0, there_more scope later second w s.1)
  use_more scope later (selects items) w s = record { inner = s.inner; within = within_then scope later NoObject s.inner w s.within; settled = s.settled }
  use_more scope later (repeats loop) w s = loop_more scope later loop w s
  use_more scope later (continues loop) w s = loop_more scope later loop w s
  use_more scope later returns w s = s
  use_more scope later (initialises at kind) w s = s

  evaluation_more : (program : Program) (result : CType) (scope later : Scope) (run : Run) (use_of : Use) → Within needs objects scope NoObject later → EvaluationStands program needs result objects later run use_of
      → EvaluationStands program needs result objects scope run use_of
  evaluation_more program result scope later run use_of w s = record {
    tree = s.tree;
    typed = s.typed;
    comes = s.comes;
    stands = stands_more scope later (IsUnderWay use_of) (s.tree ∷ []) w s.stands;
    used = use_more scope later use_of w s.used;
  }

-- ---- what is left to do, in a greater scope

pub tasks_more : (program : Program) (needs : ℕ → Bool) (memory : Memory) (result : CType) (tasks : List Task) (objects : Objects) (scope later : Scope) → Within needs objects scope NoObject later
    → TasksSet program needs memory result objects later tasks → TasksSet program needs memory result objects scope tasks
tasks_more program needs memory result [] objects scope later w s = tt
tasks_more program needs memory result (begins tree ∷ rest) objects scope later w s =
    (stands_more needs objects scope later NoObject (tree ∷ []) w s.0, tasks_more program needs memory result rest objects scope later w s.1)
tasks_more program needs memory result (declares declarator trees ∷ rest) objects scope later w s =
    ((λ n e. stands_more needs objects scope later (λ m. m ≡ n) trees w (s.0 n e)), s.1, within_then needs objects scope later (GivesObject program objects declarator trees) s.1 w s.2, s.3)
tasks_more program needs memory result (initials at kind initialiser trees ∷ rest) objects scope later w s = (
  stands_more needs objects scope later (λ n. at.name ≡ numbered n) trees w s.0,
  s.1,
  within_then needs objects scope later (λ n. (at ≡ whole (numbered n)) × GivesWhole initialiser trees) s.1 w s.2,
  s.3,
)
tasks_more program needs memory result (evaluates place run use_of ∷ rest) objects scope later w s =
    (evaluation_more needs objects program result scope later run use_of w s.0, s.1, within_then needs objects scope later (IsSetBy use_of) s.1 w s.2, s.3)
tasks_more program needs memory result (again saved loop ∷ rest) objects scope later w s = s
tasks_more program needs memory result (tests saved loop ∷ rest) objects scope later w s =
    (s.0, loop_more needs saved scope later loop (moved s.0) s.1, tasks_more program needs memory result rest saved scope later (moved s.0) s.2)
  where
    moved : objects ≡ saved → Within needs saved scope NoObject later
    moved e = subst (λ (o : Objects). Within needs o scope NoObject later) e w
tasks_more program needs memory result (ends saved ∷ rest) objects scope later w s = s
tasks_more program needs memory result (ends_switch saved ∷ rest) objects scope later w s = s
tasks_more program needs memory result (leaves ∷ rest) objects scope later w s = tasks_more program needs memory result rest objects scope later w s
tasks_more program needs memory result (skips ∷ rest) objects scope later w s = tasks_more program needs memory result rest objects scope later w s
tasks_more program needs memory result (hands_back value ∷ rest) objects scope later w s = tasks_more program needs memory result rest objects scope later w s

-- ---- in later memory

module _ (program : Program) (needs : ℕ → Bool) (memory later : Memory) (stay : StaySet memory later) where
  pub set_later : (objects : Objects) (scope : Scope) → AreSet needs memory objects scope → AreSet needs later objects scope
  set_later objects scope s d h a = let there = s d h a in (there.0, there.1, stay there.0 there.2)

  pub tasks_later : (result : CType) (tasks : List Task) (objects : Objects) (scope : Scope) → TasksSet program needs memory result objects scope tasks → TasksSet program needs later result objects scope tasks
  tasks_later result [] objects scope s = tt
  tasks_later result (begins tree ∷ rest) objects scope s = (s.0, tasks_later result rest objects scope s.1)
  tasks_later result (declares declarator trees ∷ rest) objects scope s = (s.0, s.1, s.2, tasks_later result rest objects s.1 s.3)
  tasks_later result (initials at kind initialiser trees ∷ rest) objects scope s = (s.0, s.1, s.2, tasks_later result rest objects s.1 s.3)
  tasks_later result (evaluates place run use_of ∷ rest) objects scope s = (s.0, s.1, s.2, tasks_later result rest objects s.1 s.3)
  tasks_later result (again saved loop ∷ rest) objects scope s = (s.0, s.1, set_later saved s.1 s.2, s.3, tasks_later result rest saved s.1 s.4)
  tasks_later result (tests saved loop ∷ rest) objects scope s = (s.0, s.1, tasks_later result rest saved scope s.2)
  tasks_later result (ends saved ∷ rest) objects scope s = (s.0, set_later saved s.0 s.1, tasks_later result rest saved s.0 s.2)
  tasks_later result (ends_switch saved ∷ rest) objects scope s = (s.0, set_later saved s.0 s.1, tasks_later result rest saved s.0 s.2)
  tasks_later result (leaves ∷ rest) objects scope s = tasks_later result rest objects scope s
  tasks_later result (skips ∷ rest) objects scope s = tasks_later result rest objects scope s
  tasks_later result (hands_back value ∷ rest) objects scope s = tasks_later result rest objects scope s

  caller_later : (caller : Caller) → IsSetCaller program needs memory caller → IsSetCaller program needs later caller
  caller_later caller s = record {
    scope = s.scope;
    set = set_later caller.frame.objects s.scope s.set;
    tree = s.tree;
    typed = s.typed;
    comes = s.comes;
    stands = s.stands;
    used = s.used;
    later = s.later;
    within = s.within;
    tasks = tasks_later _ caller.frame.tasks caller.frame.objects s.later s.tasks;
  }

  pub callers_later : (callers : List Caller) → AreSetCallers program needs memory callers → AreSetCallers program needs later callers
  callers_later [] s = tt
  callers_later (caller ∷ callers) s = (caller_later caller s.0, callers_later callers s.1)

  pub statics_later : (entries : Objects) → AreSetStatics program memory entries → AreSetStatics program later entries
  statics_later [] s = tt
  statics_later (entry ∷ entries) s = ((λ h. stay entry.1 (s.0 h)), statics_later entries s.1)

-- ---- lists of trees

module _ (needs : ℕ → Bool) (scope : Scope) where
  pub taken_settled : (n : ℕ) (trees : List Tree) → AllSettled needs scope trees → AllSettled needs scope (take n trees)
  taken_settled zero trees h = tt
  taken_settled (suc n) [] h = tt
  taken_settled (suc n) (tree ∷ trees) h = (h.0, taken_settled n trees h.1)

  pub dropped_settled : (n : ℕ) (trees : List Tree) → AllSettled needs scope trees → AllSettled needs scope (drop n trees)
  dropped_settled zero trees h = h
  dropped_settled (suc n) [] h = tt
  dropped_settled (suc n) (tree ∷ trees) h = dropped_settled n trees h.1

  pub all_same : (parts : Trees) → AreSettled needs (same_scopes scope parts) parts → AllSettled needs scope (listed parts)
  all_same no_trees h = tt
  all_same (more_trees first rest) h = (h.0, all_same rest h.1)
