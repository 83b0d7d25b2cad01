-- A state that hasn't ended has a step.
use Rattle.std.specs.Prelude.{◌≡◌, refl, ℕ, suc, ◌+◌, ◌≤◌, ◌<◌, max, ◌==◌, Bool, true, false, List, [], ◌∷◌, Option, Some, None, if◌then◌else◌}
use Rattle.std.proofs.Common.{arith, inl, sym, subst}
use Rattle.dm_token.specs.declared.place.Place.{Place}
use Rattle.dm_meaning.specs.Machines.{going}
use Rattle.dm_meaning.specs.Memory.{Memory, Block, look_up, IsFresh}
use Rattle.dm_meaning.specs.Programs.{Program}
use Rattle.dm_meaning.specs.Running.{Run, done, to_do, locks_in}
use Rattle.dm_meaning.specs.States.{Loop, Use, Task, begins, declares, initials, evaluates, again, tests, ends, ends_switch, leaves, skips, hands_back, State}
use Rattle.dm_meaning.specs.Statements.{tested, continued, unfolded}
use Rattle.dm_meaning.specs.Steps.{task_steps, steps_from, next, scene_of, expression_steps, Step}
use Rattle.dm_meaning.proofs.MoveLemmas.{HasOne, has-map, has_move}

-- some step, where the tasks don't begin with what takes none
expression_has : (program : Program) (names : ℕ → ℕ) (state : State) (rest : List Task) (place : Place) (use_of : Use) (run : Run) → HasOne (expression_steps program names state rest place use_of run)
expression_has program names state rest place use_of (done kind result locks) = (_, inl refl)
expression_has program names state rest place use_of (to_do doing kind at parts) =
    has-map _ _ (has_move (scene_of program state) state.world (locks_in (to_do doing kind at parts)) (to_do doing kind at parts) tt)

-- tasks at which a step can be taken
Ready : List Task → Type 0
Ready (again objects loop ∷ rest) = ⊥
Ready (tests objects loop ∷ rest) = ⊥
Ready tasks = Unit {0}

tasks_have : (program : Program) (names : ℕ → ℕ) (state : State) (tasks : List Task) → Ready tasks → HasOne (task_steps program names state tasks)
unfolding Ready
tasks_have program names state [] h = (_, inl refl)
tasks_have program names state (begins tree ∷ rest) h = (_, inl refl)
tasks_have program names state (declares declarator expressions ∷ rest) h = (_, inl refl)
tasks_have program names state (initials at kind initialiser expressions ∷ rest) h = (_, inl refl)
tasks_have program names state (evaluates place run use_of ∷ rest) h = expression_has program names state rest place use_of run
tasks_have program names state (again objects loop ∷ rest) h = absurd h
tasks_have program names state (tests objects loop ∷ rest) h = absurd h
tasks_have program names state (ends saved ∷ rest) h = (_, inl refl)
tasks_have program names state (ends_switch saved ∷ rest) h = (_, inl refl)
tasks_have program names state (leaves ∷ rest) h = (_, inl refl)
tasks_have program names state (skips ∷ rest) h = (_, inl refl)
tasks_have program names state (hands_back value ∷ rest) h = (_, inl refl)

tested_ready : (objects : _) (loop : Loop) (rest : List Task) (condition : _) → Ready (tested objects loop rest condition)
unfolding Ready
tested_ready objects loop rest (Some condition) = tt
tested_ready objects loop rest None = tt

continued_ready : (objects : _) (loop : Loop) (rest : List Task) (after : _) → Ready (continued objects loop rest after)
unfolding Ready
continued_ready objects loop rest (Some after) = tt
continued_ready objects loop rest None = tested_ready objects loop rest loop.condition

unfolded_ready : (tasks : List Task) → Ready (unfolded tasks)
unfolding Ready
unfolded_ready [] = tt
unfolded_ready (begins tree ∷ rest) = tt
unfolded_ready (declares declarator expressions ∷ rest) = tt
unfolded_ready (initials at kind initialiser expressions ∷ rest) = tt
unfolded_ready (evaluates place run use_of ∷ rest) = tt
unfolded_ready (again objects loop ∷ rest) = continued_ready objects loop rest loop.after
unfolded_ready (tests objects loop ∷ rest) = tested_ready objects loop rest loop.condition
unfolded_ready (ends saved ∷ rest) = tt
unfolded_ready (ends_switch saved ∷ rest) = tt
unfolded_ready (leaves ∷ rest) = tt
unfolded_ready (skips ∷ rest) = tt
unfolded_ready (hands_back value ∷ rest) = tt

-- where a state goes on, its tasks have a step
pub has_next : (names : ℕ → ℕ) (program : Program) (state : State) → state.standing ≡ going → HasOne (next names program state)
has_next names program state e =
    subst (λ standing. HasOne (steps_from standing (task_steps program names state (unfolded state.frame.tasks)))) (sym e)
    (tasks_have program names state (unfolded state.frame.tasks) (unfolded_ready state.frame.tasks))

-- ---- there are always names that were never used

-- no object has a number as great
above : Memory → ℕ
above [] = 0
above (entry ∷ entries) = max (suc entry.0) (above entries)

differ : (m n : ℕ) → m < n → (m == n) ≡ false
differ m n h = grind arith

unused : (b : Bool) (x y : Option Block) → b ≡ false → y ≡ None → (if b then x else y) ≡ None
unused true x y e h = absurd (cc)
unused false x y e h = h

none_above : (memory : Memory) (n : ℕ) → above memory ≤ n → look_up memory n ≡ None
unfolding above
none_above [] n h = refl
none_above (entry ∷ entries) n h =
    unused (entry.0 == n) (Some entry.1) (look_up entries n)
    (differ entry.0 n (omega (arith, h))) (none_above entries n (omega (arith, h)))

pub fresh_names : (memory : Memory) → (names : ℕ → ℕ) × IsFresh names memory
fresh_names memory = ((λ i. above memory + i), ((λ i j e. omega (arith, e)), λ i. none_above memory (above memory + i) (omega arith)))

-- A state that hasn't ended has a step.
pub has_step : (program : Program) (state : State) → state.standing ≡ going → (other : State) × Step program state other
has_step program state e =
    let fresh = fresh_names state.world.memory in
    let one = has_next fresh.0 program state e in
    (one.0, (fresh.0, fresh.1, one.1))
