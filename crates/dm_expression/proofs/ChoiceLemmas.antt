-- The state to which a choice leads, where an expression is under evaluation.
use Rattle.std.proofs.Common.{◌≡◌, ℕ, zero, suc, ◌-◌, Bool, true, false, nat_lt, List, [], ◌∷◌, map, length, Some, option_map, slice_get, if◌then◌else◌, refl, sym, ap, ◌∙◌, arith, ltb-true, ltb-false, lt-ltb, le-ltb}
use Rattle.std.proofs.lemmas.List.{length-map}
use Rattle.std.proofs.lemmas.Option.{none-some, same_Some, slice_get-map}
use Rattle.dm_token.specs.declared.place.Place.{Place}
use Rattle.dm_meaning.specs.Choices.{chosen, in_order, stepped}
use Rattle.dm_meaning.specs.Machines.{going}
use Rattle.dm_meaning.specs.Programs.{Program}
use Rattle.dm_meaning.specs.Running.{Run, done, to_do, Hole, locks_in}
use Rattle.dm_meaning.specs.Expressions.{Move, moves}
use Rattle.dm_meaning.specs.States.{Use, Task, evaluates, State}
use Rattle.dm_meaning.specs.Statements.{unfolded}
use Rattle.dm_meaning.specs.Steps.{moved, scene_of, expression_steps, task_steps, steps_from}
use Rattle.dm_expression.specs.Taken.{number_of}

-- the number of a choice is that of the state that is chosen
chosen-number : (state : State) (n : ℕ) (states : List State) (last k : ℕ) (one : State) (b : Bool) → length states ≡ suc last → nat_lt n last ≡ b → k ≡ (if b then n else last)
    → slice_get states k ≡ Some one → chosen state n states ≡ one
chosen-number state n [] last k one b size e is there = absurd (none-some one there)
chosen-number state n (first ∷ []) last k one true size e is there = let h = ltb-true n last e in absurd (omega (arith, h, size))
chosen-number state n (first ∷ []) last k one false size e is there =
    let none : k ≡ 0 = omega (arith, size, is) in same_Some first one (sym (ap (slice_get (first ∷ [])) none) ∙ there)
chosen-number state zero (first ∷ second ∷ rest) last k one true size e is there = same_Some first one (sym (ap (slice_get (first ∷ second ∷ rest)) is) ∙ there)
chosen-number state zero (first ∷ second ∷ rest) last k one false size e is there = let h = ltb-false 0 last e in absurd (omega (arith, h, size))
chosen-number state (suc n) (first ∷ second ∷ rest) last k one true size e is there =
    let h = ltb-true (suc n) last e in
    chosen-number state n (second ∷ rest) (length rest) n one true refl (lt-ltb n (length rest) (omega (arith, h, size))) refl
    (sym (ap (slice_get (first ∷ second ∷ rest)) is) ∙ there)
chosen-number state (suc n) (first ∷ second ∷ rest) last k one false size e is there =
    let h = ltb-false (suc n) last e in
    let at_last : k ≡ suc (length rest) = omega (arith, size, is) in
    chosen-number state n (second ∷ rest) (length rest) (length rest) one false refl (le-ltb n (length rest) (omega (arith, h, size))) refl
    (sym (ap (slice_get (first ∷ second ∷ rest)) at_last) ∙ there)

pub chosen-there : (state : State) (n : ℕ) (states : List State) (one : State) → slice_get states (number_of n (length states)) ≡ Some one → chosen state n states ≡ one
chosen-there state n [] one there = absurd (none-some one there)
chosen-there state n (first ∷ rest) one there =
    let less : (m : ℕ) → suc m - 1 ≡ m = λ m. omega arith in
    chosen-number state n (first ∷ rest) (length rest) (number_of n (suc (length rest))) one (nat_lt n (length rest)) refl refl
    (ap (λ last. if nat_lt n last then n else last) (less (length rest))) there

moves-chosen : (program : Program) (choice : ℕ) (state : State) (names : ℕ → ℕ) (place : Place) (run : Run) (use_of : Use) (rest : List Task) (m : Move Run Hole)
    → slice_get (moves (scene_of program state) state.world (locks_in run) run) (number_of choice (length (moves (scene_of program state) state.world (locks_in run) run))) ≡ Some m
    → chosen state choice (expression_steps program names state rest place use_of run) ≡ moved program names state rest place use_of m
moves-chosen program choice state names place (done kind result locks) use_of rest m there = absurd (none-some m there)
moves-chosen program choice state names place (to_do doing kind at parts) use_of rest m there =
    let all = moves (scene_of program state) state.world (locks_in (to_do doing kind at parts)) (to_do doing kind at parts) in
    let step = moved program names state rest place use_of in
    chosen-there state choice (map step all) (step m)
    (ap (λ n. slice_get (map step all) (number_of choice n)) (length-map all step)
    ∙ (slice_get-map step all (number_of choice (length all)) ∙ ap (option_map step) there))

-- Where an expression is under evaluation, the step is the move of the number, or the last.
pub step-chosen : (program : Program) (choice : ℕ) (state : State) (place : Place) (run : Run) (use_of : Use) (rest : List Task) (m : Move Run Hole)
    → state.standing ≡ going → state.frame.tasks ≡ evaluates place run use_of ∷ rest
    → slice_get (moves (scene_of program state) state.world (locks_in run) run) (number_of choice (length (moves (scene_of program state) state.world (locks_in run) run))) ≡ Some m
    → stepped program choice state ≡ moved program (in_order state.world.memory) state rest place use_of m
step-chosen program choice state place run use_of rest m goes tasks there =
    let names = in_order state.world.memory in
    ap (λ standing. chosen state choice (steps_from standing (task_steps program names state (unfolded state.frame.tasks)))) goes
    ∙ (ap (λ all. chosen state choice (task_steps program names state (unfolded all))) tasks
    ∙ moves-chosen program choice state names place run use_of rest m there)
