-- What shows of a state takes its steps.
use Rattle.std.proofs.Common.{◌≡◌, ℕ, List, [], ◌∷◌, refl, ap, sym, ◌∙◌}
use Rattle.dm_token.specs.declared.place.Place.{Place}
use Rattle.dm_meaning.specs.declared.cause.Cause.{Cause}
use Rattle.dm_meaning.specs.Choices.{after, chosen, in_order, stepped}
use Rattle.dm_meaning.specs.Machines.{Standing, going, exited, undefined}
use Rattle.dm_meaning.specs.Programs.{Program}
use Rattle.dm_meaning.specs.States.{State}
use Rattle.dm_meaning.specs.Statements.{unfolded}
use Rattle.dm_meaning.specs.Steps.{task_steps, steps_from}
use Rattle.dm_exec.specs.Outcomes.{outcome_by, outcome_of, outcome_seen}
use Rattle.dm_exec.specs.Runs.{after_seen, next_state, stepped_seen}
use Rattle.dm_exec.specs.Shown.{has_exited, is_undefined, seen, seen_by, standing_of}

-- the state to which a choice leads from one that stands so
abbrev stepped_by : Program → ℕ → State → Standing → State
stepped_by program choice state standing = chosen state choice (steps_from standing (task_steps program (in_order state.world.memory) state (unfolded state.frame.tasks)))

stepped-by : (program : Program) (choice : ℕ) (state : State) (standing : Standing) → state.standing ≡ standing → stepped_seen program choice (seen_by standing state) ≡ seen (stepped program choice state)
unfolding next_state
stepped-by program choice state going is = refl
stepped-by program choice state (exited status) is =
    sym (ap (λ standing. seen (stepped_by program choice state standing)) is ∙ ap (λ standing. seen_by standing state) is)
stepped-by program choice state (undefined cause place) is =
    sym (ap (λ standing. seen (stepped_by program choice state standing)) is ∙ ap (λ standing. seen_by standing state) is)

pub seen-stepped : (program : Program) (choice : ℕ) (state : State) → stepped_seen program choice (seen state) ≡ seen (stepped program choice state)
seen-stepped program choice state = stepped-by program choice state state.standing refl

pub seen-after : (program : Program) (choices : List ℕ) (state : State) → after_seen program choices (seen state) ≡ seen (after program choices state)
seen-after program [] state = refl
seen-after program (choice ∷ choices) state = ap (after_seen program choices) (seen-stepped program choice state) ∙ seen-after program choices (stepped program choice state)

-- what has ended stays
pub exited-stays : (program : Program) (choices : List ℕ) (status : ℕ) (output : List ℕ) → after_seen program choices (has_exited status output) ≡ has_exited status output
exited-stays program [] status output = refl
exited-stays program (choice ∷ choices) status output = exited-stays program choices status output

pub undefined-stays : (program : Program) (choices : List ℕ) (cause : Cause) (place : Place) (output : List ℕ)
    → after_seen program choices (is_undefined cause place output) ≡ is_undefined cause place output
undefined-stays program [] cause place output = refl
undefined-stays program (choice ∷ choices) cause place output = undefined-stays program choices cause place output

-- ---- what it has come to

standing-by : (standing : Standing) (state : State) → standing_of (seen_by standing state) ≡ standing
standing-by going state = refl
standing-by (exited status) state = refl
standing-by (undefined cause place) state = refl

pub standing-seen : (state : State) → standing_of (seen state) ≡ state.standing
standing-seen state = standing-by state.standing state

outcome-by : (standing : Standing) (state : State) → outcome_by standing state.world.output ≡ outcome_seen (seen_by standing state)
outcome-by going state = refl
outcome-by (exited status) state = refl
outcome-by (undefined cause place) state = refl

pub outcome-seen : (state : State) → outcome_of state ≡ outcome_seen (seen state)
outcome-seen state = outcome-by state.standing state
