-- What a step leaves of a run.
use Rattle.std.proofs.Common.{◌≡◌, ap, sym, ◌∙◌}
use Rattle.dm_type.specs.Tables.{Table}
use Rattle.dm_meaning.specs.States.{State}
use Rattle.dm_state.specs.declared.running.Running.{Running}
use Rattle.dm_state.specs.declared.turn.Turn.{Turn}
use Rattle.dm_state.specs.declared.turn.Turn.TheVariants as variant
use Rattle.dm_state.specs.Turns.{turn_of, IsLeft}
use Rattle.dm_exec.specs.Shown.{has_exited, is_undefined, seen, seen_at, seen_by, TurnFits}

-- what shows is what the step left
pub left-seen : (table : Table) (turn : Turn) (running : Running) (next : State) → IsLeft table turn running next → seen_at table turn running ≡ seen next
left-seen table variant.Went running next left = ap seen left.same
left-seen table (variant.Exited status) running next left = sym (ap (λ standing. seen_by standing next) left.0 ∙ ap (has_exited status) left.1)
left-seen table (variant.Undefined cause place) running next left = sym (ap (λ standing. seen_by standing next) left.0 ∙ ap (is_undefined cause place) left.1)

pub left-turn : (table : Table) (turn : Turn) (running : Running) (next : State) → IsLeft table turn running next → turn ≡ turn_of next.standing
left-turn table variant.Went running next left = ap (λ (state : State). turn_of state.standing) left.same
left-turn table (variant.Exited status) running next left = sym (ap turn_of left.0)
left-turn table (variant.Undefined cause place) running next left = sym (ap turn_of left.0)

pub left-fits : (table : Table) (turn : Turn) (running : Running) (next : State) → IsLeft table turn running next → TurnFits table running turn
left-fits table variant.Went running next left = left.fits
left-fits table (variant.Exited status) running next left = tt
left-fits table (variant.Undefined cause place) running next left = tt
