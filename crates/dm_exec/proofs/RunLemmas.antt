-- Runs of several steps.
use Rattle.std.proofs.Common.{◌≡◌, ℕ, zero, suc, ◌+◌, ◌-◌, ◌<◌, List, [], ◌∷◌, length, get_or, Option, Some, None, option_map, Result, Ok, IsErr, refl, ap, sym, subst, ◌∙◌, arith}
use mir.Syntax.{w8}
use mir.Val.{Fits}
use Rattle.dm_token.specs.declared.stop.Memory.{Memory}
use Rattle.dm_meaning.specs.Choices.{after, after_start, run_by}
use Rattle.dm_meaning.specs.Machines.{RunsWithin}
use Rattle.dm_meaning.specs.Programs.{Program, Definition}
use Rattle.dm_meaning.specs.States.{State}
use Rattle.dm_meaning.specs.Units.{machine_of, start, AreBytes}
use Rattle.dm_state.specs.declared.turn.Turn.{Turn}
use Rattle.dm_state.specs.declared.turn.Turn.TheVariants as variant
use Rattle.dm_state.specs.Turns.{turn_of}
use Rattle.dm_exec.specs.declared.outcome.Outcome.{Outcome}
use Rattle.dm_exec.specs.Orders.{choices, choices_behind, drawn, turned}
use Rattle.dm_exec.specs.Outcomes.{outcome_of, outcome_seen, IsRun, IsStart, IsStep}
use Rattle.dm_exec.specs.Runs.{after_seen, next_state, stepped_seen}
use Rattle.dm_exec.specs.Shown.{Seen, goes_on, has_exited, is_undefined, standing_of}
use Rattle.dm_exec.proofs.SeenLemmas.{exited-stays, outcome-seen, seen-after, standing-seen, undefined-stays}

-- what a step leaves, and what it did
abbrev pub IsTaken : Program → ℕ → Option Seen → Turn → Option Seen → Type 0
IsTaken program choice None turn after = ⊥
IsTaken program choice (Some before) turn after =
    (after ≡ Some (stepped_seen program choice before)) × (turn ≡ turn_of (standing_of (stepped_seen program choice before)))

same-turn : (turn other : Turn) → ◌≡◌ {A = Result Turn Memory} (Ok turn) (Ok other) → turn ≡ other
same-turn turn other is = cc

not-wanted : (turn : Turn) → IsErr {T = Turn} {E = Memory} (Ok turn) → ⊥
not-wanted turn is = cc

pub step-taken : (program : Program) (choice : ℕ) (before after : Option Seen) (turn : Turn) → IsStep program choice before (Ok turn) after → IsTaken program choice before turn after
step-taken program choice None later turn step = absurd (not-wanted turn step.0)
step-taken program choice (Some (goes_on state)) after turn step = (step.0, step.1 ∙ ap turn_of (sym (standing-seen (next_state program choice state))))
step-taken program choice (Some (has_exited status output)) after turn step = (step.1, same-turn turn (variant.Exited status) step.0)
step-taken program choice (Some (is_undefined cause place output)) after turn step = (step.1, same-turn turn (variant.Undefined cause place) step.0)

-- what is left after the steps of an order
abbrev pub left_after : Program → ℕ → ℕ → ℕ → Option Seen → Option Seen
left_after program order number n before = option_map (after_seen program (choices_behind order number n)) before

-- one step, and those behind it
first-step : (program : Program) (order number n choice : ℕ) (before after : Option Seen) (turn : Turn) → choice ≡ drawn order (turned number) → IsTaken program choice before turn after
    → left_after program order (turned number) n after ≡ left_after program order number (suc n) before
first-step program order number n choice None after turn is taken = absurd taken
first-step program order number n choice (Some before) after turn is taken =
    ap (left_after program order (turned number) n) taken.0 ∙ ap (λ choice. left_after program order (turned number) n (Some (stepped_seen program choice before))) is

pub one-step : (program : Program) (order number next n i choice : ℕ) (before after : Option Seen) (turn : Turn) → i < n → choice ≡ drawn order (turned number) → next ≡ turned number
    → IsTaken program choice before turn after → left_after program order next (n - (i + 1)) after ≡ left_after program order number (n - i) before
one-step program order number next n i choice before after turn less is is_next taken =
    ap (λ number. left_after program order number (n - (i + 1)) after) is_next
    ∙ (first-step program order number (n - (i + 1)) choice before after turn is taken
    ∙ ap (λ k. left_after program order number k before) (one-less n i less))
  where
    one-less : (n i : ℕ) → i < n → suc (n - (i + 1)) ≡ n - i
    one-less n i less = omega (arith, less)

-- where a step ends the run, those behind it do nothing
ended-stays : (program : Program) (order number n : ℕ) (turn : Turn) (one : Seen) → turn ≡ turn_of (standing_of one) → (turn ≡ variant.Went → ⊥) → left_after program order number n (Some one) ≡ Some one
ended-stays program order number n turn (goes_on state) is ended = absurd (ended is)
ended-stays program order number n turn (has_exited status output) is ended = ap Some (exited-stays program (choices_behind order number n) status output)
ended-stays program order number n turn (is_undefined cause place output) is ended = ap Some (undefined-stays program (choices_behind order number n) cause place output)

pub last-step : (program : Program) (order number n choice : ℕ) (before after : Option Seen) (turn : Turn) → IsTaken program choice before turn after → (turn ≡ variant.Went → ⊥)
    → left_after program order number n after ≡ after
last-step program order number n choice None after turn taken ended = absurd taken
last-step program order number n choice (Some before) after turn taken ended =
    ap (left_after program order number n) taken.0 ∙ (ended-stays program order number n turn (stepped_seen program choice before) taken.1 ended ∙ sym taken.0)

-- ---- whole runs

-- the input of the code is a list of bytes
byte-below : (byte : ℕ) → Fits w8 byte → byte < 256
byte-below byte fits = omega (arith, fits)

pub all-bytes : (input : List ℕ) → ((k : ℕ) → Fits w8 (get_or input k 0)) → AreBytes input
all-bytes [] fits k other within = absurd (omega (arith, within))
all-bytes (byte ∷ bytes) fits zero other within = byte-below byte (fits 0)
all-bytes (byte ∷ bytes) fits (suc k) other within = all-bytes bytes (λ j. fits (suc j)) k other (omega (arith, within))

-- there are as many choices as steps
choices-counted : (order number n : ℕ) → length (choices_behind order number n) ≡ n
choices-counted order number zero = refl
choices-counted order number (suc n) = ap suc (choices-counted order (turned number) n)

same-outcome : (one other : Outcome) → ◌≡◌ {A = Option Outcome} (Some one) (Some other) → one ≡ other
same-outcome one other is = cc

-- each run by choices is one of the machine's
abbrev pub AreRuns : Type 0
AreRuns = (program : Program) (choices input : List ℕ) (state : State) → AreBytes input → run_by program choices input ≡ Some state
    → RunsWithin (machine_of program) input (length choices) state

pub run-outcome : AreRuns → (program : Program) (order n : ℕ) (input : List ℕ) (first last : Option Seen) (outcome : Outcome) → AreBytes input → IsStart program input first
    → last ≡ option_map (after_seen program (choices order n)) first → option_map outcome_seen last ≡ Some outcome → IsRun program order n input outcome
unfolding IsStart
run-outcome runs program order n input first last outcome bytes begins left is =
    let all = choices order n in
    let begun = start (λ i. i) program begins.0 input in
    let led : run_by program all input ≡ Some (after program all begun) = ap (λ (main : Option Definition). after_start program all input main) begins.1 in
    record {
      state = after program all begun;
      chosen = led;
      run = subst (λ count. RunsWithin (machine_of program) input count (after program all begun)) (choices-counted order order n)
          (runs program all input (after program all begun) bytes led);
      comes_to = same-outcome (outcome_of (after program all begun)) outcome
          (ap Some (outcome-seen (after program all begun) ∙ ap outcome_seen (sym (seen-after program all begun)))
          ∙ (ap (λ (first : Option Seen). option_map outcome_seen (option_map (after_seen program all) first)) (sym begins.2)
          ∙ (ap (option_map outcome_seen) (sym left) ∙ is)));
    }
