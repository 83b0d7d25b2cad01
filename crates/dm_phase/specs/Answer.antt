-- What the first two phases of translation give of a file (5.1.1.2).
use Rattle.std.specs.Prelude.{ℕ, List, Result, Ok, Err}
use Rattle.dm_token.specs.Places.{place_of}
use Rattle.dm_token.specs.Refusals as refusals
use Rattle.dm_token.specs.declared.stop.Refusal.{Refusal}
use Rattle.dm_phase.specs.declared.Character.{Character}
use Rattle.dm_phase.specs.Phases.{flat_text}

-- The refusal of a text whose last newline is deleted with this backslash.
abbrev pub refusal_at : ℕ → List ℕ → Character → Refusal
refusal_at file bytes backslash = record { number = refusals.splice; detail = 0; place = place_of file bytes backslash.at }

-- A text, or that refusal.
abbrev pub unless_refused : ℕ → List ℕ → Result (List Character) Character → Result (List Character) Refusal
unless_refused file bytes (Ok text) = Ok text
unless_refused file bytes (Err backslash) = Err (refusal_at file bytes backslash)

-- The text of the file of this number after phases 1 and 2, or its refusal.
unfoldable pub flat_of : ℕ → List ℕ → Result (List Character) Refusal
flat_of file bytes = unless_refused file bytes (flat_text bytes)
