-- The defines that are left do what all of them do.
use Rattle.std.proofs.Common.{◌≡◌, ◌≤◌, ℕ, List, All, length}
use Rattle.dm_token.specs.Limits.{source_length_limit}
use Rattle.dm_unit.specs.States.{Setting, Catalogue, Outcome}
use Rattle.dm_unit.specs.Readings.{DoesManifests}
use Rattle.dm_unit.specs.Views.{state_of, Follows}
use Rattle.dm_unit.proofs.read_defines.Given as goal

abbrev pub invariant-loop-define : goal.invariant-loop-define
invariant-loop-define l = record {
  follows : Follows l.fn.reader l.reader;
  short : All (λ (define : List ℕ). length define ≤ source_length_limit) l.rest;
  leads : (setting : Setting) (files : Catalogue) (outcome : Outcome) → setting.main ≡ l.fn.reader.main → DoesManifests setting l.rest (state_of l.reader files) outcome
      → DoesManifests setting l.fn.defines (state_of l.fn.reader files) outcome;
}

abbrev pub decreases-loop-define : goal.decreases-loop-define
decreases-loop-define l = length l.rest
