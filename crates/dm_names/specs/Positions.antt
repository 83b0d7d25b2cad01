-- Positions by number, as functions, and in the order in which they come. The first one of a number stays.
--     lookup_in positions      what a map of positions has
--     identifiers_noted before n identifiers      the positions of identifiers, from one on, by their tokens
--     shown_noted before k all      those of external declarations, from one on, by the entries that they declare in file scope
use Rattle.std.specs.Prelude.{ℕ, ◌+◌, ◌==◌, nat_eq, List, [], ◌∷◌, Option, Some, None, if◌then◌else◌}
use Rattle.std.specs.HashMap as hash
use Rattle.dm_scope.specs.Scopes.{or_else}
use Rattle.dm_names.specs.declared.identifier.Entered.{Entered}
use Rattle.dm_names.specs.declared.identifier.Identifier.{Identifier}
use Rattle.dm_names.specs.declared.positions.Positions.{Positions}
use Rattle.dm_names.specs.declared.seen.Shown.{Shown}

abbrev pub lookup_in : Positions → ℕ → Option ℕ
lookup_in positions number = hash.get nat_eq positions.map number

abbrev pub no_positions : ℕ → Option ℕ
no_positions number = None

abbrev pub noted : (ℕ → Option ℕ) → ℕ → ℕ → ℕ → Option ℕ
noted before number position other = or_else (before other) (if number == other then Some position else None)

abbrev pub identifiers_noted : (ℕ → Option ℕ) → ℕ → List Identifier → ℕ → Option ℕ
identifiers_noted before n [] = before
identifiers_noted before n (one ∷ others) = identifiers_noted (noted before one.at n) (n + 1) others

abbrev pub entered_noted : (ℕ → Option ℕ) → ℕ → List Entered → ℕ → Option ℕ
entered_noted before k [] = before
entered_noted before k (one ∷ others) = entered_noted (noted before one.number k) k others

abbrev pub shown_noted : (ℕ → Option ℕ) → ℕ → List Shown → ℕ → Option ℕ
shown_noted before k [] = before
shown_noted before k (one ∷ others) = shown_noted (entered_noted before k one.entered) (k + 1) others
