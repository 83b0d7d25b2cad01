-- Rule 14: each argument of a run may be evaluated once, before everything else of the run, as a call does (6.5.2.2p10).
--     is_first_at unit run span      the occurrence that has these tokens is evaluated in any case, and nothing of the run picks it
--     is_stable_at unit run span      its value stays the same while the run and what is unsequenced to it are evaluated
--     is_safe_at types unit span      its evaluation can't be undefined
--     is_evaluated_alike types unit run n      the occurrences of the parameter of this position
--     evaluates_alike types unit run      those of all parameters that occur
use Rattle.std.specs.Prelude.{ℕ, Bool, false, ◌&&◌, ◌||◌, ◌==◌, List, [], ◌∷◌, length, drop, filter, map}
use Rattle.std.specs.List.{list_any, list_all}
use Rattle.dm_token.specs.declared.place.Span.{Span}
use Rattle.dm_type.specs.Tables.{Table}
use Rattle.dm_tree.specs.Units.{TypedUnit}
use Rattle.dm_effect.specs.Sequencing.{is_first}
use Rattle.dm_effect.specs.Safe.{is_safe}
use Rattle.dm_effect.specs.Stable.{is_stable}
use Rattle.dm_runs.specs.declared.run.Occurrence.{Occurrence}
use Rattle.dm_runs.specs.declared.run.Run.{Run}
use Rattle.dm_sites.specs.Links.{passes}
use Rattle.dm_sites.specs.Sites.{Site, site_of}

-- ---- an argument, at its place, of the run at another place

-- the way to the argument goes through the run's tree, which stands in the same full expression
abbrev pub is_first_in : Site → Site → Bool
is_first_in run argument = is_first (drop (length run.path) argument.path) run.tree

abbrev pub is_stable_in : TypedUnit → Site → Site → Bool
is_stable_in one run argument = is_stable one run.full run.path argument.tree

-- ---- by tokens

abbrev pub is_first_at : TypedUnit → Run → Span → Bool
is_first_at one run span = passes (λ (site : Site). passes (is_first_in site) (site_of one span)) (site_of one run.span)

abbrev pub is_stable_at : TypedUnit → Run → Span → Bool
is_stable_at one run span = passes (λ (site : Site). passes (is_stable_in one site) (site_of one span)) (site_of one run.span)

abbrev pub is_safe_at : Table → TypedUnit → Span → Bool
is_safe_at types one span = passes (λ (argument : Site). is_safe types one argument.tree) (site_of one span)

-- ---- parameters

abbrev pub occurrences_of : Run → ℕ → List Span
occurrences_of run n = map (λ (each : Occurrence). each.span) (filter (λ (each : Occurrence). each.parameter == n) run.occurrences)

-- it occurs exactly once, and that occurrence is first
abbrev pub is_once_first : (Span → Bool) → List Span → Bool
is_once_first first (only ∷ []) = first only
is_once_first first spans = false

-- each occurrence is stable, and besides one is first, or each is safe
abbrev pub may_come_early : (Span → Bool) → (Span → Bool) → (Span → Bool) → List Span → Bool
may_come_early first stable safe spans = list_all stable spans && (list_any first spans || list_all safe spans)

abbrev pub is_evaluated_alike : Table → TypedUnit → Run → ℕ → Bool
is_evaluated_alike types one run n =
    is_once_first (is_first_at one run) (occurrences_of run n)
    || may_come_early (is_first_at one run) (is_stable_at one run) (is_safe_at types one) (occurrences_of run n)

abbrev pub evaluates_alike : Table → TypedUnit → Run → Bool
evaluates_alike types one run = list_all (λ (each : Occurrence). is_evaluated_alike types one run each.parameter) run.occurrences
