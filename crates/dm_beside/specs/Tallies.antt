-- What is known of the occurrences of each parameter of a run together.
--     placed types site path      a place of the code
--     fact_in types unit run span      what is known of an occurrence, where the run stands at a place
--     tally_of fact spans      what is known of occurrences, by what is known of each
--     tally_at table n      that of the parameter of a position
use Rattle.std.specs.Prelude.{ℕ, Bool, true, false, ◌&&◌, ◌||◌, ◌==◌, not, List, [], ◌∷◌, filter, map, slice_get, Option, Some, None}
use Rattle.dm_token.specs.declared.place.Span.{Span}
use Rattle.dm_type.specs.Tables.{Table}
use Rattle.dm_tree.specs.Units.{TypedUnit}
use Rattle.dm_tree.specs.Paths.{Path}
use Rattle.dm_tree.specs.Views.{view}
use Rattle.dm_runs.specs.declared.run.Occurrence.{Occurrence}
use Rattle.dm_sites.specs.declared.site.Site.{Site as CodeSite}
use Rattle.dm_sites.specs.Links.{passes}
use Rattle.dm_sites.specs.Sites.{Site, site_of}
use Rattle.dm_beside.specs.declared.tally.Fact.{Fact}
use Rattle.dm_beside.specs.declared.tally.Tally.{Tally}
use Rattle.dm_beside.specs.Evaluation.{is_first_in, is_stable_in, is_safe_at}

-- a place of the code, to which this way leads
abbrev pub placed : Table → CodeSite → Path → Site
placed types site path = record {
  tree = view types site.tree.now;
  full = view types site.full.now;
  path = path;
  apart = site.apart;
  constant = site.constant;
  fixed = site.fixed;
  unevaluated = site.unevaluated;
}

abbrev pub fact_in : Table → TypedUnit → Site → Span → Fact
fact_in types one run span = record {
  first = passes (is_first_in run) (site_of one span);
  stable = passes (is_stable_in one run) (site_of one span);
  safe = is_safe_at types one span;
}

abbrev pub none_yet : Tally
none_yet = record { some = false; several = false; first = false; stable = true; safe = true }

-- one more occurrence
abbrev pub added : Fact → Tally → Tally
added fact tally = record {
  some = true;
  several = tally.some;
  first = fact.first || tally.first;
  stable = fact.stable && tally.stable;
  safe = fact.safe && tally.safe;
}

abbrev pub tally_of : (Span → Fact) → List Span → Tally
tally_of fact [] = none_yet
tally_of fact (span ∷ spans) = added (fact span) (tally_of fact spans)

-- the only occurrence is first, or all are stable, and one is first or all are safe
abbrev pub is_passed : Tally → Bool
is_passed tally = tally.first && not tally.several || tally.stable && (tally.first || tally.safe)

abbrev pub tally_by : Option Tally → Tally
tally_by (Some tally) = tally
tally_by None = none_yet

abbrev pub tally_at : List Tally → ℕ → Tally
tally_at table n = tally_by (slice_get table n)

-- the occurrences of a parameter among some
abbrev pub spans_for : List Occurrence → ℕ → List Span
spans_for occurrences n = map (λ (each : Occurrence). each.span) (filter (λ (each : Occurrence). each.parameter == n) occurrences)
