-- Where the expressions of a text stand in typed trees.
--     extents_of tree      the spans of the expression whose value a tree is, from the outside in
--     stands span tree      the tree is the value of the expression of these tokens
--     runs_at runs tree      the runs that stand at a tree, from the outside in
--     runs_below, occurrences_below      what stands at a part of a node
use Rattle.std.specs.Prelude.{ℕ, zero, suc, ◌+◌, ◌-◌, Bool, List, [], ◌∷◌, filter, flat_map, if◌then◌else◌}
use Rattle.std.specs.List.{list_any}
use Rattle.dm_token.specs.declared.place.Span.{Span}
use Rattle.dm_runs.specs.declared.run.Occurrence.{Occurrence}
use Rattle.dm_runs.specs.declared.run.Run.{Run}
use Rattle.dm_tree.specs.Initialisers.{is_same_span}
use Rattle.dm_tree.specs.Trees.{Label, Spans, Tree, spans_of}
use Rattle.dm_sites.specs.Standing.{is_value, is_apart}

-- ---- extents

-- tokens with so many pairs of parentheses round them (6.5.1p5)
abbrev pub widened : Span → ℕ → Span
widened inner pairs = record { first = inner.first - pairs; after = inner.after + pairs }

-- With that many pairs, with one less, and so on down to none. `is_extent` of `dm_sites` tests one span; here they are in order, since of
-- several runs at a tree the one with more pairs is outside.
abbrev pub narrowing : Span → ℕ → List Span
narrowing inner zero = inner ∷ []
narrowing inner (suc pairs) = widened inner (suc pairs) ∷ narrowing inner pairs

abbrev pub extents : Spans → List Span
extents spans = narrowing spans.inner (spans.inner.first - spans.outer.first)

-- No other tree is the value of an expression that is written.
abbrev pub extents_of : Tree → List Span
extents_of tree = if is_value tree then extents (spans_of tree) else []

abbrev pub stands : Span → Tree → Bool
stands span tree = list_any (is_same_span span) (extents_of tree)

-- a part that is no expression of its own has none
abbrev pub extents_below : Label → Spans → Tree → List Span
extents_below label spans part = if is_apart label spans part then extents_of part else []

-- ---- runs

abbrev pub runs_with : List Run → Span → List Run
runs_with runs span = filter (λ (run : Run). is_same_span run.span span) runs

abbrev pub runs_at : List Run → Tree → List Run
runs_at runs tree = flat_map (runs_with runs) (extents_of tree)

abbrev pub runs_below : List Run → Label → Spans → Tree → List Run
runs_below runs label spans part = flat_map (runs_with runs) (extents_below label spans part)

abbrev pub occurrences_with : List Occurrence → Span → List Occurrence
occurrences_with occurrences span = filter (λ (one : Occurrence). is_same_span one.span span) occurrences

abbrev pub occurrences_at : List Occurrence → Tree → List Occurrence
occurrences_at occurrences tree = flat_map (occurrences_with occurrences) (extents_of tree)

abbrev pub occurrences_below : List Occurrence → Label → Spans → Tree → List Occurrence
occurrences_below occurrences label spans part = flat_map (occurrences_with occurrences) (extents_below label spans part)
