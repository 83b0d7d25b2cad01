-- The occurrences that stand at a tree.
--     only_span      where a parameter occurs once, each occurrence of it has that span
--     occurrences_stand, occurrences_stand_below      the occurrences at a tree, and at a part of a node, where each has a property
use Rattle.std.specs.Prelude.{◌≡◌, refl, ℕ, Bool, true, false, ◌||◌, ◌==◌, List, [], ◌∷◌, filter, flat_map, map, if◌then◌else◌}
use Rattle.std.specs.List.{list_any, AllByRecursion}
use Rattle.std.proofs.Common.{sym, ◌∙◌, subst}
use Rattle.std.proofs.lemmas.Bool.{false≢true, true≢false}
use Rattle.dm_token.specs.declared.place.Span.{Span}
use Rattle.dm_runs.specs.declared.run.Occurrence.{Occurrence}
use Rattle.dm_runs.specs.declared.run.Run.{Run}
use Rattle.dm_tree.specs.Initialisers.{is_same_span}
use Rattle.dm_tree.specs.Trees.{Label, Spans, Tree}
use Rattle.dm_meaning.proofs.GrowLemmas.{equal_is}
use Rattle.dm_sites.specs.Standing.{is_apart}
use Rattle.dm_agree.specs.Standing.{extents_of, stands, occurrences_with, occurrences_at, occurrences_below}
use Rattle.dm_beside.specs.Evaluation.{occurrences_of}
use Rattle.dm_standing.proofs.RunLemmas.{all_append, all_weaker}

or_right : (a b : Bool) → b ≡ true → (a || b) ≡ true
or_right true b e = refl
or_right false b e = e

or_left : (a b : Bool) → a ≡ true → (a || b) ≡ true
or_left true b e = refl
or_left false b e = absurd (false≢true e)

-- ---- the occurrences of one parameter

abbrev pub IsOnly : ℕ → Span → Occurrence → Type 0
IsOnly n only one = one.parameter ≡ n → one.span ≡ only

spans_are : (n : ℕ) (only : Span) (occurrences : List Occurrence)
    → AllByRecursion (λ (span : Span). span ≡ only) (map (λ (each : Occurrence). each.span) (filter (λ (each : Occurrence). each.parameter == n) occurrences))
    → AllByRecursion (IsOnly n only) occurrences
spans_are n only [] h = tt
spans_are n only (one ∷ others) h = by_test (one.parameter == n) refl h (spans_are n only others)
  where
    by_test : (b : Bool) → (one.parameter == n) ≡ b
        → AllByRecursion (λ (span : Span). span ≡ only)
        (map (λ (each : Occurrence). each.span) (if b then one ∷ filter (λ (each : Occurrence). each.parameter == n) others else filter (λ (each : Occurrence). each.parameter == n) others))
        → (AllByRecursion (λ (span : Span). span ≡ only) (map (λ (each : Occurrence). each.span) (filter (λ (each : Occurrence). each.parameter == n) others))
        → AllByRecursion (IsOnly n only) others) → AllByRecursion (IsOnly n only) (one ∷ others)
    by_test true is k rest = ((λ same. k.0), rest k.1)
    by_test false is k rest = ((λ same. absurd (true≢false (sym (equal_is one.parameter n same) ∙ is))), rest k)

pub only_span : (run : Run) (n : ℕ) (only : Span) → occurrences_of run n ≡ only ∷ [] → AllByRecursion (IsOnly n only) run.occurrences
only_span run n only e = spans_are n only run.occurrences (subst (AllByRecursion (λ (span : Span). span ≡ only)) (sym e) (refl, tt))

-- ---- at trees

module _ (P : Occurrence → Type 0) where
  abbrev AmongSpans : List Span → Occurrence → Type 0
  AmongSpans spans one = P one × (list_any (is_same_span one.span) spans ≡ true)

  with_span : (span : Span) (spans : List Span) (all : List Occurrence) → AllByRecursion P all → AllByRecursion (AmongSpans (span ∷ spans)) (occurrences_with all span)
  with_span span spans [] h = tt
  with_span span spans (one ∷ all) h = by_test (is_same_span one.span span) refl (with_span span spans all h.1)
    where
      by_test : (b : Bool) → is_same_span one.span span ≡ b → AllByRecursion (AmongSpans (span ∷ spans)) (occurrences_with all span)
          → AllByRecursion (AmongSpans (span ∷ spans)) (if b then one ∷ occurrences_with all span else occurrences_with all span)
      by_test true e rest = ((h.0, or_left (is_same_span one.span span) (list_any (is_same_span one.span) spans) e), rest)
      by_test false e rest = rest

  with_spans : (spans : List Span) (all : List Occurrence) → AllByRecursion P all → AllByRecursion (AmongSpans spans) (flat_map (occurrences_with all) spans)
  with_spans [] all h = tt
  with_spans (span ∷ spans) all h =
      all_append (AmongSpans (span ∷ spans)) (occurrences_with all span) (flat_map (occurrences_with all) spans) (with_span span spans all h)
      (all_weaker (AmongSpans spans) (AmongSpans (span ∷ spans))
      (λ one k. (k.0, or_right (is_same_span one.span span) (list_any (is_same_span one.span) spans) k.1)) (flat_map (occurrences_with all) spans) (with_spans spans all h))

  abbrev pub OccursAt : Bool → Tree → Occurrence → Type 0
  OccursAt apart tree one = P one × (apart ≡ true) × (stands one.span tree ≡ true)

  pub occurrences_stand : (all : List Occurrence) (tree : Tree) → AllByRecursion P all → AllByRecursion (OccursAt true tree) (occurrences_at all tree)
  occurrences_stand all tree h =
      all_weaker (AmongSpans (extents_of tree)) (OccursAt true tree) (λ one k. (k.0, refl, k.1)) (occurrences_at all tree) (with_spans (extents_of tree) all h)

  pub occurrences_stand_below : (all : List Occurrence) (label : Label) (spans : Spans) (part : Tree) → AllByRecursion P all
      → AllByRecursion (OccursAt (is_apart label spans part) part) (occurrences_below all label spans part)
  occurrences_stand_below all label spans part h = by_apart (is_apart label spans part)
    where
      by_apart : (b : Bool) → AllByRecursion (OccursAt b part) (flat_map (occurrences_with all) (if b then extents_of part else []))
      by_apart true = occurrences_stand all part h
      by_apart false = tt
