-- Runs that stand at a tree.
--     all_append, all_front, all_back      lists of which each element has a property
--     runs_stand      those that stand at a tree, where each has a property
--     runs_stand_below      those that stand at a part of a node
use Rattle.std.specs.Prelude.{◌≡◌, refl, Bool, true, false, ◌||◌, List, [], ◌∷◌, ◌++◌, flat_map, if◌then◌else◌}
use Rattle.std.specs.List.{list_any, AllByRecursion}
use Rattle.std.proofs.lemmas.Bool.{false≢true}
use Rattle.dm_token.specs.declared.place.Span.{Span}
use Rattle.dm_runs.specs.declared.run.Run.{Run}
use Rattle.dm_tree.specs.Initialisers.{is_same_span}
use Rattle.dm_tree.specs.Trees.{Label, Spans, Tree}
use Rattle.dm_sites.specs.Standing.{is_apart}
use Rattle.dm_agree.specs.Standing.{extents_of, stands, runs_with, runs_at, runs_below}

-- ---- lists

module _ {A : Type 0} (P : A → Type 0) where
  pub all_append : (front back : List A) → AllByRecursion P front → AllByRecursion P back → AllByRecursion P (front ++ back)
  all_append [] back h k = k
  all_append (x ∷ front) back h k = (h.0, all_append front back h.1 k)

  pub all_front : (front back : List A) → AllByRecursion P (front ++ back) → AllByRecursion P front
  all_front [] back h = tt
  all_front (x ∷ front) back h = (h.0, all_front front back h.1)

  pub all_back : (front back : List A) → AllByRecursion P (front ++ back) → AllByRecursion P back
  all_back [] back h = h
  all_back (x ∷ front) back h = all_back front back h.1

pub all_weaker : {A : Type 0} (P Q : A → Type 0) → ((x : A) → P x → Q x) → (items : List A) → AllByRecursion P items → AllByRecursion Q items
all_weaker P Q f [] h = tt
all_weaker P Q f (x ∷ items) h = (f x h.0, all_weaker P Q f items h.1)

-- ---- runs with one of some spans

or_right : (a b : Bool) → b ≡ true → (a || b) ≡ true
or_right true b e = refl
or_right false b e = e

or_left : (a b : Bool) → a ≡ true → (a || b) ≡ true
or_left true b e = refl
or_left false b e = absurd (false≢true e)

module _ (P : Run → Type 0) where
  abbrev AmongSpans : List Span → Run → Type 0
  AmongSpans spans run = P run × (list_any (is_same_span run.span) spans ≡ true)

  with_span : (span : Span) (spans : List Span) (runs : List Run) → AllByRecursion P runs → AllByRecursion (AmongSpans (span ∷ spans)) (runs_with runs span)
  with_span span spans [] h = tt
  with_span span spans (run ∷ runs) h = by_test (is_same_span run.span span) refl (with_span span spans runs h.1)
    where
      by_test : (b : Bool) → is_same_span run.span span ≡ b → AllByRecursion (AmongSpans (span ∷ spans)) (runs_with runs span)
          → AllByRecursion (AmongSpans (span ∷ spans)) (if b then run ∷ runs_with runs span else runs_with runs span)
      by_test true e rest = ((h.0, or_left (is_same_span run.span span) (list_any (is_same_span run.span) spans) e), rest)
      by_test false e rest = rest

  with_spans : (spans : List Span) (runs : List Run) → AllByRecursion P runs → AllByRecursion (AmongSpans spans) (flat_map (runs_with runs) spans)
  with_spans [] runs h = tt
  with_spans (span ∷ spans) runs h =
      all_append (AmongSpans (span ∷ spans)) (runs_with runs span) (flat_map (runs_with runs) spans) (with_span span spans runs h)
      (all_weaker (AmongSpans spans) (AmongSpans (span ∷ spans))
      (λ run k. (k.0, or_right (is_same_span run.span span) (list_any (is_same_span run.span) spans) k.1)) (flat_map (runs_with runs) spans) (with_spans spans runs h))

  -- ---- runs at trees

  abbrev pub StandsAt : Bool → Tree → Run → Type 0
  StandsAt apart tree run = P run × (apart ≡ true) × (stands run.span tree ≡ true)

  pub runs_stand : (runs : List Run) (tree : Tree) → AllByRecursion P runs → AllByRecursion (StandsAt true tree) (runs_at runs tree)
  runs_stand runs tree h =
      all_weaker (AmongSpans (extents_of tree)) (StandsAt true tree) (λ run k. (k.0, refl, k.1)) (runs_at runs tree) (with_spans (extents_of tree) runs h)

  pub runs_stand_below : (runs : List Run) (label : Label) (spans : Spans) (part : Tree) → AllByRecursion P runs
      → AllByRecursion (StandsAt (is_apart label spans part) part) (runs_below runs label spans part)
  runs_stand_below runs label spans part h = by_apart (is_apart label spans part)
    where
      by_apart : (b : Bool) → AllByRecursion (StandsAt b part) (flat_map (runs_with runs) (if b then extents_of part else []))
      by_apart true = runs_stand runs part h
      by_apart false = tt
