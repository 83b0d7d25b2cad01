-- Runs of one beginning after another.
use Rattle.std.proofs.Common.{◌≡◌, ℕ, ◌+◌, Bool, true, false, cond, ◌&&◌, ◌<◌, List, [], ◌∷◌, ◌++◌, length, map, take, fold, get_or, Option, Some, None, slice_get, MatchOption, refl, sym, ap, ◌∙◌, subst, arith}
use Rattle.std.specs.Bool.{◌==◌}
use Rattle.std.specs.List.{list_any, flat_map}
use Rattle.std.specs.Option.{option_map}
use Rattle.std.proofs.lemmas.Option.{slice_get-map, slice_get_within, get_or_from_slice_get}
use Rattle.std.proofs.lemmas.List.{append-nil, take_more}
use Rattle.std.proofs.lemmas.Grind.{flat_map-append}
use Rattle.dm_token.specs.declared.expansion.Mark.{Mark}
use Rattle.dm_token.specs.declared.expansion.Definition.{Definition}
use Rattle.dm_token.specs.declared.expansion.Expansion.{Expansion}
use Rattle.dm_token.specs.declared.place.Span.{Span}
use Rattle.dm_token.specs.declared.token.CToken.{CToken}
use Rattle.dm_token.specs.declared.unit.UnitTokens.{UnitTokens}
use Rattle.dm_token.specs.Equal.{equal}
use Rattle.dm_runs.specs.declared.beginnings.Link.{Link}
use Rattle.dm_runs.specs.declared.extents.Extent.{Extent}
use Rattle.dm_runs.specs.declared.named.Named.{Named}
use Rattle.dm_runs.specs.declared.run.Occurrence.{Occurrence}
use Rattle.dm_runs.specs.declared.run.Run.{Run}
use Rattle.dm_runs.specs.Beginnings.{last_of, last_mark, once_more}
use Rattle.dm_runs.specs.Extents.{IsShape, span_from}
use Rattle.dm_runs.specs.Names.{named_in}
use Rattle.dm_runs.specs.Runs.{runs_among, run_if, run_of, run_with, occurrence_in, instance_of, expanded, is_file}
use Rattle.dm_runs.specs.Spans.{span_of, tokens_under}
use Rattle.dm_runs.proofs.ItemLemmas.{slice_get-left}
use Rattle.dm_runs.proofs.BeginningLemmas.{map-push}
use Rattle.dm_runs.proofs.SpanLemmas.{span-is}
use Rattle.dm_runs.proofs.GrowthLemmas.{grown}
use Rattle.dm_runs.proofs.ExtentLemmas.{extent_in, extent-absent}

last_of-push : (before : Option Mark) (outer : List Mark) (mark : Mark) → last_of before (outer ++ mark ∷ []) ≡ Some mark
last_of-push before [] mark = refl
last_of-push before (first ∷ outer) mark = last_of-push (Some first) outer mark

-- what the innermost mark is
pub last-mark-is : (found : Option Mark) (trail : List Mark) → MatchOption found (trail ≡ []) (λ mark. (outer : List Mark) × (trail ≡ outer ++ mark ∷ [])) → found ≡ last_mark trail
last-mark-is None trail h = ap last_mark (sym h)
last-mark-is (Some mark) trail h = sym (ap last_mark h.1 ∙ last_of-push None h.0 mark)

-- the runs of one more beginning
pub runs-push : (pp : UnitTokens) (tokens : List CToken) (file hash : ℕ) (trails : List (List Mark)) (trail : List Mark)
    → runs_among pp tokens file hash (trails ++ trail ∷ []) ≡ runs_among pp tokens file hash trails ++ run_if pp tokens file hash trail (expanded pp.read (last_mark trail))
runs-push pp tokens file hash trails trail =
    let of_one : List Mark → List Run = λ one. run_if pp tokens file hash one (expanded pp.read (last_mark one)) in
    flat_map-append of_one trails (trail ∷ []) ∙ ap (λ found. flat_map of_one trails ++ found) (append-nil (of_one trail))

-- the item that is made of another
pub mapped-at : {A B : Type 0} (f : A → B) (xs : List A) (ys : List B) (k : ℕ) (x : A) (d : B) → ys ≡ map f xs → slice_get xs k ≡ Some x → get_or ys k d ≡ f x
mapped-at f xs ys k x d e is = get_or_from_slice_get ys k (f x) d (ap (λ zs. slice_get zs k) e ∙ slice_get-map f xs k ∙ ap (option_map f) is)

-- the extent of a trail that wasn't met
pub extent-nowhere : (links : List Link) (trails : List (List Mark)) (extents : List (Option Extent)) (tokens : List CToken) → IsShape links trails extents tokens
    → (trail : List Mark) → list_any (equal trail) trails ≡ false → None ≡ extent_in tokens trail
extent-nowhere links trails extents tokens shape trail absent = sym (extent-absent trails tokens shape.covers trail absent)

-- ---- the run of one beginning

pub run-nowhere : (pp : UnitTokens) (tokens : List CToken) (file hash : ℕ) (trail : List Mark) (found : Option Definition)
    → ((definition : Definition) → found ≡ Some definition → is_file definition.origin ≡ false) → run_if pp tokens file hash trail found ≡ []
run-nowhere pp tokens file hash trail None none = refl
run-nowhere pp tokens file hash trail (Some definition) none =
    ap (λ b. cond (b && ((file == definition.place.file) && (hash == definition.hash))) (run_of pp tokens definition trail ∷ []) []) (none definition refl)

pub run-here : (pp : UnitTokens) (tokens : List CToken) (file hash : ℕ) (trail : List Mark) (found : Option Definition) (definition : Definition)
    → found ≡ Some definition → is_file definition.origin ≡ true
    → run_if pp tokens file hash trail found ≡ cond ((file == definition.place.file) && (hash == definition.hash)) (run_of pp tokens definition trail ∷ []) []
run-here pp tokens file hash trail found definition is in_file =
    ap (run_if pp tokens file hash trail) is
    ∙ ap (λ b. cond (b && ((file == definition.place.file) && (hash == definition.hash))) (run_of pp tokens definition trail ∷ []) []) in_file

-- what is met first stays in its place
pub stays : (found more : List (List Mark)) (k : ℕ) (trail : List Mark) → slice_get found k ≡ Some trail → slice_get (fold once_more found more) k ≡ Some trail
stays found more k trail is =
    let whole = grown found more in
    ap (λ (ts : List (List Mark)). slice_get ts k) whole.is ∙ slice_get-left found whole.news k trail is

-- the beginnings up to one more
pub runs-more : (pp : UnitTokens) (tokens : List CToken) (file hash : ℕ) (trails : List (List Mark)) (number : ℕ) (trail : List Mark) → slice_get trails number ≡ Some trail
    → runs_among pp tokens file hash (take number trails) ++ run_if pp tokens file hash trail (expanded pp.read (last_mark trail)) ≡ runs_among pp tokens file hash (take (number + 1) trails)
runs-more pp tokens file hash trails number trail is =
    let inside : number < length trails = slice_get_within trails number trail is in
    let item : get_or trails number trail ≡ trail = get_or_from_slice_get trails number trail trail is in
    sym (ap (runs_among pp tokens file hash) (take_more trails number trail inside ∙ ap (λ (t : List Mark). take number trails ++ t ∷ []) item)
    ∙ runs-push pp tokens file hash (take number trails) trail)

abbrev pub run_of_parts : ℕ → List Mark → Span → List Occurrence → Run
run_of_parts instance prefix span occurrences = record { instance = instance; prefix = prefix; span = span; occurrences = occurrences }

-- a run with these parts
pub run-is : (expansions : List Expansion) (tokens : List CToken) (definition : Definition) (prefix : List Mark) (span : Span) (instance : ℕ) (p : List Mark) (s : Span) (occurrences : List Occurrence)
    → instance ≡ instance_of (last_mark prefix) → p ≡ prefix → s ≡ span → occurrences ≡ map (occurrence_in expansions tokens definition prefix span) (named_in definition)
    → run_of_parts instance p s occurrences ≡ run_with expansions tokens definition prefix span
run-is expansions tokens definition prefix span instance p s occurrences instances prefixes spans named =
    ap (λ i. run_of_parts i p s occurrences) instances ∙ ap (λ q. run_of_parts (instance_of (last_mark prefix)) q s occurrences) prefixes
    ∙ ap (λ r. run_of_parts (instance_of (last_mark prefix)) prefix r occurrences) spans ∙ ap (run_of_parts (instance_of (last_mark prefix)) prefix span) named

pub run-made : (pp : UnitTokens) (tokens : List CToken) (file hash : ℕ) (trail : List Mark) (found : Option Definition) (definition : Definition) (run : Run)
    → found ≡ Some definition → is_file definition.origin ≡ true → run ≡ run_of pp tokens definition trail
    → cond ((file == definition.place.file) && (hash == definition.hash)) (run ∷ []) [] ≡ run_if pp tokens file hash trail found
run-made pp tokens file hash trail found definition run is in_file same =
    ap (λ (r : Run). cond ((file == definition.place.file) && (hash == definition.hash)) (r ∷ []) []) same ∙ sym (run-here pp tokens file hash trail found definition is in_file)

-- the span of the tokens below a beginning
pub span-below : (links : List Link) (trails : List (List Mark)) (extents : List (Option Extent)) (tokens : List CToken) → IsShape links trails extents tokens
    → (number : ℕ) (prefix : List Mark) → slice_get trails number ≡ Some prefix → (part : ℕ) → span_from part (get_or extents number None) ≡ span_of part (tokens_under prefix tokens)
span-below links trails extents tokens shape number prefix is part =
    ap (span_from part) (mapped-at (extent_in tokens) trails extents number prefix None shape.are is) ∙ span-is part (tokens_under prefix tokens)

-- the occurrences up to one more
pub occurrences-more : (of_one : Named → Occurrence) (items : List Named) (i : ℕ) (d : Named) (one : Occurrence) (before after : List Occurrence) → i < length items
    → one ≡ of_one (get_or items i d) → before ≡ map of_one (take i items) → after ≡ before ++ one ∷ [] → after ≡ map of_one (take (i + 1) items)
occurrences-more of_one items i d one before after inside is so_far pushed =
    pushed ∙ ap (λ (o : Occurrence). before ++ o ∷ []) is ∙ ap (λ (os : List Occurrence). os ++ of_one (get_or items i d) ∷ []) so_far
    ∙ sym (map-push of_one (take i items) (get_or items i d)) ∙ sym (ap (map of_one) (take_more items i d inside))
