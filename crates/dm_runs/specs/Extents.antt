-- The extents of lists of positions, from which their spans are read off.
use Rattle.std.specs.List.{list_any}
use Rattle.std.specs.Prelude.{◌≡◌, ◌≤◌, ◌<◌, ℕ, ◌+◌, Bool, true, ◌&&◌, ◌==◌, List, [], ◌∷◌, fold, map, slice_set, slice_get, slice_index_or, Option, Some, None, if◌then◌else◌}
use Rattle.dm_token.specs.declared.place.Span.{Span}
use Rattle.dm_token.specs.declared.expansion.Mark.{Mark}
use Rattle.dm_token.specs.declared.token.CToken.{CToken}
use Rattle.dm_runs.specs.Beginnings.{begins}
use Rattle.dm_token.specs.Equal.{equal}
use Rattle.dm_runs.specs.declared.beginnings.Link.{Link}
use Rattle.dm_runs.specs.Spans.{empty_at, span_of, tokens_under}
use Rattle.dm_runs.specs.Trees.{AreLinked}
use Rattle.dm_runs.specs.declared.extents.Extent.{Extent}

-- with one more position behind them
abbrev pub extended : Option Extent → ℕ → Option Extent
extended None position = Some (record { first = position; after = position + 1; is_whole = true })
extended (Some extent) position =
    Some (record { first = extent.first; after = position + 1; is_whole = extent.is_whole && (extent.after == position) })

abbrev pub extent_of : List ℕ → Option Extent
extent_of positions = fold extended None positions

abbrev pub span_from : ℕ → Option Extent → Span
span_from elsewhere None = empty_at elsewhere
span_from elsewhere (Some extent) = record { first = extent.first; after = if extent.is_whole then extent.after else extent.first }

abbrev pub extended_at : ℕ → List (Option Extent) → ℕ → List (Option Extent)
extended_at position extents number = slice_set extents number (extended (slice_index_or extents number None) position)

-- the tokens whose trails begin so are those of the span
pub record IsSpanUnder (prefix : List Mark) (tokens : List CToken) (span : Span) : Type 0 where
  pub only : (k : ℕ) (token : CToken) → slice_get tokens k ≡ Some token → begins prefix token.trail ≡ true → (span.first ≤ k) × (k < span.after)
  pub all : (k : ℕ) (token : CToken) → slice_get tokens k ≡ Some token → span.first ≤ k → k < span.after → begins prefix token.trail ≡ true

-- the extents of all beginnings of the trails of some tokens, and perhaps of others
pub record IsShape (links : List Link) (trails : List (List Mark)) (extents : List (Option Extent)) (tokens : List CToken) : Type 0 where
  pub linked : AreLinked links trails
  pub covers : (p : List Mark) (k : ℕ) (t : List Mark) → slice_get (map (λ (token : CToken). token.trail) tokens) k ≡ Some t → begins p t ≡ true → list_any (equal p) trails ≡ true
  pub are : extents ≡ map (λ trail. extent_of (tokens_under trail tokens)) trails

-- the span of the tokens whose trails begin so, wherever an empty one stands
abbrev pub IsRunSpan : List Mark → List CToken → Span → Type 0
IsRunSpan prefix tokens span = (elsewhere : ℕ) × (span ≡ span_of elsewhere (tokens_under prefix tokens))
