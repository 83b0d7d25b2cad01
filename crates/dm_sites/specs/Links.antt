-- Places by the tokens that their expressions may have.
--     ends span      the sum of a span's ends, which parentheses leave as it is
--     next_from ends n sites      the number of the first of some places, counted from n, whose expression may have tokens with these ends
--     AreLinked sites heads links      by the sum: which place is the first; by a place's number: which is the next with the same sum
use Rattle.std.specs.Prelude.{◌≡◌, ℕ, suc, ◌+◌, ◌≤◌, Bool, true, false, ◌&&◌, ◌==◌, List, [], ◌∷◌, drop, slice_get, Option, Some, None, if◌then◌else◌}
use Rattle.dm_token.specs.declared.place.Span.{Span}
use Rattle.dm_tree.specs.Trees.{spans_of}
use Rattle.dm_sites.specs.Sites.{Site}
use Rattle.dm_sites.specs.Standing.{is_value}

abbrev pub ends : Span → ℕ
ends span = span.first + span.after

-- that of an expression of its own
abbrev pub key : Site → Option ℕ
key site = if site.apart && is_value site.tree then Some (ends (spans_of site.tree).inner) else None

abbrev pub is_key : ℕ → Option ℕ → Bool
is_key sum None = false
is_key sum (Some other) = other == sum

abbrev pub next_from : ℕ → ℕ → List Site → Option ℕ
next_from sum n [] = None
next_from sum n (site ∷ sites) = if is_key sum (key site) then Some n else next_from sum (suc n) sites

-- what a table of numbers has at a place, if it has anything there
abbrev pub linked_by : Option (Option ℕ) → Option ℕ
linked_by (Some number) = number
linked_by None = None

abbrev pub linked : List (Option ℕ) → ℕ → Option ℕ
linked links n = linked_by (slice_get links n)

abbrev pub key_in : Option Site → Option ℕ
key_in None = None
key_in (Some site) = key site

-- a place is there, and passes
abbrev pub passes : (Site → Bool) → Option Site → Bool
passes test None = false
passes test (Some site) = test site

-- from the place with this number on
pub record AreLinkedFrom (from : ℕ) (sites : List Site) (heads links : List (Option ℕ)) : Type 0 where
  pub first : (sum : ℕ) → linked heads sum ≡ next_from sum from (drop from sites)
  pub next : (n sum : ℕ) → from ≤ n → is_key sum (key_in (slice_get sites n)) ≡ true → linked links n ≡ next_from sum (suc n) (drop (suc n) sites)

abbrev pub AreLinked : List Site → List (Option ℕ) → List (Option ℕ) → Type 0
AreLinked sites heads links = AreLinkedFrom 0 sites heads links
