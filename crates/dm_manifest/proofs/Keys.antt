-- The first unknown key of a map is the least.
use Rattle.std.proofs.Common.{◌≡◌, ℕ, List, [], ◌∷◌, map, Bool, true, false, cond, Option, Some, None, String, Global, Ordering, Less, Equal, Greater, string_bytes, string_cmp, nat_cmp, refl, sym, ap, ◌∙◌, filter, not, ◌||◌, Bor, bytes_eq}
use Rattle.std.specs.Cmp.Lexicographic.{slice_cmp}
use Rattle.std.specs.List.{AllByRecursion, find, list_any}
use Rattle.std.specs.List.Sorted.{IsStrictlySortedBy}
use Rattle.std.specs.Ordering.{match_ordering}
use Rattle.serde_json.specs.View.{members_view}
use Rattle.serde_json.proofs.Views.{Entry}
use Rattle.dm_manifest.specs.Values.{keys_of, lesser, least, is_known, unknown_key}

-- the keys of a map's entries
abbrev pub names_of : List Entry → List (String Global)
names_of entries = map (λ e. e.0) entries

pub keys_of-members_view : (entries : List Entry) → keys_of (members_view entries) ≡ map string_bytes (names_of entries)
unfolding keys_of
keys_of-members_view [] = refl
keys_of-members_view (e ∷ entries) = ap (λ keys. string_bytes e.0 ∷ keys) (keys_of-members_view entries)

-- the key is below the other, if there is one
abbrev IsBelow : List ℕ → Option (List ℕ) → Type 0
IsBelow key None = Unit {0}
IsBelow key (Some other) = slice_cmp nat_cmp key other ≡ Less

either : (o : Ordering) (a b : List ℕ) (P : List ℕ → Type 0) → P a → P b → P (match_ordering o a a b)
either Less a b P p q = p
either Equal a b P p q = p
either Greater a b P p q = q

below_lesser : (key first : List ℕ) (other : Option (List ℕ)) → slice_cmp nat_cmp key first ≡ Less → IsBelow key other → slice_cmp nat_cmp key (lesser first other) ≡ Less
below_lesser key first None h below = h
below_lesser key first (Some other) h below = either (slice_cmp nat_cmp first other) first other (λ x. slice_cmp nat_cmp key x ≡ Less) h below

below_step : (passes : Bool) (key first : List ℕ) (others : List (List ℕ)) → slice_cmp nat_cmp key first ≡ Less → IsBelow key (least others) → IsBelow key (least (cond passes (first ∷ others) others))
unfolding least
below_step true key first others h below = below_lesser key first (least others) h below
below_step false key first others h below = below

-- a key below all others is below the least of those that pass a test
below_least : (test : List ℕ → Bool) (key : List ℕ) (names : List (String Global)) → AllByRecursion (λ name. slice_cmp nat_cmp key (string_bytes name) ≡ Less) names → IsBelow key (least (filter test (map string_bytes names)))
unfolding least
below_least test key [] all = tt
below_least test key (name ∷ names) all = below_step (test (string_bytes name)) key (string_bytes name) _ all.0 (below_least test key names all.1)

lesser_below : (key : List ℕ) (other : Option (List ℕ)) → IsBelow key other → lesser key other ≡ key
lesser_below key None below = refl
lesser_below key (Some other) below = ap (λ o. match_ordering o key key other) below

find_step : (passes : Bool) (first : List ℕ) (others : List (List ℕ)) (found : Option (List ℕ)) → found ≡ least others → IsBelow first (least others) → cond passes (Some first) found ≡ least (cond passes (first ∷ others) others)
unfolding least
find_step true first others found same below = ap Some (sym (lesser_below first (least others) below))
find_step false first others found same below = same

-- of names in order the first that passes a test is the least that does
pub find_is_least : (test : List ℕ → Bool) (names : List (String Global)) → IsStrictlySortedBy string_cmp names → find test (map string_bytes names) ≡ least (filter test (map string_bytes names))
unfolding least IsStrictlySortedBy
find_is_least test [] sorted = refl
find_is_least test (name ∷ names) sorted =
    find_step (test (string_bytes name)) (string_bytes name) _ _ (find_is_least test names sorted.1) (below_least test (string_bytes name) names sorted.0)

-- whether a key isn't among those that are known
abbrev pub is_unknown : List (Bor (List ℕ)) → List ℕ → Bool
is_unknown known key = not (is_known (map (λ other. other.now) known) key)

-- a search among known keys, as the code makes it
abbrev pub is_among : List (Bor (List ℕ)) → List ℕ → Bool
is_among known key = list_any (λ (other : Bor (List ℕ)). bytes_eq other.now key) known

is_known-map : (known : List (Bor (List ℕ))) (key : List ℕ) → is_known (map (λ other. other.now) known) key ≡ is_among known key
is_known-map [] key = refl
is_known-map (other ∷ known) key = ap (λ b. bytes_eq other.now key || b) (is_known-map known key)

-- a known key is passed over
pub find-known : (known : List (Bor (List ℕ))) (name : String Global) (names rest : List (String Global)) → names ≡ name ∷ rest → is_among known (string_bytes name) ≡ true →
    find (is_unknown known) (map string_bytes names) ≡ find (is_unknown known) (map string_bytes rest)
find-known known name names rest e known_is = rw (e, is_known-map known (string_bytes name), known_is) refl

-- an unknown one is found
pub find-unknown : (known : List (Bor (List ℕ))) (name : String Global) (names rest : List (String Global)) → names ≡ name ∷ rest → is_among known (string_bytes name) ≡ false →
    find (is_unknown known) (map string_bytes names) ≡ Some (string_bytes name)
find-unknown known name names rest e known_is = rw (e, is_known-map known (string_bytes name), known_is) refl

-- the first unknown key of a map is the least unknown one
pub find-unknown_key : (known : List (Bor (List ℕ))) (entries : List Entry) → IsStrictlySortedBy string_cmp (names_of entries) →
    find (is_unknown known) (map string_bytes (names_of entries)) ≡ unknown_key (map (λ other. other.now) known) (members_view entries)
unfolding unknown_key
find-unknown_key known entries sorted =
    find_is_least (is_unknown known) (names_of entries) sorted ∙ ap (λ keys. least (filter (is_unknown known) keys)) (sym (keys_of-members_view entries))
