-- What is true of a loader's fields.
use Rattle.std.specs.Prelude.{◌≡◌, ℕ, ◌<◌, ◌≤◌, List, ◌++◌, map, drop, length, count_by, Option, Some, None, is_some, true, option_map, slice_index_or}
use Rattle.dm_token.specs.Limits.{source_length_limit, header_count}
use Rattle.dm_search.specs.declared.content.Content.{Content}
use Rattle.dm_search.specs.Headers.{header_names}
use Rattle.dm_search.specs.Readable.{AreTokensOf}

-- the bytes of contents, if there are any
abbrev pub bytes_in : Option Content → Option (List ℕ)
bytes_in content = option_map (λ some. some.bytes) content

-- the contents by number, seen as their bytes
abbrev pub bytes_of : List (Option Content) → List (Option (List ℕ))
bytes_of contents = map bytes_in contents

-- the contents of a number are its bytes' tokens
abbrev pub IsContent : ℕ → Content → Type 0
IsContent file content = (length content.bytes ≤ source_length_limit) × AreTokensOf file content.bytes content.tokens

-- the contents that there are are those of their numbers
abbrev pub AreContents : List (Option Content) → Type 0
AreContents contents = (file : ℕ) (content : Content) → slice_index_or contents file None ≡ Some content → IsContent file content

-- the built-in headers stand first, and are held
abbrev pub HasHeaders : List (List ℕ) → List (Option Content) → Type 0
HasHeaders names contents =
    ((others : List (List ℕ)) × (names ≡ header_names ++ others)) × ((file : ℕ) → file < header_count → is_some (slice_index_or contents file None) ≡ true)

-- the fields fit each other
pub record AreSound (names : List (List ℕ)) (contents : List (Option Content)) (found : ℕ) : Type 0 where
  pub numbered : length contents ≡ length names
  pub counted : found ≡ count_by is_some (drop header_count contents)
  pub read : AreContents contents
  pub headers : HasHeaders names contents
