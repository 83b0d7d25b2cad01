-- Source file inclusion (6.10.2): the search for a file, and what is tested when it is found.
--     Searches setting header names files result      the search for the first of these names that has a file
use Rattle.std.specs.Prelude.{◌≡◌, ◌⊎◌, ℕ, Bool, true, false, ◌-◌, ◌==◌, nat_lt, nat_le, List, [], ◌∷◌, ◌++◌, length, drop, count_by, Option, Some, None, Result, Ok, Err, bytes_eq, slice_index_or, slice_set, slice_range, if◌then◌else◌}
use Rattle.std.specs.List.{list_any, position_or_len}
use Rattle.dm_token.specs.LimitNumbers as limits
use Rattle.dm_token.specs.declared.stop.Refusal.{Refusal}
use Rattle.dm_token.specs.declared.stop.Stop.{Stop}
use Rattle.dm_token.specs.declared.stop.Stop.TheVariants.{Refused, ReadFault}
use Rattle.dm_token.specs.declared.token.PpKind.{PpKind}
use Rattle.dm_token.specs.declared.token.PpKind.TheVariants.{Identifier, Number, Character, Literal, Punctuator, Header, Stray}
use Rattle.dm_token.specs.Bytes.{quotation_mark}
use Rattle.dm_token.specs.Limits.{source_length_limit, header_count, most_files}
use Rattle.dm_search.specs.Headers.{header_number}
use Rattle.dm_search.specs.Joining.{candidates, places}
use Rattle.dm_unit.specs.Sources.{reading_of}
use Rattle.dm_unit.specs.States.{Setting, Catalogue, limit}

-- THE FILES BY NUMBER

-- the number of a name, or the next one where it has none
abbrev pub number_in : Catalogue → List ℕ → ℕ
number_in files name = position_or_len (bytes_eq name) files.names

-- a name has a number
abbrev pub numbered : List ℕ → Catalogue → Catalogue
numbered name files =
    if list_any (bytes_eq name) files.names then files
    else record { names = files.names ++ name ∷ []; found = files.found ++ false ∷ [] }

-- whether the file of a number was found before
abbrev pub is_found : Catalogue → ℕ → Bool
is_found files number = slice_index_or files.found number false

-- how many files of the folder were found
abbrev pub found_files : Catalogue → ℕ
found_files files = count_by (λ was_found. was_found) (drop header_count files.found)

-- the file of a number is found
abbrev pub with_found : ℕ → Catalogue → Catalogue
with_found number files = record { names = files.names; found = slice_set files.found number true }

-- THE SEARCH

-- what a search finds: the number of a file, if any, and the files as they are known then
pub record Sought : Type 0 where
  pub number : Option ℕ
  pub files : Catalogue

abbrev pub sought : Option ℕ → Catalogue → Sought
sought number files = record { number = number; files = files }

-- the file is read, or refused
abbrev pub if_readable : {A : Type 0} → ℕ → Catalogue → Result A Refusal → Result Sought Stop
if_readable number files (Ok tokens) = Ok (sought (Some number) (with_found number files))
if_readable number files (Err refusal) = Err (Refused refusal)

-- A file of the folder with these bytes is found for the first time: it isn't too long, it is not one file too many, its
-- last newline stays, and no comment is open in it.
unfoldable pub first_found : ℕ → List ℕ → Catalogue → Result Sought Stop
first_found number bytes files =
    if nat_lt source_length_limit (length bytes) then Err (limit limits.file_bytes number)
    else if nat_le most_files (found_files files) then Err (limit limits.files number)
    else if_readable number files (reading_of number bytes)

-- a file with these bytes is found
abbrev pub found_as : ℕ → List ℕ → Catalogue → Result Sought Stop
found_as number bytes files = if is_found files number then Ok (sought (Some number) files) else first_found number bytes files

-- the number that a name has among the files, or is to have, is one of that name
abbrev pub HasNumber : Setting → List ℕ → Catalogue → Type 0
HasNumber setting name files = setting.named (number_in files name) ≡ name

-- The reading of a file that wasn't found before fails.
abbrev pub Fails : Setting → List ℕ → Catalogue → Result Sought Stop → Type 0
Fails setting name files result =
    (is_found files (number_in files name) ≡ false) × HasNumber setting name files × (result ≡ Err (ReadFault (number_in files name)))

-- a search that finds a file may look for it
abbrev pub MayFind : Bool → Result Sought Stop → Type 0
MayFind may (Ok sought) = may ≡ true
MayFind may (Err stop) = Unit {0}

-- The name has such a file, which is found, or none, and then the search goes on. Only a name that may be looked for is.
abbrev pub LooksAt : Setting → Option (List ℕ) → List ℕ → Catalogue → (Result Sought Stop → Type 0) → Result Sought Stop → Type 0
LooksAt setting None name files Others result = (setting.looked name ≡ true) × Others result
LooksAt setting (Some bytes) name files Others result =
    MayFind (setting.looked name) result × HasNumber setting name files × (result ≡ found_as (number_in files name) bytes (numbered name files))

-- The first of these names that has a file is found, and else the built-in header of this number, if there is one.
unfoldable pub Searches : Setting → Option ℕ → List (List ℕ) → Catalogue → Result Sought Stop → Type 0
Searches setting header [] files result = result ≡ Ok (sought header files)
Searches setting header (name ∷ names) files result =
    Fails setting name files result ⊎ LooksAt setting (setting.source name) name files (Searches setting header names files) result

-- THE HEADER NAME

-- whether a token is a header name (6.4.7)
abbrev pub is_header_kind : PpKind → Bool
is_header_kind Identifier = false
is_header_kind Number = false
is_header_kind Character = false
is_header_kind Literal = false
is_header_kind (Punctuator row) = false
is_header_kind Header = true
is_header_kind Stray = false

-- whether a header name is written `"name"`, and not `<name>`
abbrev pub is_quoted : List ℕ → Bool
is_quoted [] = false
is_quoted (byte ∷ others) = byte == quotation_mark

-- the name between the quotes or brackets
abbrev pub header_name : List ℕ → List ℕ
header_name spelling = slice_range spelling 1 (length spelling - 1)

-- the search for the file that a header name means, from a file of this number
abbrev pub SearchesFor : Setting → ℕ → List ℕ → Catalogue → Result Sought Stop → Type 0
SearchesFor setting file spelling files result =
    Searches setting (header_number (header_name spelling))
    (candidates (header_name spelling) (places (slice_index_or files.names file []) (is_quoted spelling) setting.include)) files result
