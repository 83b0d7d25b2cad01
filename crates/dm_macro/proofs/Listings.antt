-- Parameter lists: what is read token by token is names and then perhaps `...`, with commas between them.
use Rattle.std.proofs.Common.{◌≡◌, ◌≢◌, ◌↔◌, ℕ, zero, suc, Bool, true, false, cond, ◌||◌, List, [], ◌∷◌, ◌++◌, map, length, replicate, Some, None, refl, sym, ap, ◌∙◌, subst, ◌+◌, ◌<◌, drop, get_or, add-one, drop-cons}
use Rattle.std.specs.List.{filter, list_any, flat_map}
use Rattle.std.specs.Option.{option_map_or}
use Rattle.std.proofs.lemmas.Bool.{false≢true, eqb-true}
use Rattle.dm_token.specs.declared.token.PpKind.{PpKind}
use Rattle.dm_token.specs.declared.token.PpKind.TheVariants.{Identifier, Number, Character, Literal, Punctuator, Header, Stray}
use Rattle.dm_token.specs.declared.token.PpToken.{PpToken}
use Rattle.dm_macro.specs.declared.parameters.Expected.{Expected}
use Rattle.dm_macro.specs.declared.parameters.Expected.TheVariants.{ItemOrEnd, Item, CommaOrEnd, End}
use Rattle.dm_spell.specs.Punctuators.{comma, ellipsis}
use Rattle.dm_macro.specs.Signs.{is_row, is_identifier_kind, is_identifier, is_ellipsis}
use Rattle.dm_macro.specs.Forms.{separated, names_in, IsParameterList}
use Rattle.dm_macro.specs.ParameterLists.{after, may_end, is_read_from}

identifier_is : (kind : PpKind) → is_identifier_kind kind ≡ true → kind ≡ Identifier
identifier_is Identifier e = refl
identifier_is Number e = absurd (false≢true e)
identifier_is Character e = absurd (false≢true e)
identifier_is Literal e = absurd (false≢true e)
identifier_is (Punctuator row) e = absurd (false≢true e)
identifier_is Header e = absurd (false≢true e)
identifier_is Stray e = absurd (false≢true e)

pub row_is : (row : ℕ) (kind : PpKind) → is_row row kind ≡ true → kind ≡ Punctuator row
row_is row Identifier e = absurd (false≢true e)
row_is row Number e = absurd (false≢true e)
row_is row Character e = absurd (false≢true e)
row_is row Literal e = absurd (false≢true e)
row_is row (Punctuator other) e = ap Punctuator (eqb-true other row e)
row_is row Header e = absurd (false≢true e)
row_is row Stray e = absurd (false≢true e)

-- so many names, and then perhaps `...`
abbrev items : ℕ → Bool → List PpKind
items count variadic = replicate count Identifier ++ cond variadic (Punctuator ellipsis ∷ []) []

abbrev count_of : List PpKind → ℕ
count_of kinds = length (filter is_identifier_kind kinds)

abbrev has_dots : List PpKind → Bool
has_dots kinds = list_any (is_row ellipsis) kinds

-- the list that has as many names, and `...` if there is one
abbrev listing : List PpKind → List PpKind
listing kinds = separated (items (count_of kinds) (has_dots kinds))

abbrev behind : List PpKind → List PpKind
behind others = flat_map (λ other. Punctuator comma ∷ other ∷ []) others

-- a comma, and what is separated
joined : (kinds : List PpKind) → kinds ≢ [] → Punctuator comma ∷ separated kinds ≡ behind kinds
joined [] some = absurd (some refl)
joined (kind ∷ kinds) some = refl

-- WHAT IS READ IS A LISTING

single : (kind : PpKind) (b c : Bool) → is_identifier_kind kind ≡ b → is_row ellipsis kind ≡ c → is_read_from Item (kind ∷ []) ≡ true → kind ∷ [] ≡ listing (kind ∷ [])
single kind true c e f h = subst (λ k. k ∷ [] ≡ listing (k ∷ [])) (sym (identifier_is kind e)) refl
single kind false true e f h = subst (λ k. k ∷ [] ≡ listing (k ∷ [])) (sym (row_is ellipsis kind f)) refl
single kind false false e f h =
    absurd (false≢true (sym (ap (λ b. option_map_or (λ next. may_end next) (cond b (Some CommaOrEnd) (cond (is_row ellipsis kind) (Some End) None)) false) e ∙ ap (λ b. option_map_or (λ next. may_end next) (cond b (Some End) None) false) f) ∙ h))

-- a name and a comma before a listing
prefixed : (kinds : List PpKind) → kinds ≡ listing kinds → is_read_from Item kinds ≡ true → Identifier ∷ Punctuator comma ∷ kinds ≡ listing (Identifier ∷ Punctuator comma ∷ kinds)
prefixed kinds same read =
    ap (λ others. Identifier ∷ others) (ap (λ others. Punctuator comma ∷ others) same ∙ joined (items (count_of kinds) (has_dots kinds)) some)
  where
    some : items (count_of kinds) (has_dots kinds) ≢ []
    some none = false≢true (sym (ap (is_read_from Item) (same ∙ ap separated none)) ∙ read)

after_comma : (kind : PpKind) (kinds : List PpKind) (b : Bool) → is_row comma kind ≡ b → (is_read_from Item kinds ≡ true → kinds ≡ listing kinds)
    → option_map_or (λ next. is_read_from next kinds) (cond b (Some Item) None) false ≡ true → Identifier ∷ kind ∷ kinds ≡ listing (Identifier ∷ kind ∷ kinds)
after_comma kind kinds true e others h = subst (λ k. Identifier ∷ k ∷ kinds ≡ listing (Identifier ∷ k ∷ kinds)) (sym (row_is comma kind e)) (prefixed kinds (others h) h)
after_comma kind kinds false e others h = absurd (false≢true h)

several : (first second : PpKind) (kinds : List PpKind) (b c : Bool) → is_identifier_kind first ≡ b → is_row ellipsis first ≡ c → (is_read_from Item kinds ≡ true → kinds ≡ listing kinds)
    → option_map_or (λ next. is_read_from next (second ∷ kinds)) (cond b (Some CommaOrEnd) (cond c (Some End) None)) false ≡ true → first ∷ second ∷ kinds ≡ listing (first ∷ second ∷ kinds)
several first second kinds true c e f others h =
    subst (λ k. k ∷ second ∷ kinds ≡ listing (k ∷ second ∷ kinds)) (sym (identifier_is first e)) (after_comma second kinds (is_row comma second) refl others h)
several first second kinds false true e f others h = absurd (false≢true h)
several first second kinds false false e f others h = absurd (false≢true h)

read_is : (kinds : List PpKind) → is_read_from Item kinds ≡ true → kinds ≡ listing kinds
read_is [] h = absurd (false≢true h)
read_is (kind ∷ []) h = single kind (is_identifier_kind kind) (is_row ellipsis kind) refl refl h
read_is (first ∷ second ∷ kinds) h = several first second kinds (is_identifier_kind first) (is_row ellipsis first) refl refl (read_is kinds) h

read_from_start : (kinds : List PpKind) → is_read_from ItemOrEnd kinds ≡ true → kinds ≡ listing kinds
read_from_start [] h = refl
read_from_start (kind ∷ kinds) h = read_is (kind ∷ kinds) h

-- A LISTING IS READ

read_behind : (count : ℕ) (variadic : Bool) → is_read_from CommaOrEnd (behind (items count variadic)) ≡ true
read_behind zero true = refl
read_behind zero false = refl
read_behind (suc count) variadic = read_behind count variadic

listing_read : (count : ℕ) (variadic : Bool) → is_read_from ItemOrEnd (separated (items count variadic)) ≡ true
listing_read zero true = refl
listing_read zero false = refl
listing_read (suc count) variadic = read_behind count variadic

-- BY TOKENS

count_by_kind : (tokens : List PpToken) → length (names_in tokens) ≡ count_of (map (λ token. token.kind) tokens)
count_by_kind [] = refl
count_by_kind (token ∷ tokens) = at (is_identifier_kind token.kind) (count_by_kind tokens)
  where
    at : (b : Bool) → length (names_in tokens) ≡ count_of (map (λ token. token.kind) tokens)
        → length (map (λ token. token.spelling) (cond b (token ∷ filter is_identifier tokens) (filter is_identifier tokens)))
        ≡ length (cond b (token.kind ∷ filter is_identifier_kind (map (λ token. token.kind) tokens)) (filter is_identifier_kind (map (λ token. token.kind) tokens)))
    at true others = ap suc others
    at false others = others

dots_by_kind : (tokens : List PpToken) → list_any is_ellipsis tokens ≡ has_dots (map (λ token. token.kind) tokens)
dots_by_kind [] = refl
dots_by_kind (token ∷ tokens) = ap (λ b. is_row ellipsis token.kind || b) (dots_by_kind tokens)

-- the listing of the definition is that of the kinds
listing_by_kind : (tokens : List PpToken) → separated (items (length (names_in tokens)) (list_any is_ellipsis tokens)) ≡ listing (map (λ token. token.kind) tokens)
listing_by_kind tokens = ap (λ count. separated (items count (list_any is_ellipsis tokens))) (count_by_kind tokens)
    ∙ ap (λ variadic. separated (items (count_of (map (λ token. token.kind) tokens)) variadic)) (dots_by_kind tokens)

abbrev pub kinds_of : List PpToken → List PpKind
kinds_of tokens = map (λ token. token.kind) tokens

-- whether a list is read says whether it is a parameter list
pub reading_decides : (tokens : List PpToken) (b : Bool) → is_read_from ItemOrEnd (kinds_of tokens) ≡ b → (b ≡ true) ↔ IsParameterList tokens
reading_decides tokens b e = (
  λ read. read_from_start _ (e ∙ read) ∙ sym (listing_by_kind tokens),
  λ is. sym e ∙ ap (is_read_from ItemOrEnd) is ∙ listing_read (length (names_in tokens)) (list_any is_ellipsis tokens),
)

-- one more token
read_step : (tokens : List PpToken) (i : ℕ) (d : PpToken) (expected : Expected) → i < length tokens
    → is_read_from expected (kinds_of (drop i tokens))
    ≡ option_map_or (λ next. is_read_from next (kinds_of (drop (i + 1) tokens))) (after expected (get_or tokens i d).kind) false
read_step tokens i d expected lt = rw (add-one i, drop-cons tokens i d lt)

-- a token that may not come there ends the reading
pub reading_stops : (tokens : List PpToken) (i : ℕ) (token : PpToken) (expected : Expected) → i < length tokens → token ≡ get_or tokens i token
    → after expected token.kind ≡ None → is_read_from expected (kinds_of (drop i tokens)) ≡ false
reading_stops tokens i token expected lt is none =
    read_step tokens i token expected lt
    ∙ ap (λ found. option_map_or (λ next. is_read_from next (kinds_of (drop (i + 1) tokens))) found false) (ap (λ one. after expected one.kind) (sym is) ∙ none)
