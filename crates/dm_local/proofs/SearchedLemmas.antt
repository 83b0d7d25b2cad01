-- What a reading comes to hangs on the files for which it looks alone, also where it stops.
use Rattle.std.proofs.Common.{◌≡◌, ℕ, zero, suc, ◌<◌, Bool, true, false, cond, ◌⊎◌, inl, inr, List, [], ◌∷◌, length, drop, Option, None, Some, Result, Ok, Err, MatchBool, is_some, nat_lt, refl, sym, ap, ◌∙◌, subst, true≢false}
use Rattle.std.specs.Prelude.{nat_le, unwrap_or}
use Rattle.std.specs.List.{AllByRecursion}
use Rattle.std.specs.Result.{result_unwrap_or}
use Rattle.dm_token.specs.Limits.{most_inclusions, source_length_limit, most_files}
use Rattle.dm_token.specs.LimitNumbers as limits
use Rattle.dm_token.specs.Refusals as refusals
use Rattle.dm_token.specs.declared.stop.Refusal.{Refusal}
use Rattle.dm_token.specs.declared.stop.Stop.{Stop}
use Rattle.dm_token.specs.declared.stop.Stop.TheVariants.{Memory, Refused, Limit, ReadFault}
use Rattle.dm_token.specs.declared.token.PpToken.{PpToken}
use Rattle.dm_token.specs.declared.unit.Unit.{Unit as Source}
use Rattle.dm_token.specs.declared.unit.UnitTokens.{UnitTokens}
use Rattle.dm_phase.specs.declared.Character.{Character}
use Rattle.dm_phase.specs.Answer.{flat_of}
use Rattle.dm_lex.specs.Cuts.{Piece, first_state, Cuts, OpensAt}
use Rattle.dm_lex.specs.Tokens.{refusal_at}
use Rattle.dm_lex.proofs.ExistLemmas.{cut_exists}
use Rattle.dm_io.specs.Files.{Files, file_at}
use Rattle.dm_search.specs.CallFiles.{known_or, file_for}
use Rattle.dm_search.specs.Fresh.{StartsWithHeaders}
use Rattle.dm_search.specs.Headers.{header_number}
use Rattle.dm_search.specs.Joining.{candidates, places}
use Rattle.dm_search.specs.Loaded.{Loaded, name_of, number_of, held_at, is_held, is_absent}
use Rattle.dm_unit.specs.declared.directive.Directive.{Directive}
use Rattle.dm_unit.specs.declared.directive.Directive.TheVariants.{If, Ifdef, Ifndef, Elif, Else, Endif, Include, Define, Undef, Line, Error, Pragma, Null, Unknown}
use Rattle.dm_unit.specs.Definitions.{DoesDefine}
use Rattle.dm_unit.specs.Directives.{directive_of}
use Rattle.dm_unit.specs.Includes.{Sought, sought, Searches, SearchesFor, LooksAt, number_in, numbered, is_found, found_as, first_found, found_files, if_readable, is_header_kind, is_quoted, header_name}
use Rattle.dm_unit.specs.Lines.{Part, directive, text, parts_of}
use Rattle.dm_unit.specs.Loaders.{file_of, shown, stopped_at}
use Rattle.dm_unit.specs.Readings.{is_among, counted, Includes, DoesInclude, DoesRead, DoesDirective, ReadsPart, ReadsParts, begun, ReadsFile, is_passed, Enters, most_nested, DoesManifests, ReadsFound, ReadsMain, ReadsUnit}
use Rattle.dm_unit.specs.Sections.{is_read}
use Rattle.dm_unit.specs.Sources.{bytes_in, tokens_in, reading_of, tokens_of_flat, tokens_or_open}
use Rattle.dm_unit.specs.States.{Setting, Catalogue, State, Outcome, Then, refusal, limit}
use Rattle.dm_unit.specs.Units.{setting_of, first_files, state_with, HasOutcome, IsReadAs}
use Rattle.dm_unit.proofs.FileLemmas.{header-held}
use Rattle.dm_unit.proofs.GrowLemmas.{refused-file}
use Rattle.dm_reading.specs.declared.reading.Reading.{Reading}
use Rattle.dm_readings.specs.Reading.{IsReading}
use Rattle.dm_local.specs.Searched.{LooksAlike}
use Rattle.dm_local.proofs.CatalogueLemmas.{called, IsThere, Grown, called-kept, own-numbered, called-numbered, slots-numbered, grown-numbered, among-last}
use Rattle.dm_local.proofs.KeptLemmas.{first-fits}
use Rattle.dm_local.proofs.StayLemmas.{Fits, Found, FoundAs, ok-is, not-ok, found-named, search-stays, fits-found, fits-begun, part-stays, manifests-stay, enters-stay}
use Rattle.dm_local.proofs.TokenLemmas.{IsPartAt, reading-at, parts-at}

-- THE FILE OF A STOP

-- a text is refused in its file
reading-file : (file : ℕ) (bytes : List ℕ) (given : Refusal) → reading_of file bytes ≡ Err given → given.place.file ≡ file
unfolding reading_of
reading-file file bytes given is = by (flat_of file bytes) refl is
  where
    opened : (flat : List Character) (cut : ((pieces : List Piece) × Cuts first_state pieces flat) ⊎ ((pieces : List Piece) × (left : List Character) × OpensAt first_state pieces flat left))
        → tokens_or_open file bytes flat cut ≡ Err given → given.place.file ≡ file
    opened flat (inl cut) e = absurd (cc)
    opened flat (inr opening) e = let same : refusal_at file bytes opening.1 ≡ given = cc in ap (λ (r : Refusal). r.place.file) (sym same)

    by : (flat : Result (List Character) Refusal) → flat_of file bytes ≡ flat → tokens_of_flat file bytes flat ≡ Err given → given.place.file ≡ file
    by (Ok made) f e = opened made (cut_exists first_state made) e
    by (Err other) f e = let same : other ≡ given = cc in refused-file file bytes given (inl (f ∙ ap Err same))

-- a file that isn't found because of what it is stops the search
found-file : (number : ℕ) (bytes : List ℕ) (files : Catalogue) (stop : Stop) → found_as number bytes files ≡ Err stop → file_of stop ≡ Some number
unfolding first_found
found-file number bytes files stop is = by (is_found files number) is
  where
    stop-is : (one other : Stop) → ◌≡◌ {A = Result Sought Stop} (Err one) (Err other) → one ≡ other
    stop-is one other e = cc

    first : (long many : Bool) (read : Result (List PpToken) Refusal) → ((refusal : Refusal) → read ≡ Err refusal → refusal.place.file ≡ number)
        → cond long (Err (limit limits.file_bytes number)) (cond many (Err (limit limits.files number)) (if_readable number files read)) ≡ Err stop → file_of stop ≡ Some number
    first true many read there e = ap file_of (sym (stop-is _ stop e))
    first false true read there e = ap file_of (sym (stop-is _ stop e))
    first false false (Ok tokens) there e = absurd (not-ok _ stop e)
    first false false (Err refusal) there e = ap file_of (sym (stop-is _ stop e)) ∙ ap Some (there refusal refl)

    by : (b : Bool) → cond b (Ok (sought (Some number) files)) (first_found number bytes files) ≡ Err stop → file_of stop ≡ Some number
    by true e = absurd (not-ok _ stop e)
    by false e = first (nat_lt source_length_limit (length bytes)) (nat_le most_files (found_files files)) (reading_of number bytes) (reading-file number bytes) e

-- TWO SETTINGS

-- They differ in the files alone, and not in those for which the first may look.
module _ (one : Setting) (source : List ℕ → Option (List ℕ)) (looks : (name : List ℕ) → one.looked name ≡ true → source name ≡ one.source name) where
  abbrev pub other : Setting
  other = record one { source = source }

  abbrev Same : List ℕ → Type 0
  Same name = source name ≡ one.source name

  -- nor in that at which a reading stops
  abbrev pub AtStop : {A : Type 0} → Result A Stop → Type 0
  AtStop (Ok answer) = Unit {0}
  AtStop (Err stop) = (file : ℕ) → file_of stop ≡ Some file → Same (one.named file)

  abbrev pub FitsIn : State → Type 0
  FitsIn state = Fits one.main state.files state.table.read state.files_read state.tokens state.expansions state.instance state.spent

  abbrev Grows : State → State → Type 0
  Grows before after = Grown before.files before.files_read after.files after.files_read

  -- nor in the built-in headers
  abbrev pub HeadersSame : Catalogue → Type 0
  HeadersSame files = (name : List ℕ) (file : ℕ) → header_number name ≡ Some file → Same (called files file)

  same-kept : (a b : Catalogue) (r s : List ℕ) (file : ℕ) → Grown a r b s → file < length a.names → Same (called a file) → Same (called b file)
  same-kept a b r s file grown inside same = subst Same (sym (called-kept a b r s file grown inside)) same

  headers-kept : (a b : Catalogue) (r s : List ℕ) → Grown a r b s → ((name : List ℕ) (file : ℕ) → header_number name ≡ Some file → IsThere a file) → HeadersSame a → HeadersSame b
  headers-kept a b r s grown there same name file is = same-kept a b r s file grown (there name file is).0.0 (same name file is)

  -- THE SEARCH

  search-again : (header : Option ℕ) (names : List (List ℕ)) (files : Catalogue) (result : Result Sought Stop) → AtStop result → Searches one header names files result → Searches other header names files result
  unfolding Searches
  search-again header [] files result at is = is
  search-again header (name ∷ names) files result at (inl fails) = inl fails
  search-again header (name ∷ names) files result at (inr looks_at) = inr (by (one.source name) refl looks_at (search-again header names files result at))
    where
      there : (held : List ℕ) (r : Result Sought Stop) → AtStop r → LooksAt one (Some held) name files (Searches one header names files) r → Same name
      there held (Ok found) at is = looks name is.0
      there held (Err stop) at is = subst Same is.1 (at (number_in files name) (found-file (number_in files name) held (numbered name files) stop (sym is.2)))

      by : (o : Option (List ℕ)) → one.source name ≡ o → LooksAt one o name files (Searches one header names files) result → (Searches one header names files result → Searches other header names files result)
          → LooksAt other (source name) name files (Searches other header names files) result
      by None e is next = subst (λ o. LooksAt other o name files (Searches other header names files) result) (sym (looks name is.0 ∙ e)) (is.0, next is.1)
      by (Some held) e is next = subst (λ o. LooksAt other o name files (Searches other header names files) result) (sym (there held result at is ∙ e)) is

  some-is : (a b : ℕ) → Some a ≡ Some b → a ≡ b
  some-is a b e = cc

  search-same : (header : Option ℕ) (names : List (List ℕ)) (files : Catalogue) (found : Sought) → length files.found ≡ length files.names → ((number : ℕ) → header ≡ Some number → Same (called files number))
      → Searches one header names files (Ok found) → (number : ℕ) → found.number ≡ Some number → Same (called found.files number)
  unfolding Searches
  search-same header [] files found slots same is = subst (λ (f : Sought). (number : ℕ) → f.number ≡ Some number → Same (called f.files number)) (ok-is (sought header files) found (sym is)) same
  search-same header (name ∷ names) files found slots same (inl fails) = absurd (not-ok found _ fails.2)
  search-same header (name ∷ names) files found slots same (inr looks_at) = by (one.source name) looks_at (search-same header names files found slots same)
    where
      by : (o : Option (List ℕ)) → LooksAt one o name files (Searches one header names files) (Ok found) → (Searches one header names files (Ok found) → (number : ℕ) → found.number ≡ Some number → Same (called found.files number))
          → (number : ℕ) → found.number ≡ Some number → Same (called found.files number)
      by None is next n e = next is.1 n e
      by (Some held) is next n e =
          let number = number_in files name in
          let more = numbered name files in
          let found_here : FoundAs number more found = found-named number held more found (own-numbered files name).0 (slots-numbered files name slots) (sym is.2) in
          subst (λ n. Same (called found.files n)) (some-is number n (sym found_here.number_is ∙ e))
          (subst Same (sym (called-kept more found.files [] [] number found_here.grown (own-numbered files name).0 ∙ called-numbered files name)) (looks name is.0))

  -- what is so behind a search
  search-grows : (header : Option ℕ) (names : List (List ℕ)) (files : Catalogue) (found : Sought) → length files.found ≡ length files.names → ((number : ℕ) → header ≡ Some number → IsThere files number)
      → Searches one header names files (Ok found) → Grown files [] found.files [] × (length found.files.found ≡ length found.files.names) × ((number : ℕ) → found.number ≡ Some number → IsThere found.files number)
  search-grows header names files found slots own is =
      let stays : Found one one.source one.looked (called found.files) found.files [] (λ name h. h) (λ name h. refl) (λ number h. refl) (λ file h. refl) header names files found =
      search-stays one one.source one.looked (called found.files) found.files [] (λ name h. h) (λ name h. refl) (λ number h. refl) (λ file h. refl) header names files found slots own is in
      (stays.grown, stays.slots, stays.own)

  -- STEPS

  match-again : (b : Bool) (P P' Q : Type 0) → (P → P') → MatchBool b P Q → MatchBool b P' Q
  match-again true P P' Q first = first
  match-again false P P' Q first = λ q. q

  match-behind : (b : Bool) (P Q Q' : Type 0) → (Q → Q') → MatchBool b P Q → MatchBool b P Q'
  match-behind true P Q Q' second = λ p. p
  match-behind false P Q Q' second = second

  -- how files are entered
  abbrev EntersAgain : (ℕ → State → Outcome → Type 0) → (ℕ → State → Outcome → Type 0) → Type 0
  EntersAgain E E' = (file : ℕ) (s : State) (outcome : Outcome) → FitsIn s → HeadersSame s.files → IsThere s.files file → Same (called s.files file) → AtStop outcome → E file s outcome → E' file s outcome

  abbrev EntersMore : ℕ → Type 0
  EntersMore more = EntersAgain (Enters one more) (Enters other more)

  includes-again : (more : ℕ) → EntersMore more → (start : PpToken) (number : Option ℕ) (files : Catalogue) (s : State) (outcome : Outcome) → FitsIn (counted files s) → HeadersSame files
      → ((n : ℕ) → number ≡ Some n → IsThere files n) → ((n : ℕ) → number ≡ Some n → Same (called files n)) → AtStop outcome → Includes one (Enters one more) start number files s outcome
      → Includes other (Enters other more) start number files s outcome
  includes-again more enters start None files s outcome fits headers own same at is = is
  includes-again more enters start (Some n) files s outcome fits headers own same at is =
      match-again (nat_lt s.inclusions most_inclusions) (Enters one more n (counted files s) outcome) (Enters other more n (counted files s) outcome) (outcome ≡ Err (limit limits.inclusions one.main))
      (enters n (counted files s) outcome fits headers (own n refl) (same n refl) at) is

  include-again : (more : ℕ) → EntersMore more → (file : ℕ) (start : PpToken) (operands : List PpToken) (s : State) (outcome : Outcome) → FitsIn s → HeadersSame s.files → AtStop outcome
      → DoesInclude one (Enters one more) file start operands s outcome → DoesInclude other (Enters other more) file start operands s outcome
  include-again more enters file start [] s outcome fits headers at is = is
  include-again more enters file start (header ∷ others) s outcome fits headers at is =
      match-again (is_header_kind header.kind) (Then (SearchesFor one file header.spelling s.files) (λ sought outcome. Includes one (Enters one more) start sought.number sought.files s outcome) outcome)
      (Then (SearchesFor other file header.spelling s.files) (λ sought outcome. Includes other (Enters other more) start sought.number sought.files s outcome) outcome) (outcome ≡ Err (refusal refusals.out_of_subset start.place)) by is
    where
      by : Then (SearchesFor one file header.spelling s.files) (λ sought outcome. Includes one (Enters one more) start sought.number sought.files s outcome) outcome
          → Then (SearchesFor other file header.spelling s.files) (λ sought outcome. Includes other (Enters other more) start sought.number sought.files s outcome) outcome
      by (inl x) = inl (x.0, search-again _ _ s.files (Err x.0) (subst AtStop x.2 at) x.1, x.2)
      by (inr x) =
          let found = search-grows (header_number (header_name header.spelling)) (candidates (header_name header.spelling) (places (called s.files file) (is_quoted header.spelling) one.include)) s.files x.0 fits.slots (fits.headers (header_name header.spelling)) x.1 in
          inr (
            x.0,
            search-again _ _ s.files (Ok x.0) tt x.1,
            includes-again more enters start x.0.number x.0.files s outcome
                (fits-found one one.source one.looked (called x.0.files) x.0.files [] (λ name h. h) (λ name h. refl) (λ number h. refl) (λ file h. refl) s x.0.files fits found.0 found.1)
                (headers-kept s.files x.0.files [] [] found.0 fits.headers headers) found.2
                (search-same (header_number (header_name header.spelling)) (candidates (header_name header.spelling) (places (called s.files file) (is_quoted header.spelling) one.include)) s.files x.0 fits.slots (headers (header_name header.spelling)) x.1)
                at x.2,
          )

  -- DIRECTIVES

  define-again : (file : ℕ) (start : PpToken) (behind : List PpToken) (s : State) (outcome : Outcome) → Same (called s.files file)
      → DoesDefine one.main file (bytes_in one s.files file) start behind s outcome → DoesDefine one.main file (bytes_in other s.files file) start behind s outcome
  define-again file start behind s outcome same is = subst (λ held. DoesDefine one.main file (unwrap_or held []) start behind s outcome) (sym same) is

  read-again : (more : ℕ) → EntersMore more → (file : ℕ) (kind : Directive) (start : PpToken) (behind : List PpToken) (s : State) (outcome : Outcome) → FitsIn s → HeadersSame s.files → Same (called s.files file) → AtStop outcome
      → DoesRead one (Enters one more) file kind start behind s outcome → DoesRead other (Enters other more) file kind start behind s outcome
  read-again more enters file Include start behind s outcome fits headers same at is = include-again more enters file start (drop 1 behind) s outcome fits headers at is
  read-again more enters file Define start behind s outcome fits headers same at is = define-again file start behind s outcome same is
  read-again more enters file Undef start behind s outcome fits headers same at is = is
  read-again more enters file Line start behind s outcome fits headers same at is = is
  read-again more enters file Error start behind s outcome fits headers same at is = is
  read-again more enters file Pragma start behind s outcome fits headers same at is = is
  read-again more enters file Null start behind s outcome fits headers same at is = is
  read-again more enters file Unknown start behind s outcome fits headers same at is = is
  read-again more enters file kind start behind s outcome fits headers same at is = absurd is

  other-again : (more : ℕ) → EntersMore more → (file : ℕ) (kind : Directive) (start : PpToken) (behind : List PpToken) (s : State) (outcome : Outcome) → FitsIn s → HeadersSame s.files → Same (called s.files file) → AtStop outcome
      → MatchBool (is_read s.sections) (DoesRead one (Enters one more) file kind start behind s outcome) (outcome ≡ Ok s)
      → MatchBool (is_read s.sections) (DoesRead other (Enters other more) file kind start behind s outcome) (outcome ≡ Ok s)
  other-again more enters file kind start behind s outcome fits headers same at =
      match-again (is_read s.sections) (DoesRead one (Enters one more) file kind start behind s outcome) (DoesRead other (Enters other more) file kind start behind s outcome) (outcome ≡ Ok s)
      (read-again more enters file kind start behind s outcome fits headers same at)

  directive-again : (more : ℕ) → EntersMore more → (file : ℕ) (kind : Directive) (start : PpToken) (behind : List PpToken) (s : State) (outcome : Outcome) → FitsIn s → HeadersSame s.files → Same (called s.files file) → AtStop outcome
      → DoesDirective one (Enters one more) file kind start behind s outcome → DoesDirective other (Enters other more) file kind start behind s outcome
  directive-again more enters file If start behind s outcome fits headers same at is = is
  directive-again more enters file Ifdef start behind s outcome fits headers same at is = is
  directive-again more enters file Ifndef start behind s outcome fits headers same at is = is
  directive-again more enters file Elif start behind s outcome fits headers same at is = is
  directive-again more enters file Else start behind s outcome fits headers same at is = is
  directive-again more enters file Endif start behind s outcome fits headers same at is = is
  directive-again more enters file kind start behind s outcome fits headers same at is = other-again more enters file kind start behind s outcome fits headers same at is

  -- THE PARTS OF A FILE

  part-again : (more : ℕ) → EntersMore more → (file : ℕ) (part : Part) (s : State) (outcome : Outcome) → FitsIn s → HeadersSame s.files → Same (called s.files file) → AtStop outcome
      → ReadsPart one (Enters one more) file part s outcome → ReadsPart other (Enters other more) file part s outcome
  part-again more enters file (directive start behind) s outcome fits headers same at is = directive-again more enters file (directive_of behind) start behind s outcome fits headers same at is
  part-again more enters file (text tokens) s outcome fits headers same at is = is

  part-grows : (more file : ℕ) (part : Part) (s t : State) → FitsIn s → is_among file s.files_read ≡ true → IsPartAt file part → ReadsPart one (Enters one more) file part s (Ok t) → FitsIn t × Grows s t
  part-grows more file part s t fits read are is =
      let done = part-stays one one.source one.looked (called t.files) t.files t.files_read (λ name h. h) (λ name h. refl) (λ number h. refl) (λ file h. refl) (Enters one more) (Enters (record one { named = called t.files }) more)
      (enters-stay one one.source one.looked (called t.files) t.files t.files_read (λ name h. h) (λ name h. refl) (λ number h. refl) (λ file h. refl) more) file part s t fits read are is in
      (done.0, done.1)

  parts-again : (more : ℕ) → EntersMore more → (file : ℕ) (parts : List Part) (s : State) (outcome : Outcome) → FitsIn s → is_among file s.files_read ≡ true → AllByRecursion (IsPartAt file) parts → HeadersSame s.files
      → Same (called s.files file) → AtStop outcome → ReadsParts one (Enters one more) file parts s outcome → ReadsParts other (Enters other more) file parts s outcome
  unfolding ReadsParts
  parts-again more enters file [] s outcome fits read are headers same at is = is
  parts-again more enters file (part ∷ parts) s outcome fits read are headers same at (inl x) =
      inl (x.0, part-again more enters file part s (Err x.0) fits headers same (subst AtStop x.2 at) x.1, x.2)
  parts-again more enters file (part ∷ parts) s outcome fits read are headers same at (inr x) =
      let m = x.0 in
      let grows = part-grows more file part s m fits read are.0 x.1 in
      inr (
        m,
        part-again more enters file part s (Ok m) fits headers same tt x.1,
        parts-again more enters file parts m outcome grows.0 (grows.1.reads file read) are.1 (headers-kept s.files m.files s.files_read m.files_read grows.1 fits.headers headers)
            (same-kept s.files m.files s.files_read m.files_read file grows.1 (fits.owned file read).0.0 same) at x.2,
      )

  file-again : (more : ℕ) → EntersMore more → EntersAgain (ReadsFile one (Enters one more)) (ReadsFile other (Enters other more))
  file-again more enters file s outcome fits headers own same at = by
    where
      again : (result : Outcome) → AtStop result → ReadsParts one (Enters one more) file (parts_of (tokens_in one s.files file)) (begun file s) result
          → ReadsParts other (Enters other more) file (parts_of (tokens_in other s.files file)) (begun file s) result
      again result at' is =
          subst (λ held. ReadsParts other (Enters other more) file (parts_of (result_unwrap_or (reading_of file (unwrap_or held [])) [])) (begun file s) result) (sym same)
          (parts-again more enters file (parts_of (tokens_in one s.files file)) (begun file s) result (fits-begun one one.source one.looked (called s.files) s.files s.files_read (λ name h. h) (λ name h. refl) (λ number h. refl) (λ file h. refl) s file fits own)
          (among-last file s.files_read) (parts-at file (tokens_in one s.files file) (reading-at file (bytes_in one s.files file))) headers same at' is)

      by : ReadsFile one (Enters one more) file s outcome → ReadsFile other (Enters other more) file s outcome
      by (inl x) = inl (x.0, again (Err x.0) (subst AtStop x.2 at) x.1, x.2)
      by (inr x) = inr (x.0, again (Ok x.0) tt x.1, x.2)

  enters-again : (more : ℕ) → EntersMore more
  unfolding Enters
  enters-again zero file s outcome fits headers own same at is = is
  enters-again (suc more) file s outcome fits headers own same at is =
      match-behind (is_passed file s) (outcome ≡ Ok s) (ReadsFile one (Enters one more) file s outcome) (ReadsFile other (Enters other more) file s outcome) (file-again more (enters-again more) file s outcome fits headers own same at) is

  -- THE UNIT

  manifests-again : (defines : List (List ℕ)) (s : State) (outcome : Outcome) → DoesManifests one defines s outcome → DoesManifests other defines s outcome
  unfolding DoesManifests
  manifests-again [] s outcome is = is
  manifests-again (define ∷ defines) s outcome (inl x) = inl x
  manifests-again (define ∷ defines) s outcome (inr x) = inr (x.0, x.1, manifests-again defines x.0 outcome x.2)

  manifests-grow : (defines : List (List ℕ)) (s t : State) → FitsIn s → DoesManifests one defines s (Ok t) → FitsIn t × Grows s t
  manifests-grow defines s t fits is =
      let done = manifests-stay one one.source one.looked (called t.files) t.files t.files_read (λ name h. h) (λ name h. refl) (λ number h. refl) (λ file h. refl) defines s t fits is in
      (done.0, done.1)

  none-some : (number : ℕ) → ◌≡◌ {A = Option ℕ} None (Some number) → ⊥
  none-some number e = cc

  main-again : (name : List ℕ) (s : State) (outcome : Outcome) → FitsIn s → HeadersSame s.files → AtStop outcome → ReadsMain one name s outcome → ReadsMain other name s outcome
  main-again name s outcome fits headers at (inl x) = inl (x.0, search-again None (name ∷ []) s.files (Err x.0) (subst AtStop x.2 at) x.1, x.2)
  main-again name s outcome fits headers at (inr x) =
      let found = search-grows None (name ∷ []) s.files x.0 fits.slots (λ number e. absurd (none-some number e)) x.1 in
      let there = search-same None (name ∷ []) s.files x.0 fits.slots (λ number e. absurd (none-some number e)) x.1 in
      let fits' = fits-found one one.source one.looked (called x.0.files) x.0.files [] (λ name h. h) (λ name h. refl) (λ number h. refl) (λ file h. refl) s x.0.files fits found.0 found.1 in
      inr (x.0, search-again None (name ∷ []) s.files (Ok x.0) tt x.1, by x.0.files fits' (headers-kept s.files x.0.files [] [] found.0 fits.headers headers) x.0.number found.2 there x.2)
    where
      by : (files : Catalogue) → FitsIn (record s { files = files }) → HeadersSame files → (number : Option ℕ) → ((n : ℕ) → number ≡ Some n → IsThere files n) → ((n : ℕ) → number ≡ Some n → Same (called files n))
          → ReadsFound one number files s outcome → ReadsFound other number files s outcome
      by files fits' headers' None own same is = is
      by files fits' headers' (Some n) own same is = file-again most_nested (enters-again most_nested) n (record s { files = files }) outcome fits' headers' (own n refl) (same n refl) at is

  pub unit-again : (name : List ℕ) (defines : List (List ℕ)) (s : State) (outcome : Outcome) → FitsIn s → HeadersSame s.files → AtStop outcome → ReadsUnit one name defines s outcome → ReadsUnit other name defines s outcome
  unfolding ReadsUnit
  unit-again name defines s outcome fits headers at (inl x) = inl (x.0, manifests-again defines s (Err x.0) x.1, x.2)
  unit-again name defines s outcome fits headers at (inr x) =
      let grows = manifests-grow defines s x.0 fits x.1 in
      inr (x.0, manifests-again defines s (Ok x.0) x.1, main-again name x.0 outcome grows.0 (headers-kept s.files x.0.files s.files_read x.0.files_read grows.1 fits.headers headers) at x.2)

-- A READING

-- what a loader knows doesn't hang on the folder
known-alone : (o : Option (List ℕ)) (absent : Bool) (mine its : Option (List ℕ)) → is_some o ≡ true → known_or o absent mine ≡ known_or o absent its
known-alone (Some bytes) absent mine its h = refl
known-alone None absent mine its h = absurd (true≢false (sym h))

module _ (before after : Files) (unit : Source) (old new : Loaded) (starts : StartsWithHeaders old) (slots : length old.held ≡ length old.names) where
  abbrev here : Setting
  here = setting_of old new before unit

  outcome-again : (outcome : Outcome) → LooksAlike before after old new (stopped_at outcome) → HasOutcome here old unit outcome → HasOutcome (setting_of old new after unit) old unit outcome
  outcome-again outcome alike is = (is.0, unit-again here (file_for old after) alike.known unit.file unit.define (state_with (first_files old unit)) outcome (first-fits before unit old new starts slots) headers (at outcome alike) is.1)
    where
      headers : HeadersSame here (file_for old after) alike.known (first_files old unit)
      headers name file is =
          let held = header-held old name file starts is in
          subst (λ n. file_for old after n ≡ file_for old before n) (sym (called-kept (shown old) (first_files old unit) [] [] file (grown-numbered (shown old) unit.file []) held.inside))
          (known-alone (held_at old (number_of old (name_of old file))) (is_absent old (name_of old file)) (file_at after (name_of old file)) (file_at before (name_of old file)) (ap (is_held old) held.named ∙ held.held))

      at : (o : Outcome) → LooksAlike before after old new (stopped_at o) → AtStop here (file_for old after) alike.known o
      at (Ok final) like = tt
      at (Err stop) like = like.stop

  pub read-alike : (result : Result UnitTokens Stop) → LooksAlike before after old new (stopped_at result) → IsReadAs here unit old result new → IsReadAs (setting_of old new after unit) unit old result new
  read-alike (Ok pp) alike is = (is.0, outcome-again (Ok is.0) alike is.1, is.2, is.3)
  read-alike (Err Memory) alike is = tt
  read-alike (Err (Refused refusal)) alike is = outcome-again (Err (Refused refusal)) alike is
  read-alike (Err (Limit passed)) alike is = outcome-again (Err (Limit passed)) alike is
  read-alike (Err (ReadFault file)) alike is = outcome-again (Err (ReadFault file)) alike is

  -- where nothing stops, no file of a stop has to be alike
  unstopped : (apart : Option ℕ) → LooksAlike before after old new apart → LooksAlike before after old new None
  unstopped apart alike = record { known = alike.known; stop = λ file e. absurd (none-some here (file_for old after) alike.known file e) }

  pub reading-alike : (result : Result Reading Stop) → LooksAlike before after old new (stopped_at result) → IsReading here unit old result new → IsReading (setting_of old new after unit) unit old result new
  reading-alike (Ok reading) alike is = (is.0, read-alike (Ok reading.pp) alike is.1, is.2)
  reading-alike (Err stop) alike (inl is) = inl (read-alike (Err stop) alike is)
  reading-alike (Err stop) alike (inr x) = inr (x.0, read-alike (Ok x.0) (unstopped (file_of stop) alike) x.1, x.2)
