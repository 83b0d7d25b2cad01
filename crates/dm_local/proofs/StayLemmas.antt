-- A unit's reading stays when files change that it doesn't read, and when more files are known.
use Rattle.std.proofs.Common.{◌≡◌, ℕ, zero, suc, ◌+◌, ◌<◌, ◌≤◌, Bool, true, false, cond, ◌⊎◌, inl, inr, List, [], ◌∷◌, ◌++◌, length, drop, Option, None, Some, Result, Ok, Err, MatchBool, is_some, nat_lt, refl, sym, ap, ◌∙◌, subst, arith, true≢false}
use Rattle.std.specs.Prelude.{not, nat_le, unwrap_or, if◌then◌else◌}
use Rattle.std.specs.List.{list_any, AllByRecursion}
use Rattle.std.specs.Result.{result_unwrap_or}
use Rattle.std.proofs.lemmas.Bool.{ltb-true}
use Rattle.dm_token.specs.Limits.{most_work, most_tokens, most_inclusions, source_length_limit, most_files}
use Rattle.dm_token.specs.LimitNumbers as limits
use Rattle.dm_token.specs.Refusals as refusals
use Rattle.dm_token.specs.declared.place.Place.{Place}
use Rattle.dm_token.specs.declared.stop.Stop.{Stop}
use Rattle.dm_token.specs.declared.stop.Refusal.{Refusal}
use Rattle.dm_token.specs.declared.token.PpToken.{PpToken}
use Rattle.dm_token.specs.declared.token.Token.{Token}
use Rattle.dm_token.specs.declared.expansion.Definition.{Definition}
use Rattle.dm_token.specs.declared.expansion.Expansion.{Expansion}
use Rattle.dm_token.specs.declared.expansion.Origin.{Origin}
use Rattle.dm_token.specs.declared.expansion.Origin.TheVariants.{Manifest}
use Rattle.dm_token.specs.declared.unit.Use.{Use}
use Rattle.dm_lex.specs.Classes.{quotation_mark}
use Rattle.dm_macro.specs.Signs.{is_identifier, is_macro_name}
use Rattle.dm_macro.specs.Tables.{Table, Defines}
use Rattle.dm_expand.specs.AnswerViews.{looked_up}
use Rattle.dm_expand.specs.Expansion.{Answer, expansion_of}
use Rattle.dm_expand.specs.Predefined.{file_literal}
use Rattle.dm_search.specs.Headers.{header_number}
use Rattle.dm_search.specs.Joining.{candidates, places}
use Rattle.dm_unit.specs.Directives.{directive_of}
use Rattle.dm_unit.specs.declared.directive.Directive.{Directive}
use Rattle.dm_unit.specs.declared.directive.Directive.TheVariants.{If, Ifdef, Ifndef, Elif, Else, Endif, Include, Define, Undef, Line, Error, Pragma, Null, Unknown}
use Rattle.dm_unit.specs.States.{Setting, Catalogue, State, Outcome, Then, refusal, limit, for_unit, expansion_in}
use Rattle.dm_unit.specs.Sources.{bytes_in, tokens_in, reading_of}
use Rattle.dm_unit.specs.Lines.{Part, directive, text, parts_of}
use Rattle.dm_unit.specs.declared.section.Section.{Section}
use Rattle.dm_unit.specs.declared.section.Stage.{Stage}
use Rattle.dm_unit.specs.declared.section.Stage.TheVariants.{Read, Waiting, Over}
use Rattle.dm_unit.specs.Sections.{is_read, after_else, after_skipped_elif, after_elif}
use Rattle.dm_unit.specs.Includes.{Sought, sought, Searches, SearchesFor, LooksAt, number_in, numbered, is_found, with_found, found_as, first_found, found_files, if_readable, is_header_kind, is_quoted, header_name}
use Rattle.dm_unit.specs.Definitions.{CannotDefine, DefinesLine, DoesDefine, with_definition, begins_with_name, origin_of, is_plain_head, with_undefined, after_undef, use_of, define_line, define_text, DefinesText, DoesManifest}
use Rattle.dm_unit.specs.Conditions.{Tested, tested, with_uses, no_condition, Judged, JudgesExpanded, Evaluates, defined_test, names_asked, replaced, is_defined, is_defined_word}
use Rattle.dm_unit.specs.Readings.{is_among, with_text, after_expansion, after_text, within, pushed, opens, Opens, lost, DoesElifAt, DoesElif, else_in, endif_in, end_in, is_once, with_number, after_pragma, counted, Includes, DoesInclude, DoesRead, DoesDirective, ReadsPart, ReadsParts, begun, ReadsFile, is_passed, Enters, most_nested, DoesManifests, ReadsFound, ReadsMain, ReadsUnit}
use Rattle.dm_unit.specs.Views.{AreIn}
use Rattle.dm_local.proofs.CatalogueLemmas.{called, IsThere, Grown, grown-itself, grown-trans, grown-over, grown-again, longer, called-kept, number-kept, own-kept, there-kept, own-numbered, called-numbered, number-numbered, grown-numbered, numbered-known, slots-numbered, grown-found, found-now, slots-found, among-more, among-last, among-cases}
use Rattle.dm_local.specs.Marks.{IsListed, AreListed}
use Rattle.dm_local.proofs.ExpansionLemmas.{DefinitionsIn, TokensIn, AnswerIn, Stands, all-append, expansion-alike}
use Rattle.dm_local.proofs.MarkLemmas.{front-covers, back-covers, listed-later}
use Rattle.dm_local.proofs.OrderLemmas.{AreBetween, between-later, between-append, Ordered, in_unit-ordered}
use Rattle.dm_local.proofs.TokenLemmas.{IsPartAt, bodies-weaker, at-under, at-drop, define_line-at, defines-in, replaced-in, reading-at, parts-at}

-- a place in one of so many files
abbrev pub IsUnder : ℕ → Place → Type 0
IsUnder count place = place.file < count

-- What holds of each state of a reading: the main file and the built-in headers have numbers, so have files in which macros' tokens stand, and
-- a file that was read has that of its name; tokens stand in such files; expansions ascend, those that tokens came through are listed, and the work keeps its limit.
pub record Fits (main : ℕ) (files : Catalogue) (macros : List Definition) (read : List ℕ) (tokens : List Token) (expansions : List Expansion) (instance spent : ℕ) : Type 0 where
  pub main_named : main < length files.names
  pub slots : length files.found ≡ length files.names
  pub headers : (name : List ℕ) (file : ℕ) → header_number name ≡ Some file → IsThere files file
  pub bodies : DefinitionsIn (IsUnder (length files.names)) macros
  pub owned : (file : ℕ) → is_among file read ≡ true → IsThere files file
  pub ascending : AreBetween 0 expansions instance
  pub listed : AreListed expansions tokens
  pub under : AllByRecursion (λ (one : Token). IsUnder (length files.names) one.pp.place) tokens
  pub little : spent ≤ most_work

under-wider : (count more : ℕ) (tokens : List Token) → count ≤ more → AllByRecursion (λ (one : Token). IsUnder count one.pp.place) tokens → AllByRecursion (λ (one : Token). IsUnder more one.pp.place) tokens
under-wider count more [] h all = tt
under-wider count more (token ∷ tokens) h all = (omega (arith, h, all.0), under-wider count more tokens h all.1)

-- a step that ends in a state
abbrev Comes : State → Outcome → Type 0
Comes state outcome = Ok state ≡ outcome

abbrev ComesTested : Tested → Result Tested Stop → Type 0
ComesTested one result = Ok one ≡ result

pub ok-is : {A : Type 0} (one other : A) → ◌≡◌ {A = Result A Stop} (Ok one) (Ok other) → one ≡ other
ok-is one other e = cc

pub not-ok : {A : Type 0} (one : A) (stop : Stop) → ◌≡◌ {A = Result A Stop} (Ok one) (Err stop) → ⊥
not-ok one stop e = cc

none-of : {A : Type 0} (o : Option A) → is_some o ≡ false → o ≡ None
none-of None h = refl
none-of (Some x) h = absurd (true≢false h)

some-of : {A : Type 0} (o : Option A) → is_some o ≡ true → (x : A) × (o ≡ Some x)
some-of None h = absurd (true≢false (sym h))
some-of (Some x) h = (x, refl)

-- what the first finding of a file leaves
pub record FoundAs (number : ℕ) (files : Catalogue) (found : Sought) : Type 0 where
  pub number_is : found.number ≡ Some number
  pub grown : Grown files [] found.files []
  pub slots : length found.files.found ≡ length found.files.names
  pub flag : is_found found.files number ≡ true

found-first : (number : ℕ) (bytes : List ℕ) (files : Catalogue) (found : Sought) → number < length files.names → length files.found ≡ length files.names → first_found number bytes files ≡ Ok found → FoundAs number files found
unfolding first_found
found-first number bytes files found inside slots is = by (nat_lt source_length_limit (length bytes)) (nat_le most_files (found_files files)) (reading_of number bytes) is
  where
    there : sought (Some number) (with_found number files) ≡ found → FoundAs number files found
    there same =
        let here : number < length files.found = omega (arith, inside, slots) in
        subst (FoundAs number files) same
        (record { number_is = refl; grown = grown-found files number [] here; slots = slots-found files number slots; flag = found-now files number here })

    by : (long many : Bool) (read : Result (List PpToken) Refusal) → cond long (Err (limit limits.file_bytes number)) (cond many (Err (limit limits.files number)) (if_readable number files read)) ≡ Ok found → FoundAs number files found
    by true many read e = absurd (not-ok found _ (sym e))
    by false true read e = absurd (not-ok found _ (sym e))
    by false false (Ok tokens) e = there (ok-is _ found e)
    by false false (Err refusal) e = absurd (not-ok found _ (sym e))

pub found-named : (number : ℕ) (bytes : List ℕ) (files : Catalogue) (found : Sought) → number < length files.names → length files.found ≡ length files.names → found_as number bytes files ≡ Ok found → FoundAs number files found
found-named number bytes files found inside slots is = by (is_found files number) refl is
  where
    by : (b : Bool) → is_found files number ≡ b → cond b (Ok (sought (Some number) files)) (first_found number bytes files) ≡ Ok found → FoundAs number files found
    by true h e = subst (FoundAs number files) (ok-is _ found e) (record { number_is = refl; grown = grown-itself files []; slots = slots; flag = h })
    by false h e = found-first number bytes files found inside slots e

-- Two settings with the same include folders and main file: what the first may look for the other may too, and has a file of that name in both
-- or in neither; the other gives these files their names; and some files have the same bytes in both.
module _ (one : Setting) (source : List ℕ → Option (List ℕ)) (looked : List ℕ → Bool) (named : ℕ → List ℕ) (all : Catalogue) (all_read : List ℕ)
    (knows : (name : List ℕ) → one.looked name ≡ true → looked name ≡ true)
    (there : (name : List ℕ) → one.looked name ≡ true → is_some (source name) ≡ is_some (one.source name))
    (gives : (number : ℕ) → number < length all.names → named number ≡ called all number)
    (bytes : (file : ℕ) → is_among file all_read ≡ true → source (called all file) ≡ one.source (called all file)) where
  abbrev pub other : Setting
  other = record one { source = source; looked = looked; named = named }

  -- THE SEARCH

  pub record Found (header : Option ℕ) (names : List (List ℕ)) (files : Catalogue) (found : Sought) : Type 0 where
    pub grown : Grown files [] found.files []
    pub slots : length found.files.found ≡ length found.files.names
    pub own : (number : ℕ) → found.number ≡ Some number → IsThere found.files number
    pub again : Grown found.files [] all [] → Searches other header names all (Ok (sought found.number all))

  found-other : (header : Option ℕ) (name : List ℕ) (names : List (List ℕ)) (files : Catalogue) (found : Sought) → length files.found ≡ length files.names
      → one.looked name ≡ true → is_some (one.source name) ≡ true → FoundAs (number_in files name) (numbered name files) found → Found header (name ∷ names) files found
  unfolding Searches
  found-other header name names files found slots may is is_found_as =
      let number = number_in files name in
      let more = numbered name files in
      let own = own-numbered files name in
      record {
        grown = grown-trans files more found.files [] [] [] (grown-numbered files name []) is_found_as.grown;
        slots = is_found_as.slots;
        own = λ n e. subst (IsThere found.files) (some-is number n (sym is_found_as.number_is ∙ e)) (own-kept more found.files [] [] number is_found_as.grown own, is_found_as.flag);
        again = λ later.
            let total = grown-trans more found.files all [] [] [] is_found_as.grown later in
            let here : number_in all name ≡ number = number-kept more all [] [] name total (subst (λ n. n < length more.names) (sym (number-numbered files name)) own.0) ∙ number-numbered files name in
            let inside : number_in all name < length all.names = subst (λ n. n < length all.names) (sym here) (own-kept more all [] [] number total own).0 in
            let is_called : called all (number_in all name) ≡ name = ap (called all) here ∙ called-kept more all [] [] number total own.0 ∙ called-numbered files name in
            let some = some-of (source name) (there name may ∙ is) in
            inr (subst (λ o. LooksAt other o name all (Searches other header names all) (Ok (sought found.number all))) (sym some.1) (
              knows name may,
              gives (number_in all name) inside ∙ is_called,
              ap (λ n. Ok (sought n all)) is_found_as.number_is
                  ∙ sym (ap (found_as (number_in all name) some.0) (numbered-known all name inside)
                  ∙ ap (λ n. found_as n some.0 all) here
                  ∙ ap (λ b. cond b (Ok (sought (Some number) all)) (first_found number some.0 all)) (later.found number is_found_as.flag)),
            ));
      }
    where
      some-is : (a b : ℕ) → Some a ≡ Some b → a ≡ b
      some-is a b e = cc

  found-behind : (header : Option ℕ) (name : List ℕ) (names : List (List ℕ)) (files : Catalogue) (found : Sought) → one.looked name ≡ true → is_some (one.source name) ≡ false
      → Found header names files found → Found header (name ∷ names) files found
  unfolding Searches
  found-behind header name names files found may is behind = record {
    grown = behind.grown;
    slots = behind.slots;
    own = behind.own;
    again = λ later.
        inr (subst (λ o. LooksAt other o name all (Searches other header names all) (Ok (sought found.number all))) (sym (none-of (source name) (there name may ∙ is))) (knows name may, behind.again later));
  }

  pub search-stays : (header : Option ℕ) (names : List (List ℕ)) (files : Catalogue) (found : Sought) → length files.found ≡ length files.names → ((number : ℕ) → header ≡ Some number → IsThere files number)
      → Searches one header names files (Ok found) → Found header names files found
  unfolding Searches
  search-stays header [] files found slots own is =
      subst (Found header [] files) (ok-is (sought header files) found (sym is)) (record { grown = grown-itself files []; slots = slots; own = own; again = λ later. refl })
  search-stays header (name ∷ names) files found slots own (inl fails) = absurd (not-ok found _ fails.2)
  search-stays header (name ∷ names) files found slots own (inr looks) = by (one.source name) refl looks (search-stays header names files found slots own)
    where
      by : (o : Option (List ℕ)) → one.source name ≡ o → LooksAt one o name files (Searches one header names files) (Ok found) → (Searches one header names files (Ok found) → Found header names files found)
          → Found header (name ∷ names) files found
      by None e is next = found-behind header name names files found is.0 (ap is_some e) (next is.1)
      by (Some held) e is next =
          found-other header name names files found slots is.0 (ap is_some e)
          (found-named (number_in files name) held (numbered name files) found (own-numbered files name).0 (slots-numbered files name slots) (sym is.2))

  -- STEPS

  abbrev pub over : State → State
  over state = record state { files = all }

  abbrev pub FitsIn : State → Type 0
  FitsIn state = Fits one.main state.files state.table.read state.files_read state.tokens state.expansions state.instance state.spent

  abbrev pub Grows : State → State → Type 0
  Grows before after = Grown before.files before.files_read after.files after.files_read

  abbrev pub Ends : State → Type 0
  Ends state = Grown state.files state.files_read all all_read

  -- A step is taken again over all files, if these are those that are known and read behind it and more.
  abbrev pub Stays : State → State → Type 0 → Type 0
  Stays before after Again = FitsIn after × Grows before after × (Ends after → Again)

  then-stays : {A : Type 0} (state_of : A → State) (over_of : A → A) (First First' : Result A Stop → Type 0) (Second Second' : A → Outcome → Type 0) (s t : State)
      → ((m : A) → First (Ok m) → Stays s (state_of m) (First' (Ok (over_of m))))
      → ((m : A) → FitsIn (state_of m) → Grows s (state_of m) → Second m (Ok t) → Stays (state_of m) t (Second' (over_of m) (Ok (over t))))
      → Then First Second (Ok t) → Stays s t (Then First' Second' (Ok (over t)))
  then-stays state_of over_of First First' Second Second' s t first second (inl x) = absurd (not-ok t x.0 x.2)
  then-stays state_of over_of First First' Second Second' s t first second (inr x) =
      let m = state_of x.0 in
      let a = first x.0 x.1 in
      let b = second x.0 a.0 a.1 x.2 in (
        b.0,
        grown-trans s.files m.files t.files s.files_read m.files_read t.files_read a.1 b.1,
        λ ends. inr (over_of x.0, a.2 (grown-trans m.files t.files all m.files_read t.files_read all_read b.1 ends), b.2 ends),
      )

  match-stays : (b : Bool) (P P' Q Q' : Outcome → Type 0) (s t : State) → (P (Ok t) → Stays s t (P' (Ok (over t)))) → (Q (Ok t) → Stays s t (Q' (Ok (over t)))) → MatchBool b (P (Ok t)) (Q (Ok t))
      → Stays s t (MatchBool b (P' (Ok (over t))) (Q' (Ok (over t))))
  match-stays true P P' Q Q' s t first second = first
  match-stays false P P' Q Q' s t first second = second

  match-when : (b : Bool) (P P' Q Q' : Outcome → Type 0) (s t : State) → (b ≡ true → P (Ok t) → Stays s t (P' (Ok (over t)))) → (Q (Ok t) → Stays s t (Q' (Ok (over t)))) → MatchBool b (P (Ok t)) (Q (Ok t))
      → Stays s t (MatchBool b (P' (Ok (over t))) (Q' (Ok (over t))))
  match-when true P P' Q Q' s t first second = first refl
  match-when false P P' Q Q' s t first second = second

  is-stays : (s t u : State) (o : Outcome) → FitsIn u → Grows s u → Comes (over u) (o) → Comes t (Ok u) → Stays s t (Comes (over t) (o))
  is-stays s t u o fits grows e is = subst (λ t. Stays s t (Comes (over t) (o))) (sym (ok-is t u is)) (fits, grows, λ ends. e)

  never : (s t : State) (stop : Stop) (Again : Type 0) → Comes t (Err stop) → Stays s t Again
  never s t stop Again e = absurd (not-ok t stop e)

  -- TEXT GROUPS

  abbrev TokensUnder : State → List PpToken → Type 0
  TokensUnder s tokens = TokensIn (IsUnder (length s.files.names)) tokens

  literal : (s : State) → Ends s → (place : Place) → IsUnder (length s.files.names) place → file_literal all.names place ≡ file_literal s.files.names place
  unfolding file_literal
  literal s ends place under = ap (λ name. quotation_mark ∷ (name ++ quotation_mark ∷ [])) (called-kept s.files all s.files_read all_read place.file ends under)

  expansion-stays : (s : State) (tokens : List PpToken) → FitsIn s → TokensUnder s tokens → Ends s → expansion_in one.main (over s) tokens ≡ expansion_in one.main s tokens
  expansion-stays s tokens fits under ends =
      ap (for_unit one.main) (expansion-alike (IsUnder (length s.files.names)) s.table s.files.names all.names tokens s.instance s.spent (literal s ends) fits.bodies under).0

  -- the tokens that come out of an expansion stand in files that tokens and macros stand in
  answer-under : (s : State) (tokens : List PpToken) (answer : Answer) → FitsIn s → TokensUnder s tokens → expansion_in one.main s tokens ≡ Ok answer → AllByRecursion (λ (one : Token). IsUnder (length s.files.names) one.pp.place) answer.tokens
  answer-under s tokens answer fits under is =
      by (expansion_of (looked_up s.table s.files.names) tokens s.instance s.spent) (expansion-alike (IsUnder (length s.files.names)) s.table s.files.names s.files.names tokens s.instance s.spent (λ place within. refl) fits.bodies under).1 is
    where
      by : (r : Result Answer Stop) → Stands (IsUnder (length s.files.names)) (AnswerIn (IsUnder (length s.files.names))) r → for_unit one.main r ≡ Ok answer → AllByRecursion (λ (one : Token). IsUnder (length s.files.names) one.pp.place) answer.tokens
      by (Ok made) stands e = let same : made ≡ answer = cc in subst (λ (a : Answer). AllByRecursion (λ (one : Token). IsUnder (length s.files.names) one.pp.place) a.tokens) same stands.0
      by (Err stop) stands e = absurd (cc)

  text-by : (s t : State) (r : Result Answer Stop) → ((answer : Answer) → r ≡ Ok answer → Ordered s.instance answer)
      → ((answer : Answer) → r ≡ Ok answer → AllByRecursion (λ (one : Token). IsUnder (length s.files.names) one.pp.place) answer.tokens) → FitsIn s → Comes t (after_expansion one.main s r) → FitsIn t × Grows s t × (Comes (over t) (after_expansion one.main (over s) r))
  text-by s t (Ok answer) ordered lie fits is = by (nat_lt most_tokens (length (s.tokens ++ answer.tokens))) is
    where
      more : FitsIn (with_text answer s)
      more = record {
        main_named = fits.main_named;
        slots = fits.slots;
        headers = fits.headers;
        bodies = fits.bodies;
        owned = fits.owned;
        ascending = between-append 0 s.expansions answer.expansions s.instance fits.ascending (ordered answer refl).numbered;
        listed = all-append (λ (one : Token). AllByRecursion (IsListed (s.expansions ++ answer.expansions)) one.trail) s.tokens answer.tokens
            (listed-later s.expansions (s.expansions ++ answer.expansions) (front-covers s.expansions answer.expansions) s.tokens fits.listed)
            (listed-later answer.expansions (s.expansions ++ answer.expansions) (back-covers s.expansions answer.expansions) answer.tokens (ordered answer refl).listed);
        under = all-append (λ (one : Token). IsUnder (length s.files.names) one.pp.place) s.tokens answer.tokens fits.under (lie answer refl);
        little = (ordered answer refl).spent;
      }

      by : (b : Bool) → Comes t (cond b (Err (limit limits.unit_tokens one.main)) (Ok (with_text answer s)))
          → FitsIn t × Grows s t × (Comes (over t) (cond b (Err (limit limits.unit_tokens one.main)) (Ok (with_text answer (over s)))))
      by true e = absurd (not-ok t _ e)
      by false e = subst (λ t. FitsIn t × Grows s t × (Comes (over t) (Ok (with_text answer (over s))))) (sym (ok-is t (with_text answer s) e)) (more, grown-itself s.files s.files_read, refl)
  text-by s t (Err stop) ordered lie fits is = absurd (not-ok t stop is)

  text-stays : (s t : State) (tokens : List PpToken) → FitsIn s → TokensUnder s tokens → Comes t (after_text one.main tokens s) → Stays s t (Comes (over t) (after_text one.main tokens (over s)))
  text-stays s t tokens fits under is =
      let done = text-by s t (expansion_in one.main s tokens) (λ answer e. in_unit-ordered one.main s tokens answer fits.little e) (λ answer e. answer-under s tokens answer fits under e) fits is in (
        done.0,
        done.1,
        λ ends. done.2 ∙ ap (after_expansion one.main (over s)) (sym (expansion-stays s tokens fits under (grown-trans s.files t.files all s.files_read t.files_read all_read done.1 ends))),
      )

  -- CONDITIONS

  abbrev over_tested : Tested → Tested
  over_tested m = tested m.truth (over m.state)

  judged-stays : (s : State) (start : PpToken) (asked : List Use) (r : Result Answer Stop) (m : Tested) → ((answer : Answer) → r ≡ Ok answer → Ordered s.instance answer) → FitsIn s → JudgesExpanded start asked r s (Ok m)
      → FitsIn m.state × Grows s m.state × JudgesExpanded start asked r (over s) (Ok (over_tested m))
  judged-stays s start asked (Err stop) m ordered fits is = absurd (not-ok m stop is)
  judged-stays s start asked (Ok answer) m ordered fits is = by (list_any (λ (token : Token). is_defined_word token.pp) answer.tokens) is
    where
      more : (uses : List Use) → FitsIn (with_uses uses answer s)
      more uses = record {
        main_named = fits.main_named;
        slots = fits.slots;
        headers = fits.headers;
        bodies = fits.bodies;
        owned = fits.owned;
        ascending = between-later 0 s.expansions s.instance (s.instance + length answer.expansions) (omega arith) fits.ascending;
        listed = fits.listed;
        under = fits.under;
        little = (ordered answer refl).spent;
      }

      judged : Judged start asked answer s (Ok m) → FitsIn m.state × Grows s m.state × Judged start asked answer (over s) (Ok (over_tested m))
      judged (inr never) = absurd (not-ok m _ never.1)
      judged (inl x) =
          subst (λ m. FitsIn m.state × Grows s m.state × Judged start asked answer (over s) (Ok (over_tested m))) (sym (ok-is m (tested x.0 (with_uses x.2 answer s)) x.4))
          (more x.2, grown-itself s.files s.files_read, inl (x.0, x.1, x.2, x.3, refl))

      by : (b : Bool) → MatchBool b (ComesTested m (no_condition start)) (Judged start asked answer s (Ok m))
          → FitsIn m.state × Grows s m.state × MatchBool b (ComesTested (over_tested m) (no_condition start)) (Judged start asked answer (over s) (Ok (over_tested m)))
      by true e = absurd (not-ok m _ e)
      by false e = judged e

  evaluates-stays : (s : State) (start : PpToken) (operands : List PpToken) (m : Tested) → FitsIn s → TokensUnder s operands → Evaluates one.main start operands s (Ok m)
      → Stays s m.state (Evaluates one.main start operands (over s) (Ok (over_tested m)))
  evaluates-stays s start operands m fits under is =
      let asked = names_asked s.table operands in
      let made = replaced s.table operands in
      let done = judged-stays s start asked (expansion_in one.main s made) m (λ answer e. in_unit-ordered one.main s made answer fits.little e) fits is in (
        done.0,
        done.1,
        λ ends.
            subst (λ r. JudgesExpanded start asked r (over s) (Ok (over_tested m)))
            (sym (expansion-stays s made fits (replaced-in (IsUnder (length s.files.names)) s.table operands under) (grown-trans s.files m.state.files all s.files_read m.state.files_read all_read done.1 ends))) done.2,
      )

  -- the test of a name
  abbrev tested_name : Bool → PpToken → State → Tested
  tested_name wanted name s = tested (if wanted then is_defined s.table name else not (is_defined s.table name)) (record s { uses = s.uses ++ use_of s.table name ∷ [] })

  defined-stays : (wanted : Bool) (s : State) (start : PpToken) (operands : List PpToken) (m : Tested) → FitsIn s → ComesTested m (defined_test wanted start operands s)
      → Stays s m.state (ComesTested (over_tested m) (defined_test wanted start operands (over s)))
  defined-stays wanted s start [] m fits is = absurd (not-ok m _ is)
  defined-stays wanted s start (name ∷ others) m fits is = by (is_identifier name) is
    where
      by : (b : Bool) → ComesTested m (cond b (Ok (tested_name wanted name s)) (Err (refusal refusals.directive start.place))) → Stays s m.state (ComesTested (over_tested m) (cond b (Ok (tested_name wanted name (over s))) (Err (refusal refusals.directive start.place))))
      by true e = subst (λ m. Stays s m.state (ComesTested (over_tested m) (Ok (tested_name wanted name (over s))))) (sym (ok-is m (tested_name wanted name s) e)) (fits, grown-itself s.files s.files_read, λ ends. refl)
      by false e = absurd (not-ok m _ e)

  -- CONDITIONAL INCLUSION

  abbrev TestsStay : State → (Result Tested Stop → Type 0) → (Result Tested Stop → Type 0) → Type 0
  TestsStay s Tests Tests' = (m : Tested) → Tests (Ok m) → Stays s m.state (Tests' (Ok (over_tested m)))

  opens-stays : (s t : State) (start : PpToken) (Tests Tests' : Result Tested Stop → Type 0) → FitsIn s → TestsStay s Tests Tests' → Opens start s Tests (Ok t) → Stays s t (Opens start (over s) Tests' (Ok (over t)))
  opens-stays s t start Tests Tests' fits tests =
      match-stays (is_read s.sections) (Then Tests (λ tested result. result ≡ opens start tested)) (Then Tests' (λ tested result. result ≡ opens start tested)) (λ result. result ≡ pushed start.place Over s) (λ result. result ≡ pushed start.place Over (over s)) s t
      (then-stays (λ m. m.state) over_tested Tests Tests' (λ tested result. result ≡ opens start tested) (λ tested result. result ≡ opens start tested) s t tests
      (λ m fits' grows is. is-stays m.state t _ (opens start (over_tested m)) fits' (grown-itself m.state.files m.state.files_read) refl is))
      (is-stays s t _ (pushed start.place Over (over s)) fits (grown-itself s.files s.files_read) refl)

  elif_at-stays : (s t : State) (stage : Stage) (section : Section) (outer : List Section) (Tests Tests' : Result Tested Stop → Type 0) → FitsIn s → TestsStay s Tests Tests' → DoesElifAt stage section outer Tests s (Ok t)
      → Stays s t (DoesElifAt stage section outer Tests' (over s) (Ok (over t)))
  elif_at-stays s t Waiting section outer Tests Tests' fits tests =
      then-stays (λ m. m.state) over_tested Tests Tests' (λ tested result. result ≡ Ok (within (after_elif tested.truth section ∷ outer) tested.state)) (λ tested result. result ≡ Ok (within (after_elif tested.truth section ∷ outer) tested.state)) s t tests
      (λ m fits' grows is. is-stays m.state t _ (Ok (within (after_elif m.truth section ∷ outer) (over m.state))) fits' (grown-itself m.state.files m.state.files_read) refl is)
  elif_at-stays s t Read section outer Tests Tests' fits tests = is-stays s t _ (Ok (within (after_skipped_elif section ∷ outer) (over s))) fits (grown-itself s.files s.files_read) refl
  elif_at-stays s t Over section outer Tests Tests' fits tests = is-stays s t _ (Ok (within (after_skipped_elif section ∷ outer) (over s))) fits (grown-itself s.files s.files_read) refl

  elif-stays : (s t : State) (start : PpToken) (sections : List Section) (Tests Tests' : Result Tested Stop → Type 0) → FitsIn s → TestsStay s Tests Tests' → DoesElif start sections Tests s (Ok t)
      → Stays s t (DoesElif start sections Tests' (over s) (Ok (over t)))
  elif-stays s t start [] Tests Tests' fits tests is = never s t _ _ is
  elif-stays s t start (section ∷ outer) Tests Tests' fits tests is =
      match-stays section.has_else (λ result. result ≡ lost start) (λ result. result ≡ lost start) (DoesElifAt section.stage section outer Tests s) (DoesElifAt section.stage section outer Tests' (over s)) s t
      (never s t _ _) (elif_at-stays s t section.stage section outer Tests Tests' fits tests) is

  else-stays : (s t : State) (start : PpToken) (sections : List Section) → FitsIn s → Comes t (else_in start sections s) → Stays s t (Comes (over t) (else_in start sections (over s)))
  else-stays s t start [] fits is = never s t _ _ is
  else-stays s t start (section ∷ outer) fits is = by section.has_else is
    where
      by : (b : Bool) → Comes t (cond b (lost start) (Ok (within (after_else section ∷ outer) s))) → Stays s t (Comes (over t) (cond b (lost start) (Ok (within (after_else section ∷ outer) (over s)))))
      by true e = never s t _ _ e
      by false e = is-stays s t _ _ fits (grown-itself s.files s.files_read) refl e

  endif-stays : (s t : State) (start : PpToken) (sections : List Section) → FitsIn s → Comes t (endif_in start sections s) → Stays s t (Comes (over t) (endif_in start sections (over s)))
  endif-stays s t start [] fits is = never s t _ _ is
  endif-stays s t start (section ∷ outer) fits is = is-stays s t _ _ fits (grown-itself s.files s.files_read) refl is

  end-stays : (s t : State) (sections : List Section) → FitsIn s → Comes t (end_in sections s) → Stays s t (Comes (over t) (end_in sections (over s)))
  end-stays s t [] fits is = is-stays s t s _ fits (grown-itself s.files s.files_read) refl is
  end-stays s t (section ∷ outer) fits is = never s t _ _ is

  -- DEFINITIONS

  line-stays : (s t : State) (line : List PpToken) (origin : Origin) (plain : Bool) → FitsIn s → TokensUnder s line → DefinesLine one.main line origin plain s (Ok t)
      → Stays s t (DefinesLine one.main line origin plain (over s) (Ok (over t)))
  line-stays s t line origin plain fits under =
      match-when (nat_lt s.spent most_work)
      (λ outcome. ((table : Table) × Defines s.table line origin plain table × (outcome ≡ Ok (with_definition table s))) ⊎ ((stop : Stop) × CannotDefine s.table line origin plain stop × (outcome ≡ Err stop)))
      (λ outcome. ((table : Table) × Defines s.table line origin plain table × (outcome ≡ Ok (with_definition table (over s)))) ⊎ ((stop : Stop) × CannotDefine s.table line origin plain stop × (outcome ≡ Err stop)))
      (λ outcome. outcome ≡ Err (limit limits.work one.main)) (λ outcome. outcome ≡ Err (limit limits.work one.main)) s t by (never s t _ _)
    where
      by : nat_lt s.spent most_work ≡ true → ((table : Table) × Defines s.table line origin plain table × (Comes t (Ok (with_definition table s)))) ⊎ ((stop : Stop) × CannotDefine s.table line origin plain stop × (Comes t (Err stop)))
          → Stays s t (((table : Table) × Defines s.table line origin plain table × (Comes (over t) (Ok (with_definition table (over s))))) ⊎ ((stop : Stop) × CannotDefine s.table line origin plain stop × (Comes (over t) (Err stop))))
      by room (inr x) = never s t x.0 _ x.2
      by room (inl x) =
          let below = ltb-true s.spent most_work room in
          subst (λ t. Stays s t (((table : Table) × Defines s.table line origin plain table × (Comes (over t) (Ok (with_definition table (over s))))) ⊎ ((stop : Stop) × CannotDefine s.table line origin plain stop × (Comes (over t) (Err stop)))))
          (sym (ok-is t (with_definition x.0 s) x.2)) (
            record { main_named = fits.main_named; slots = fits.slots; headers = fits.headers; bodies = defines-in (IsUnder (length s.files.names)) s.table x.0 line origin plain fits.bodies under x.1; owned = fits.owned; ascending = fits.ascending; listed = fits.listed; under = fits.under; little = omega (arith, below) },
            grown-itself s.files s.files_read,
            λ ends. inl (x.0, x.1, refl),
          )

  -- the bytes of a file that is read
  bytes-stay : (s : State) (file : ℕ) → FitsIn s → is_among file s.files_read ≡ true → Ends s → bytes_in other all file ≡ bytes_in one s.files file
  bytes-stay s file fits read ends =
      ap (λ o. unwrap_or o []) (bytes file (ends.reads file read) ∙ ap one.source (called-kept s.files all s.files_read all_read file ends (fits.owned file read).0.0))

  define-stays : (s t : State) (file : ℕ) (start : PpToken) (behind : List PpToken) → FitsIn s → is_among file s.files_read ≡ true → TokensUnder s (start ∷ behind)
      → DoesDefine one.main file (bytes_in one s.files file) start behind s (Ok t) → Stays s t (DoesDefine one.main file (bytes_in other all file) start behind (over s) (Ok (over t)))
  define-stays s t file start behind fits read under is =
      let done = match-stays (begins_with_name (drop 1 behind))
      (DefinesLine one.main (start ∷ behind) (origin_of file) (is_plain_head (bytes_in one s.files file) start (start ∷ behind)) s)
      (DefinesLine one.main (start ∷ behind) (origin_of file) (is_plain_head (bytes_in one s.files file) start (start ∷ behind)) (over s))
      (λ outcome. outcome ≡ Err (refusal refusals.directive start.place)) (λ outcome. outcome ≡ Err (refusal refusals.directive start.place)) s t
      (line-stays s t (start ∷ behind) (origin_of file) (is_plain_head (bytes_in one s.files file) start (start ∷ behind)) fits under) (never s t _ _) is in (
        done.0,
        done.1,
        λ ends.
            subst (λ held. DoesDefine one.main file held start behind (over s) (Ok (over t)))
            (sym (bytes-stay s file fits read (grown-trans s.files t.files all s.files_read t.files_read all_read done.1 ends))) (done.2 ends),
      )

  undef-stays : (s t : State) (start : PpToken) (operands : List PpToken) → FitsIn s → Comes t (after_undef start operands s) → Stays s t (Comes (over t) (after_undef start operands (over s)))
  undef-stays s t start [] fits is = never s t _ _ is
  undef-stays s t start (name ∷ others) fits is = by (is_macro_name name) is
    where
      by : (b : Bool) → Comes t (cond b (Ok (with_undefined name s)) (Err (refusal refusals.directive start.place))) → Stays s t (Comes (over t) (cond b (Ok (with_undefined name (over s))) (Err (refusal refusals.directive start.place))))
      by true e = is-stays s t _ _ fits (grown-itself s.files s.files_read) refl e
      by false e = never s t _ _ e

  pragma-stays : (s t : State) (file : ℕ) (start : PpToken) (operands : List PpToken) → FitsIn s → Comes t (after_pragma file start operands s) → Stays s t (Comes (over t) (after_pragma file start operands (over s)))
  pragma-stays s t file start operands fits is = by (is_once operands) is
    where
      by : (b : Bool) → Comes t (cond b (Ok (record s { once = with_number s.once file })) (Err (refusal refusals.out_of_subset start.place)))
          → Stays s t (Comes (over t) (cond b (Ok (record (over s) { once = with_number s.once file })) (Err (refusal refusals.out_of_subset start.place))))
      by true e = is-stays s t _ _ fits (grown-itself s.files s.files_read) refl e
      by false e = never s t _ _ e

  manifest_text-stays : (s t : State) (define : List ℕ) (r : Result (List PpToken) Refusal) → FitsIn s → DefinesText one.main define r s (Ok t) → Stays s t (DefinesText one.main define r (over s) (Ok (over t)))
  manifest_text-stays s t define (Ok tokens) fits is =
      line-stays s t (define_line one.main define tokens) Manifest true fits (at-under one.main (length s.files.names) (define_line one.main define tokens) fits.main_named (define_line-at one.main define tokens)) is
  manifest_text-stays s t define (Err refused) fits is = never s t _ _ is

  pub manifests-stay : (defines : List (List ℕ)) (s t : State) → FitsIn s → DoesManifests one defines s (Ok t) → Stays s t (DoesManifests other defines (over s) (Ok (over t)))
  unfolding DoesManifests
  manifests-stay [] s t fits is = is-stays s t s _ fits (grown-itself s.files s.files_read) refl is
  manifests-stay (define ∷ defines) s t fits is =
      then-stays (λ m. m) over (DoesManifest one.main define s) (DoesManifest one.main define (over s)) (DoesManifests one defines) (DoesManifests other defines) s t
      (λ m. manifest_text-stays s m define (reading_of one.main (define_text define)) fits) (λ m fits' grows. manifests-stay defines m t fits') is

  -- INCLUSION

  -- the same state over files that were found
  pub fits-found : (s : State) (files : Catalogue) → FitsIn s → Grown s.files [] files [] → length files.found ≡ length files.names → Fits one.main files s.table.read s.files_read s.tokens s.expansions s.instance s.spent
  fits-found s files fits grown slots =
      let more = longer s.files files [] [] grown in
      record {
        main_named = omega (arith, fits.main_named, more);
        slots = slots;
        headers = λ name file is. there-kept s.files files [] [] file grown (fits.headers name file is);
        bodies = bodies-weaker (IsUnder (length s.files.names)) (IsUnder (length files.names)) (λ place under. omega (arith, under, more)) s.table.read fits.bodies;
        owned = λ file read. there-kept s.files files [] [] file grown (fits.owned file read);
        ascending = fits.ascending;
        listed = fits.listed;
        under = under-wider (length s.files.names) (length files.names) s.tokens more fits.under;
        little = fits.little;
      }

  -- how files are entered
  abbrev pub EntersStay : (ℕ → State → Outcome → Type 0) → (ℕ → State → Outcome → Type 0) → Type 0
  EntersStay E E' = (file : ℕ) (s t : State) → FitsIn s → IsThere s.files file → E file s (Ok t) → Stays s t (E' file (over s) (Ok (over t)))

  includes-stay : (E E' : ℕ → State → Outcome → Type 0) → EntersStay E E' → (start : PpToken) (header : Option ℕ) (names : List (List ℕ)) (found : Sought) (s t : State) → FitsIn s → Found header names s.files found
      → Includes one E start found.number found.files s (Ok t)
      → FitsIn t × Grows s t × (Ends t → Grown found.files [] all [] × Includes other E' start found.number all (over s) (Ok (over t)))
  includes-stay E E' enters start header names found s t fits is_found includes = by found.number refl includes
    where
      grows : Grown s.files s.files_read found.files s.files_read
      grows = grown-over s.files found.files s.files_read is_found.grown

      by : (o : Option ℕ) → found.number ≡ o → Includes one E start o found.files s (Ok t) → FitsIn t × Grows s t × (Ends t → Grown found.files [] all [] × Includes other E' start o all (over s) (Ok (over t)))
      by None e is = absurd (not-ok t _ is)
      by (Some number) e is = entered (nat_lt s.inclusions most_inclusions) is
        where
          entered : (b : Bool) → MatchBool b (E number (counted found.files s) (Ok t)) (Comes t (Err (limit limits.inclusions one.main)))
              → FitsIn t × Grows s t × (Ends t → Grown found.files [] all [] × MatchBool b (E' number (counted all (over s)) (Ok (over t))) (Comes (over t) (Err (limit limits.inclusions one.main))))
          entered false never = absurd (not-ok t _ never)
          entered true is =
              let done = enters number (counted found.files s) t (fits-found s found.files fits is_found.grown is_found.slots) (is_found.own number e) is in (
                done.0,
                grown-trans s.files found.files t.files s.files_read s.files_read t.files_read grows done.1,
                λ ends. (grown-again found.files all s.files_read all_read (grown-trans found.files t.files all s.files_read t.files_read all_read done.1 ends), done.2 ends),
              )

  -- the names that a header means in a file of this name
  abbrev sought_names : PpToken → List ℕ → List (List ℕ)
  sought_names header from = candidates (header_name header.spelling) (places from (is_quoted header.spelling) one.include)

  include-stays : (E E' : ℕ → State → Outcome → Type 0) → EntersStay E E' → (file : ℕ) (start : PpToken) (operands : List PpToken) (s t : State) → FitsIn s → is_among file s.files_read ≡ true
      → DoesInclude one E file start operands s (Ok t) → Stays s t (DoesInclude other E' file start operands (over s) (Ok (over t)))
  include-stays E E' enters file start [] s t fits read is = never s t _ _ is
  include-stays E E' enters file start (header ∷ others) s t fits read is =
      match-stays (is_header_kind header.kind)
      (Then (SearchesFor one file header.spelling s.files) (λ sought outcome. Includes one E start sought.number sought.files s outcome))
      (Then (SearchesFor other file header.spelling all) (λ sought outcome. Includes other E' start sought.number sought.files (over s) outcome))
      (λ outcome. outcome ≡ Err (refusal refusals.out_of_subset start.place)) (λ outcome. outcome ≡ Err (refusal refusals.out_of_subset start.place)) s t by (never s t _ _) is
    where
      by : Then (SearchesFor one file header.spelling s.files) (λ sought outcome. Includes one E start sought.number sought.files s outcome) (Ok t)
          → Stays s t (Then (SearchesFor other file header.spelling all) (λ sought outcome. Includes other E' start sought.number sought.files (over s) outcome) (Ok (over t)))
      by (inl x) = never s t x.0 _ x.2
      by (inr x) =
          let found = search-stays (header_number (header_name header.spelling)) (sought_names header (called s.files file)) s.files x.0 fits.slots (fits.headers (header_name header.spelling)) x.1 in
          let done = includes-stay E E' enters start _ _ x.0 s t fits found x.2 in (
            done.0,
            done.1,
            λ ends.
                let all_ends = grown-trans s.files t.files all s.files_read t.files_read all_read done.1 ends in
                let again = done.2 ends in
                inr (sought x.0.number all, subst (λ from. Searches other (header_number (header_name header.spelling)) (sought_names header from) all (Ok (sought x.0.number all))) (sym (called-kept s.files all s.files_read all_read file all_ends (fits.owned file read).0.0)) (found.again again.0), again.1),
          )

  -- DIRECTIVES

  -- tokens of the present file stand in it
  here-under : (s : State) (file : ℕ) (tokens : List PpToken) → FitsIn s → is_among file s.files_read ≡ true → AreIn file tokens → TokensUnder s tokens
  here-under s file tokens fits read are = at-under file (length s.files.names) tokens (fits.owned file read).0.0 are

  read-stays : (E E' : ℕ → State → Outcome → Type 0) → EntersStay E E' → (file : ℕ) (kind : Directive) (start : PpToken) (behind : List PpToken) (s t : State) → FitsIn s → is_among file s.files_read ≡ true → AreIn file (start ∷ behind)
      → DoesRead one E file kind start behind s (Ok t) → Stays s t (DoesRead other E' file kind start behind (over s) (Ok (over t)))
  read-stays E E' enters file Include start behind s t fits read are is = include-stays E E' enters file start (drop 1 behind) s t fits read is
  read-stays E E' enters file Define start behind s t fits read are is = define-stays s t file start behind fits read (here-under s file (start ∷ behind) fits read are) is
  read-stays E E' enters file Undef start behind s t fits read are is = undef-stays s t start (drop 1 behind) fits is
  read-stays E E' enters file Line start behind s t fits read are is = never s t _ _ is
  read-stays E E' enters file Error start behind s t fits read are is = never s t _ _ is
  read-stays E E' enters file Pragma start behind s t fits read are is = pragma-stays s t file start (drop 1 behind) fits is
  read-stays E E' enters file Null start behind s t fits read are is = is-stays s t s _ fits (grown-itself s.files s.files_read) refl is
  read-stays E E' enters file Unknown start behind s t fits read are is = never s t _ _ is
  read-stays E E' enters file more start behind s t fits read are is = absurd is

  -- a directive that is done only where the group is read
  other-stays : (E E' : ℕ → State → Outcome → Type 0) → EntersStay E E' → (file : ℕ) (kind : Directive) (start : PpToken) (behind : List PpToken) (s t : State) → FitsIn s → is_among file s.files_read ≡ true → AreIn file (start ∷ behind)
      → MatchBool (is_read s.sections) (DoesRead one E file kind start behind s (Ok t)) (Comes t (Ok s))
      → Stays s t (MatchBool (is_read s.sections) (DoesRead other E' file kind start behind (over s) (Ok (over t))) (Comes (over t) (Ok (over s))))
  other-stays E E' enters file kind start behind s t fits read are =
      match-stays (is_read s.sections) (DoesRead one E file kind start behind s) (DoesRead other E' file kind start behind (over s)) (λ outcome. outcome ≡ Ok s) (λ outcome. outcome ≡ Ok (over s)) s t
      (read-stays E E' enters file kind start behind s t fits read are) (is-stays s t s _ fits (grown-itself s.files s.files_read) refl)

  directive-stays : (E E' : ℕ → State → Outcome → Type 0) → EntersStay E E' → (file : ℕ) (kind : Directive) (start : PpToken) (behind : List PpToken) (s t : State) → FitsIn s → is_among file s.files_read ≡ true
      → AreIn file (start ∷ behind) → DoesDirective one E file kind start behind s (Ok t) → Stays s t (DoesDirective other E' file kind start behind (over s) (Ok (over t)))
  directive-stays E E' enters file If start behind s t fits read are =
      opens-stays s t start (Evaluates one.main start (drop 1 behind) s) (Evaluates one.main start (drop 1 behind) (over s)) fits
      (λ m. evaluates-stays s start (drop 1 behind) m fits (here-under s file (drop 1 behind) fits read (at-drop file 1 behind are.1)))
  directive-stays E E' enters file Ifdef start behind s t fits read are =
      opens-stays s t start (λ (r : Result Tested Stop). r ≡ defined_test true start (drop 1 behind) s) (λ (r : Result Tested Stop). r ≡ defined_test true start (drop 1 behind) (over s)) fits
      (λ m. defined-stays true s start (drop 1 behind) m fits)
  directive-stays E E' enters file Ifndef start behind s t fits read are =
      opens-stays s t start (λ (r : Result Tested Stop). r ≡ defined_test false start (drop 1 behind) s) (λ (r : Result Tested Stop). r ≡ defined_test false start (drop 1 behind) (over s)) fits
      (λ m. defined-stays false s start (drop 1 behind) m fits)
  directive-stays E E' enters file Elif start behind s t fits read are =
      elif-stays s t start s.sections (Evaluates one.main start (drop 1 behind) s) (Evaluates one.main start (drop 1 behind) (over s)) fits
      (λ m. evaluates-stays s start (drop 1 behind) m fits (here-under s file (drop 1 behind) fits read (at-drop file 1 behind are.1)))
  directive-stays E E' enters file Else start behind s t fits read are = else-stays s t start s.sections fits
  directive-stays E E' enters file Endif start behind s t fits read are = endif-stays s t start s.sections fits
  directive-stays E E' enters file more start behind s t fits read are = other-stays E E' enters file more start behind s t fits read are

  -- THE PARTS OF A FILE

  pub part-stays : (E E' : ℕ → State → Outcome → Type 0) → EntersStay E E' → (file : ℕ) (part : Part) (s t : State) → FitsIn s → is_among file s.files_read ≡ true → IsPartAt file part
      → ReadsPart one E file part s (Ok t) → Stays s t (ReadsPart other E' file part (over s) (Ok (over t)))
  part-stays E E' enters file (directive start behind) s t fits read are = directive-stays E E' enters file (directive_of behind) start behind s t fits read are
  part-stays E E' enters file (text tokens) s t fits read are = by (is_read s.sections)
    where
      by : (b : Bool) → Comes t (cond b (after_text one.main tokens s) (Ok s)) → Stays s t (Comes (over t) (cond b (after_text one.main tokens (over s)) (Ok (over s))))
      by true = text-stays s t tokens fits (here-under s file tokens fits read are)
      by false = is-stays s t s _ fits (grown-itself s.files s.files_read) refl

  parts-stay : (E E' : ℕ → State → Outcome → Type 0) → EntersStay E E' → (file : ℕ) (parts : List Part) (s t : State) → FitsIn s → is_among file s.files_read ≡ true → AllByRecursion (IsPartAt file) parts
      → ReadsParts one E file parts s (Ok t) → Stays s t (ReadsParts other E' file parts (over s) (Ok (over t)))
  unfolding ReadsParts
  parts-stay E E' enters file [] s t fits read are = end-stays s t s.sections fits
  parts-stay E E' enters file (part ∷ parts) s t fits read are =
      then-stays (λ m. m) over (ReadsPart one E file part s) (ReadsPart other E' file part (over s)) (ReadsParts one E file parts) (ReadsParts other E' file parts) s t
      (λ m. part-stays E E' enters file part s m fits read are.0) (λ m fits' grows. parts-stay E E' enters file parts m t fits' (grows.reads file read) are.1)

  pub fits-begun : (s : State) (file : ℕ) → FitsIn s → IsThere s.files file → FitsIn (begun file s)
  fits-begun s file fits own = record { main_named = fits.main_named; slots = fits.slots; headers = fits.headers; bodies = fits.bodies; owned = λ number read. by number (among-cases number file s.files_read read); ascending = fits.ascending; listed = fits.listed; under = fits.under; little = fits.little }
    where
      by : (number : ℕ) → (is_among number s.files_read ≡ true) ⊎ (number ≡ file) → IsThere s.files number
      by number (inl read) = fits.owned number read
      by number (inr same) = subst (IsThere s.files) (sym same) own

  file-stays : (E E' : ℕ → State → Outcome → Type 0) → EntersStay E E' → EntersStay (ReadsFile one E) (ReadsFile other E')
  file-stays E E' enters file s t fits own (inl x) = never s t x.0 _ x.2
  file-stays E E' enters file s t fits own (inr x) =
      let begins = begun file s in
      let fits' = fits-begun s file fits own in
      let read = among-last file s.files_read in
      let parts = parts_of (tokens_in one s.files file) in
      let m = x.0 in
      let done = parts-stay E E' enters file parts begins m fits' read (parts-at file (tokens_in one s.files file) (reading-at file (bytes_in one s.files file))) x.1 in
      let first : Grown s.files s.files_read s.files begins.files_read = record { names = (grown-itself s.files s.files_read).names; found = λ number h. h; reads = λ number h. among-more number file s.files_read h } in
      let grows = grown-trans s.files s.files m.files s.files_read begins.files_read m.files_read first done.1 in
      subst (λ (t : State). Stays s t (ReadsFile other E' file (over s) (Ok (over t)))) (sym (ok-is t (within s.sections m) x.2)) (
        done.0,
        grows,
        λ ends. inr (
          over m,
          subst (λ held. ReadsParts other E' file (parts_of (result_unwrap_or (reading_of file held) [])) (over begins) (Ok (over m)))
              (sym (bytes-stay begins file fits' read (grown-trans begins.files m.files all begins.files_read m.files_read all_read done.1 ends))) (done.2 ends),
          refl,
        ),
      )

  pub enters-stay : (more : ℕ) → EntersStay (Enters one more) (Enters other more)
  unfolding Enters
  enters-stay zero file s t fits own is = never s t _ _ is
  enters-stay (suc more) file s t fits own is =
      match-stays (is_passed file s) (λ outcome. outcome ≡ Ok s) (λ outcome. outcome ≡ Ok (over s)) (ReadsFile one (Enters one more) file s) (ReadsFile other (Enters other more) file (over s)) s t
      (is-stays s t s _ fits (grown-itself s.files s.files_read) refl) (file-stays (Enters one more) (Enters other more) (enters-stay more) file s t fits own) is

  -- THE UNIT

  main-stays : (name : List ℕ) (s t : State) → FitsIn s → ReadsMain one name s (Ok t) → Stays s t (ReadsMain other name (over s) (Ok (over t)))
  main-stays name s t fits (inl x) = never s t x.0 _ x.2
  main-stays name s t fits (inr x) =
      let found = search-stays None (name ∷ []) s.files x.0 fits.slots (λ number e. absurd (no-number number e)) x.1 in
      let done = by found x.0.number refl x.2 in (
        done.0,
        done.1,
        λ ends. let again = done.2 ends in inr (sought x.0.number all, found.again again.0, again.1),
      )
    where
      no-number : (number : ℕ) → ◌≡◌ {A = Option ℕ} None (Some number) → ⊥
      no-number number e = cc

      by : Found None (name ∷ []) s.files x.0 → (o : Option ℕ) → x.0.number ≡ o → ReadsFound one o x.0.files s (Ok t) → FitsIn t × Grows s t × (Ends t → Grown x.0.files [] all [] × ReadsFound other o all (over s) (Ok (over t)))
      by found None e is = absurd (not-ok t _ is)
      by found (Some number) e is =
          let m = record s { files = x.0.files } in
          let done = file-stays (Enters one most_nested) (Enters other most_nested) (enters-stay most_nested) number m t (fits-found s x.0.files fits found.grown found.slots) (found.own number e) is in (
            done.0,
            grown-trans s.files x.0.files t.files s.files_read s.files_read t.files_read (grown-over s.files x.0.files s.files_read found.grown) done.1,
            λ ends. (grown-again x.0.files all s.files_read all_read (grown-trans x.0.files t.files all s.files_read t.files_read all_read done.1 ends), done.2 ends),
          )

  pub unit-stays : (name : List ℕ) (defines : List (List ℕ)) (s t : State) → FitsIn s → ReadsUnit one name defines s (Ok t) → Stays s t (ReadsUnit other name defines (over s) (Ok (over t)))
  unfolding ReadsUnit
  unit-stays name defines s t fits =
      then-stays (λ m. m) over (DoesManifests one defines s) (DoesManifests other defines (over s)) (ReadsMain one name) (ReadsMain other name) s t
      (λ m. manifests-stay defines s m fits) (λ m fits' grows. main-stays name m t fits')
