-- The definitions that a unit reads from files are made by directives of these.
--     unit_made      so it is
--     unit_among      and these files have numbers
use Rattle.std.specs.Prelude.{◌≡◌, refl, ℕ, zero, suc, ◌+◌, ◌<◌, ◌≤◌, Bool, true, false, not, nat_lt, nat_le, List, [], ◌∷◌, ◌++◌, length, drop, Option, Some, None, Result, Ok, Err, MatchBool, unwrap_or, slice_index_or, bytes_eq, if◌then◌else◌}
use Rattle.std.specs.List.{AllByRecursion, list_any, position_from}
use Rattle.std.proofs.Common.{◌⊎◌, inl, inr, ap, sym, ◌∙◌, subst, arith, append_assoc}
use Rattle.std.proofs.lemmas.Bool.{true≢false}
use Rattle.std.proofs.lemmas.List.{append-nil, get_or_append_left, length-append}
use Rattle.dm_token.specs.Limits.{header_count, most_work, most_tokens, most_inclusions, most_files, source_length_limit}
use Rattle.dm_token.specs.LimitNumbers as limits
use Rattle.dm_token.specs.Refusals as refusals
use Rattle.dm_token.specs.declared.expansion.Definition.{Definition}
use Rattle.dm_token.specs.declared.expansion.Origin.{Origin}
use Rattle.dm_token.specs.declared.expansion.Origin.TheVariants.{File, Header, Manifest}
use Rattle.dm_token.specs.declared.stop.Refusal.{Refusal}
use Rattle.dm_token.specs.declared.stop.Stop.{Stop}
use Rattle.dm_token.specs.declared.token.PpToken.{PpToken}
use Rattle.dm_token.specs.declared.token.Token.{Token}
use Rattle.dm_token.specs.declared.unit.Read.{Read}
use Rattle.dm_token.specs.declared.unit.Unit.{Unit as Source}
use Rattle.dm_token.specs.declared.unit.UnitTokens.{UnitTokens}
use Rattle.dm_token.specs.declared.unit.Use.{Use}
use Rattle.dm_io.specs.Files.{Files}
use Rattle.dm_macro.specs.Forms.{Gives}
use Rattle.dm_macro.specs.Signs.{is_identifier, is_macro_name}
use Rattle.dm_macro.specs.Tables.{Table, Defines}
use Rattle.dm_expand.specs.Expansion.{Answer}
use Rattle.dm_search.specs.Headers.{header_number, headers}
use Rattle.dm_search.specs.Joining.{candidates, places}
use Rattle.dm_search.specs.Loaded.{Loaded}
use Rattle.dm_runs.specs.Runs.{is_file}
use Rattle.dm_unit.specs.Conditions.{Tested, tested, with_uses, no_condition, Judged, JudgesExpanded, Evaluates, defined_test, names_asked, replaced, is_defined, is_defined_word}
use Rattle.dm_unit.specs.Definitions.{CannotDefine, DefinesLine, DoesDefine, with_definition, begins_with_name, origin_of, is_plain_head, with_undefined, after_undef, use_of, define_line, define_text, DefinesText}
use Rattle.dm_unit.specs.Directives.{directive_of}
use Rattle.dm_unit.specs.Includes.{Sought, sought, Searches, SearchesFor, LooksAt, number_in, numbered, is_found, with_found, found_as, first_found, found_files, if_readable, is_header_kind, is_quoted, header_name}
use Rattle.dm_unit.specs.Lines.{Part, directive, text, parts_of}
use Rattle.dm_unit.specs.Readings.{with_text, after_expansion, after_text, within, pushed, opens, Opens, lost, DoesElifAt, DoesElif, else_in, endif_in, end_in, is_once, with_number, after_pragma, counted, Includes, DoesInclude, DoesRead, DoesDirective, ReadsPart, ReadsParts, begun, ReadsFile, is_passed, Enters, most_nested, DoesManifests, ReadsFound, ReadsMain, ReadsUnit}
use Rattle.dm_unit.specs.Sections.{is_read, after_else}
use Rattle.dm_unit.specs.Sources.{bytes_in, tokens_in, reading_of}
use Rattle.dm_unit.specs.States.{Setting, Catalogue, State, Outcome, Then, refusal, limit, expansion_in}
use Rattle.dm_unit.specs.Units.{IsReadAs, first_files, reads_of, setting_of, state_with}
use Rattle.dm_unit.specs.declared.directive.Directive.{Directive}
use Rattle.dm_unit.specs.declared.directive.Directive.TheVariants.{If, Ifdef, Ifndef, Elif, Else, Endif, Include, Define, Undef, Line, Error, Pragma, Null, Unknown}
use Rattle.dm_unit.specs.declared.section.Section.{Section}
use Rattle.dm_unit.specs.declared.section.Stage.{Stage}
use Rattle.dm_unit.specs.declared.section.Stage.TheVariants.{Read as Taken, Waiting, Over}
use Rattle.dm_unit.proofs.NameLemmas.{name-at, name-inside, name-behind}
use Rattle.dm_defined.specs.Made.{IsDirectiveIn, IsMade, IsMadeIn, bytes_for, parts_in}
use Rattle.dm_defined.proofs.PartLemmas.{AreIn, IsAt, IsPartAt, all_indexed, parts_at}

ok_is : {A : Type 0} (one other : A) → ◌≡◌ {A = Result A Stop} (Ok one) (Ok other) → one ≡ other
ok_is one other e = cc

not_ok : {A : Type 0} (one : A) (stop : Stop) → ◌≡◌ {A = Result A Stop} (Ok one) (Err stop) → ⊥
not_ok one stop e = cc

all_append : {A : Type 0} (P : A → Type 0) (front back : List A) → AllByRecursion P front → AllByRecursion P back → AllByRecursion P (front ++ back)
all_append P [] back h k = k
all_append P (x ∷ front) back h k = (h.0, all_append P front back h.1 k)

-- ---- numbers of names

abbrev called : Catalogue → ℕ → List ℕ
called files number = slice_index_or files.names number []

-- a built-in header's number is one of the first
header_first : (name : List ℕ) (number : ℕ) → header_number name ≡ Some number → nat_lt number header_count ≡ true
unfolding header_number
header_first name number e = by headers 0 e (omega arith)
  where
    some_is : (a b : ℕ) → Some a ≡ Some b → a ≡ b
    some_is a b k = cc

    none_is : (b : ℕ) → None ≡ Some b → ⊥
    none_is b k = cc

    by : (entries : List (List ℕ × List ℕ)) (at : ℕ) → position_from (λ header. bytes_eq name header.0) at entries ≡ Some number → at + length entries ≤ header_count → nat_lt number header_count ≡ true
    by [] at k few = absurd (none_is number k)
    by (entry ∷ entries) at k few = by_test (bytes_eq name entry.0) k (λ h. by entries (at + 1) h (let more : length (entry ∷ entries) ≡ suc (length entries) = refl in omega (arith, few, more)))
      where
        by_test : (b : Bool) → (if b then Some at else position_from (λ header. bytes_eq name header.0) (at + 1) entries) ≡ Some number
            → (position_from (λ header. bytes_eq name header.0) (at + 1) entries ≡ Some number → nat_lt number header_count ≡ true) → nat_lt number header_count ≡ true
        by_test true h rest = let same = some_is at number h in let more : length (entry ∷ entries) ≡ suc (length entries) = refl in grind (arith, same, few, more)
        by_test false h rest = rest h

module _ (setting : Setting) where
  -- the number of a file is that of its name, or one of a built-in header's
  abbrev Knows : ℕ → Catalogue → Type 0
  Knows file files = (nat_lt file header_count ≡ true) ⊎ ((file < length files.names) × (called files file ≡ setting.named file))

  -- the file of a definition that is read from one has a number among so many
  abbrev IsAmong : ℕ → Definition → Type 0
  IsAmong count definition = is_file definition.origin ≡ true → definition.place.file < count

  abbrev IsMadeAmong : ℕ → Definition → Type 0
  IsMadeAmong count definition = IsMade setting definition × IsAmong count definition

  abbrev AreMade : State → Type 0
  AreMade state = AllByRecursion (IsMadeAmong (length state.files.names)) state.table.read

  -- names come behind
  abbrev Grows : Catalogue → Catalogue → Type 0
  Grows files later = (more : List (List ℕ)) × (later.names ≡ files.names ++ more)

  abbrev Steps : State → State → Type 0
  Steps s t = Grows s.files t.files × (AreMade s → AreMade t)

  grows_itself : (files : Catalogue) → Grows files files
  grows_itself files = ([], sym (append-nil files.names))

  grows_through : (a b c : Catalogue) → Grows a b → Grows b c → Grows a c
  grows_through a b c first second =
      (first.0 ++ second.0, second.1 ∙ ap (λ (names : List (List ℕ)). names ++ second.0) first.1 ∙ append_assoc a.names first.0 second.0)

  stays : (s : State) → Steps s s
  stays s = (grows_itself s.files, λ made. made)

  through : (s t u : State) → Steps s t → Steps t u → Steps s u
  through s t u first second = (grows_through s.files t.files u.files first.0 second.0, λ made. second.1 (first.1 made))

  knows_later : (file : ℕ) (a b : Catalogue) → Grows a b → Knows file a → Knows file b
  knows_later file a b more (inl first) = inl first
  knows_later file a b more (inr own) =
      let all = ap length more.1 ∙ length-append a.names more.0 in
      let inside = own.0 in
      inr (omega (arith, inside, all), ap (λ (names : List (List ℕ)). slice_index_or names file []) more.1 ∙ get_or_append_left a.names more.0 [] file inside ∙ own.1)

  -- a step that ends in a state
  ends : (s t u : State) → Steps s u → ◌≡◌ {A = Outcome} (Ok t) (Ok u) → Steps s t
  ends s t u steps e = subst (Steps s) (sym (ok_is t u e)) steps

  never : (s t : State) (stop : Stop) → ◌≡◌ {A = Outcome} (Ok t) (Err stop) → Steps s t
  never s t stop e = absurd (not_ok t stop e)

  -- ---- the search

  record Finds (files : Catalogue) (found : Sought) : Type 0 where
    grows : Grows files found.files
    knows : (number : ℕ) → found.number ≡ Some number → Knows number found.files

  named_number : (files : Catalogue) (name : List ℕ) → setting.named (number_in files name) ≡ name → Grows files (numbered name files) × Knows (number_in files name) (numbered name files)
  named_number files name named = by (list_any (bytes_eq name) files.names) refl
    where
      by : (b : Bool) → list_any (bytes_eq name) files.names ≡ b
          → let more : Catalogue = if b then files else record { names = files.names ++ name ∷ []; found = files.found ++ false ∷ [] } in Grows files more × Knows (number_in files name) more
      by true is = (grows_itself files, inr (name-inside name files.names is, name-at name files.names is ∙ sym named))
      by false is =
          let behind = name-behind name files.names is in
          let all = length-append files.names (name ∷ []) in (
            (name ∷ [], refl),
            inr (omega (arith, behind, all), ap (λ n. slice_index_or (files.names ++ name ∷ []) n []) behind ∙ last files.names ∙ sym named),
          )
        where
          last : (names : List (List ℕ)) → slice_index_or (names ++ name ∷ []) (length names) [] ≡ name
          last [] = refl
          last (first ∷ names) = last names

  some_is : (a b : ℕ) → Some a ≡ Some b → a ≡ b
  some_is a b e = cc

  abbrev FindsIn : Catalogue → Sought → Type 0
  FindsIn files found = Grows files found.files × ((other : ℕ) → found.number ≡ Some other → Knows other found.files)

  found_knows : (number : ℕ) (bytes : List ℕ) (files : Catalogue) (found : Sought) → Knows number files → ◌≡◌ {A = Result Sought Stop} (Ok found) (found_as number bytes files)
      → FindsIn files found
  unfolding first_found
  found_knows number bytes files found knows is = by (is_found files number) is
    where
      same : (later : Catalogue) → Grows files later → found ≡ sought (Some number) later → FindsIn files found
      same later grows e =
          subst (λ (it : Sought). Grows files it.files × ((other : ℕ) → it.number ≡ Some other → Knows other it.files)) (sym e)
          (grows, λ other k. subst (λ n. Knows n later) (some_is number other k) (knows_later number files later grows knows))

      read : (r : Result (List PpToken) Refusal) → ◌≡◌ {A = Result Sought Stop} (Ok found) (if_readable number files r) → FindsIn files found
      read (Ok tokens) e = same (with_found number files) ([], sym (append-nil files.names)) (ok_is found _ e)
      read (Err refused) e = absurd (not_ok found _ e)

      first : (long many : Bool) → ◌≡◌ {A = Result Sought Stop} (Ok found)
          (if long then Err (limit limits.file_bytes number) else if many then Err (limit limits.files number) else if_readable number files (reading_of number bytes)) → FindsIn files found
      first true many e = absurd (not_ok found _ e)
      first false true e = absurd (not_ok found _ e)
      first false false e = read (reading_of number bytes) e

      by : (b : Bool) → ◌≡◌ {A = Result Sought Stop} (Ok found) (if b then Ok (sought (Some number) files) else first_found number bytes files) → FindsIn files found
      by true e = same files (grows_itself files) (ok_is found _ e)
      by false e = first (nat_lt source_length_limit (length bytes)) (nat_le most_files (found_files files)) e

  search : (header : Option ℕ) → ((number : ℕ) → header ≡ Some number → nat_lt number header_count ≡ true) → (names : List (List ℕ)) (files : Catalogue) (found : Sought)
      → Searches setting header names files (Ok found) → Finds files found
  unfolding Searches
  search header first [] files found is =
      subst (Finds files) (sym (ok_is found (sought header files) is)) (record { grows = grows_itself files; knows = λ number e. inl (first number e) })
  search header first (name ∷ names) files found (inl fails) = absurd (not_ok found _ fails.2)
  search header first (name ∷ names) files found (inr looks) = by (setting.source name) looks (search header first names files found)
    where
      by : (o : Option (List ℕ)) → LooksAt setting o name files (Searches setting header names files) (Ok found) → (Searches setting header names files (Ok found) → Finds files found) → Finds files found
      by None is next = next is.1
      by (Some bytes) is next =
          let own = named_number files name is.1 in
          let more = found_knows (number_in files name) bytes (numbered name files) found own.1 is.2 in
          record { grows = grows_through files (numbered name files) found.files own.0 more.0; knows = more.1 }

  -- ---- text groups and conditions

  text_steps : (main : ℕ) (s t : State) (r : Result Answer Stop) → ◌≡◌ {A = Outcome} (Ok t) (after_expansion main s r) → Steps s t
  text_steps main s t (Err stop) e = never s t stop e
  text_steps main s t (Ok answer) e = by (nat_lt most_tokens (length (s.tokens ++ answer.tokens))) e
    where
      by : (b : Bool) → ◌≡◌ {A = Outcome} (Ok t) (if b then Err (limit limits.unit_tokens main) else Ok (with_text answer s)) → Steps s t
      by true k = never s t _ k
      by false k = ends s t (with_text answer s) (stays s) k

  abbrev Tests : State → (Result Tested Stop → Type 0) → Type 0
  Tests s Made = (m : Tested) → Made (Ok m) → Steps s m.state

  judged_steps : (start : PpToken) (asked : List Use) (r : Result Answer Stop) (s : State) → Tests s (JudgesExpanded start asked r s)
  judged_steps start asked (Err stop) s m is = absurd (not_ok m stop is)
  judged_steps start asked (Ok answer) s m is = by (list_any (λ (one : Token). is_defined_word one.pp) answer.tokens) is
    where
      judged : Judged start asked answer s (Ok m) → Steps s m.state
      judged (inr refused) = absurd (not_ok m _ refused.1)
      judged (inl x) = subst (λ (it : Tested). Steps s it.state) (sym (ok_is m (tested x.0 (with_uses x.2 answer s)) x.4)) (stays s)

      by : (b : Bool) → MatchBool b (◌≡◌ {A = Result Tested Stop} (Ok m) (no_condition start)) (Judged start asked answer s (Ok m)) → Steps s m.state
      by true e = absurd (not_ok m _ e)
      by false e = judged e

  evaluates_steps : (main : ℕ) (start : PpToken) (operands : List PpToken) (s : State) → Tests s (Evaluates main start operands s)
  evaluates_steps main start operands s = judged_steps start (names_asked s.table operands) (expansion_in main s (replaced s.table operands)) s

  abbrev tested_name : Bool → PpToken → State → Tested
  tested_name wanted name s = tested (if wanted then is_defined s.table name else not (is_defined s.table name)) (record s { uses = s.uses ++ use_of s.table name ∷ [] })

  defined_steps : (wanted : Bool) (start : PpToken) (operands : List PpToken) (s : State) → Tests s (λ result. result ≡ defined_test wanted start operands s)
  defined_steps wanted start [] s m e = absurd (not_ok m _ e)
  defined_steps wanted start (name ∷ others) s m e = by (is_identifier name) e
    where
      by : (b : Bool) → ◌≡◌ {A = Result Tested Stop} (Ok m) (if b then Ok (tested_name wanted name s) else Err (refusal refusals.directive start.place)) → Steps s m.state
      by true k = subst (λ (it : Tested). Steps s it.state) (sym (ok_is m (tested_name wanted name s) k)) (stays s)
      by false k = absurd (not_ok m _ k)

  -- ---- conditional inclusion

  opens_steps : (s t : State) (start : PpToken) (Made : Result Tested Stop → Type 0) → Tests s Made → Opens start s Made (Ok t) → Steps s t
  opens_steps s t start Made tests is = by (is_read s.sections) is
    where
      then_opens : Then Made (λ tested result. result ≡ opens start tested) (Ok t) → Steps s t
      then_opens (inl x) = never s t x.0 x.2
      then_opens (inr x) = through s x.0.state t (tests x.0 x.1) (ends x.0.state t _ (stays x.0.state) x.2)

      by : (b : Bool) → MatchBool b (Then Made (λ tested result. result ≡ opens start tested) (Ok t)) (◌≡◌ {A = Outcome} (Ok t) (pushed start.place Over s)) → Steps s t
      by true k = then_opens k
      by false k = ends s t _ (stays s) k

  elif_at_steps : (s t : State) (stage : Stage) (section : Section) (outer : List Section) (Made : Result Tested Stop → Type 0) → Tests s Made → DoesElifAt stage section outer Made s (Ok t) → Steps s t
  elif_at_steps s t Waiting section outer Made tests (inl x) = never s t x.0 x.2
  elif_at_steps s t Waiting section outer Made tests (inr x) = through s x.0.state t (tests x.0 x.1) (ends x.0.state t _ (stays x.0.state) x.2)
  elif_at_steps s t Taken section outer Made tests is = ends s t _ (stays s) is
  elif_at_steps s t Over section outer Made tests is = ends s t _ (stays s) is

  elif_steps : (s t : State) (start : PpToken) (sections : List Section) (Made : Result Tested Stop → Type 0) → Tests s Made → DoesElif start sections Made s (Ok t) → Steps s t
  elif_steps s t start [] Made tests is = never s t _ is
  elif_steps s t start (section ∷ outer) Made tests is = by section.has_else is
    where
      by : (b : Bool) → MatchBool b (◌≡◌ {A = Outcome} (Ok t) (lost start)) (DoesElifAt section.stage section outer Made s (Ok t)) → Steps s t
      by true k = never s t _ k
      by false k = elif_at_steps s t section.stage section outer Made tests k

  else_steps : (s t : State) (start : PpToken) (sections : List Section) → ◌≡◌ {A = Outcome} (Ok t) (else_in start sections s) → Steps s t
  else_steps s t start [] is = never s t _ is
  else_steps s t start (section ∷ outer) is = by section.has_else is
    where
      by : (b : Bool) → ◌≡◌ {A = Outcome} (Ok t) (if b then lost start else Ok (within (after_else section ∷ outer) s)) → Steps s t
      by true k = never s t _ k
      by false k = ends s t _ (stays s) k

  endif_steps : (s t : State) (start : PpToken) (sections : List Section) → ◌≡◌ {A = Outcome} (Ok t) (endif_in start sections s) → Steps s t
  endif_steps s t start [] is = never s t _ is
  endif_steps s t start (section ∷ outer) is = ends s t _ (stays s) is

  end_steps : (s t : State) (sections : List Section) → ◌≡◌ {A = Outcome} (Ok t) (end_in sections s) → Steps s t
  end_steps s t [] is = ends s t s (stays s) is
  end_steps s t (section ∷ outer) is = never s t _ is

  -- ---- definitions

  line_steps : (main : ℕ) (s t : State) (line : List PpToken) (origin : Origin) (plain : Bool) → ((definition : Definition) → Gives line origin plain definition → IsMadeAmong (length s.files.names) definition)
      → DefinesLine main line origin plain s (Ok t) → Steps s t
  line_steps main s t line origin plain made is = by (nat_lt s.spent most_work) is
    where
      defined_by : ((table : Table) × Defines s.table line origin plain table × (◌≡◌ {A = Outcome} (Ok t) (Ok (with_definition table s))))
          ⊎ ((stop : Stop) × CannotDefine s.table line origin plain stop × (◌≡◌ {A = Outcome} (Ok t) (Err stop))) → Steps s t
      defined_by (inr x) = never s t x.0 x.2
      defined_by (inl x) =
          ends s t (with_definition x.0 s) (
            grows_itself s.files,
            λ before. subst (λ (table : Table). AllByRecursion (IsMadeAmong (length s.files.names)) table.read) (sym x.1.4)
                (all_append (IsMadeAmong (length s.files.names)) s.table.read (x.1.0 ∷ []) before (made x.1.0 x.1.1, tt)),
          ) x.2

      by : (b : Bool) → MatchBool b
          (((table : Table) × Defines s.table line origin plain table × (◌≡◌ {A = Outcome} (Ok t) (Ok (with_definition table s))))
          ⊎ ((stop : Stop) × CannotDefine s.table line origin plain stop × (◌≡◌ {A = Outcome} (Ok t) (Err stop)))) (◌≡◌ {A = Outcome} (Ok t) (Err (limit limits.work main))) → Steps s t
      by true k = defined_by k
      by false k = never s t _ k

  -- a directive of the present file, unless that is a built-in header
  abbrev IsHere : ℕ → PpToken → List PpToken → Type 0
  IsHere file start behind = AreIn file (start ∷ behind) × ((nat_lt file header_count ≡ true) ⊎ IsDirectiveIn file (bytes_for setting file) start behind)

  origin_is : (line : List PpToken) (origin : Origin) (plain : Bool) (definition : Definition) → Gives line origin plain definition → definition.origin ≡ origin
  origin_is [] origin plain definition gives = absurd gives
  origin_is (hash ∷ []) origin plain definition gives = absurd gives
  origin_is (hash ∷ (word ∷ [])) origin plain definition gives = absurd gives
  origin_is (hash ∷ (word ∷ (name ∷ behind))) origin plain definition gives = ap (λ (d : Definition). d.origin) gives.1

  file_is : (file : ℕ) (line : List PpToken) (origin : Origin) (plain : Bool) (definition : Definition) → AreIn file line → Gives line origin plain definition → definition.place.file ≡ file
  file_is file [] origin plain definition all gives = absurd gives
  file_is file (hash ∷ []) origin plain definition all gives = absurd gives
  file_is file (hash ∷ (word ∷ [])) origin plain definition all gives = absurd gives
  file_is file (hash ∷ (word ∷ (name ∷ behind))) origin plain definition all gives = ap (λ (d : Definition). d.place.file) gives.1 ∙ all.1.1.0

  header_origin : (file : ℕ) → nat_lt file header_count ≡ true → is_file (origin_of file) ≡ false
  header_origin file first = ap (λ (b : Bool). is_file (if b then Header else File)) first

  made_here : (file : ℕ) (files : Catalogue) (start : PpToken) (behind : List PpToken) → Knows file files → IsHere file start behind → (definition : Definition)
      → Gives (start ∷ behind) (origin_of file) (is_plain_head (bytes_in setting files file) start (start ∷ behind)) definition → IsMadeAmong (length files.names) definition
  made_here file files start behind knows here definition gives = (
    λ in_file. subst (λ n. IsMadeIn n (bytes_for setting n) definition) (sym its_file) (by in_file knows here.1),
    λ in_file. subst (λ n. n < length files.names) (sym its_file) (among in_file knows),
  )
    where
      its_file : definition.place.file ≡ file
      its_file = file_is file (start ∷ behind) (origin_of file) _ definition here.0 gives

      no_header : is_file definition.origin ≡ true → nat_lt file header_count ≡ true → ⊥
      no_header in_file first = true≢false (sym in_file ∙ ap is_file (origin_is (start ∷ behind) (origin_of file) _ definition gives) ∙ header_origin file first)

      among : is_file definition.origin ≡ true → Knows file files → file < length files.names
      among in_file (inl first) = absurd (no_header in_file first)
      among in_file (inr own) = own.0

      by : is_file definition.origin ≡ true → Knows file files → (nat_lt file header_count ≡ true) ⊎ IsDirectiveIn file (bytes_for setting file) start behind → IsMadeIn file (bytes_for setting file) definition
      by in_file (inl first) there = absurd (no_header in_file first)
      by in_file (inr own) (inl first) = absurd (no_header in_file first)
      by in_file (inr own) (inr there) =
          let same : bytes_in setting files file ≡ bytes_for setting file = ap (λ name. unwrap_or (setting.source name) []) own.1 in
          (start, behind, there, subst (λ (bytes : List ℕ). Gives (start ∷ behind) (origin_of file) (is_plain_head bytes start (start ∷ behind)) definition) same gives)

  define_steps : (main : ℕ) (s t : State) (file : ℕ) (start : PpToken) (behind : List PpToken) → Knows file s.files → IsHere file start behind
      → DoesDefine main file (bytes_in setting s.files file) start behind s (Ok t) → Steps s t
  define_steps main s t file start behind knows here is = by (begins_with_name (drop 1 behind)) is
    where
      by : (b : Bool) → MatchBool b (DefinesLine main (start ∷ behind) (origin_of file) (is_plain_head (bytes_in setting s.files file) start (start ∷ behind)) s (Ok t))
          (◌≡◌ {A = Outcome} (Ok t) (Err (refusal refusals.directive start.place))) → Steps s t
      by true k =
          line_steps main s t (start ∷ behind) (origin_of file) (is_plain_head (bytes_in setting s.files file) start (start ∷ behind)) (made_here file s.files start behind knows here) k
      by false k = never s t _ k

  undef_steps : (s t : State) (start : PpToken) (operands : List PpToken) → ◌≡◌ {A = Outcome} (Ok t) (after_undef start operands s) → Steps s t
  undef_steps s t start [] is = never s t _ is
  undef_steps s t start (name ∷ others) is = by (is_macro_name name) is
    where
      by : (b : Bool) → ◌≡◌ {A = Outcome} (Ok t) (if b then Ok (with_undefined name s) else Err (refusal refusals.directive start.place)) → Steps s t
      by true k = ends s t (with_undefined name s) (stays s) k
      by false k = never s t _ k

  pragma_steps : (s t : State) (file : ℕ) (start : PpToken) (operands : List PpToken) → ◌≡◌ {A = Outcome} (Ok t) (after_pragma file start operands s) → Steps s t
  pragma_steps s t file start operands is = by (is_once operands) is
    where
      by : (b : Bool) → ◌≡◌ {A = Outcome} (Ok t) (if b then Ok (record s { once = with_number s.once file }) else Err (refusal refusals.out_of_subset start.place)) → Steps s t
      by true k = ends s t _ (stays s) k
      by false k = never s t _ k

  -- ---- inclusion

  abbrev Entering : (ℕ → State → Outcome → Type 0) → Type 0
  Entering E = (number : ℕ) (s t : State) → Knows number s.files → E number s (Ok t) → Steps s t

  over_files : (s t : State) (files : Catalogue) → Grows s.files files → Steps (record s { files = files }) t → Steps s t
  over_files s t files more steps = (grows_through s.files files t.files more steps.0, λ made. steps.1 (later s.table.read made))
    where
      longer : length s.files.names ≤ length files.names
      longer = let all = ap length more.1 ∙ length-append s.files.names more.0 in omega (arith, all)

      later : (definitions : List Definition) → AllByRecursion (IsMadeAmong (length s.files.names)) definitions → AllByRecursion (IsMadeAmong (length files.names)) definitions
      later [] h = tt
      later (definition ∷ definitions) h = (
        (h.0.0, λ in_file. let few = h.0.1 in_file in let more = longer in omega (arith, few, more)),
        later definitions h.1,
      )

  includes_steps : (E : ℕ → State → Outcome → Type 0) → Entering E → (start : PpToken) (s t : State) (found : Sought) → Finds s.files found → (o : Option ℕ) → found.number ≡ o
      → Includes setting E start o found.files s (Ok t) → Steps s t
  includes_steps E enters start s t found finds None e is = never s t _ is
  includes_steps E enters start s t found finds (Some number) e is = by (nat_lt s.inclusions most_inclusions) is
    where
      by : (b : Bool) → MatchBool b (E number (counted found.files s) (Ok t)) (◌≡◌ {A = Outcome} (Ok t) (Err (limit limits.inclusions setting.main))) → Steps s t
      by true k = over_files s t found.files finds.grows (let inner = enters number (counted found.files s) t (finds.knows number e) k in (inner.0, inner.1))
      by false k = never s t _ k

  include_steps : (E : ℕ → State → Outcome → Type 0) → Entering E → (file : ℕ) (start : PpToken) (operands : List PpToken) (s t : State) → DoesInclude setting E file start operands s (Ok t) → Steps s t
  include_steps E enters file start [] s t is = never s t _ is
  include_steps E enters file start (header ∷ others) s t is = by (is_header_kind header.kind) is
    where
      then_found : Then (SearchesFor setting file header.spelling s.files) (λ sought. Includes setting E start sought.number sought.files s) (Ok t) → Steps s t
      then_found (inl x) = never s t x.0 x.2
      then_found (inr x) =
          includes_steps E enters start s t x.0
          (search (header_number (header_name header.spelling)) (header_first (header_name header.spelling))
          (candidates (header_name header.spelling) (places (slice_index_or s.files.names file []) (is_quoted header.spelling) setting.include)) s.files x.0 x.1) x.0.number refl x.2

      by : (b : Bool) → MatchBool b (Then (SearchesFor setting file header.spelling s.files) (λ sought. Includes setting E start sought.number sought.files s) (Ok t))
          (◌≡◌ {A = Outcome} (Ok t) (Err (refusal refusals.out_of_subset start.place))) → Steps s t
      by true k = then_found k
      by false k = never s t _ k

  -- ---- directives

  read_steps : (E : ℕ → State → Outcome → Type 0) → Entering E → (file : ℕ) (kind : Directive) (start : PpToken) (behind : List PpToken) (s t : State) → Knows file s.files
      → IsHere file start behind → DoesRead setting E file kind start behind s (Ok t) → Steps s t
  read_steps E enters file Include start behind s t knows here is = include_steps E enters file start (drop 1 behind) s t is
  read_steps E enters file Define start behind s t knows here is = define_steps setting.main s t file start behind knows here is
  read_steps E enters file Undef start behind s t knows here is = undef_steps s t start (drop 1 behind) is
  read_steps E enters file Line start behind s t knows here is = never s t _ is
  read_steps E enters file Error start behind s t knows here is = never s t _ is
  read_steps E enters file Pragma start behind s t knows here is = pragma_steps s t file start (drop 1 behind) is
  read_steps E enters file Null start behind s t knows here is = ends s t s (stays s) is
  read_steps E enters file Unknown start behind s t knows here is = never s t _ is
  read_steps E enters file other start behind s t knows here is = absurd is

  other_steps : (E : ℕ → State → Outcome → Type 0) → Entering E → (file : ℕ) (kind : Directive) (start : PpToken) (behind : List PpToken) (s t : State) → Knows file s.files
      → IsHere file start behind → (b : Bool) → MatchBool b (DoesRead setting E file kind start behind s (Ok t)) (◌≡◌ {A = Outcome} (Ok t) (Ok s)) → Steps s t
  other_steps E enters file kind start behind s t knows here true is = read_steps E enters file kind start behind s t knows here is
  other_steps E enters file kind start behind s t knows here false is = ends s t s (stays s) is

  directive_steps : (E : ℕ → State → Outcome → Type 0) → Entering E → (file : ℕ) (kind : Directive) (start : PpToken) (behind : List PpToken) (s t : State) → Knows file s.files
      → IsHere file start behind → DoesDirective setting E file kind start behind s (Ok t) → Steps s t
  directive_steps E enters file If start behind s t knows here is = opens_steps s t start (Evaluates setting.main start (drop 1 behind) s) (evaluates_steps setting.main start (drop 1 behind) s) is
  directive_steps E enters file Ifdef start behind s t knows here is = opens_steps s t start (λ result. result ≡ defined_test true start (drop 1 behind) s) (defined_steps true start (drop 1 behind) s) is
  directive_steps E enters file Ifndef start behind s t knows here is = opens_steps s t start (λ result. result ≡ defined_test false start (drop 1 behind) s) (defined_steps false start (drop 1 behind) s) is
  directive_steps E enters file Elif start behind s t knows here is = elif_steps s t start s.sections (Evaluates setting.main start (drop 1 behind) s) (evaluates_steps setting.main start (drop 1 behind) s) is
  directive_steps E enters file Else start behind s t knows here is = else_steps s t start s.sections is
  directive_steps E enters file Endif start behind s t knows here is = endif_steps s t start s.sections is
  directive_steps E enters file other start behind s t knows here is = other_steps E enters file other start behind s t knows here (is_read s.sections) is

  -- ---- files

  abbrev IsHerePart : ℕ → Part → Type 0
  IsHerePart file part = IsPartAt file part × ((nat_lt file header_count ≡ true) ⊎ IsAt (parts_in file (bytes_for setting file)) part)

  part_steps : (E : ℕ → State → Outcome → Type 0) → Entering E → (file : ℕ) (part : Part) (s t : State) → Knows file s.files → IsHerePart file part → ReadsPart setting E file part s (Ok t) → Steps s t
  part_steps E enters file (directive start behind) s t knows here is = directive_steps E enters file (directive_of behind) start behind s t knows here is
  part_steps E enters file (text tokens) s t knows here is = by (is_read s.sections) is
    where
      by : (b : Bool) → ◌≡◌ {A = Outcome} (Ok t) (if b then after_text setting.main tokens s else Ok s) → Steps s t
      by true k = text_steps setting.main s t (expansion_in setting.main s tokens) k
      by false k = ends s t s (stays s) k

  parts_steps : (E : ℕ → State → Outcome → Type 0) → Entering E → (file : ℕ) (parts : List Part) (s t : State) → Knows file s.files → AllByRecursion (IsHerePart file) parts
      → ReadsParts setting E file parts s (Ok t) → Steps s t
  unfolding ReadsParts
  parts_steps E enters file [] s t knows here is = end_steps s t s.sections is
  parts_steps E enters file (part ∷ parts) s t knows here (inl x) = never s t x.0 x.2
  parts_steps E enters file (part ∷ parts) s t knows here (inr x) =
      let first = part_steps E enters file part s x.0 knows here.0 x.1 in
      through s x.0 t first (parts_steps E enters file parts x.0 t (knows_later file s.files x.0.files first.0 knows) here.1 x.2)

  here_parts : (file : ℕ) (files : Catalogue) → Knows file files → AllByRecursion (IsHerePart file) (parts_of (tokens_in setting files file))
  here_parts file files (inl first) = with_first (parts_of (tokens_in setting files file)) (parts_at file (bytes_in setting files file))
    where
      with_first : (parts : List Part) → AllByRecursion (IsPartAt file) parts → AllByRecursion (IsHerePart file) parts
      with_first [] h = tt
      with_first (part ∷ parts) h = ((h.0, inl first), with_first parts h.1)
  here_parts file files (inr own) =
      let same : bytes_in setting files file ≡ bytes_for setting file = ap (λ name. unwrap_or (setting.source name) []) own.1 in
      subst (λ (bytes : List ℕ). AllByRecursion (IsHerePart file) (parts_in file bytes)) (sym same)
      (with_place (parts_in file (bytes_for setting file)) (parts_at file (bytes_for setting file)) (all_indexed (parts_in file (bytes_for setting file))))
    where
      with_place : (parts : List Part) → AllByRecursion (IsPartAt file) parts → AllByRecursion (IsAt (parts_in file (bytes_for setting file))) parts → AllByRecursion (IsHerePart file) parts
      with_place [] h k = tt
      with_place (part ∷ parts) h k = ((h.0, inr k.0), with_place parts h.1 k.1)

  file_steps : (E : ℕ → State → Outcome → Type 0) → Entering E → Entering (ReadsFile setting E)
  file_steps E enters file s t knows (inl x) = never s t x.0 x.2
  file_steps E enters file s t knows (inr x) =
      let inner = parts_steps E enters file (parts_of (tokens_in setting s.files file)) (begun file s) x.0 knows (here_parts file s.files knows) x.1 in
      ends s t (within s.sections x.0) (inner.0, inner.1) x.2

  enters_steps : (more : ℕ) → Entering (Enters setting more)
  unfolding Enters
  enters_steps zero file s t knows is = never s t _ is
  enters_steps (suc more) file s t knows is = by (is_passed file s) is (enters_steps more)
    where
      by : (b : Bool) → MatchBool b (◌≡◌ {A = Outcome} (Ok t) (Ok s)) (ReadsFile setting (Enters setting more) file s (Ok t)) → Entering (Enters setting more) → Steps s t
      by true k inner = ends s t s (stays s) k
      by false k inner = file_steps (Enters setting more) inner file s t knows k

  -- ---- the unit

  manifest_made : (count : ℕ) (line : List PpToken) (definition : Definition) → Gives line Manifest true definition → IsMadeAmong count definition
  manifest_made count line definition gives = (λ in_file. absurd (no_file in_file), λ in_file. absurd (no_file in_file))
    where
      no_file : is_file definition.origin ≡ true → ⊥
      no_file in_file = true≢false (sym in_file ∙ ap is_file (origin_is line Manifest true definition gives))

  manifest_steps : (define : List ℕ) (s t : State) (r : Result (List PpToken) Refusal) → DefinesText setting.main define r s (Ok t) → Steps s t
  manifest_steps define s t (Ok tokens) is =
      line_steps setting.main s t (define_line setting.main define tokens) Manifest true (manifest_made (length s.files.names) (define_line setting.main define tokens)) is
  manifest_steps define s t (Err refused) is = never s t _ is

  manifests_steps : (defines : List (List ℕ)) (s t : State) → DoesManifests setting defines s (Ok t) → Steps s t
  unfolding DoesManifests
  manifests_steps [] s t is = ends s t s (stays s) is
  manifests_steps (define ∷ defines) s t (inl x) = never s t x.0 x.2
  manifests_steps (define ∷ defines) s t (inr x) =
      through s x.0 t (manifest_steps define s x.0 (reading_of setting.main (define_text define)) x.1) (manifests_steps defines x.0 t x.2)

  main_steps : (name : List ℕ) (s t : State) → ReadsMain setting name s (Ok t) → Steps s t
  main_steps name s t (inl x) = never s t x.0 x.2
  main_steps name s t (inr x) = by (search None (λ number e. absurd (no_number number e)) (name ∷ []) s.files x.0 x.1) x.0.number refl x.2
    where
      no_number : (number : ℕ) → ◌≡◌ {A = Option ℕ} None (Some number) → ⊥
      no_number number e = cc

      by : Finds s.files x.0 → (o : Option ℕ) → x.0.number ≡ o → ReadsFound setting o x.0.files s (Ok t) → Steps s t
      by finds None e is = never s t _ is
      by finds (Some number) e is =
          over_files s t x.0.files finds.grows (file_steps (Enters setting most_nested) (enters_steps most_nested) number (record s { files = x.0.files }) t (finds.knows number e) is)

  unit_steps : (name : List ℕ) (defines : List (List ℕ)) (s t : State) → ReadsUnit setting name defines s (Ok t) → Steps s t
  unfolding ReadsUnit
  unit_steps name defines s t (inl x) = never s t x.0 x.2
  unit_steps name defines s t (inr x) = through s x.0 t (manifests_steps defines s x.0 x.1) (main_steps name x.0 t x.2)

reads_made : (P : Definition → Type 0) (definitions : List Definition) (before : List ℕ) → AllByRecursion P definitions → AllByRecursion (λ (read : Read). P read.definition) (reads_of definitions before)
reads_made P [] before h = tt
reads_made P (definition ∷ definitions) [] h = tt
reads_made P (definition ∷ definitions) (count ∷ before) h = (h.0, reads_made P definitions before h.1)

-- what holds of all definitions of a unit
unit_both : (files : Files) (unit : Source) (old new : Loaded) (pp : UnitTokens) → IsReadAs (setting_of old new files unit) unit old (Ok pp) new
    → AllByRecursion (λ (read : Read). IsMadeAmong (setting_of old new files unit) (length new.names) read.definition) pp.read
unit_both files unit old new pp is =
    let setting = setting_of old new files unit in
    let count : length is.0.files.names ≡ length new.names = ap (λ (files : Catalogue). length files.names) is.3 in
    subst (λ (tokens : UnitTokens). AllByRecursion (λ (read : Read). IsMadeAmong setting (length new.names) read.definition) tokens.read) (sym is.2)
    (reads_made (IsMadeAmong setting (length new.names)) is.0.table.read is.0.before
    (subst (λ n. AllByRecursion (IsMadeAmong setting n) is.0.table.read) count ((unit_steps setting unit.file unit.define (state_with (first_files old unit)) is.0 is.1.1).1 tt)))

all_map : (P Q : Read → Type 0) → ((read : Read) → P read → Q read) → (reads : List Read) → AllByRecursion P reads → AllByRecursion Q reads
all_map P Q f [] h = tt
all_map P Q f (read ∷ reads) h = (f read h.0, all_map P Q f reads h.1)

pub unit_made : (files : Files) (unit : Source) (old new : Loaded) (pp : UnitTokens) → IsReadAs (setting_of old new files unit) unit old (Ok pp) new
    → AllByRecursion (λ (read : Read). IsMade (setting_of old new files unit) read.definition) pp.read
unit_made files unit old new pp is = all_map _ (λ read. IsMade (setting_of old new files unit) read.definition) (λ read both. both.0) pp.read (unit_both files unit old new pp is)

pub unit_among : (files : Files) (unit : Source) (old new : Loaded) (pp : UnitTokens) → IsReadAs (setting_of old new files unit) unit old (Ok pp) new
    → AllByRecursion (λ (read : Read). is_file read.definition.origin ≡ true → read.definition.place.file < length new.names) pp.read
unit_among files unit old new pp is = all_map _ (λ read. is_file read.definition.origin ≡ true → read.definition.place.file < length new.names) (λ read both. both.1) pp.read (unit_both files unit old new pp is)
