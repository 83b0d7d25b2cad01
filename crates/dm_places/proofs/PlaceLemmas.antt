-- Each refusal of a unit's reading lies in the file that it names, and so does each token.
use Rattle.std.proofs.Common.{◌≡◌, ℕ, zero, suc, ◌<◌, Bool, true, false, cond, ◌⊎◌, inl, inr, bytes_eq, List, [], ◌∷◌, ◌++◌, length, drop, map, get_or, Option, None, Some, Result, Ok, Err, MatchBool, IfErr, nat_lt, refl, sym, ap, ◌∙◌, subst, arith, append_assoc}
use Rattle.std.specs.Prelude.{not, nat_le, unwrap_or, if◌then◌else◌}
use Rattle.std.specs.List.{list_any, AllByRecursion}
use Rattle.std.specs.Result.{result_unwrap_or}
use Rattle.std.proofs.lemmas.List.{append-nil, length-append, get_or_append_left}
use Rattle.dm_token.specs.Limits.{most_work, most_tokens, most_inclusions, source_length_limit, most_files}
use Rattle.dm_token.specs.LimitNumbers as limits
use Rattle.dm_token.specs.Refusals as refusals
use Rattle.dm_token.specs.declared.place.Place.{Place}
use Rattle.dm_token.specs.declared.stop.Stop.{Stop}
use Rattle.dm_token.specs.declared.stop.Stop.TheVariants.{Memory, Refused, Limit, ReadFault}
use Rattle.dm_token.specs.declared.stop.Refusal.{Refusal}
use Rattle.dm_token.specs.declared.token.PpToken.{PpToken}
use Rattle.dm_token.specs.declared.token.Token.{Token}
use Rattle.dm_token.specs.declared.expansion.Definition.{Definition}
use Rattle.dm_token.specs.declared.expansion.Origin.{Origin}
use Rattle.dm_token.specs.declared.expansion.Origin.TheVariants.{Manifest}
use Rattle.dm_token.specs.declared.unit.Use.{Use}
use Rattle.dm_macro.specs.Signs.{is_identifier, is_macro_name}
use Rattle.dm_macro.specs.Tables.{Table, Defines}
use Rattle.dm_expand.specs.AnswerViews.{looked_up}
use Rattle.dm_expand.specs.Expansion.{Answer, expansion_of}
use Rattle.dm_token.specs.declared.unit.Unit.{Unit as Source}
use Rattle.dm_io.specs.Files.{Files}
use Rattle.dm_search.specs.Fresh.{StartsWithHeaders}
use Rattle.dm_search.specs.Loaded.{Loaded}
use Rattle.dm_search.specs.Headers.{header_number}
use Rattle.dm_search.specs.Joining.{candidates, places}
use Rattle.dm_unit.specs.declared.directive.Directive.{Directive}
use Rattle.dm_unit.specs.declared.directive.Directive.TheVariants.{If, Ifdef, Ifndef, Elif, Else, Endif, Include, Define, Undef, Line, Error, Pragma, Null, Unknown}
use Rattle.dm_unit.specs.declared.section.Section.{Section}
use Rattle.dm_unit.specs.declared.section.Stage.{Stage}
use Rattle.dm_unit.specs.declared.section.Stage.TheVariants.{Read, Waiting, Over}
use Rattle.dm_unit.specs.States.{Setting, Catalogue, State, Outcome, Then, refusal, limit, in_unit, for_unit, expansion_in}
use Rattle.dm_unit.specs.Sources.{bytes_in, tokens_in, reading_of}
use Rattle.dm_unit.specs.Lines.{Part, directive, text, parts_of}
use Rattle.dm_unit.specs.Directives.{directive_of}
use Rattle.dm_unit.specs.Sections.{is_read, after_else, after_skipped_elif, after_elif}
use Rattle.dm_unit.specs.Includes.{Sought, sought, Searches, SearchesFor, LooksAt, number_in, numbered, is_found, with_found, found_as, first_found, found_files, if_readable, is_header_kind, is_quoted, header_name}
use Rattle.dm_unit.specs.Definitions.{CannotDefine, DefinesLine, DoesDefine, with_definition, begins_with_name, origin_of, is_plain_head, with_undefined, after_undef, use_of, define_line, define_text, DefinesText, DoesManifest, first_place, at_start, one_token, implied_body, is_equals_sign}
use Rattle.dm_unit.specs.Conditions.{Tested, tested, no_condition, Judged, JudgesExpanded, Evaluates, defined_test, names_asked, replaced, is_defined, is_defined_word}
use Rattle.dm_unit.specs.Readings.{with_text, after_expansion, after_text, within, pushed, opens, Opens, lost, DoesElifAt, DoesElif, else_in, endif_in, end_in, is_once, with_number, after_pragma, counted, Includes, DoesInclude, DoesRead, DoesDirective, ReadsPart, ReadsParts, begun, ReadsFile, is_passed, Enters, most_nested, DoesManifests, absent_place, ReadsFound, ReadsMain, ReadsUnit}
use Rattle.dm_unit.specs.Loaders.{shown}
use Rattle.dm_unit.specs.Units.{setting_of, first_files, state_with, AreNumbered}
use Rattle.dm_unit.proofs.FileLemmas.{header-held}
use Rattle.dm_local.proofs.CatalogueLemmas.{called, longer, own-numbered, called-numbered, grown-numbered}
use Rattle.dm_local.proofs.ExpansionLemmas.{TokensIn, DefinitionsIn, AnswerIn, StopIn, Stands, all-append, expansion-alike}
use Rattle.dm_local.proofs.TokenLemmas.{defines-in, replaced-in}
use Rattle.dm_places.specs.Places.{IsPlaceOf, LiesIn, CanBeRead}
use Rattle.dm_places.proofs.PartLemmas.{PartIn, parts-in, cannot-in}
use Rattle.dm_places.proofs.TextLemmas.{AreOf, IsReadIn, reading-stands}

-- Names for which a reading may look are such, whatever that says of them.
module _ (one : Setting) (Fine : List ℕ → Type 0) (fine : (name from : List ℕ) (quoted : Bool) (include : List (List ℕ)) → AllByRecursion Fine (candidates name (places from quoted include))) where
  -- such names come behind those that are there
  abbrev pub Longer : Catalogue → Catalogue → Type 0
  Longer files later = (more : List (List ℕ)) × (later.names ≡ files.names ++ more) × AllByRecursion Fine more

  longer-itself : (files : Catalogue) → Longer files files
  longer-itself files = ([], sym (append-nil files.names), tt)

  pub longer-on : (a b c : Catalogue) → Longer a b → Longer b c → Longer a c
  longer-on a b c first second =
      (first.0 ++ second.0, second.1 ∙ ap (λ ns. ns ++ second.0) first.1 ∙ append_assoc a.names first.0 second.0, all-append Fine first.0 second.0 first.2 second.2)

  pub numbered-longer : (files : Catalogue) (name : List ℕ) → Fine name → Longer files (numbered name files)
  numbered-longer files name is = by (list_any (bytes_eq name) files.names)
    where
      by : (b : Bool) → Longer files (cond b files (record { names = files.names ++ name ∷ []; found = files.found ++ false ∷ [] }))
      by true = ([], sym (append-nil files.names), tt)
      by false = (name ∷ [], refl, (is, tt))

  abbrev In : Place → Type 0
  In place = LiesIn one place

  -- the number is that of the file's name
  abbrev pub IsNamed : Catalogue → ℕ → Type 0
  IsNamed files file = (file < length files.names) × (one.named file ≡ called files file)

  named-later : (a b : Catalogue) (file : ℕ) → Longer a b → IsNamed a file → IsNamed b file
  named-later a b file longer named =
      let all = ap length longer.1 ∙ length-append a.names longer.0 in
      (omega (arith, named.0, all), named.1 ∙ sym (ap (λ ns. get_or ns file []) longer.1 ∙ get_or_append_left a.names longer.0 [] file named.0))

  -- What holds of each state of a reading.
  pub record Lies (files : Catalogue) (macros : List Definition) (sections : List Section) (tokens : List Token) : Type 0 where
    pub headers : (name : List ℕ) (file : ℕ) → header_number name ≡ Some file → IsNamed files file
    pub bodies : DefinitionsIn In macros
    pub opened : AllByRecursion (λ (section : Section). In section.hash) sections
    pub tokens_lie : AllByRecursion (λ (each : Token). In each.pp.place) tokens

  abbrev pub LiesState : State → Type 0
  LiesState s = Lies s.files s.table.read s.sections s.tokens

  -- A step ends in such a state, or is refused in a file.
  abbrev pub Steps : {A : Type 0} → (A → State) → State → Result A Stop → Type 0
  Steps state_of s (Ok m) = LiesState (state_of m) × Longer s.files (state_of m).files
  Steps state_of s (Err stop) = StopIn In stop

  abbrev pub Goes : State → Outcome → Type 0
  Goes s outcome = Steps (λ t. t) s outcome

  goes-on : (s m : State) (outcome : Outcome) → Longer s.files m.files → Goes m outcome → Goes s outcome
  goes-on s m (Ok t) longer goes = (goes.0, longer-on s.files m.files t.files longer goes.1)
  goes-on s m (Err stop) longer goes = goes

  then-goes : {A : Type 0} (state_of : A → State) (First : Result A Stop → Type 0) (Second : A → Outcome → Type 0) (s : State) (outcome : Outcome)
      → ((r : Result A Stop) → First r → Steps state_of s r) → ((m : A) → LiesState (state_of m) → Longer s.files (state_of m).files → Second m outcome → Goes (state_of m) outcome) → Then First Second outcome → Goes s outcome
  then-goes state_of First Second s outcome first second (inl x) = subst (Goes s) (sym x.2) (first (Err x.0) x.1)
  then-goes state_of First Second s outcome first second (inr x) =
      let a = first (Ok x.0) x.1 in goes-on s (state_of x.0) outcome a.1 (second x.0 a.0 a.1 x.2)

  match-goes : (b : Bool) (P Q : Type 0) (s : State) (outcome : Outcome) → (P → Goes s outcome) → (Q → Goes s outcome) → MatchBool b P Q → Goes s outcome
  match-goes true P Q s outcome first second = first
  match-goes false P Q s outcome first second = second

  is-goes : (s : State) (outcome made : Outcome) → Goes s made → outcome ≡ made → Goes s outcome
  is-goes s outcome made goes is = subst (Goes s) (sym is) goes

  stays : (s : State) → LiesState s → Goes s (Ok s)
  stays s lies = (lies, longer-itself s.files)

  -- TEXT GROUPS

  unit-stop : (main : ℕ) (stop : Stop) → StopIn In stop → StopIn In (in_unit main stop)
  unit-stop main Memory lies = lies
  unit-stop main (Refused refused) lies = lies
  unit-stop main (Limit passed) lies = tt
  unit-stop main (ReadFault file) lies = tt

  expansion-lies : (s : State) (tokens : List PpToken) → LiesState s → TokensIn In tokens → Stands In (AnswerIn In) (expansion_in one.main s tokens)
  expansion-lies s tokens lies all = by (expansion_of (looked_up s.table s.files.names) tokens s.instance s.spent) (expansion-alike In s.table s.files.names s.files.names tokens s.instance s.spent (λ place within. refl) lies.bodies all).1
    where
      by : (r : Result Answer Stop) → Stands In (AnswerIn In) r → Stands In (AnswerIn In) (for_unit one.main r)
      by (Ok answer) stands = stands
      by (Err stop) stands = unit-stop one.main stop stands

  text-goes : (s : State) (tokens : List PpToken) → LiesState s → TokensIn In tokens → Goes s (after_text one.main tokens s)
  text-goes s tokens lies all = by (expansion_in one.main s tokens) (expansion-lies s tokens lies all)
    where
      few : (answer : Answer) → AnswerIn In answer → (b : Bool) → Goes s (cond b (Err (limit limits.unit_tokens one.main)) (Ok (with_text answer s)))
      few answer stands true = tt
      few answer stands false =
          (record { headers = lies.headers; bodies = lies.bodies; opened = lies.opened; tokens_lie = all-append (λ (each : Token). In each.pp.place) s.tokens answer.tokens lies.tokens_lie stands.0 }, longer-itself s.files)

      by : (r : Result Answer Stop) → Stands In (AnswerIn In) r → Goes s (after_expansion one.main s r)
      by (Ok answer) stands = few answer stands (nat_lt most_tokens (length (s.tokens ++ answer.tokens)))
      by (Err stop) stands = stands

  -- CONDITIONS

  abbrev Tests : State → Result Tested Stop → Type 0
  Tests s result = Steps (λ (m : Tested). m.state) s result

  judged-goes : (s : State) (start : PpToken) (asked : List Use) (r : Result Answer Stop) (result : Result Tested Stop) → LiesState s → In start.place → Stands In (AnswerIn In) r → JudgesExpanded start asked r s result → Tests s result
  judged-goes s start asked (Err stop) result lies begins stands is = subst (Tests s) (sym is) stands
  judged-goes s start asked (Ok answer) result lies begins stands is = by (list_any (λ (token : Token). is_defined_word token.pp) answer.tokens) is
    where
      judged : Judged start asked answer s result → Tests s result
      judged (inl x) = subst (Tests s) (sym x.4) (record { headers = lies.headers; bodies = lies.bodies; opened = lies.opened; tokens_lie = lies.tokens_lie }, longer-itself s.files)
      judged (inr x) = subst (Tests s) (sym x.1) begins

      by : (b : Bool) → MatchBool b (result ≡ no_condition start) (Judged start asked answer s result) → Tests s result
      by true e = subst (Tests s) (sym e) begins
      by false e = judged e

  evaluates-goes : (s : State) (start : PpToken) (operands : List PpToken) (result : Result Tested Stop) → LiesState s → In start.place → TokensIn In operands → Evaluates one.main start operands s result → Tests s result
  evaluates-goes s start operands result lies begins all is =
      judged-goes s start (names_asked s.table operands) (expansion_in one.main s (replaced s.table operands)) result lies begins (expansion-lies s (replaced s.table operands) lies (replaced-in In s.table operands all)) is

  defined-goes : (wanted : Bool) (s : State) (start : PpToken) (operands : List PpToken) → LiesState s → In start.place → Tests s (defined_test wanted start operands s)
  defined-goes wanted s start [] lies begins = begins
  defined-goes wanted s start (name ∷ others) lies begins = by (is_identifier name)
    where
      by : (b : Bool) → Tests s (cond b (Ok (tested (if wanted then is_defined s.table name else not (is_defined s.table name)) (record s { uses = s.uses ++ use_of s.table name ∷ [] }))) (Err (refusal refusals.directive start.place)))
      by true = (record { headers = lies.headers; bodies = lies.bodies; opened = lies.opened; tokens_lie = lies.tokens_lie }, longer-itself s.files)
      by false = begins

  -- CONDITIONAL INCLUSION

  -- a state with these sections
  within-goes : (s : State) (sections : List Section) → LiesState s → AllByRecursion (λ (section : Section). In section.hash) sections → Goes s (Ok (within sections s))
  within-goes s sections lies all = (record { headers = lies.headers; bodies = lies.bodies; opened = all; tokens_lie = lies.tokens_lie }, longer-itself s.files)

  opens-goes : (s : State) (start : PpToken) (First : Result Tested Stop → Type 0) (outcome : Outcome) → LiesState s → In start.place → ((r : Result Tested Stop) → First r → Tests s r) → Opens start s First outcome → Goes s outcome
  opens-goes s start First outcome lies begins tests =
      match-goes (is_read s.sections) (Then First (λ tested result. result ≡ opens start tested) outcome) (outcome ≡ pushed start.place Over s) s outcome
      (then-goes (λ (m : Tested). m.state) First (λ tested result. result ≡ opens start tested) s outcome tests
      (λ m lies' longer is. is-goes m.state outcome (opens start m) (within-goes m.state _ lies' (begins, lies'.opened)) is))
      (is-goes s outcome (pushed start.place Over s) (within-goes s _ lies (begins, lies.opened)))

  elif_at-goes : (s : State) (stage : Stage) (section : Section) (outer : List Section) (First : Result Tested Stop → Type 0) (outcome : Outcome) → LiesState s → AllByRecursion (λ (section : Section). In section.hash) (section ∷ outer)
      → ((r : Result Tested Stop) → First r → Tests s r) → DoesElifAt stage section outer First s outcome → Goes s outcome
  elif_at-goes s Waiting section outer First outcome lies all tests =
      then-goes (λ (m : Tested). m.state) First (λ tested result. result ≡ Ok (within (after_elif tested.truth section ∷ outer) tested.state)) s outcome tests
      (λ m lies' longer is. is-goes m.state outcome (Ok (within (after_elif m.truth section ∷ outer) m.state)) (within-goes m.state _ lies' all) is)
  elif_at-goes s Read section outer First outcome lies all tests = is-goes s outcome (Ok (within (after_skipped_elif section ∷ outer) s)) (within-goes s _ lies all)
  elif_at-goes s Over section outer First outcome lies all tests = is-goes s outcome (Ok (within (after_skipped_elif section ∷ outer) s)) (within-goes s _ lies all)

  elif-goes : (s : State) (start : PpToken) (sections : List Section) (First : Result Tested Stop → Type 0) (outcome : Outcome) → LiesState s → In start.place → AllByRecursion (λ (section : Section). In section.hash) sections
      → ((r : Result Tested Stop) → First r → Tests s r) → DoesElif start sections First s outcome → Goes s outcome
  elif-goes s start [] First outcome lies begins all tests is = is-goes s outcome (lost start) begins is
  elif-goes s start (section ∷ outer) First outcome lies begins all tests is =
      match-goes section.has_else (outcome ≡ lost start) (DoesElifAt section.stage section outer First s outcome) s outcome (is-goes s outcome (lost start) begins) (elif_at-goes s section.stage section outer First outcome lies all tests) is

  else-goes : (s : State) (start : PpToken) (sections : List Section) → LiesState s → In start.place → AllByRecursion (λ (section : Section). In section.hash) sections → Goes s (else_in start sections s)
  else-goes s start [] lies begins all = begins
  else-goes s start (section ∷ outer) lies begins all = by section.has_else
    where
      by : (b : Bool) → Goes s (cond b (lost start) (Ok (within (after_else section ∷ outer) s)))
      by true = begins
      by false = within-goes s (after_else section ∷ outer) lies all

  endif-goes : (s : State) (start : PpToken) (sections : List Section) → LiesState s → In start.place → AllByRecursion (λ (section : Section). In section.hash) sections → Goes s (endif_in start sections s)
  endif-goes s start [] lies begins all = begins
  endif-goes s start (section ∷ outer) lies begins all = within-goes s outer lies all.1

  end-goes : (s : State) (sections : List Section) → LiesState s → AllByRecursion (λ (section : Section). In section.hash) sections → Goes s (end_in sections s)
  end-goes s [] lies all = stays s lies
  end-goes s (section ∷ outer) lies all = all.0

  -- DEFINITIONS

  line-goes : (s : State) (line : List PpToken) (origin : Origin) (plain : Bool) (outcome : Outcome) → LiesState s → TokensIn In line → DefinesLine one.main line origin plain s outcome → Goes s outcome
  line-goes s line origin plain outcome lies all =
      match-goes (nat_lt s.spent most_work)
      (((table : Table) × Defines s.table line origin plain table × (outcome ≡ Ok (with_definition table s))) ⊎ ((stop : Stop) × CannotDefine s.table line origin plain stop × (outcome ≡ Err stop)))
      (outcome ≡ Err (limit limits.work one.main)) s outcome by (is-goes s outcome (Err (limit limits.work one.main)) tt)
    where
      by : ((table : Table) × Defines s.table line origin plain table × (outcome ≡ Ok (with_definition table s))) ⊎ ((stop : Stop) × CannotDefine s.table line origin plain stop × (outcome ≡ Err stop)) → Goes s outcome
      by (inl x) =
          is-goes s outcome (Ok (with_definition x.0 s))
          (record { headers = lies.headers; bodies = defines-in In s.table x.0 line origin plain lies.bodies all x.1; opened = lies.opened; tokens_lie = lies.tokens_lie }, longer-itself s.files) x.2
      by (inr x) = is-goes s outcome (Err x.0) (cannot-in In s.table line origin plain x.0 all x.1) x.2

  define-goes : (s : State) (file : ℕ) (held : List ℕ) (start : PpToken) (behind : List PpToken) (outcome : Outcome) → LiesState s → TokensIn In (start ∷ behind) → DoesDefine one.main file held start behind s outcome → Goes s outcome
  define-goes s file held start behind outcome lies all =
      match-goes (begins_with_name (drop 1 behind)) (DefinesLine one.main (start ∷ behind) (origin_of file) (is_plain_head held start (start ∷ behind)) s outcome) (outcome ≡ Err (refusal refusals.directive start.place)) s outcome
      (line-goes s (start ∷ behind) (origin_of file) (is_plain_head held start (start ∷ behind)) outcome lies all) (is-goes s outcome (Err (refusal refusals.directive start.place)) all.0)

  undef-goes : (s : State) (start : PpToken) (operands : List PpToken) → LiesState s → In start.place → Goes s (after_undef start operands s)
  undef-goes s start [] lies begins = begins
  undef-goes s start (name ∷ others) lies begins = by (is_macro_name name)
    where
      by : (b : Bool) → Goes s (cond b (Ok (with_undefined name s)) (Err (refusal refusals.directive start.place)))
      by true = (record { headers = lies.headers; bodies = lies.bodies; opened = lies.opened; tokens_lie = lies.tokens_lie }, longer-itself s.files)
      by false = begins

  pragma-goes : (s : State) (file : ℕ) (start : PpToken) (operands : List PpToken) → LiesState s → In start.place → Goes s (after_pragma file start operands s)
  pragma-goes s file start operands lies begins = by (is_once operands)
    where
      by : (b : Bool) → Goes s (cond b (Ok (record s { once = with_number s.once file })) (Err (refusal refusals.out_of_subset start.place)))
      by true = (record { headers = lies.headers; bodies = lies.bodies; opened = lies.opened; tokens_lie = lies.tokens_lie }, longer-itself s.files)
      by false = begins

  -- the start of a file lies in it, also where it is empty or absent
  start-lies : (file : ℕ) → In (first_place file)
  start-lies file = (refl, by (unwrap_or (one.source (one.named file)) []))
    where
      by : (held : List ℕ) → (0 < length held) ⊎ ((held ≡ []) × (◌≡◌ {A = ℕ} 0 0))
      by [] = inr (refl, refl)
      by (byte ∷ held) = inl (omega arith)

  line-lies : (define : List ℕ) (tokens : List PpToken) → TokensIn In (define_line one.main define tokens)
  line-lies define tokens =
      (start-lies one.main, (start-lies one.main, all-append (λ (each : PpToken). In each.place) (map (at_start one.main) tokens) (implied_body one.main define) (starts tokens) (implied (list_any is_equals_sign define))))
    where
      starts : (ts : List PpToken) → TokensIn In (map (at_start one.main) ts)
      starts [] = tt
      starts (t ∷ ts) = (start-lies one.main, starts ts)

      implied : (b : Bool) → TokensIn In (cond b [] (one_token one.main ∷ []))
      implied true = tt
      implied false = (start-lies one.main, tt)

  manifest-goes : (s : State) (define : List ℕ) (r : Result (List PpToken) Refusal) (outcome : Outcome) → LiesState s → IfErr r (λ refused. ⊥) → DefinesText one.main define r s outcome → Goes s outcome
  manifest-goes s define (Ok tokens) outcome lies reads = line-goes s (define_line one.main define tokens) Manifest true outcome lies (line-lies define tokens)
  manifest-goes s define (Err refused) outcome lies reads = absurd reads

  manifests-go : (defines : List (List ℕ)) (s : State) (outcome : Outcome) → LiesState s → AllByRecursion (CanBeRead one) defines → DoesManifests one defines s outcome → Goes s outcome
  unfolding DoesManifests
  manifests-go [] s outcome lies reads is = is-goes s outcome (Ok s) (stays s lies) is
  manifests-go (define ∷ defines) s outcome lies reads is =
      then-goes (λ m. m) (DoesManifest one.main define s) (DoesManifests one defines) s outcome (λ r. manifest-goes s define (reading_of one.main (define_text define)) r lies reads.0)
      (λ m lies' longer. manifests-go defines m outcome lies' reads.1) is

  -- INCLUSION

  -- what a search finds is a file of that number, and it stops in a file
  abbrev Finds : Catalogue → Result Sought Stop → Type 0
  Finds files (Ok found) = Longer files found.files × ((number : ℕ) → found.number ≡ Some number → IsNamed found.files number)
  Finds files (Err stop) = StopIn In stop

  some-is : (a b : ℕ) → Some a ≡ Some b → a ≡ b
  some-is a b e = cc

  found-lies : (name held : List ℕ) (files : Catalogue) → Fine name → one.source name ≡ Some held → one.named (number_in files name) ≡ name → Finds files (found_as (number_in files name) held (numbered name files))
  unfolding first_found
  found-lies name held files is_fine is named = by (is_found more number) (nat_lt source_length_limit (length held)) (nat_le most_files (found_files more)) (reading_of number held) (reading-stands number held)
    where
      number : ℕ
      number = number_in files name

      more : Catalogue
      more = numbered name files

      there : (later : Catalogue) → later.names ≡ (numbered name files).names → Longer files later × ((n : ℕ) → Some (number_in files name) ≡ Some n → IsNamed later n)
      there later same = (
        ((numbered-longer files name is_fine).0, same ∙ (numbered-longer files name is_fine).1, (numbered-longer files name is_fine).2),
        λ n e. subst (IsNamed later) (some-is (number_in files name) n e) (
          subst (λ ns. number_in files name < length ns) (sym same) (own-numbered files name).0,
          named ∙ sym (called-numbered files name) ∙ ap (λ ns. get_or ns (number_in files name) []) (sym same),
        ),
      )

      lies : (refused : Refusal) → IsReadIn (number_in files name) held (Err refused) → In refused.place
      lies refused stands =
          subst (λ (bytes : List ℕ). IsPlaceOf bytes refused.place) (sym (ap (λ n. unwrap_or (one.source (one.named n)) []) stands.0 ∙ ap (λ n. unwrap_or (one.source n) []) named ∙ ap (λ o. unwrap_or o []) is)) stands.1

      by : (known long many : Bool) (read : Result (List PpToken) Refusal) → IsReadIn (number_in files name) held read
          → Finds files (cond known (Ok (sought (Some (number_in files name)) (numbered name files)))
          (cond long (Err (limit limits.file_bytes (number_in files name))) (cond many (Err (limit limits.files (number_in files name))) (if_readable (number_in files name) (numbered name files) read))))
      by true long many read stands = there (numbered name files) refl
      by false true many read stands = tt
      by false false true read stands = tt
      by false false false (Ok tokens) stands = there (with_found (number_in files name) (numbered name files)) refl
      by false false false (Err refused) stands = lies refused stands

  search-lies : (header : Option ℕ) (names : List (List ℕ)) (files : Catalogue) (result : Result Sought Stop) → AllByRecursion Fine names → ((number : ℕ) → header ≡ Some number → IsNamed files number) → Searches one header names files result → Finds files result
  unfolding Searches
  search-lies header [] files result all named is = subst (Finds files) (sym is) (longer-itself files, named)
  search-lies header (name ∷ names) files result all named (inl fails) = subst (Finds files) (sym fails.2) tt
  search-lies header (name ∷ names) files result all named (inr looks) = by (one.source name) refl looks (search-lies header names files result all.1 named)
    where
      by : (o : Option (List ℕ)) → one.source name ≡ o → LooksAt one o name files (Searches one header names files) result → (Searches one header names files result → Finds files result) → Finds files result
      by None e is next = next is.1
      by (Some held) e is next = subst (Finds files) (sym is.2) (found-lies name held files all.0 e is.1)

  -- how files are entered
  abbrev EntersLies : (ℕ → State → Outcome → Type 0) → Type 0
  EntersLies E = (file : ℕ) (s : State) (outcome : Outcome) → LiesState s → IsNamed s.files file → E file s outcome → Goes s outcome

  lies-found : (s : State) (files : Catalogue) → LiesState s → Longer s.files files → Lies files s.table.read s.sections s.tokens
  lies-found s files lies longer = record { headers = λ name file is. named-later s.files files file longer (lies.headers name file is); bodies = lies.bodies; opened = lies.opened; tokens_lie = lies.tokens_lie }

  includes-goes : (E : ℕ → State → Outcome → Type 0) → EntersLies E → (start : PpToken) (number : Option ℕ) (files : Catalogue) (s : State) (outcome : Outcome) → LiesState s → In start.place → Longer s.files files
      → ((n : ℕ) → number ≡ Some n → IsNamed files n) → Includes one E start number files s outcome → Goes s outcome
  includes-goes E enters start None files s outcome lies begins longer named is = is-goes s outcome (Err (refusal refusals.not_found start.place)) begins is
  includes-goes E enters start (Some number) files s outcome lies begins longer named is =
      match-goes (nat_lt s.inclusions most_inclusions) (E number (counted files s) outcome) (outcome ≡ Err (limit limits.inclusions one.main)) s outcome
      (λ entered. goes-on s (counted files s) outcome longer (enters number (counted files s) outcome (lies-found s files lies longer) (named number refl) entered)) (is-goes s outcome (Err (limit limits.inclusions one.main)) tt) is

  include-goes : (E : ℕ → State → Outcome → Type 0) → EntersLies E → (file : ℕ) (start : PpToken) (operands : List PpToken) (s : State) (outcome : Outcome) → LiesState s → In start.place → DoesInclude one E file start operands s outcome → Goes s outcome
  include-goes E enters file start [] s outcome lies begins is = is-goes s outcome (Err (refusal refusals.directive start.place)) begins is
  include-goes E enters file start (header ∷ others) s outcome lies begins is =
      match-goes (is_header_kind header.kind) (Then (SearchesFor one file header.spelling s.files) (λ sought outcome. Includes one E start sought.number sought.files s outcome) outcome) (outcome ≡ Err (refusal refusals.out_of_subset start.place)) s outcome
      by (is-goes s outcome (Err (refusal refusals.out_of_subset start.place)) begins) is
    where
      search : (r : Result Sought Stop) → SearchesFor one file header.spelling s.files r → Finds s.files r
      search r = search-lies (header_number (header_name header.spelling)) (candidates (header_name header.spelling) (places (called s.files file) (is_quoted header.spelling) one.include)) s.files r (fine (header_name header.spelling) (called s.files file) (is_quoted header.spelling) one.include) (lies.headers (header_name header.spelling))

      by : Then (SearchesFor one file header.spelling s.files) (λ sought outcome. Includes one E start sought.number sought.files s outcome) outcome → Goes s outcome
      by (inl x) = is-goes s outcome (Err x.0) (search (Err x.0) x.1) x.2
      by (inr x) = let found = search (Ok x.0) x.1 in includes-goes E enters start x.0.number x.0.files s outcome lies begins found.0 found.1 x.2

  -- DIRECTIVES

  behind-in : (tokens : List PpToken) → TokensIn In tokens → TokensIn In (drop 1 tokens)
  behind-in [] all = tt
  behind-in (t ∷ ts) all = all.1

  read-goes : (E : ℕ → State → Outcome → Type 0) → EntersLies E → (file : ℕ) (kind : Directive) (start : PpToken) (behind : List PpToken) (s : State) (outcome : Outcome) → LiesState s → TokensIn In (start ∷ behind)
      → DoesRead one E file kind start behind s outcome → Goes s outcome
  read-goes E enters file Include start behind s outcome lies all is = include-goes E enters file start (drop 1 behind) s outcome lies all.0 is
  read-goes E enters file Define start behind s outcome lies all is = define-goes s file (bytes_in one s.files file) start behind outcome lies all is
  read-goes E enters file Undef start behind s outcome lies all is = is-goes s outcome (after_undef start (drop 1 behind) s) (undef-goes s start (drop 1 behind) lies all.0) is
  read-goes E enters file Line start behind s outcome lies all is = is-goes s outcome (Err (refusal refusals.out_of_subset start.place)) all.0 is
  read-goes E enters file Error start behind s outcome lies all is = is-goes s outcome (Err (refusal refusals.error_directive start.place)) all.0 is
  read-goes E enters file Pragma start behind s outcome lies all is = is-goes s outcome (after_pragma file start (drop 1 behind) s) (pragma-goes s file start (drop 1 behind) lies all.0) is
  read-goes E enters file Null start behind s outcome lies all is = is-goes s outcome (Ok s) (stays s lies) is
  read-goes E enters file Unknown start behind s outcome lies all is = is-goes s outcome (Err (refusal refusals.directive start.place)) all.0 is
  read-goes E enters file more start behind s outcome lies all is = absurd is

  other-goes : (E : ℕ → State → Outcome → Type 0) → EntersLies E → (file : ℕ) (kind : Directive) (start : PpToken) (behind : List PpToken) (s : State) (outcome : Outcome) → LiesState s → TokensIn In (start ∷ behind)
      → MatchBool (is_read s.sections) (DoesRead one E file kind start behind s outcome) (outcome ≡ Ok s) → Goes s outcome
  other-goes E enters file kind start behind s outcome lies all =
      match-goes (is_read s.sections) (DoesRead one E file kind start behind s outcome) (outcome ≡ Ok s) s outcome (read-goes E enters file kind start behind s outcome lies all) (is-goes s outcome (Ok s) (stays s lies))

  directive-goes : (E : ℕ → State → Outcome → Type 0) → EntersLies E → (file : ℕ) (kind : Directive) (start : PpToken) (behind : List PpToken) (s : State) (outcome : Outcome) → LiesState s → TokensIn In (start ∷ behind)
      → DoesDirective one E file kind start behind s outcome → Goes s outcome
  directive-goes E enters file If start behind s outcome lies all =
      opens-goes s start (Evaluates one.main start (drop 1 behind) s) outcome lies all.0 (λ r. evaluates-goes s start (drop 1 behind) r lies all.0 (behind-in behind all.1))
  directive-goes E enters file Ifdef start behind s outcome lies all =
      opens-goes s start (λ (r : Result Tested Stop). r ≡ defined_test true start (drop 1 behind) s) outcome lies all.0 (λ r is. subst (Tests s) (sym is) (defined-goes true s start (drop 1 behind) lies all.0))
  directive-goes E enters file Ifndef start behind s outcome lies all =
      opens-goes s start (λ (r : Result Tested Stop). r ≡ defined_test false start (drop 1 behind) s) outcome lies all.0 (λ r is. subst (Tests s) (sym is) (defined-goes false s start (drop 1 behind) lies all.0))
  directive-goes E enters file Elif start behind s outcome lies all =
      elif-goes s start s.sections (Evaluates one.main start (drop 1 behind) s) outcome lies all.0 lies.opened
      (λ r. evaluates-goes s start (drop 1 behind) r lies all.0 (behind-in behind all.1))
  directive-goes E enters file Else start behind s outcome lies all = is-goes s outcome (else_in start s.sections s) (else-goes s start s.sections lies all.0 lies.opened)
  directive-goes E enters file Endif start behind s outcome lies all = is-goes s outcome (endif_in start s.sections s) (endif-goes s start s.sections lies all.0 lies.opened)
  directive-goes E enters file more start behind s outcome lies all = other-goes E enters file more start behind s outcome lies all

  -- THE PARTS OF A FILE

  part-goes : (E : ℕ → State → Outcome → Type 0) → EntersLies E → (file : ℕ) (part : Part) (s : State) (outcome : Outcome) → LiesState s → PartIn In part → ReadsPart one E file part s outcome → Goes s outcome
  part-goes E enters file (directive start behind) s outcome lies all = directive-goes E enters file (directive_of behind) start behind s outcome lies all
  part-goes E enters file (text tokens) s outcome lies all = by (is_read s.sections)
    where
      by : (b : Bool) → outcome ≡ cond b (after_text one.main tokens s) (Ok s) → Goes s outcome
      by true = is-goes s outcome (after_text one.main tokens s) (text-goes s tokens lies all)
      by false = is-goes s outcome (Ok s) (stays s lies)

  parts-go : (E : ℕ → State → Outcome → Type 0) → EntersLies E → (file : ℕ) (parts : List Part) (s : State) (outcome : Outcome) → LiesState s → AllByRecursion (PartIn In) parts → ReadsParts one E file parts s outcome → Goes s outcome
  unfolding ReadsParts
  parts-go E enters file [] s outcome lies all = is-goes s outcome (end_in s.sections s) (end-goes s s.sections lies lies.opened)
  parts-go E enters file (part ∷ parts) s outcome lies all =
      then-goes (λ m. m) (ReadsPart one E file part s) (ReadsParts one E file parts) s outcome (λ r. part-goes E enters file part s r lies all.0) (λ m lies' longer. parts-go E enters file parts m outcome lies' all.1)

  -- the tokens of a file lie in it
  file-tokens : (s : State) (file : ℕ) → IsNamed s.files file → TokensIn In (tokens_in one s.files file)
  file-tokens s file named = by (reading_of file (bytes_in one s.files file)) (reading-stands file (bytes_in one s.files file))
    where
      each : (tokens : List PpToken) → AreOf file (bytes_in one s.files file) tokens → TokensIn In tokens
      each [] all = tt
      each (t ∷ ts) all =
          (subst (λ (bytes : List ℕ). IsPlaceOf bytes t.place) (sym (ap (λ n. unwrap_or (one.source (one.named n)) []) all.0.0 ∙ ap (λ n. unwrap_or (one.source n) []) named.1)) all.0.1, each ts all.1)

      by : (r : Result (List PpToken) Refusal) → IsReadIn file (bytes_in one s.files file) r → TokensIn In (result_unwrap_or r [])
      by (Ok tokens) stands = each tokens stands
      by (Err refused) stands = tt

  file-goes : (E : ℕ → State → Outcome → Type 0) → EntersLies E → EntersLies (ReadsFile one E)
  file-goes E enters file s outcome lies named =
      then-goes (λ m. m) (ReadsParts one E file (parts_of (tokens_in one s.files file)) (begun file s)) (λ read result. result ≡ Ok (within s.sections read)) s outcome
      (λ r is. parts-go E enters file (parts_of (tokens_in one s.files file)) (begun file s) r (record { headers = lies.headers; bodies = lies.bodies; opened = tt; tokens_lie = lies.tokens_lie }) (parts-in In (tokens_in one s.files file) (file-tokens s file named)) is)
      (λ m lies' longer is. is-goes m outcome (Ok (within s.sections m)) (within-goes m s.sections lies' lies.opened) is)

  enters-lies : (more : ℕ) → EntersLies (Enters one more)
  unfolding Enters
  enters-lies zero file s outcome lies named is = is-goes s outcome (Err (limit limits.nested_files one.main)) tt is
  enters-lies (suc more) file s outcome lies named is =
      match-goes (is_passed file s) (outcome ≡ Ok s) (ReadsFile one (Enters one more) file s outcome) s outcome (is-goes s outcome (Ok s) (stays s lies)) (file-goes (Enters one more) (enters-lies more) file s outcome lies named) is

  -- THE UNIT

  main-goes : (name : List ℕ) (s : State) (outcome : Outcome) → Fine name → LiesState s → ReadsMain one name s outcome → Goes s outcome
  main-goes name s outcome is_fine lies is = by is
    where
      none-some : (number : ℕ) → ◌≡◌ {A = Option ℕ} None (Some number) → ⊥
      none-some number e = cc

      search : (r : Result Sought Stop) → Searches one None (name ∷ []) s.files r → Finds s.files r
      search r = search-lies None (name ∷ []) s.files r (is_fine, tt) (λ number e. absurd (none-some number e))

      found : (number : Option ℕ) (files : Catalogue) → Longer s.files files → ((n : ℕ) → number ≡ Some n → IsNamed files n) → ReadsFound one number files s outcome → Goes s outcome
      found None files longer named is = is-goes s outcome (Err (refusal refusals.not_found (absent_place one.main))) (start-lies one.main) is
      found (Some number) files longer named is =
          let m = record s { files = files } in
          goes-on s m outcome longer (file-goes (Enters one most_nested) (enters-lies most_nested) number m outcome (lies-found s files lies longer) (named number refl) is)

      by : ReadsMain one name s outcome → Goes s outcome
      by (inl x) = is-goes s outcome (Err x.0) (search (Err x.0) x.1) x.2
      by (inr x) = let a = search (Ok x.0) x.1 in found x.0.number x.0.files a.0 a.1 x.2

  pub unit-goes : (name : List ℕ) (defines : List (List ℕ)) (s : State) (outcome : Outcome) → Fine name → LiesState s → AllByRecursion (CanBeRead one) defines → ReadsUnit one name defines s outcome → Goes s outcome
  unfolding ReadsUnit
  unit-goes name defines s outcome is_fine lies reads =
      then-goes (λ m. m) (DoesManifests one defines s) (ReadsMain one name) s outcome (λ r. manifests-go defines s r lies reads) (λ m lies' longer. main-goes name m outcome is_fine lies')

-- what is so before anything is read
pub first-lies : (files : Files) (unit : Source) (old new : Loaded) (Fine : List ℕ → Type 0) (fine : (name from : List ℕ) (quoted : Bool) (include : List (List ℕ)) → AllByRecursion Fine (candidates name (places from quoted include)))
    → StartsWithHeaders old → AreNumbered (setting_of old new files unit) (first_files old unit) → LiesState (setting_of old new files unit) Fine fine (state_with (first_files old unit))
first-lies files unit old new Fine fine starts numbered = record { headers = headers; bodies = tt; opened = tt; tokens_lie = tt }
  where
    headers : (name : List ℕ) (file : ℕ) → header_number name ≡ Some file → IsNamed (setting_of old new files unit) Fine fine (first_files old unit) file
    headers name file is =
        let held = header-held old name file starts is in
        let all = longer (shown old) (first_files old unit) [] [] (grown-numbered (shown old) unit.file []) in
        let inside : file < length (first_files old unit).names = omega (arith, held.inside, all) in
        (inside, numbered file inside)
