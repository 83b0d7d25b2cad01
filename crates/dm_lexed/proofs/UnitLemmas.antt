-- The identifiers of a unit's tokens are words, and so are those of its tokens of phase 7 (6.10).
use Rattle.std.proofs.Common.{◌≡◌, ℕ, zero, suc, Bool, true, false, cond, ◌⊎◌, inl, inr, List, [], ◌∷◌, ◌++◌, length, drop, Option, None, Some, Result, Ok, Err, IfOk, MatchBool, nat_lt, sym, ap, subst}
use Rattle.std.specs.Prelude.{not, if◌then◌else◌}
use Rattle.std.specs.List.{list_any, AllByRecursion}
use Rattle.dm_token.specs.Limits.{most_work, most_tokens, most_inclusions}
use Rattle.dm_token.specs.LimitNumbers as limits
use Rattle.dm_token.specs.Refusals as refusals
use Rattle.dm_token.specs.declared.stop.Stop.{Stop}
use Rattle.dm_token.specs.declared.stop.Refusal.{Refusal}
use Rattle.dm_token.specs.declared.token.PpToken.{PpToken}
use Rattle.dm_token.specs.declared.token.Token.{Token}
use Rattle.dm_token.specs.declared.expansion.Origin.{Origin}
use Rattle.dm_token.specs.declared.expansion.Origin.TheVariants.{Manifest}
use Rattle.dm_token.specs.declared.unit.Unit.{Unit as Source}
use Rattle.dm_token.specs.declared.unit.Use.{Use}
use Rattle.dm_token.specs.declared.unit.UnitTokens.{UnitTokens}
use Rattle.dm_macro.specs.Signs.{is_identifier, is_macro_name}
use Rattle.dm_macro.specs.Tables.{Table, Defines}
use Rattle.dm_expand.specs.AnswerViews.{looked_up}
use Rattle.dm_expand.specs.Expansion.{Answer, expansion_of}
use Rattle.dm_search.specs.Loaded.{Loaded}
use Rattle.dm_unit.specs.declared.directive.Directive.{Directive}
use Rattle.dm_unit.specs.declared.directive.Directive.TheVariants.{If, Ifdef, Ifndef, Elif, Else, Endif, Include, Define, Undef, Line, Error, Pragma, Null, Unknown}
use Rattle.dm_unit.specs.declared.section.Section.{Section}
use Rattle.dm_unit.specs.declared.section.Stage.{Stage}
use Rattle.dm_unit.specs.declared.section.Stage.TheVariants.{Read, Waiting, Over}
use Rattle.dm_unit.specs.States.{Setting, Catalogue, State, Outcome, Then, refusal, limit, for_unit, expansion_in}
use Rattle.dm_unit.specs.Sources.{bytes_in, tokens_in, reading_of}
use Rattle.dm_unit.specs.Lines.{Part, directive, text, parts_of}
use Rattle.dm_unit.specs.Directives.{directive_of}
use Rattle.dm_unit.specs.Sections.{is_read, after_else, after_skipped_elif, after_elif}
use Rattle.dm_unit.specs.Includes.{SearchesFor, is_header_kind}
use Rattle.dm_unit.specs.Definitions.{CannotDefine, DefinesLine, DoesDefine, with_definition, begins_with_name, origin_of, is_plain_head, with_undefined, after_undef, use_of, define_line, define_text, DefinesText, DoesManifest}
use Rattle.dm_unit.specs.Conditions.{Tested, tested, no_condition, Judged, JudgesExpanded, Evaluates, defined_test, names_asked, replaced, is_defined, is_defined_word}
use Rattle.dm_unit.specs.Readings.{with_text, after_expansion, after_text, within, pushed, opens, Opens, lost, DoesElifAt, DoesElif, else_in, endif_in, end_in, is_once, with_number, after_pragma, counted, Includes, DoesInclude, DoesRead, DoesDirective, ReadsPart, ReadsParts, begun, ReadsFile, is_passed, Enters, most_nested, DoesManifests, absent_place, ReadsFound, ReadsMain, ReadsUnit}
use Rattle.dm_unit.specs.Units.{first_files, state_with, IsReadAs}
use Rattle.dm_lexed.specs.Words.{FitsKind, ArePpWords}
use Rattle.dm_lexed.proofs.WordLemmas.{TokensFit, reading-fits, file-fits}
use Rattle.dm_lexed.proofs.ExpansionLemmas.{DefinitionsFit, AnswerFits, all-append, expansion-fits}
use Rattle.dm_lexed.proofs.TokenLemmas.{PartFits, parts-fit, defines-fit, define_line-fits}

module _ (one : Setting) where
  -- What holds of each state of a reading: the bodies of macros and the tokens put out have words.
  abbrev Fits : State → Type 0
  Fits s = DefinitionsFit s.table.read × ArePpWords s.tokens

  -- A step ends in such a state, or stops.
  abbrev Steps : {A : Type 0} → (A → State) → Result A Stop → Type 0
  Steps state_of r = IfOk r (λ m. Fits (state_of m))

  abbrev Goes : Outcome → Type 0
  Goes outcome = IfOk outcome Fits

  then-goes : {A : Type 0} (state_of : A → State) (First : Result A Stop → Type 0) (Second : A → Outcome → Type 0) (outcome : Outcome)
      → ((r : Result A Stop) → First r → Steps state_of r) → ((m : A) → Fits (state_of m) → Second m outcome → Goes outcome) → Then First Second outcome → Goes outcome
  then-goes state_of First Second outcome first second (inl x) = subst Goes (sym x.2) tt
  then-goes state_of First Second outcome first second (inr x) = second x.0 (first (Ok x.0) x.1) x.2

  match-goes : (b : Bool) (P Q : Type 0) (outcome : Outcome) → (P → Goes outcome) → (Q → Goes outcome) → MatchBool b P Q → Goes outcome
  match-goes true P Q outcome first second = first
  match-goes false P Q outcome first second = second

  is-goes : (outcome made : Outcome) → Goes made → outcome ≡ made → Goes outcome
  is-goes outcome made goes is = subst Goes (sym is) goes

  -- TEXT GROUPS

  text-goes : (s : State) (tokens : List PpToken) → Fits s → TokensFit tokens → Goes (after_text one.main tokens s)
  text-goes s tokens fits all = by (expansion_of (looked_up s.table s.files.names) tokens s.instance s.spent) (expansion-fits (looked_up s.table s.files.names) tokens s.instance s.spent fits.0 all)
    where
      few : (answer : Answer) → AnswerFits answer → (b : Bool) → Goes (cond b (Err (limit limits.unit_tokens one.main)) (Ok (with_text answer s)))
      few answer has true = tt
      few answer has false = (fits.0, all-append (λ (each : Token). FitsKind each.pp.kind each.pp.spelling) s.tokens answer.tokens fits.1 has)

      by : (r : Result Answer Stop) → IfOk r AnswerFits → Goes (after_expansion one.main s (for_unit one.main r))
      by (Ok answer) has = few answer has (nat_lt most_tokens (length (s.tokens ++ answer.tokens)))
      by (Err stop) has = tt

  -- CONDITIONS

  abbrev Tests : Result Tested Stop → Type 0
  Tests result = Steps (λ (m : Tested). m.state) result

  judged-goes : (s : State) (start : PpToken) (asked : List Use) (r : Result Answer Stop) (result : Result Tested Stop) → Fits s → JudgesExpanded start asked r s result → Tests result
  judged-goes s start asked (Err stop) result fits is = subst Tests (sym is) tt
  judged-goes s start asked (Ok answer) result fits is = by (list_any (λ (token : Token). is_defined_word token.pp) answer.tokens) is
    where
      judged : Judged start asked answer s result → Tests result
      judged (inl x) = subst Tests (sym x.4) fits
      judged (inr x) = subst Tests (sym x.1) tt

      by : (b : Bool) → MatchBool b (result ≡ no_condition start) (Judged start asked answer s result) → Tests result
      by true e = subst Tests (sym e) tt
      by false e = judged e

  evaluates-goes : (s : State) (start : PpToken) (operands : List PpToken) (result : Result Tested Stop) → Fits s → Evaluates one.main start operands s result → Tests result
  evaluates-goes s start operands result fits is = judged-goes s start (names_asked s.table operands) (expansion_in one.main s (replaced s.table operands)) result fits is

  defined-goes : (wanted : Bool) (s : State) (start : PpToken) (operands : List PpToken) → Fits s → Tests (defined_test wanted start operands s)
  defined-goes wanted s start [] fits = tt
  defined-goes wanted s start (name ∷ others) fits = by (is_identifier name)
    where
      by : (b : Bool) → Tests (cond b (Ok (tested (if wanted then is_defined s.table name else not (is_defined s.table name)) (record s { uses = s.uses ++ use_of s.table name ∷ [] }))) (Err (refusal refusals.directive start.place)))
      by true = fits
      by false = tt

  -- CONDITIONAL INCLUSION

  opens-goes : (s : State) (start : PpToken) (First : Result Tested Stop → Type 0) (outcome : Outcome) → Fits s → ((r : Result Tested Stop) → First r → Tests r) → Opens start s First outcome → Goes outcome
  opens-goes s start First outcome fits tests =
      match-goes (is_read s.sections) (Then First (λ tested result. result ≡ opens start tested) outcome) (outcome ≡ pushed start.place Over s) outcome
      (then-goes (λ (m : Tested). m.state) First (λ tested result. result ≡ opens start tested) outcome tests (λ m fits. is-goes outcome (opens start m) fits))
      (is-goes outcome (pushed start.place Over s) fits)

  elif_at-goes : (s : State) (stage : Stage) (section : Section) (outer : List Section) (First : Result Tested Stop → Type 0) (outcome : Outcome) → Fits s → ((r : Result Tested Stop) → First r → Tests r) → DoesElifAt stage section outer First s outcome → Goes outcome
  elif_at-goes s Waiting section outer First outcome fits tests =
      then-goes (λ (m : Tested). m.state) First (λ tested result. result ≡ Ok (within (after_elif tested.truth section ∷ outer) tested.state)) outcome tests
      (λ m fits. is-goes outcome (Ok (within (after_elif m.truth section ∷ outer) m.state)) fits)
  elif_at-goes s Read section outer First outcome fits tests = is-goes outcome (Ok (within (after_skipped_elif section ∷ outer) s)) fits
  elif_at-goes s Over section outer First outcome fits tests = is-goes outcome (Ok (within (after_skipped_elif section ∷ outer) s)) fits

  elif-goes : (s : State) (start : PpToken) (sections : List Section) (First : Result Tested Stop → Type 0) (outcome : Outcome) → Fits s → ((r : Result Tested Stop) → First r → Tests r) → DoesElif start sections First s outcome → Goes outcome
  elif-goes s start [] First outcome fits tests = is-goes outcome (lost start) tt
  elif-goes s start (section ∷ outer) First outcome fits tests =
      match-goes section.has_else (outcome ≡ lost start) (DoesElifAt section.stage section outer First s outcome) outcome (is-goes outcome (lost start) tt) (elif_at-goes s section.stage section outer First outcome fits tests)

  else-goes : (s : State) (start : PpToken) (sections : List Section) → Fits s → Goes (else_in start sections s)
  else-goes s start [] fits = tt
  else-goes s start (section ∷ outer) fits = by section.has_else
    where
      by : (b : Bool) → Goes (cond b (lost start) (Ok (within (after_else section ∷ outer) s)))
      by true = tt
      by false = fits

  endif-goes : (s : State) (start : PpToken) (sections : List Section) → Fits s → Goes (endif_in start sections s)
  endif-goes s start [] fits = tt
  endif-goes s start (section ∷ outer) fits = fits

  end-goes : (s : State) (sections : List Section) → Fits s → Goes (end_in sections s)
  end-goes s [] fits = fits
  end-goes s (section ∷ outer) fits = tt

  -- DEFINITIONS

  line-goes : (s : State) (line : List PpToken) (origin : Origin) (plain : Bool) (outcome : Outcome) → Fits s → TokensFit line → DefinesLine one.main line origin plain s outcome → Goes outcome
  line-goes s line origin plain outcome fits all =
      match-goes (nat_lt s.spent most_work)
      (((table : Table) × Defines s.table line origin plain table × (outcome ≡ Ok (with_definition table s))) ⊎ ((stop : Stop) × CannotDefine s.table line origin plain stop × (outcome ≡ Err stop)))
      (outcome ≡ Err (limit limits.work one.main)) outcome by (is-goes outcome (Err (limit limits.work one.main)) tt)
    where
      by : ((table : Table) × Defines s.table line origin plain table × (outcome ≡ Ok (with_definition table s))) ⊎ ((stop : Stop) × CannotDefine s.table line origin plain stop × (outcome ≡ Err stop)) → Goes outcome
      by (inl x) = is-goes outcome (Ok (with_definition x.0 s)) (defines-fit s.table x.0 line origin plain fits.0 all x.1, fits.1) x.2
      by (inr x) = is-goes outcome (Err x.0) tt x.2

  define-goes : (s : State) (file : ℕ) (held : List ℕ) (start : PpToken) (behind : List PpToken) (outcome : Outcome) → Fits s → TokensFit (start ∷ behind) → DoesDefine one.main file held start behind s outcome → Goes outcome
  define-goes s file held start behind outcome fits all =
      match-goes (begins_with_name (drop 1 behind)) (DefinesLine one.main (start ∷ behind) (origin_of file) (is_plain_head held start (start ∷ behind)) s outcome) (outcome ≡ Err (refusal refusals.directive start.place)) outcome
      (line-goes s (start ∷ behind) (origin_of file) (is_plain_head held start (start ∷ behind)) outcome fits all) (is-goes outcome (Err (refusal refusals.directive start.place)) tt)

  undef-goes : (s : State) (start : PpToken) (operands : List PpToken) → Fits s → Goes (after_undef start operands s)
  undef-goes s start [] fits = tt
  undef-goes s start (name ∷ others) fits = by (is_macro_name name)
    where
      by : (b : Bool) → Goes (cond b (Ok (with_undefined name s)) (Err (refusal refusals.directive start.place)))
      by true = fits
      by false = tt

  pragma-goes : (s : State) (file : ℕ) (start : PpToken) (operands : List PpToken) → Fits s → Goes (after_pragma file start operands s)
  pragma-goes s file start operands fits = by (is_once operands)
    where
      by : (b : Bool) → Goes (cond b (Ok (record s { once = with_number s.once file })) (Err (refusal refusals.out_of_subset start.place)))
      by true = fits
      by false = tt

  manifest-goes : (s : State) (define : List ℕ) (r : Result (List PpToken) Refusal) (outcome : Outcome) → Fits s → IfOk r TokensFit → DefinesText one.main define r s outcome → Goes outcome
  manifest-goes s define (Ok tokens) outcome fits all is = line-goes s (define_line one.main define tokens) Manifest true outcome fits (define_line-fits one.main define tokens all) is
  manifest-goes s define (Err refused) outcome fits all is = subst Goes (sym is) tt

  manifests-go : (defines : List (List ℕ)) (s : State) (outcome : Outcome) → Fits s → DoesManifests one defines s outcome → Goes outcome
  unfolding DoesManifests
  manifests-go [] s outcome fits is = is-goes outcome (Ok s) fits is
  manifests-go (define ∷ defines) s outcome fits is =
      then-goes (λ m. m) (DoesManifest one.main define s) (DoesManifests one defines) outcome (λ r. manifest-goes s define (reading_of one.main (define_text define)) r fits (reading-fits one.main (define_text define)))
      (λ m fits. manifests-go defines m outcome fits) is

  -- INCLUSION

  abbrev EntersFits : (ℕ → State → Outcome → Type 0) → Type 0
  EntersFits E = (file : ℕ) (s : State) (outcome : Outcome) → Fits s → E file s outcome → Goes outcome

  includes-goes : (E : ℕ → State → Outcome → Type 0) → EntersFits E → (start : PpToken) (number : Option ℕ) (files : Catalogue) (s : State) (outcome : Outcome) → Fits s → Includes one E start number files s outcome → Goes outcome
  includes-goes E enters start None files s outcome fits is = is-goes outcome (Err (refusal refusals.not_found start.place)) tt is
  includes-goes E enters start (Some number) files s outcome fits is =
      match-goes (nat_lt s.inclusions most_inclusions) (E number (counted files s) outcome) (outcome ≡ Err (limit limits.inclusions one.main)) outcome
      (enters number (counted files s) outcome fits) (is-goes outcome (Err (limit limits.inclusions one.main)) tt) is

  include-goes : (E : ℕ → State → Outcome → Type 0) → EntersFits E → (file : ℕ) (start : PpToken) (operands : List PpToken) (s : State) (outcome : Outcome) → Fits s → DoesInclude one E file start operands s outcome → Goes outcome
  include-goes E enters file start [] s outcome fits is = is-goes outcome (Err (refusal refusals.directive start.place)) tt is
  include-goes E enters file start (header ∷ others) s outcome fits is =
      match-goes (is_header_kind header.kind) (Then (SearchesFor one file header.spelling s.files) (λ sought outcome. Includes one E start sought.number sought.files s outcome) outcome) (outcome ≡ Err (refusal refusals.out_of_subset start.place)) outcome
      by (is-goes outcome (Err (refusal refusals.out_of_subset start.place)) tt) is
    where
      by : Then (SearchesFor one file header.spelling s.files) (λ sought outcome. Includes one E start sought.number sought.files s outcome) outcome → Goes outcome
      by (inl x) = is-goes outcome (Err x.0) tt x.2
      by (inr x) = includes-goes E enters start x.0.number x.0.files s outcome fits x.2

  -- DIRECTIVES

  read-goes : (E : ℕ → State → Outcome → Type 0) → EntersFits E → (file : ℕ) (kind : Directive) (start : PpToken) (behind : List PpToken) (s : State) (outcome : Outcome) → Fits s → TokensFit (start ∷ behind)
      → DoesRead one E file kind start behind s outcome → Goes outcome
  read-goes E enters file Include start behind s outcome fits all is = include-goes E enters file start (drop 1 behind) s outcome fits is
  read-goes E enters file Define start behind s outcome fits all is = define-goes s file (bytes_in one s.files file) start behind outcome fits all is
  read-goes E enters file Undef start behind s outcome fits all is = is-goes outcome (after_undef start (drop 1 behind) s) (undef-goes s start (drop 1 behind) fits) is
  read-goes E enters file Line start behind s outcome fits all is = is-goes outcome (Err (refusal refusals.out_of_subset start.place)) tt is
  read-goes E enters file Error start behind s outcome fits all is = is-goes outcome (Err (refusal refusals.error_directive start.place)) tt is
  read-goes E enters file Pragma start behind s outcome fits all is = is-goes outcome (after_pragma file start (drop 1 behind) s) (pragma-goes s file start (drop 1 behind) fits) is
  read-goes E enters file Null start behind s outcome fits all is = is-goes outcome (Ok s) fits is
  read-goes E enters file Unknown start behind s outcome fits all is = is-goes outcome (Err (refusal refusals.directive start.place)) tt is
  read-goes E enters file more start behind s outcome fits all is = absurd is

  other-goes : (E : ℕ → State → Outcome → Type 0) → EntersFits E → (file : ℕ) (kind : Directive) (start : PpToken) (behind : List PpToken) (s : State) (outcome : Outcome) → Fits s → TokensFit (start ∷ behind)
      → MatchBool (is_read s.sections) (DoesRead one E file kind start behind s outcome) (outcome ≡ Ok s) → Goes outcome
  other-goes E enters file kind start behind s outcome fits all =
      match-goes (is_read s.sections) (DoesRead one E file kind start behind s outcome) (outcome ≡ Ok s) outcome (read-goes E enters file kind start behind s outcome fits all) (is-goes outcome (Ok s) fits)

  directive-goes : (E : ℕ → State → Outcome → Type 0) → EntersFits E → (file : ℕ) (kind : Directive) (start : PpToken) (behind : List PpToken) (s : State) (outcome : Outcome) → Fits s → TokensFit (start ∷ behind)
      → DoesDirective one E file kind start behind s outcome → Goes outcome
  directive-goes E enters file If start behind s outcome fits all = opens-goes s start (Evaluates one.main start (drop 1 behind) s) outcome fits (λ r. evaluates-goes s start (drop 1 behind) r fits)
  directive-goes E enters file Ifdef start behind s outcome fits all =
      opens-goes s start (λ (r : Result Tested Stop). r ≡ defined_test true start (drop 1 behind) s) outcome fits (λ r is. subst Tests (sym is) (defined-goes true s start (drop 1 behind) fits))
  directive-goes E enters file Ifndef start behind s outcome fits all =
      opens-goes s start (λ (r : Result Tested Stop). r ≡ defined_test false start (drop 1 behind) s) outcome fits (λ r is. subst Tests (sym is) (defined-goes false s start (drop 1 behind) fits))
  directive-goes E enters file Elif start behind s outcome fits all = elif-goes s start s.sections (Evaluates one.main start (drop 1 behind) s) outcome fits (λ r. evaluates-goes s start (drop 1 behind) r fits)
  directive-goes E enters file Else start behind s outcome fits all = is-goes outcome (else_in start s.sections s) (else-goes s start s.sections fits)
  directive-goes E enters file Endif start behind s outcome fits all = is-goes outcome (endif_in start s.sections s) (endif-goes s start s.sections fits)
  directive-goes E enters file more start behind s outcome fits all = other-goes E enters file more start behind s outcome fits all

  -- THE PARTS OF A FILE

  part-goes : (E : ℕ → State → Outcome → Type 0) → EntersFits E → (file : ℕ) (part : Part) (s : State) (outcome : Outcome) → Fits s → PartFits part → ReadsPart one E file part s outcome → Goes outcome
  part-goes E enters file (directive start behind) s outcome fits all = directive-goes E enters file (directive_of behind) start behind s outcome fits all
  part-goes E enters file (text tokens) s outcome fits all = by (is_read s.sections)
    where
      by : (b : Bool) → outcome ≡ cond b (after_text one.main tokens s) (Ok s) → Goes outcome
      by true = is-goes outcome (after_text one.main tokens s) (text-goes s tokens fits all)
      by false = is-goes outcome (Ok s) fits

  parts-go : (E : ℕ → State → Outcome → Type 0) → EntersFits E → (file : ℕ) (parts : List Part) (s : State) (outcome : Outcome) → Fits s → AllByRecursion PartFits parts → ReadsParts one E file parts s outcome → Goes outcome
  unfolding ReadsParts
  parts-go E enters file [] s outcome fits all = is-goes outcome (end_in s.sections s) (end-goes s s.sections fits)
  parts-go E enters file (part ∷ parts) s outcome fits all =
      then-goes (λ m. m) (ReadsPart one E file part s) (ReadsParts one E file parts) outcome (λ r. part-goes E enters file part s r fits all.0) (λ m fits. parts-go E enters file parts m outcome fits all.1)

  file-goes : (E : ℕ → State → Outcome → Type 0) → EntersFits E → EntersFits (ReadsFile one E)
  file-goes E enters file s outcome fits =
      then-goes (λ m. m) (ReadsParts one E file (parts_of (tokens_in one s.files file)) (begun file s)) (λ read result. result ≡ Ok (within s.sections read)) outcome
      (λ r. parts-go E enters file (parts_of (tokens_in one s.files file)) (begun file s) r fits (parts-fit (tokens_in one s.files file) (file-fits file (bytes_in one s.files file))))
      (λ m fits. is-goes outcome (Ok (within s.sections m)) fits)

  enters-fits : (more : ℕ) → EntersFits (Enters one more)
  unfolding Enters
  enters-fits zero file s outcome fits = is-goes outcome (Err (limit limits.nested_files one.main)) tt
  enters-fits (suc more) file s outcome fits =
      match-goes (is_passed file s) (outcome ≡ Ok s) (ReadsFile one (Enters one more) file s outcome) outcome (is-goes outcome (Ok s) fits) (file-goes (Enters one more) (enters-fits more) file s outcome fits)

  -- THE UNIT

  main-goes : (name : List ℕ) (s : State) (outcome : Outcome) → Fits s → ReadsMain one name s outcome → Goes outcome
  main-goes name s outcome fits is = by is
    where
      found : (number : Option ℕ) (files : Catalogue) → ReadsFound one number files s outcome → Goes outcome
      found None files = is-goes outcome (Err (refusal refusals.not_found (absent_place one.main))) tt
      found (Some number) files = file-goes (Enters one most_nested) (enters-fits most_nested) number (record s { files = files }) outcome fits

      by : ReadsMain one name s outcome → Goes outcome
      by (inl x) = is-goes outcome (Err x.0) tt x.2
      by (inr x) = found x.0.number x.0.files x.2

  unit-goes : (name : List ℕ) (defines : List (List ℕ)) (s : State) (outcome : Outcome) → Fits s → ReadsUnit one name defines s outcome → Goes outcome
  unfolding ReadsUnit
  unit-goes name defines s outcome fits = then-goes (λ m. m) (DoesManifests one defines s) (ReadsMain one name) outcome (λ r. manifests-go defines s r fits) (λ m fits. main-goes name m outcome fits)

  pub unit-words : (unit : Source) (old new : Loaded) (pp : UnitTokens) → IsReadAs one unit old (Ok pp) new → ArePpWords pp.tokens
  unit-words unit old new pp is =
      subst ArePpWords (sym (ap (λ (tokens : UnitTokens). tokens.tokens) is.2)) (unit-goes unit.file unit.define (state_with (first_files old unit)) (Ok is.0) (tt, tt) is.1.1).1
