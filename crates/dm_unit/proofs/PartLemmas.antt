-- What the part of a file does that the code reads.
use Rattle.std.proofs.Common.{◌≡◌, ℕ, ◌≤◌, true, cond, inl, inr, List, [], ◌∷◌, length, drop, get_or, Option, None, Some, Result, Ok, Err, MatchBool, slice_index_or, refl, sym, ap, ◌∙◌, subst, arith}
use Rattle.std.proofs.lemmas.Bool.{lt-ltb, le-ltb}
use Rattle.dm_token.specs.Limits.{most_inclusions}
use Rattle.dm_token.specs.LimitNumbers as limits
use Rattle.dm_token.specs.Refusals as refusals
use Rattle.dm_token.specs.declared.token.PpToken.{PpToken}
use Rattle.dm_token.specs.declared.stop.Stop.{Stop}
use Rattle.dm_token.specs.declared.stop.Stop.TheVariants.{Memory, Refused, Limit, ReadFault}
use Rattle.dm_macro.specs.Signs.{is_hash}
use Rattle.dm_search.specs.Headers.{header_number}
use Rattle.dm_search.specs.Joining.{candidates, places}
use Rattle.dm_unit.specs.declared.include.Header.{Header}
use Rattle.dm_unit.specs.declared.reader.Reader.{Reader}
use Rattle.dm_unit.specs.declared.directive.Directive.{Directive}
use Rattle.dm_unit.specs.declared.directive.Directive.TheVariants.{Include}
use Rattle.dm_unit.specs.Lines.{Part, text, directive}
use Rattle.dm_unit.specs.Directives.{directive_of}
use Rattle.dm_unit.specs.Sections.{is_read}
use Rattle.dm_unit.specs.States.{Setting, Catalogue, State, Outcome, Then, refusal, limit}
use Rattle.dm_unit.specs.Includes.{Sought, sought, Searches, SearchesFor, is_header_kind, header_name}
use Rattle.dm_unit.specs.Readings.{ReadsPart, DoesDirective, DoesInclude, Includes, Enters, counted}
use Rattle.dm_unit.specs.Views.{state_of, Stops, IsHeader, FindsIncluded, SearchesHeader, IncludesStop, IncludesOne, part_of}

-- THE LINE OF A DIRECTIVE

pub line-is : (tokens : List PpToken) (start : PpToken) → 1 ≤ length tokens → start ≡ get_or tokens 0 start → tokens ≡ start ∷ drop 1 tokens
line-is [] start some is = absurd (omega (arith, some))
line-is (t ∷ ts) start some is = ap (λ s. s ∷ ts) (sym is)

pub part-line : (tokens : List PpToken) (start : PpToken) → 1 ≤ length tokens → start ≡ get_or tokens 0 start → is_hash start ≡ true → part_of tokens ≡ directive start (drop 1 tokens)
part-line tokens start some is hash =
    ap part_of (line-is tokens start some is) ∙ ap (λ b. cond b (directive start (drop 1 tokens)) (text (start ∷ drop 1 tokens))) hash

pub drop-two : {A : Type 0} (xs : List A) → drop 2 xs ≡ drop 1 (drop 1 xs)
drop-two [] = refl
drop-two (x ∷ xs) = refl

-- a stop that is one for any number of files that may be open
pub all-stops : (M : ℕ → Outcome → Type 0) (stop : Stop) → ((more : ℕ) → Stops (M more) stop) → Stops (λ (outcome : Outcome). (more : ℕ) → M more outcome) stop
all-stops M Memory stops = tt
all-stops M (Refused refusal) stops = stops
all-stops M (Limit passed) stops = stops
all-stops M (ReadFault file) stops = stops

-- THE INCLUSION

pub header-search : (setting : Setting) (file : ℕ) (start header : PpToken) (others : List PpToken) (found : Header) (files : Catalogue) (result : Result Sought Stop) → IsHeader start (header ∷ others) found
    → SearchesHeader setting file found files result → SearchesFor setting file header.spelling files result
header-search setting file start header others found files result is search =
    subst (λ quoted. Searches setting (header_number (header_name header.spelling)) (candidates (header_name header.spelling) (places (slice_index_or files.names file []) quoted setting.include)) files result) is.2
    (subst (λ (name : List ℕ). Searches setting (header_number name) (candidates name (places (slice_index_or files.names file []) found.quoted setting.include)) files result) is.3 search)

-- with a header name
with-header : (setting : Setting) (more file : ℕ) (start header : PpToken) (others : List PpToken) (state : State) (outcome : Outcome) → is_header_kind header.kind ≡ true
    → Then (SearchesFor setting file header.spelling state.files) (λ (found : Sought) (result : Outcome). Includes setting (Enters setting more) start found.number found.files state result) outcome
    → DoesInclude setting (Enters setting more) file start (header ∷ others) state outcome
with-header setting more file start header others state outcome is does =
    subst (λ b. MatchBool b (Then (SearchesFor setting file header.spelling state.files) (λ (found : Sought) (result : Outcome). Includes setting (Enters setting more) start found.number found.files state result) outcome)
    (outcome ≡ Err (refusal refusals.out_of_subset start.place))) (sym is) does

-- a file is found and entered
pub include-enters : (setting : Setting) (more file : ℕ) (start : PpToken) (operands : List PpToken) (found : Header) (old new : Reader) (before after : Catalogue) (number : ℕ) (outcome : Outcome) → IsHeader start operands found
    → FindsIncluded setting file found before old (Ok number) after → IncludesOne old new → Enters setting more number (state_of new after) outcome
    → DoesInclude setting (Enters setting more) file start operands (state_of old before) outcome
include-enters setting more file start [] found old new before after number outcome is finds one enters = absurd is
include-enters setting more file start (header ∷ others) found old new before after number outcome is finds one enters =
    with-header setting more file start header others (state_of old before) outcome is.0
    (inr (
      sought (Some number) after,
      header-search setting file start header others found before (Ok (sought (Some number) after)) is finds,
      subst (λ b. MatchBool b (Enters setting more number (counted after (state_of old before)) outcome) (outcome ≡ Err (limit limits.inclusions setting.main))) (sym (lt-ltb old.inclusions most_inclusions one.0))
          (subst (λ (s : State). Enters setting more number s outcome) (ap (λ (r : Reader). state_of r after) one.1) enters),
    ))

-- the search stops, or what follows it
pub include-stops : (setting : Setting) (more file : ℕ) (start : PpToken) (operands : List PpToken) (found : Header) (old : Reader) (before : Catalogue) (stop : Stop) → IsHeader start operands found
    → Then (SearchesHeader setting file found before) (λ (there : Sought) (result : Outcome). IncludesStop setting.main found.start old.inclusions there.number result) (Err stop)
    → DoesInclude setting (Enters setting more) file start operands (state_of old before) (Err stop)
include-stops setting more file start [] found old before stop is finds = absurd is
include-stops setting more file start (header ∷ others) found old before stop is (inl stops) =
    with-header setting more file start header others (state_of old before) (Err stop) is.0
    (inl (stops.0, header-search setting file start header others found before (Err stops.0) is stops.1, stops.2))
include-stops setting more file start (header ∷ others) found old before stop is (inr goes) =
    with-header setting more file start header others (state_of old before) (Err stop) is.0
    (inr (goes.0, header-search setting file start header others found before (Ok goes.0) is goes.1, by goes.0.number goes.2))
  where
    by : (number : Option ℕ) → IncludesStop setting.main found.start old.inclusions number (Err stop) → Includes setting (Enters setting more) start number goes.0.files (state_of old before) (Err stop)
    by None e = e ∙ ap (λ place. Err (refusal refusals.not_found place)) is.1
    by (Some number) e =
        subst (λ b. MatchBool b (Enters setting more number (counted goes.0.files (state_of old before)) (Err stop)) (◌≡◌ {A = Outcome} (Err stop) (Err (limit limits.inclusions setting.main)))) (sym (le-ltb old.inclusions most_inclusions e.0)) e.1

-- THE PART

-- a line does what its directive does
pub line-does : (setting : Setting) (more file : ℕ) (tokens : List PpToken) (start : PpToken) (state : State) (outcome : Outcome) → 1 ≤ length tokens → start ≡ get_or tokens 0 start → is_hash start ≡ true
    → DoesDirective setting (Enters setting more) file (directive_of (drop 1 tokens)) start (drop 1 tokens) state outcome → ReadsPart setting (Enters setting more) file (part_of tokens) state outcome
line-does setting more file tokens start state outcome some is hash does =
    subst (λ (part : Part). ReadsPart setting (Enters setting more) file part state outcome) (sym (part-line tokens start some is hash)) does

-- an inclusion that is read
pub line-includes : (setting : Setting) (more file : ℕ) (tokens : List PpToken) (start : PpToken) (named : Directive) (state : State) (outcome : Outcome) → 1 ≤ length tokens → start ≡ get_or tokens 0 start → is_hash start ≡ true
    → named ≡ directive_of (drop 1 tokens) → (named ≡ Include) × (is_read state.sections ≡ true) → DoesInclude setting (Enters setting more) file start (drop 1 (drop 1 tokens)) state outcome
    → ReadsPart setting (Enters setting more) file (part_of tokens) state outcome
line-includes setting more file tokens start named state outcome some is hash name includes does =
    line-does setting more file tokens start state outcome some is hash
    (subst (λ (d : Directive). DoesDirective setting (Enters setting more) file d start (drop 1 tokens) state outcome) (sym includes.0 ∙ name)
    (subst (λ b. MatchBool b (DoesInclude setting (Enters setting more) file start (drop 1 (drop 1 tokens)) state outcome) (outcome ≡ Ok state)) (sym includes.1) does))
