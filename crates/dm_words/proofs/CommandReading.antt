-- What `clap` finds of good words.
use Rattle.std.proofs.Common.{◌≡◌, ◌∙◌, ℕ, Bool, true, List, ◌∷◌, Option, Some, refl, sym, ap, subst, codes}
use Rattle.std.specs.Option.{IsSome}
use Rattle.clap.specs.Matches.{first_value, one_text}
use Rattle.clap.specs.Walk.{Row, Text, first_of, one_of, rows_of}
use Rattle.clap.specs.Simple.{App, is_simple, matches_of}
use Rattle.clap.specs.Takes.{takes}
use Rattle.clap.specs.declared.parser.matches.Found.{Found}
use Rattle.clap.proofs.WalkLemmas.{first_value-rows, one_text-rows}
use Rattle.dm_words.specs.declared.command.Command as code
use Rattle.dm_words.specs.declared.command.Command.TheVariants.{Plan, Apply, Expand, Run, Gen}
use Rattle.dm_words.specs.CommandLines.{IsShown, Shows, ShowsReport, line_of, report_line, unit_line, run_line, gen_line}
use Rattle.dm_words.specs.Readings.{kind_of, number_in}
use Rattle.dm_words.specs.Requests.{AsksFor, IsNumber, Request, plan, apply, expand, run, gen}
use Rattle.dm_words.proofs.NumberLemmas.{is_number-read, read-is_number}
use Rattle.dm_words.proofs.ClapReports.{ReadsReport, reads_report, reads_unit, reads_count}
use Rattle.dm_words.proofs.ClapRuns.{reads_run}

value_shown : (found : Found) (id : Text) (rows : List Row) → rows_of found ≡ rows → first_value found id ≡ first_of id rows
value_shown found id rows are = first_value-rows found id ∙ ap (first_of id) are

flag_shown : (found : Found) (id : Text) (rows : List Row) → rows_of found ≡ rows → one_text found id ≡ one_of id rows
flag_shown found id rows are = one_text-rows found id ∙ ap (one_of id) are

report_shown : (found : Found) (name : Text) (behind : List Text) (project : Text) (as_json : Bool) → ReadsReport name behind project as_json
    → rows_of found ≡ matches_of (report_line name) (name ∷ behind) → ShowsReport found project as_json
report_shown found name behind project as_json reads are =
    record { named = value_shown found (codes "M") _ are ∙ reads.project_is; form = flag_shown found (codes "json") _ are ∙ reads.form }

-- the command takes the words that ask for its requests
pub takes_request : (words : List Text) (request : Request) → AsksFor words request → takes (line_of (kind_of request)) words ≡ true
takes_request words (plan project as_json) asks =
    ap (takes (report_line (codes "plan"))) asks.command ∙ (reads_report (codes "plan") asks.behind project asks.parts as_json asks.are asks.means).takes
takes_request words (apply project as_json) asks =
    ap (takes (report_line (codes "apply"))) asks.command ∙ (reads_report (codes "apply") asks.behind project asks.parts as_json asks.are asks.means).takes
takes_request words (expand project file) asks =
    ap (takes (unit_line (codes "expand"))) asks.command ∙ (reads_unit (codes "expand") asks.behind project file asks.parts asks.are asks.means).takes
takes_request words (run request) asks = ap (takes run_line) asks.command ∙ (reads_run asks.behind request asks.parts asks.are asks.means).takes
takes_request words (gen count) asks = ap (takes gen_line) asks.command ∙ (reads_count asks.behind asks.means.operand asks.parts asks.are asks.means.operands).takes

-- what it finds shows the request
pub shows_request : (words : List Text) (request : Request) (found : Found) → AsksFor words request → rows_of found ≡ matches_of (line_of (kind_of request)) words → Shows found request
shows_request words (plan project as_json) found asks are =
    report_shown found (codes "plan") asks.behind project as_json (reads_report (codes "plan") asks.behind project asks.parts as_json asks.are asks.means)
    (are ∙ ap (matches_of (report_line (codes "plan"))) asks.command)
shows_request words (apply project as_json) found asks are =
    report_shown found (codes "apply") asks.behind project as_json (reads_report (codes "apply") asks.behind project asks.parts as_json asks.are asks.means)
    (are ∙ ap (matches_of (report_line (codes "apply"))) asks.command)
shows_request words (expand project file) found asks are =
    let reads = reads_unit (codes "expand") asks.behind project file asks.parts asks.are asks.means in
    let rows_are = are ∙ ap (matches_of (unit_line (codes "expand"))) asks.command in
    record { named = value_shown found (codes "M") _ rows_are ∙ reads.project_is; main = value_shown found (codes "UNIT") _ rows_are ∙ reads.file_is }
shows_request words (run request) found asks are =
    let reads = reads_run asks.behind request asks.parts asks.are asks.means in
    let rows_are = are ∙ ap (matches_of run_line) asks.command in (
      record { named = value_shown found (codes "M") _ rows_are ∙ reads.project_is; main = value_shown found (codes "UNIT") _ rows_are ∙ reads.file_is },
      subst (λ value. IsShown 0 value request.order) (sym (value_shown found (codes "order") _ rows_are)) reads.order_is,
      subst (λ value. IsShown 1000000 value request.steps) (sym (value_shown found (codes "steps") _ rows_are)) reads.steps_are,
      value_shown found (codes "input") _ rows_are ∙ reads.input_is,
    )
shows_request words (gen count) found asks are = (
  asks.means.operand,
  value_shown found (codes "N") _ (are ∙ ap (matches_of gen_line) asks.command) ∙ (reads_count asks.behind asks.means.operand asks.parts asks.are asks.means.operands).text_is,
  asks.means.number,
)

simple_line : (command : code.Command) → is_simple (line_of command) ≡ true
simple_line Plan = refl
simple_line Apply = refl
simple_line Expand = refl
simple_line Run = refl
simple_line Gen = refl

-- the same of the command line that the code makes
module _ (words : List Text) (command : code.Command) (app : App) (line_is : app ≡ line_of command) (request : Request) (kind : kind_of request ≡ command) (asks : AsksFor words request) where
  line_of_request : app ≡ line_of (kind_of request)
  line_of_request = line_is ∙ ap line_of (sym kind)

  pub takes_words : takes app words ≡ true
  takes_words = ap (λ one. takes one words) line_of_request ∙ takes_request words request asks

  pub shows_words : (found : Found) → (is_simple app ≡ true → rows_of found ≡ matches_of app words) → Shows found request
  shows_words found matched =
      shows_request words request found asks (matched (ap is_simple line_is ∙ simple_line command) ∙ ap (λ one. matches_of one words) line_of_request)

-- a number that is shown is there
pub number_there : (default : ℕ) (value : Option Text) (text : Text) (found : Option ℕ) → Some text ≡ value → found ≡ number_in text → (count : ℕ) × IsShown default value count → IsSome found
number_there default value text found some is shown =
    let number : IsNumber text shown.0 = subst (λ one. IsShown default one shown.0) (sym some) shown.1 in
    subst IsSome (sym (is ∙ is_number-read text shown.0 number)) refl

pub number_shown : (default : ℕ) (value : Option Text) (text : Text) (found : Option ℕ) (count : ℕ) → Some text ≡ value → found ≡ number_in text → found ≡ Some count → IsShown default value count
number_shown default value text found count some is read = subst (λ one. IsShown default one count) some (read-is_number text count (sym is ∙ read))

pub count_shown : (found : Found) (request : Request) (command : code.Command) → kind_of request ≡ command → command ≡ Gen → Shows found request → (count : ℕ) × IsShown 0 (first_value found (codes "N")) count
count_shown found (plan project as_json) command kind is shows = let bad : Plan ≡ Gen = kind ∙ is in absurd cc
count_shown found (apply project as_json) command kind is shows = let bad : Apply ≡ Gen = kind ∙ is in absurd cc
count_shown found (expand project file) command kind is shows = let bad : Expand ≡ Gen = kind ∙ is in absurd cc
count_shown found (run request) command kind is shows = let bad : Run ≡ Gen = kind ∙ is in absurd cc
count_shown found (gen count) command kind is shows = (count, subst (λ value. IsShown 0 value count) (sym shows.1) shows.2)
