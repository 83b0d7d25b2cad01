-- The commands as `clap` reads them, and what it finds of good words.
use Rattle.std.specs.Prelude.{◌≡◌, ℕ, Bool, true, List, Option, Some, None, codes, if◌then◌else◌}
use Rattle.clap.specs.Words.{App, Rule, new_app, new_rule, with_rule, first_value}
use Rattle.clap.specs.Matches.{one_text}
use Rattle.clap.specs.declared.builder.action.ArgAction.TheVariants.{SetTrue}
use Rattle.clap.specs.declared.parser.matches.Found.{Found}
use Rattle.dm_token.specs.Limits.{usual_steps}
use Rattle.dm_words.specs.declared.command.Command as code
use Rattle.dm_words.specs.declared.command.Command.TheVariants.{Plan, Apply, Expand, Run, Gen}
use Rattle.dm_words.specs.Requests.{IsNumber, Request, plan, apply, expand, run, gen}

-- an operand, an option with a value, and one without
abbrev pub operand_rule : List ℕ → Rule
operand_rule id = record (new_rule id) { required = true }

abbrev pub value_rule : List ℕ → Rule
value_rule name = record (new_rule name) { long = Some name }

abbrev pub flag_rule : List ℕ → Rule
flag_rule name = record (new_rule name) { long = Some name; action = Some SetTrue }

-- `NAME M [--json]`, `NAME M UNIT`, and what stands behind that of `run`
abbrev pub report_line : List ℕ → App
report_line name = with_rule (with_rule (new_app name) (operand_rule (codes "M"))) (flag_rule (codes "json"))

abbrev pub unit_line : List ℕ → App
unit_line name = with_rule (with_rule (new_app name) (operand_rule (codes "M"))) (operand_rule (codes "UNIT"))

abbrev pub run_line : App
run_line = with_rule (with_rule (with_rule (unit_line (codes "run")) (value_rule (codes "order"))) (value_rule (codes "steps"))) (value_rule (codes "input"))

abbrev pub gen_line : App
gen_line = with_rule (new_app (codes "gen")) (operand_rule (codes "N"))

abbrev pub line_of : code.Command → App
line_of Plan = report_line (codes "plan")
line_of Apply = report_line (codes "apply")
line_of Expand = unit_line (codes "expand")
line_of Run = run_line
line_of Gen = gen_line

-- a number that a value shows, where there is one
abbrev pub IsShown : ℕ → Option (List ℕ) → ℕ → Type 0
IsShown default None number = number ≡ default
IsShown default (Some text) number = IsNumber text number

-- a report that was found
pub record ShowsReport (found : Found) (project : List ℕ) (as_json : Bool) : Type 0 where
  pub named : first_value found (codes "M") ≡ Some project
  pub form : one_text found (codes "json") ≡ Some (if as_json then codes "true" else codes "false")

pub record ShowsUnit (found : Found) (project file : List ℕ) : Type 0 where
  pub named : first_value found (codes "M") ≡ Some project
  pub main : first_value found (codes "UNIT") ≡ Some file

-- a request that was found
abbrev pub Shows : Found → Request → Type 0
Shows found (plan project as_json) = ShowsReport found project as_json
Shows found (apply project as_json) = ShowsReport found project as_json
Shows found (expand project file) = ShowsUnit found project file
Shows found (run request) =
    ShowsUnit found request.project request.file × IsShown 0 (first_value found (codes "order")) request.order
    × IsShown usual_steps (first_value found (codes "steps")) request.steps × (first_value found (codes "input") ≡ request.input)
Shows found (gen count) = (text : List ℕ) × (first_value found (codes "N") ≡ Some text) × IsNumber text count
