-- What words ask for: `plan M [--json]`, `apply M [--json]`, `expand M UNIT`, `run M UNIT [--order N] [--steps N] [--input FILE]`
-- and `gen N`. Behind the command stand its operands, in this order, and its options among them, each at most once. `--json` is
-- one word. The value of another option is the next word, or stands behind `=` in the same word.
--     IsNumber text number      a text writes this number
--     Begins part words behind      words begin with this operand or option, and these are behind it
--     Are parts words      words are these operands and options
--     Means given request      the operands and options of this request
--     AsksFor words request      good words that ask for this
use Rattle.std.specs.Prelude.{◌≡◌, ◌⊎◌, ◌≤◌, ◌<◌, ◌^◌, ◌+◌, ◌-◌, ◌*◌, ℕ, Bool, true, false, not, ◌==◌, List, [], ◌∷◌, ◌++◌, length, Option, Some, None, option_map, option_to_list, codes, suc, if◌then◌else◌}
use Rattle.std.specs.List.{list_all}
use Rattle.dm_token.specs.Limits.{usual_steps}
use Rattle.dm_token.specs.Bytes.{is_digit}
use Rattle.dm_gen.specs.Generated.{greatest_count}
use Rattle.dm_words.specs.declared.asked.Request as code
use Rattle.dm_words.specs.declared.asked.Request.TheVariants as asked
use Rattle.dm_words.specs.declared.asked.RunWords.{RunWords}

abbrev pub hyphen : ℕ
hyphen = 45

abbrev pub equals_sign : ℕ
equals_sign = 61

-- a word that is neither empty nor begins with `-`, as each operand and value has to be
abbrev pub is_plain_word : List ℕ → Bool
is_plain_word [] = false
is_plain_word (byte ∷ bytes) = not (byte == hyphen)

-- the number that decimal digits write behind those of a number
abbrev pub number_behind : ℕ → List ℕ → ℕ
number_behind number [] = number
number_behind number (digit ∷ digits) = number_behind (number * 10 + (digit - 48)) digits

-- how many digits a number may have: as many as the greatest number of 64 bits
abbrev pub most_digits : ℕ
most_digits = 20

-- one to twenty decimal digits, which write a number of 64 bits
pub record IsNumber (text : List ℕ) (number : ℕ) : Type 0 where
  pub some : 1 ≤ length text
  pub few : length text ≤ most_digits
  pub digits : list_all is_digit text ≡ true
  pub is : number_behind 0 text ≡ number
  pub small : number < 2 ^ 64

-- the operands, and the options with their values
pub data Part : Type 0 where
  operand : List ℕ → Part
  json : Part
  order : List ℕ → Part
  steps : List ℕ → Part
  input : List ℕ → Part

-- words begin with the option of this name and value
abbrev pub BeginsOption : List ℕ → List ℕ → List (List ℕ) → List (List ℕ) → Type 0
BeginsOption name value words behind =
    (is_plain_word value ≡ true) × ((words ≡ name ∷ value ∷ behind) ⊎ (words ≡ (name ++ equals_sign ∷ value) ∷ behind))

abbrev pub Begins : Part → List (List ℕ) → List (List ℕ) → Type 0
Begins (operand text) words behind = (is_plain_word text ≡ true) × (words ≡ text ∷ behind)
Begins json words behind = words ≡ codes "--json" ∷ behind
Begins (order value) words behind = BeginsOption (codes "--order") value words behind
Begins (steps value) words behind = BeginsOption (codes "--steps") value words behind
Begins (input value) words behind = BeginsOption (codes "--input") value words behind

abbrev pub Are : List Part → List (List ℕ) → Type 0
Are [] words = words ≡ []
Are (part ∷ parts) words = (behind : List (List ℕ)) × Begins part words behind × Are parts behind

-- the operands, how often `--json` stands among them, and the other options' values by their kinds
pub record Given : Type 0 where
  pub operands : List (List ℕ)
  pub jsons : ℕ
  pub orders : List (List ℕ)
  pub steps : List (List ℕ)
  pub inputs : List (List ℕ)

abbrev pub only : List (List ℕ) → Given
only operands = record { operands = operands; jsons = 0; orders = []; steps = []; inputs = [] }

abbrev pub with_part : Part → Given → Given
with_part (operand text) given = record given { operands = text ∷ given.operands }
with_part json given = record given { jsons = suc given.jsons }
with_part (order value) given = record given { orders = value ∷ given.orders }
with_part (steps value) given = record given { steps = value ∷ given.steps }
with_part (input value) given = record given { inputs = value ∷ given.inputs }

abbrev pub given_by : List Part → Given
given_by [] = only []
given_by (part ∷ parts) = with_part part (given_by parts)

-- what is asked for of a run
pub record RunRequest : Type 0 where
  pub project : List ℕ
  pub file : List ℕ
  pub order : ℕ
  pub steps : ℕ
  pub input : Option (List ℕ)

-- what is asked for: to plan or to apply a project's changes, with the report as JSON or not, to expand the unit of a project with
-- this main file, to run one, or to plan the generated project of so many definitions
pub data Request : Type 0 where
  plan : List ℕ → Bool → Request
  apply : List ℕ → Bool → Request
  expand : List ℕ → List ℕ → Request
  run : RunRequest → Request
  gen : ℕ → Request

-- the number of an option that is given at most once
abbrev pub IsNumberGiven : ℕ → List (List ℕ) → ℕ → Type 0
IsNumberGiven default [] number = number ≡ default
IsNumberGiven default (value ∷ []) number = IsNumber value number
IsNumberGiven default (value ∷ other ∷ more) number = ⊥

-- two operands, and options with the defaults 0, 1,000,000 and none
pub record MeansRun (given : Given) (request : RunRequest) : Type 0 where
  pub operands : given.operands ≡ request.project ∷ request.file ∷ []
  pub jsons : given.jsons ≡ 0
  pub order : IsNumberGiven 0 given.orders request.order
  pub steps : IsNumberGiven usual_steps given.steps request.steps
  pub input : given.inputs ≡ option_to_list request.input

-- one operand, and `--json` or not
abbrev pub MeansReport : Given → List ℕ → Bool → Type 0
MeansReport given project as_json = given ≡ record (only (project ∷ [])) { jsons = if as_json then 1 else 0 }

-- one operand, which writes a number of definitions that may be generated
pub record MeansGenerated (given : Given) (count : ℕ) : Type 0 where
  pub operand : List ℕ
  pub operands : given ≡ only (operand ∷ [])
  pub number : IsNumber operand count
  pub few : count ≤ greatest_count

-- the operands and options of each request
abbrev pub Means : Given → Request → Type 0
Means given (plan project as_json) = MeansReport given project as_json
Means given (apply project as_json) = MeansReport given project as_json
Means given (expand project file) = given ≡ only (project ∷ file ∷ [])
Means given (run request) = MeansRun given request
Means given (gen count) = MeansGenerated given count

-- the word that selects it
abbrev pub command_of : Request → List ℕ
command_of (plan project as_json) = codes "plan"
command_of (apply project as_json) = codes "apply"
command_of (expand project file) = codes "expand"
command_of (run request) = codes "run"
command_of (gen count) = codes "gen"

pub record AsksFor (words : List (List ℕ)) (request : Request) : Type 0 where
  pub behind : List (List ℕ)
  pub command : words ≡ command_of request ∷ behind
  pub parts : List Part
  pub are : Are parts behind
  pub means : Means (given_by parts) request

-- what words ask for, if they are good
abbrev pub Asks : List (List ℕ) → Option Request → Type 0
Asks words None = (request : Request) → ¬ AsksFor words request
Asks words (Some request) = AsksFor words request

-- what the code makes of it
abbrev pub request_of : RunWords → RunRequest
request_of words = record {
  project = words.project.now;
  file = words.file.now;
  order = words.order;
  steps = words.steps;
  input = option_map (λ name. name.now) words.input;
}

abbrev pub asked_by : code.Request → Request
asked_by (asked.Plan project as_json) = plan project.now as_json
asked_by (asked.Apply project as_json) = apply project.now as_json
asked_by (asked.Expand project file) = expand project.now file.now
asked_by (asked.Run words) = run (request_of words)
asked_by (asked.Gen count) = gen count
