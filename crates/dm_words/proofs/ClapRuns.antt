-- What `clap` makes of the words of `run`.
use Rattle.std.proofs.Common.{◌≡◌, ◌∙◌, ◌≤◌, ◌<◌, ◌+◌, ℕ, zero, suc, Bool, true, false, ◌&&◌, ◌||◌, refl, sym, ap, subst, List, [], ◌∷◌, ◌++◌, length, Option, Some, None, is_some, bytes_eq, codes, fold, arith, option_to_list, if◌then◌else◌}
use Rattle.std.specs.List.{list_all}
use Rattle.std.proofs.lemmas.Bool.{and_parts, eqb-true, false≢true}
use Rattle.clap.specs.Walk.{Row, Rule, Text, first_of, has_row, default_rows, is_empty, nothing_held, reading_by, with_default}
use Rattle.clap.specs.Simple.{Shape, built, matches_of}
use Rattle.clap.specs.Takes.{is_given, is_valid, takes}
use Rattle.clap.proofs.TakesLemmas.{leaf_takes}
use Rattle.dm_token.specs.Limits.{usual_steps}
use Rattle.dm_words.specs.CommandLines.{run_line, IsShown}
use Rattle.dm_words.specs.Requests.{Part, operand, json, order, steps, input, Are, Given, given_by, IsNumberGiven, MeansRun, RunRequest}
use Rattle.dm_words.proofs.ClapSteps.{placed, valued, row_of_use}
use Rattle.dm_words.proofs.ClapParts.{Suits, rows_of}
use Rattle.dm_words.proofs.ClapReports.{two_ids, finished-rows, level}

abbrev shape : Shape
shape = (built run_line).top

-- a row of another argument
other_row : (id : Text) (row : Row) (rows : List Row) → bytes_eq row.id id ≡ false → has_row id rows ≡ false → has_row id (rows ++ row ∷ []) ≡ false
other_row id row [] other fresh = ap (λ b. b || false) other
other_row id row (first ∷ rows) other fresh = at (bytes_eq first.id id) fresh (other_row id row rows other)
  where
    at : (same : Bool) → (same || has_row id rows) ≡ false → (has_row id rows ≡ false → has_row id (rows ++ row ∷ []) ≡ false) → (same || has_row id (rows ++ row ∷ [])) ≡ false
    at true fresh more = absurd (false≢true (sym fresh))
    at false fresh more = more fresh

-- the rows have room for what parts behind a position give
record Room (position : ℕ) (given : Given) (rows : List Row) : Type 0 where
  behind : 1 ≤ position
  operands : position + length given.operands ≤ 3
  jsons : given.jsons ≡ 0
  orders : length given.orders ≤ 1
  steps : length given.steps ≤ 1
  inputs : length given.inputs ≤ 1
  project : position ≤ 1 → has_row (codes "M") rows ≡ false
  unit : position ≤ 2 → has_row (codes "UNIT") rows ≡ false
  order : 0 < length given.orders → has_row (codes "order") rows ≡ false
  count : 0 < length given.steps → has_row (codes "steps") rows ≡ false
  name : 0 < length given.inputs → has_row (codes "input") rows ≡ false

-- parts for which there is room suit the command
suits_room : (parts : List Part) (position : ℕ) (rows : List Row) → Room position (given_by parts) rows → Suits shape two_ids position parts rows
suits_room [] position rows room = tt
suits_room (json ∷ parts) position rows room = let none = room.jsons in absurd (omega arith)
suits_room (operand text ∷ parts) zero rows room = let low = room.behind in absurd (omega arith)
suits_room (operand text ∷ parts) (suc zero) rows room =
    let row = row_of_use (placed 1 (codes "M")) (text ∷ []) in (
      record { by_id = refl; by_index = refl; follows = refl },
      room.project (omega arith),
      suits_room parts 2 (rows ++ row ∷ []) (record {
        behind = omega arith;
        operands = let most = room.operands in omega arith;
        jsons = room.jsons;
        orders = room.orders;
        steps = room.steps;
        inputs = room.inputs;
        project = λ low. absurd (omega arith);
        unit = λ low. other_row (codes "UNIT") row rows refl (room.unit (omega arith));
        order = λ some. other_row (codes "order") row rows refl (room.order some);
        count = λ some. other_row (codes "steps") row rows refl (room.count some);
        name = λ some. other_row (codes "input") row rows refl (room.name some);
      }),
    )
suits_room (operand text ∷ parts) (suc (suc zero)) rows room =
    let row = row_of_use (placed 2 (codes "UNIT")) (text ∷ []) in (
      record { by_id = refl; by_index = refl; follows = refl },
      room.unit (omega arith),
      suits_room parts 3 (rows ++ row ∷ []) (record {
        behind = omega arith;
        operands = let most = room.operands in omega arith;
        jsons = room.jsons;
        orders = room.orders;
        steps = room.steps;
        inputs = room.inputs;
        project = λ low. absurd (omega arith);
        unit = λ low. absurd (omega arith);
        order = λ some. other_row (codes "order") row rows refl (room.order some);
        count = λ some. other_row (codes "steps") row rows refl (room.count some);
        name = λ some. other_row (codes "input") row rows refl (room.name some);
      }),
    )
suits_room (operand text ∷ parts) (suc (suc (suc more))) rows room = let most = room.operands in absurd (omega arith)
suits_room (order value ∷ parts) position rows room =
    let row = row_of_use (valued (codes "order")) (value ∷ []) in (
      record { by_id = refl; by_long = refl },
      room.order (omega arith),
      suits_room parts position (rows ++ row ∷ []) (record {
        behind = room.behind;
        operands = room.operands;
        jsons = room.jsons;
        orders = let most = room.orders in omega arith;
        steps = room.steps;
        inputs = room.inputs;
        project = λ low. other_row (codes "M") row rows refl (room.project low);
        unit = λ low. other_row (codes "UNIT") row rows refl (room.unit low);
        order = λ some. let most = room.orders in absurd (omega arith);
        count = λ some. other_row (codes "steps") row rows refl (room.count some);
        name = λ some. other_row (codes "input") row rows refl (room.name some);
      }),
    )
suits_room (steps value ∷ parts) position rows room =
    let row = row_of_use (valued (codes "steps")) (value ∷ []) in (
      record { by_id = refl; by_long = refl },
      room.count (omega arith),
      suits_room parts position (rows ++ row ∷ []) (record {
        behind = room.behind;
        operands = room.operands;
        jsons = room.jsons;
        orders = room.orders;
        steps = let most = room.steps in omega arith;
        inputs = room.inputs;
        project = λ low. other_row (codes "M") row rows refl (room.project low);
        unit = λ low. other_row (codes "UNIT") row rows refl (room.unit low);
        order = λ some. other_row (codes "order") row rows refl (room.order some);
        count = λ some. let most = room.steps in absurd (omega arith);
        name = λ some. other_row (codes "input") row rows refl (room.name some);
      }),
    )
suits_room (input value ∷ parts) position rows room =
    let row = row_of_use (valued (codes "input")) (value ∷ []) in (
      record { by_id = refl; by_long = refl },
      room.name (omega arith),
      suits_room parts position (rows ++ row ∷ []) (record {
        behind = room.behind;
        operands = room.operands;
        jsons = room.jsons;
        orders = room.orders;
        steps = room.steps;
        inputs = let most = room.inputs in omega arith;
        project = λ low. other_row (codes "M") row rows refl (room.project low);
        unit = λ low. other_row (codes "UNIT") row rows refl (room.unit low);
        order = λ some. other_row (codes "order") row rows refl (room.order some);
        count = λ some. other_row (codes "steps") row rows refl (room.count some);
        name = λ some. let most = room.inputs in absurd (omega arith);
      }),
    )

-- what the rows hold
abbrev pub head_of : List Text → Option Text
head_of [] = None
head_of (text ∷ texts) = Some text

abbrev second_of : List Text → Option Text
second_of [] = None
second_of (text ∷ texts) = head_of texts

abbrev rows_at : ℕ → List Part → List Row
rows_at = rows_of two_ids

order_in : (parts : List Part) (position : ℕ) → first_of (codes "order") (rows_at position parts) ≡ head_of (given_by parts).orders
order_in [] position = refl
order_in (operand text ∷ parts) zero = order_in parts 1
order_in (operand text ∷ parts) (suc zero) = order_in parts 2
order_in (operand text ∷ parts) (suc (suc more)) = order_in parts (suc (suc (suc more)))
order_in (json ∷ parts) position = order_in parts position
order_in (order value ∷ parts) position = refl
order_in (steps value ∷ parts) position = order_in parts position
order_in (input value ∷ parts) position = order_in parts position

steps_in : (parts : List Part) (position : ℕ) → first_of (codes "steps") (rows_at position parts) ≡ head_of (given_by parts).steps
steps_in [] position = refl
steps_in (operand text ∷ parts) zero = steps_in parts 1
steps_in (operand text ∷ parts) (suc zero) = steps_in parts 2
steps_in (operand text ∷ parts) (suc (suc more)) = steps_in parts (suc (suc (suc more)))
steps_in (json ∷ parts) position = steps_in parts position
steps_in (order value ∷ parts) position = steps_in parts position
steps_in (steps value ∷ parts) position = refl
steps_in (input value ∷ parts) position = steps_in parts position

input_in : (parts : List Part) (position : ℕ) → first_of (codes "input") (rows_at position parts) ≡ head_of (given_by parts).inputs
input_in [] position = refl
input_in (operand text ∷ parts) zero = input_in parts 1
input_in (operand text ∷ parts) (suc zero) = input_in parts 2
input_in (operand text ∷ parts) (suc (suc more)) = input_in parts (suc (suc (suc more)))
input_in (json ∷ parts) position = input_in parts position
input_in (order value ∷ parts) position = input_in parts position
input_in (steps value ∷ parts) position = input_in parts position
input_in (input value ∷ parts) position = refl

-- an operand's first value, and that its argument is given
abbrev Holds : Text → List Row → Option Text → Type 0
Holds id rows text = (first_of id rows ≡ text) × (is_given id rows ≡ is_some text)

project_in : (parts : List Part) → Holds (codes "M") (rows_at 1 parts) (head_of (given_by parts).operands)
project_in [] = (refl, refl)
project_in (operand text ∷ parts) = (refl, refl)
project_in (json ∷ parts) = project_in parts
project_in (order value ∷ parts) = project_in parts
project_in (steps value ∷ parts) = project_in parts
project_in (input value ∷ parts) = project_in parts

unit_behind : (parts : List Part) → Holds (codes "UNIT") (rows_at 2 parts) (head_of (given_by parts).operands)
unit_behind [] = (refl, refl)
unit_behind (operand text ∷ parts) = (refl, refl)
unit_behind (json ∷ parts) = unit_behind parts
unit_behind (order value ∷ parts) = unit_behind parts
unit_behind (steps value ∷ parts) = unit_behind parts
unit_behind (input value ∷ parts) = unit_behind parts

unit_in : (parts : List Part) → Holds (codes "UNIT") (rows_at 1 parts) (second_of (given_by parts).operands)
unit_in [] = (refl, refl)
unit_in (operand text ∷ parts) = unit_behind parts
unit_in (json ∷ parts) = unit_in parts
unit_in (order value ∷ parts) = unit_in parts
unit_in (steps value ∷ parts) = unit_in parts
unit_in (input value ∷ parts) = unit_in parts

-- no argument of the command has a default
no_default : (a : Rule) (rows : List Row) → is_empty a.defaults ≡ true → with_default rows a ≡ rows
no_default a rows none = at (has_row a.id rows) a.defaults none
  where
    at : (there : Bool) (defaults : List Text) → is_empty defaults ≡ true → (if there then rows else default_rows a.id (reading_by a) defaults rows) ≡ rows
    at true defaults none = refl
    at false [] none = refl
    at false (text ∷ texts) none = let bad = eqb-true (length (text ∷ texts)) 0 none in absurd (omega arith)

no_defaults : (arguments : List Rule) (rows : List Row) → list_all (λ (a : Rule). is_empty a.defaults) arguments ≡ true → fold with_default rows arguments ≡ rows
no_defaults [] rows none = refl
no_defaults (a ∷ arguments) rows none =
    let parts = and_parts (is_empty a.defaults) (list_all (λ (one : Rule). is_empty one.defaults) arguments) none in
    ap (λ found. fold with_default found arguments) (no_default a rows parts.0) ∙ no_defaults arguments rows parts.1

-- what an option that is given at most once has
number_few : (default : ℕ) (given : List Text) (number : ℕ) → IsNumberGiven default given number → length given ≤ 1
number_few default [] number is = omega arith
number_few default (one ∷ []) number is = omega arith
number_few default (one ∷ other ∷ more) number is = absurd is

number_shown : (default : ℕ) (given : List Text) (number : ℕ) → IsNumberGiven default given number → IsShown default (head_of given) number
number_shown default [] number is = is
number_shown default (one ∷ []) number is = is
number_shown default (one ∷ other ∷ more) number is = absurd is

option_few : (value : Option Text) → length (option_to_list value) ≤ 1
option_few None = omega arith
option_few (Some text) = omega arith

option_head : (value : Option Text) → head_of (option_to_list value) ≡ value
option_head None = refl
option_head (Some text) = refl

abbrev matches : List Text → List Row
matches behind = matches_of run_line (codes "run" ∷ behind)

-- a run
pub record ReadsRun (behind : List Text) (request : RunRequest) : Type 0 where
  pub takes : takes run_line (codes "run" ∷ behind) ≡ true
  pub project_is : first_of (codes "M") (matches behind) ≡ Some request.project
  pub file_is : first_of (codes "UNIT") (matches behind) ≡ Some request.file
  pub order_is : IsShown 0 (first_of (codes "order") (matches behind)) request.order
  pub steps_are : IsShown usual_steps (first_of (codes "steps") (matches behind)) request.steps
  pub input_is : first_of (codes "input") (matches behind) ≡ request.input

module _ (behind : List Text) (request : RunRequest) (parts : List Part) (are : Are parts behind) (means : MeansRun (given_by parts) request) where
  operand_count : length (given_by parts).operands ≡ 2
  operand_count = ap length means.operands

  room : Room 1 (given_by parts) []
  room = record {
    behind = omega arith;
    operands = let two = operand_count in omega arith;
    jsons = means.jsons;
    orders = number_few 0 (given_by parts).orders request.order means.order;
    steps = number_few 1000000 (given_by parts).steps request.steps means.steps;
    inputs = subst (λ (given : List Text). length given ≤ 1) (sym means.input) (option_few request.input);
    project = λ low. refl;
    unit = λ low. refl;
    order = λ some. refl;
    count = λ some. refl;
    name = λ some. refl;
  }

  suits : Suits shape two_ids 1 parts []
  suits = suits_room parts 1 [] room

  matches_are : matches behind ≡ rows_at 1 parts
  matches_are = finished-rows shape two_ids parts behind suits are ∙ no_defaults shape.rules (rows_at 1 parts) refl

  valid : is_valid shape (fold with_default (rows_at 1 parts) shape.rules) false ≡ true
  valid =
      ap (λ found. is_valid shape found false) (no_defaults shape.rules (rows_at 1 parts) refl)
      ∙ ap (λ given. given && (is_given (codes "UNIT") (rows_at 1 parts) && true)) ((project_in parts).1 ∙ ap (λ operands. is_some (head_of operands)) means.operands)
      ∙ ap (λ given. given && true) ((unit_in parts).1 ∙ ap (λ operands. is_some (second_of operands)) means.operands)

  pub reads_run : ReadsRun behind request
  reads_run = record {
    takes = leaf_takes (built run_line) nothing_held behind refl (level shape two_ids parts behind suits are refl valid);
    project_is = ap (first_of (codes "M")) matches_are ∙ (project_in parts).0 ∙ ap head_of means.operands;
    file_is = ap (first_of (codes "UNIT")) matches_are ∙ (unit_in parts).0 ∙ ap second_of means.operands;
    order_is = subst (λ value. IsShown 0 value request.order) (sym (ap (first_of (codes "order")) matches_are ∙ order_in parts 1)) (number_shown 0 (given_by parts).orders request.order means.order);
    steps_are = subst (λ value. IsShown 1000000 value request.steps) (sym (ap (first_of (codes "steps")) matches_are ∙ steps_in parts 1)) (number_shown 1000000 (given_by parts).steps request.steps means.steps);
    input_is = ap (first_of (codes "input")) matches_are ∙ input_in parts 1 ∙ ap head_of means.input ∙ option_head request.input;
  }
