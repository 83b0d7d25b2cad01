-- How words are tested, one part after another.
use Rattle.std.specs.Prelude.{◌≡◌, ◌+◌, ◌-◌, ◌*◌, ◌&&◌, ◌==◌, ℕ, Bool, true, false, not, List, [], ◌∷◌, ◌++◌, length, take, drop, Option, Some, None, is_some, option_map, option_to_list, nat_le, bytes_eq, codes, if◌then◌else◌}
use Rattle.std.specs.Borrow.{Bor}
use Rattle.dm_token.specs.Bytes.{is_digit}
use Rattle.dm_words.specs.declared.command.Command as code
use Rattle.dm_words.specs.declared.command.Command.TheVariants.{Plan, Apply, Expand, Run, Gen}
use Rattle.dm_words.specs.declared.testing.Found.{Found}
use Rattle.dm_words.specs.declared.testing.Operands.{Operands}
use Rattle.dm_words.specs.declared.testing.Operands.TheVariants.{Neither, One, Both}
use Rattle.dm_words.specs.declared.part.Name.{Name}
use Rattle.dm_words.specs.declared.part.Name.TheVariants as name
use Rattle.dm_words.specs.declared.part.Part as read
use Rattle.dm_words.specs.declared.part.Part.TheVariants as one
use Rattle.dm_gen.specs.Generated.{greatest_count}
use Rattle.dm_words.specs.Requests.{Part, operand, json, order, steps, input, Given, Are, given_by, Means, Request, plan, apply, expand, run, gen, AsksFor, is_plain_word, equals_sign, most_digits}

-- the greatest number of 64 bits
abbrev pub greatest_number : ℕ
greatest_number = 18446744073709551615

-- a number with one more digit, if it has 64 bits
abbrev pub with_digit : ℕ → ℕ → Option ℕ
with_digit number digit =
    if is_digit digit && nat_le (number * 10 + (digit - 48)) greatest_number then Some (number * 10 + (digit - 48)) else None

abbrev pub then_read : {A B : Type 0} → Option A → (A → Option B) → Option B
then_read None next = None
then_read (Some value) next = next value

abbrev pub value_after : ℕ → List ℕ → Option ℕ
value_after number [] = Some number
value_after number (digit ∷ digits) = then_read (with_digit number digit) (λ more. value_after more digits)

abbrev pub number_in : List ℕ → Option ℕ
number_in [] = None
number_in (digit ∷ digits) = if nat_le (length (digit ∷ digits)) most_digits then value_after 0 (digit ∷ digits) else None

-- the part that the code reads
abbrev pub meant : read.Part → Part
meant (one.Operand text) = operand text.now
meant one.Json = json
meant (one.Order value) = order value.now
meant (one.Steps value) = steps value.now
meant (one.Input value) = input value.now

-- what stands behind a name at the front of a word
abbrev pub starts : List ℕ → List ℕ → Bool
starts name word = bytes_eq (take (length name) word) name

abbrev pub name_at : List ℕ → Option (Name × List ℕ)
name_at word =
    if starts (codes "--order") word then Some (name.Order, drop 7 word)
    else if starts (codes "--steps") word then Some (name.Steps, drop 7 word)
    else if starts (codes "--input") word then Some (name.Input, drop 7 word)
    else None

abbrev pub value_at : List ℕ → List (List ℕ) → Option (List ℕ × List (List ℕ))
value_at [] [] = None
value_at [] (value ∷ behind) = Some (value, behind)
value_at (byte ∷ value) behind = if byte == equals_sign then Some (value, behind) else None

abbrev pub made_by : Name → List ℕ → Part
made_by name.Order value = order value
made_by name.Steps value = steps value
made_by name.Input value = input value

abbrev pub made_of : Name → List ℕ → Option Part
made_of name value = if is_plain_word value then Some (made_by name value) else None

-- a part, and the words behind it
abbrev pub with_behind : List (List ℕ) → Part → Part × List (List ℕ)
with_behind behind part = (part, behind)

abbrev pub option_with : Name → Option (List ℕ × List (List ℕ)) → Option (Part × List (List ℕ))
option_with name found = then_read found (λ value. option_map (with_behind value.1) (made_of name value.0))

abbrev pub option_of : List ℕ → List (List ℕ) → Option (Part × List (List ℕ))
option_of word behind = then_read (name_at word) (λ found. option_with found.0 (value_at found.1 behind))

abbrev pub part_of : List (List ℕ) → Option (Part × List (List ℕ))
part_of [] = None
part_of (word ∷ behind) =
    if is_plain_word word then Some (with_behind behind (operand word))
    else if bytes_eq word (codes "--json") then Some (with_behind behind json)
    else option_of word behind

-- the command of a request, and that of a name
abbrev pub kind_of : Request → code.Command
kind_of (plan project as_json) = Plan
kind_of (apply project as_json) = Apply
kind_of (expand project file) = Expand
kind_of (run request) = Run
kind_of (gen count) = Gen

abbrev pub named : List ℕ → Option code.Command
named word =
    if bytes_eq word (codes "plan") then Some Plan
    else if bytes_eq word (codes "apply") then Some Apply
    else if bytes_eq word (codes "expand") then Some Expand
    else if bytes_eq word (codes "run") then Some Run
    else if bytes_eq word (codes "gen") then Some Gen
    else None

-- what was found so far
abbrev pub texts_of : Operands → List (List ℕ)
texts_of Neither = []
texts_of (One first) = first.now ∷ []
texts_of (Both first second) = first.now ∷ second.now ∷ []

abbrev pub value_of : Option (Bor (List ℕ)) → List (List ℕ)
value_of value = option_to_list (option_map (λ text. text.now) value)

abbrev pub held_by : Operands → Bool → Option (Bor (List ℕ)) → Option (Bor (List ℕ)) → Option (Bor (List ℕ)) → Given
held_by texts as_json number count name = record {
  operands = texts_of texts;
  jsons = if as_json then 1 else 0;
  orders = value_of number;
  steps = value_of count;
  inputs = value_of name;
}

abbrev pub held : Found → Given
held found = held_by found.operands found.json found.order found.steps found.input

abbrev pub followed : Given → Given → Given
followed a b = record {
  operands = a.operands ++ b.operands;
  jsons = a.jsons + b.jsons;
  orders = a.orders ++ b.orders;
  steps = a.steps ++ b.steps;
  inputs = a.inputs ++ b.inputs;
}

-- what was found and the words behind it are the parts of this request
pub record IsAskedBehind (found : Found) (words : List (List ℕ)) (request : Request) : Type 0 where
  pub parts : List Part
  pub are : Are parts words
  pub means : Means (followed (held found) (given_by parts)) request

-- the outcome of a test whether there is a request of a command
abbrev pub Finds : code.Command → (Request → Type 0) → Bool → Type 0
Finds command Is true = (request : Request) × (kind_of request ≡ command) × Is request
Finds command Is false = (request : Request) → kind_of request ≡ command → ¬ Is request

abbrev pub Tests : code.Command → Found → List (List ℕ) → Bool → Type 0
Tests command found words = Finds command (IsAskedBehind found words)

abbrev pub Selects : List (List ℕ) → Option code.Command → Type 0
Selects words None = (request : Request) → ¬ AsksFor words request
Selects words (Some command) = (request : Request) × (kind_of request ≡ command) × AsksFor words request

-- what was found with one part more, if it can be part of a request
abbrev pub TakesOn : Found → read.Part → Option Found → Type 0
TakesOn found part None = (parts : List Part) (request : Request) → ¬ Means (followed (held found) (given_by (meant part ∷ parts))) request
TakesOn found part (Some more) = (parts : List Part) → followed (held found) (given_by (meant part ∷ parts)) ≡ followed (held more) (given_by parts)

-- whether what was found is what a command takes
abbrev pub no_values : Found → Bool
no_values found = not (is_some found.order) && (not (is_some found.steps) && not (is_some found.input))

abbrev pub is_lone : Operands → Bool
is_lone (One text) = true
is_lone operands = false

abbrev pub is_pair : Operands → Bool
is_pair (Both first second) = true
is_pair operands = false

abbrev pub may_be_number : Option (Bor (List ℕ)) → Bool
may_be_number None = true
may_be_number (Some text) = is_some (number_in text.now)

abbrev pub is_few : Option ℕ → Bool
is_few None = false
is_few (Some count) = nat_le count greatest_count

abbrev pub is_count : Operands → Bool
is_count (One text) = is_few (number_in text.now)
is_count operands = false

abbrev pub fits : code.Command → Found → Bool
fits Plan found = is_lone found.operands && no_values found
fits Apply found = is_lone found.operands && no_values found
fits Expand found = not found.json && (is_pair found.operands && no_values found)
fits Run found = not found.json && (is_pair found.operands && (may_be_number found.order && may_be_number found.steps))
fits Gen found = not found.json && (is_count found.operands && no_values found)
