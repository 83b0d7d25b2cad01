-- What was found fits a command where it is a request of it.
use Rattle.std.proofs.Common.{◌≡◌, ◌≤◌, ◌+◌, ℕ, Bool, true, false, ◌&&◌, List, [], ◌∷◌, ◌++◌, Option, Some, None, is_some, option_map, option_to_list, refl, ap, sym, ◌∙◌, not, if◌then◌else◌}
use Rattle.std.specs.Borrow.{Bor}
use Rattle.std.proofs.lemmas.Bool.{and_from, and_parts, leb-true, le-leb, false≢true}
use Rattle.dm_words.specs.declared.command.Command as code
use Rattle.dm_words.specs.declared.command.Command.TheVariants.{Plan, Apply, Expand, Run, Gen}
use Rattle.dm_words.specs.declared.testing.Operands.{Operands}
use Rattle.dm_words.specs.declared.testing.Operands.TheVariants.{Neither, One, Both}
use Rattle.dm_words.specs.declared.testing.Found.{Found}
use Rattle.dm_gen.specs.Generated.{greatest_count}
use Rattle.dm_words.specs.Requests.{Given, only, IsNumber, IsNumberGiven, Means, Request, plan, apply, expand, run, gen}
use Rattle.dm_words.specs.Readings.{followed, held, texts_of, value_of, number_in, Finds, fits, kind_of, no_values, is_lone, is_pair, is_count, is_few, may_be_number}
use Rattle.dm_words.proofs.NumberLemmas.{read-is_number, is_number-read}

abbrev Text : Type 0
Text = Option (Bor (List ℕ))

abbrev made_found : Operands → Bool → Text → Text → Text → Found
made_found texts as_json number count name = record { operands = texts; json = as_json; order = number; steps = count; input = name }

-- what was found, as it would be with no words behind it
abbrev whole : Found → Given
whole found = followed (held found) (only [])

-- a value that may be a number is one
number_of : (default : ℕ) (value : Text) → may_be_number value ≡ true → (number : ℕ) × IsNumberGiven default (value_of value ++ []) number
number_of default None may = (default, refl)
number_of default (Some text) may = at (number_in text.now) refl may
  where
    at : (found : Option ℕ) → number_in text.now ≡ found → is_some found ≡ true → (number : ℕ) × IsNumber text.now number
    at None is none = absurd (false≢true none)
    at (Some number) is some = (number, read-is_number text.now number is)

few_of : (text : List ℕ) (found : Option ℕ) → number_in text ≡ found → is_few found ≡ true → (count : ℕ) × IsNumber text count × (count ≤ greatest_count)
few_of text None is none = absurd (false≢true none)
few_of text (Some count) is few = (count, read-is_number text count is, leb-true count greatest_count few)

inputs_of : (value : Text) → value_of value ++ [] ≡ option_to_list (option_map (λ (text : Bor (List ℕ)). text.now) value)
inputs_of None = refl
inputs_of (Some text) = refl

and_false : (test : Bool) → (test && false) ≡ false
and_false true = refl
and_false false = refl

Asked : code.Command → Found → Type 0
Asked command found = (request : Request) × (kind_of request ≡ command) × Means (whole found) request

-- what fits is a request
report_fits : (texts : Operands) (as_json : Bool) (number count name : Text)
    → (is_lone texts && no_values (made_found texts as_json number count name)) ≡ true
    → (project : List ℕ) × (whole (made_found texts as_json number count name) ≡ record (only (project ∷ [])) { jsons = if as_json then 1 else 0 })
report_fits Neither as_json number count name holds = absurd (false≢true holds)
report_fits (Both first second) as_json number count name holds = absurd (false≢true holds)
report_fits (One text) as_json (Some value) count name holds = absurd (false≢true holds)
report_fits (One text) as_json None (Some value) name holds = absurd (false≢true holds)
report_fits (One text) as_json None None (Some value) holds = absurd (false≢true holds)
report_fits (One text) true None None None holds = (text.now, refl)
report_fits (One text) false None None None holds = (text.now, refl)

unit_fits : (texts : Operands) (as_json : Bool) (number count name : Text)
    → (not as_json && (is_pair texts && no_values (made_found texts as_json number count name))) ≡ true
    → (project : List ℕ) × (file : List ℕ) × (whole (made_found texts as_json number count name) ≡ only (project ∷ file ∷ []))
unit_fits texts true number count name holds = absurd (false≢true holds)
unit_fits Neither false number count name holds = absurd (false≢true holds)
unit_fits (One text) false number count name holds = absurd (false≢true holds)
unit_fits (Both first second) false (Some value) count name holds = absurd (false≢true holds)
unit_fits (Both first second) false None (Some value) name holds = absurd (false≢true holds)
unit_fits (Both first second) false None None (Some value) holds = absurd (false≢true holds)
unit_fits (Both first second) false None None None holds = (first.now, second.now, refl)

run_fits : (texts : Operands) (as_json : Bool) (number count name : Text)
    → (not as_json && (is_pair texts && (may_be_number number && may_be_number count))) ≡ true → Asked Run (made_found texts as_json number count name)
unfolding Asked
run_fits texts true number count name holds = absurd (false≢true holds)
run_fits Neither false number count name holds = absurd (false≢true holds)
run_fits (One text) false number count name holds = absurd (false≢true holds)
run_fits (Both first second) false number count name holds =
    let both = and_parts (may_be_number number) (may_be_number count) holds in
    let order_is = number_of 0 number both.0 in
    let steps_are = number_of 1000000 count both.1 in (
      run (record { project = first.now; file = second.now; order = order_is.0; steps = steps_are.0; input = option_map (λ (text : Bor (List ℕ)). text.now) name }),
      refl,
      record { operands = refl; jsons = refl; order = order_is.1; steps = steps_are.1; input = inputs_of name },
    )

generated_fits : (texts : Operands) (as_json : Bool) (number count name : Text)
    → (not as_json && (is_count texts && no_values (made_found texts as_json number count name))) ≡ true → Asked Gen (made_found texts as_json number count name)
unfolding Asked
generated_fits texts true number count name holds = absurd (false≢true holds)
generated_fits Neither false number count name holds = absurd (false≢true holds)
generated_fits (Both first second) false number count name holds = absurd (false≢true holds)
generated_fits (One text) false (Some value) count name holds = absurd (false≢true (sym (and_false _) ∙ holds))
generated_fits (One text) false None (Some value) name holds = absurd (false≢true (sym (and_false _) ∙ holds))
generated_fits (One text) false None None (Some value) holds = absurd (false≢true (sym (and_false _) ∙ holds))
generated_fits (One text) false None None None holds =
    let few = few_of text.now (number_in text.now) refl (and_parts (is_few (number_in text.now)) true holds).0 in
    (gen few.0, refl, record { operand = text.now; operands = refl; number = few.1; few = few.2 })

fits-asked : (command : code.Command) (found : Found) → fits command found ≡ true → Asked command found
unfolding Asked
fits-asked Plan found holds =
    let is = report_fits found.operands found.json found.order found.steps found.input holds in
    (plan is.0 found.json, refl, is.1)
fits-asked Apply found holds =
    let is = report_fits found.operands found.json found.order found.steps found.input holds in
    (apply is.0 found.json, refl, is.1)
fits-asked Expand found holds =
    let is = unit_fits found.operands found.json found.order found.steps found.input holds in
    (expand is.0 is.1, refl, is.2)
fits-asked Run found holds = run_fits found.operands found.json found.order found.steps found.input holds
fits-asked Gen found holds = generated_fits found.operands found.json found.order found.steps found.input holds

-- a request fits
none_there : (value : Text) → value_of value ++ [] ≡ [] → not (is_some value) ≡ true
none_there None none = refl
none_there (Some text) none = absurd cc

lone_there : (texts : Operands) (project : List ℕ) → texts_of texts ++ [] ≡ project ∷ [] → is_lone texts ≡ true
lone_there Neither project is = absurd cc
lone_there (One text) project is = refl
lone_there (Both first second) project is = absurd cc

pair_there : (texts : Operands) (project file : List ℕ) → texts_of texts ++ [] ≡ project ∷ file ∷ [] → is_pair texts ≡ true
pair_there Neither project file is = absurd cc
pair_there (One text) project file is = absurd cc
pair_there (Both first second) project file is = refl

no_json : (as_json : Bool) → (if as_json then 1 else 0) + 0 ≡ 0 → not as_json ≡ true
no_json false none = refl
no_json true none = absurd cc

number_there : (default : ℕ) (value : Text) (number : ℕ) → IsNumberGiven default (value_of value ++ []) number → may_be_number value ≡ true
number_there default None number is = refl
number_there default (Some text) number is = ap is_some (is_number-read text.now number is)

count_there : (texts : Operands) (text : List ℕ) (count : ℕ) → texts_of texts ++ [] ≡ text ∷ [] → IsNumber text count → count ≤ greatest_count → is_count texts ≡ true
count_there Neither text count is number few = absurd cc
count_there (Both first second) text count is number few = absurd cc
count_there (One first) text count is number few =
    let same : first.now ≡ text = cc in
    ap is_few (ap number_in same ∙ is_number-read text count number) ∙ le-leb count greatest_count few

nothing_there : (found : Found) → value_of found.order ++ [] ≡ [] → value_of found.steps ++ [] ≡ [] → value_of found.input ++ [] ≡ [] → no_values found ≡ true
nothing_there found number count name =
    and_from _ _ (none_there found.order number) (and_from _ _ (none_there found.steps count) (none_there found.input name))

asked-fits : (found : Found) (request : Request) → Means (whole found) request → fits (kind_of request) found ≡ true
asked-fits found (plan project as_json) means =
    and_from _ _ (lone_there found.operands project (ap (λ (given : Given). given.operands) means))
    (nothing_there found (ap (λ (given : Given). given.orders) means) (ap (λ (given : Given). given.steps) means) (ap (λ (given : Given). given.inputs) means))
asked-fits found (apply project as_json) means =
    and_from _ _ (lone_there found.operands project (ap (λ (given : Given). given.operands) means))
    (nothing_there found (ap (λ (given : Given). given.orders) means) (ap (λ (given : Given). given.steps) means) (ap (λ (given : Given). given.inputs) means))
asked-fits found (expand project file) means =
    and_from _ _ (no_json found.json (ap (λ (given : Given). given.jsons) means))
    (and_from _ _ (pair_there found.operands project file (ap (λ (given : Given). given.operands) means))
    (nothing_there found (ap (λ (given : Given). given.orders) means) (ap (λ (given : Given). given.steps) means) (ap (λ (given : Given). given.inputs) means)))
asked-fits found (run request) means =
    and_from _ _ (no_json found.json means.jsons)
    (and_from _ _ (pair_there found.operands request.project request.file means.operands)
    (and_from _ _ (number_there 0 found.order request.order means.order) (number_there 1000000 found.steps request.steps means.steps)))
asked-fits found (gen count) means =
    and_from _ _ (no_json found.json (ap (λ (given : Given). given.jsons) means.operands))
    (and_from _ _ (count_there found.operands means.operand count (ap (λ (given : Given). given.operands) means.operands) means.number means.few)
    (nothing_there found (ap (λ (given : Given). given.orders) means.operands) (ap (λ (given : Given). given.steps) means.operands) (ap (λ (given : Given). given.inputs) means.operands)))

-- what the test says of what was found
pub fits-finds : (command : code.Command) (found : Found) (result : Bool) → result ≡ fits command found → Finds command (Means (followed (held found) (only []))) result
unfolding Asked
fits-finds command found true is = fits-asked command found (sym is)
fits-finds command found false is = λ request kind means.
    false≢true (is ∙ ap (λ one. fits one found) (sym kind) ∙ asked-fits found request means)
