-- What words ask for, part by part.
use Rattle.std.proofs.Common.{◌≡◌, ◌<◌, ◌+◌, ℕ, zero, suc, Bool, true, false, List, [], ◌∷◌, length, map, Option, Some, None, refl, ap, ap₂, sym, subst, ◌∙◌, arith, ◌==◌, if◌then◌else◌, option_to_list}
use Rattle.std.proofs.lemmas.Bool.{eqb-true, true≢false}
use Rattle.dm_words.specs.declared.command.Command as code
use Rattle.dm_words.specs.declared.testing.Operands.TheVariants.{Neither}
use Rattle.dm_words.specs.declared.testing.Found.{Found}
use Rattle.dm_words.specs.declared.part.Part as read
use Rattle.dm_words.specs.Requests.{Part, Begins, Are, Given, only, given_by, IsNumber, IsNumberGiven, Means, MeansRun, MeansReport, MeansGenerated, RunRequest, Request, plan, apply, expand, run, gen, command_of, AsksFor}
use Rattle.dm_words.specs.Readings.{part_of, meant, followed, held, IsAskedBehind, Finds, Tests, TakesOn, Selects, kind_of, named, with_behind}
use Rattle.dm_words.proofs.NumberLemmas.{number_once}
use Rattle.dm_words.proofs.PartLemmas.{begins-read, read-begins, same_parts}

-- where words begin with a part, it is that one
begins_once : (words : List (List ℕ)) (part other : Part) (behind others : List (List ℕ)) → part_of words ≡ Some (with_behind behind part) → Begins other words others → (part ≡ other) × (behind ≡ others)
begins_once words part other behind others read begins = same_parts part other behind others (sym read ∙ begins-read other words others begins)

-- words are parts in one way
pub are_once : (parts others : List Part) (words : List (List ℕ)) → Are parts words → Are others words → parts ≡ others
are_once [] [] words left right = refl
are_once [] (other ∷ others) words left right =
    let none : None ≡ Some (with_behind right.0 other) = ap part_of (sym left) ∙ begins-read other words right.0 right.1 in
    absurd cc
are_once (part ∷ parts) [] words left right =
    let none : None ≡ Some (with_behind left.0 part) = ap part_of (sym right) ∙ begins-read part words left.0 left.1 in
    absurd cc
are_once (part ∷ parts) (other ∷ others) words left right =
    let both = begins_once words part other left.0 right.0 (begins-read part words left.0 left.1) right.1 in
    ap₂ (λ one more. one ∷ more) both.0 (are_once parts others right.0 (subst (λ behind. Are parts behind) both.1 left.2) right.2)

-- the command of a request is that of its name
pub named-asked : (request : Request) → named (command_of request) ≡ Some (kind_of request)
named-asked (plan project as_json) = refl
named-asked (apply project as_json) = refl
named-asked (expand project file) = refl
named-asked (run request) = refl
named-asked (gen count) = refl

-- an option has one value
one_value : (default : ℕ) (given : List (List ℕ)) (a b : ℕ) → IsNumberGiven default given a → IsNumberGiven default given b → a ≡ b
one_value default [] a b left right = left ∙ sym right
one_value default (one ∷ []) a b left right = number_once one a b left right
one_value default (one ∷ other ∷ more) a b left right = absurd left

first_or : List ℕ → List (List ℕ) → List ℕ
first_or word [] = word
first_or word (first ∷ others) = first

second_or : List ℕ → List (List ℕ) → List ℕ
second_or word [] = word
second_or word (first ∷ []) = word
second_or word (first ∷ second ∷ others) = second

-- what is in a list of one at most
head_of : List (List ℕ) → Option (List ℕ)
head_of [] = None
head_of (first ∷ others) = Some first

head_of-option : (value : Option (List ℕ)) → head_of (option_to_list value) ≡ value
unfolding head_of
head_of-option None = refl
head_of-option (Some value) = refl

same_run : (a b : RunRequest) → a.project ≡ b.project → a.file ≡ b.file → a.order ≡ b.order → a.steps ≡ b.steps → a.input ≡ b.input → a ≡ b
same_run a b project file order steps input =
    ap (λ p. record a { project = p }) project
    ∙ ap (λ f. record a { project = b.project; file = f }) file
    ∙ ap (λ o. record a { project = b.project; file = b.file; order = o }) order
    ∙ ap (λ s. record a { project = b.project; file = b.file; order = b.order; steps = s }) steps
    ∙ ap (λ i. record b { input = i }) input

run_once : (given : Given) (a b : RunRequest) → MeansRun given a → MeansRun given b → a ≡ b
unfolding first_or second_or
run_once given a b left right =
    let operands = sym left.operands ∙ right.operands in
    same_run a b (ap (first_or []) operands) (ap (second_or []) operands) (one_value 0 given.orders a.order b.order left.order right.order)
    (one_value 1000000 given.steps a.steps b.steps left.steps right.steps)
    (sym (head_of-option a.input) ∙ ap head_of (sym left.input ∙ right.input) ∙ head_of-option b.input)

-- one `--json` or none
is_some_json : ℕ → Bool
is_some_json zero = false
is_some_json (suc n) = true

is_some_json-bit : (as_json : Bool) → is_some_json (if as_json then 1 else 0) ≡ as_json
unfolding is_some_json
is_some_json-bit true = refl
is_some_json-bit false = refl

report_once : (given : Given) (a b : List ℕ) (j k : Bool) → MeansReport given a j → MeansReport given b k → (a ≡ b) × (j ≡ k)
unfolding first_or
report_once given a b j k left right =
    let same = sym left ∙ right in (
      ap (λ (g : Given). first_or [] g.operands) same,
      sym (is_some_json-bit j) ∙ ap (λ (g : Given). is_some_json g.jsons) same ∙ is_some_json-bit k,
    )

generated_once : (given : Given) (a b : ℕ) → MeansGenerated given a → MeansGenerated given b → a ≡ b
unfolding first_or
generated_once given a b left right =
    let same : left.operand ≡ right.operand = ap (λ (g : Given). first_or [] g.operands) (sym left.operands ∙ right.operands) in
    number_once right.operand a b (subst (λ text. IsNumber text a) same left.number) right.number

means_once : (given : Given) (a b : Request) → kind_of a ≡ kind_of b → Means given a → Means given b → a ≡ b
unfolding first_or second_or
means_once given (plan p j) (plan q k) kinds left right = let both = report_once given p q j k left right in ap₂ plan both.0 both.1
means_once given (apply p j) (apply q k) kinds left right = let both = report_once given p q j k left right in ap₂ apply both.0 both.1
means_once given (expand p f) (expand q g) kinds left right =
    let operands = ap (λ (one : Given). one.operands) (sym left ∙ right) in
    ap₂ expand (ap (first_or []) operands) (ap (second_or []) operands)
means_once given (run a) (run b) kinds left right = ap run (run_once given a b left right)
means_once given (gen a) (gen b) kinds left right = ap gen (generated_once given a b left right)
means_once given (plan p j) (apply q k) kinds left right = absurd cc
means_once given (plan p j) (expand q g) kinds left right = absurd cc
means_once given (plan p j) (run b) kinds left right = absurd cc
means_once given (plan p j) (gen b) kinds left right = absurd cc
means_once given (apply p j) (plan q k) kinds left right = absurd cc
means_once given (apply p j) (expand q g) kinds left right = absurd cc
means_once given (apply p j) (run b) kinds left right = absurd cc
means_once given (apply p j) (gen b) kinds left right = absurd cc
means_once given (expand p f) (plan q k) kinds left right = absurd cc
means_once given (expand p f) (apply q k) kinds left right = absurd cc
means_once given (expand p f) (run b) kinds left right = absurd cc
means_once given (expand p f) (gen b) kinds left right = absurd cc
means_once given (run a) (plan q k) kinds left right = absurd cc
means_once given (run a) (apply q k) kinds left right = absurd cc
means_once given (run a) (expand q g) kinds left right = absurd cc
means_once given (run a) (gen b) kinds left right = absurd cc
means_once given (gen a) (plan q k) kinds left right = absurd cc
means_once given (gen a) (apply q k) kinds left right = absurd cc
means_once given (gen a) (expand q g) kinds left right = absurd cc
means_once given (gen a) (run b) kinds left right = absurd cc

-- words that begin with a name are that and those behind it
tail_of : List (List ℕ) → List (List ℕ)
tail_of [] = []
tail_of (word ∷ others) = others

command_in : List (List ℕ) → Option code.Command
command_in [] = None
command_in (word ∷ others) = named word

some_kind : {a b : code.Command} → Some a ≡ Some b → a ≡ b
some_kind {a} {b} same = cc

pub same_kind : (words : List (List ℕ)) (a b : Request) → AsksFor words a → AsksFor words b → kind_of a ≡ kind_of b
unfolding command_in
same_kind words a b left right = some_kind (sym (named-asked a) ∙ ap command_in (sym left.command ∙ right.command) ∙ named-asked b)

pub asks_once : (words : List (List ℕ)) (a b : Request) → AsksFor words a → AsksFor words b → a ≡ b
unfolding tail_of
asks_once words a b left right =
    let behind : left.behind ≡ right.behind = ap tail_of (sym left.command ∙ right.command) in
    let parts = are_once left.parts right.parts right.behind (subst (λ behind. Are left.parts behind) behind left.are) right.are in
    means_once (given_by right.parts) a b (same_kind words a b left right) (subst (λ parts. Means (given_by parts) a) parts left.means) right.means

-- no words behind what was found
pub asks_at_end : (command : code.Command) (found : Found) (words : List (List ℕ)) (result : Bool) → length words ≡ 0
    → Finds command (Means (followed (held found) (only []))) result → Tests command found words result
asks_at_end command found [] true empty finds = (finds.0, finds.1, record { parts = []; are = refl; means = finds.2 })
asks_at_end command found [] false empty finds = λ request kind asked. at request kind asked.parts asked.are asked.means
  where
    at : (request : Request) → kind_of request ≡ command → (parts : List Part) → Are parts [] → Means (followed (held found) (given_by parts)) request → ⊥
    at request kind [] are means = finds request kind means
    at request kind (part ∷ parts) are means =
        let none : None ≡ Some (with_behind are.0 part) = begins-read part [] are.0 are.1 in
        absurd cc
asks_at_end command found (word ∷ words) result empty finds = absurd (omega arith)

-- words that begin with no part
pub asks_for_nothing : (command : code.Command) (found : Found) (words : List (List ℕ)) → 0 < length words → part_of words ≡ None → Tests command found words false
asks_for_nothing command found words some unread = λ request kind asked. at asked.parts asked.are
  where
    at : (parts : List Part) → Are parts words → ⊥
    at [] are = let none : length words ≡ 0 = ap length are in omega arith
    at (part ∷ parts) are =
        let none : None ≡ Some (with_behind are.0 part) = sym unread ∙ begins-read part words are.0 are.1 in
        absurd cc

-- words behind a part
module _ (command : code.Command) (found : Found) (one : read.Part) (words behind : List (List ℕ)) (some : 0 < length words) (begins : part_of words ≡ Some (with_behind behind (meant one))) where
  onward : (P : Type 0) (request : Request) → ((parts : List Part) → Are parts behind → Means (followed (held found) (given_by (meant one ∷ parts))) request → P) → IsAskedBehind found words request → P
  onward P request goes asked = at asked.parts asked.are asked.means
    where
      at : (parts : List Part) → Are parts words → Means (followed (held found) (given_by parts)) request → P
      at [] are means = absurd (let none : length words ≡ 0 = ap length are in omega arith)
      at (part ∷ parts) are means =
          let both = begins_once words (meant one) part behind are.0 begins are.1 in
          goes parts (subst (λ rest. Are parts rest) (sym both.1) are.2) (subst (λ first. Means (followed (held found) (given_by (first ∷ parts))) request) (sym both.0) means)

  pub asks_too_much : TakesOn found one None → Tests command found words false
  asks_too_much refuses = λ request kind. onward ⊥ request (λ parts are means. refuses parts request means)

  module _ (more : Found) (takes : TakesOn found one (Some more)) where
    back : (request : Request) → IsAskedBehind more behind request → IsAskedBehind found words request
    back request asked = record {
      parts = meant one ∷ asked.parts;
      are = (behind, read-begins words (meant one) behind begins, asked.are);
      means = subst (λ given. Means given request) (sym (takes asked.parts)) asked.means;
    }

    pub asks_further : (result : Bool) → Tests command more behind result → Tests command found words result
    asks_further true tests = (tests.0, tests.1, back tests.0 tests.2)
    asks_further false tests = λ request kind.
        onward ⊥ request (λ parts are means. tests request kind (record { parts = parts; are = are; means = subst (λ given. Means given request) (takes parts) means }))

-- no words, and some, by a test
pub no_words : {A B : Type 0} (f : A → B) (words : List A) (test : Bool) → test ≡ (length words == 0) → test ≡ true → length (map f words) ≡ 0
no_words f [] test is passes = refl
no_words f (word ∷ words) test is passes = let none = eqb-true (length (word ∷ words)) 0 (sym is ∙ passes) in absurd (omega arith)

pub some_words : {A B : Type 0} (f : A → B) (words : List A) (test : Bool) → test ≡ (length words == 0) → test ≡ false → 0 < length (map f words)
some_words f [] test is fails = absurd (true≢false (sym is ∙ fails))
some_words f (word ∷ words) test is fails = omega arith

-- nothing was found before the words behind the command
abbrev pub nothing_found : Found
nothing_found = record { operands = Neither; json = false; order = None; steps = None; input = None }

nothing_followed : (given : Given) → followed (held nothing_found) given ≡ given
nothing_followed given = let same : 0 + given.jsons ≡ given.jsons = omega arith in ap (λ count. record given { jsons = count }) same

module _ (words others : List (List ℕ)) (word : List ℕ) (are : words ≡ word ∷ others) (command : code.Command) (named_so : named word ≡ Some command) where
  pub selects_bad : Tests command nothing_found others false → Selects words None
  unfolding command_in tail_of
  selects_bad tests = λ request asked.
      let kind : kind_of request ≡ command = some_kind (sym (named-asked request) ∙ ap command_in (sym asked.command ∙ are) ∙ named_so) in
      let behind : asked.behind ≡ others = ap tail_of (sym asked.command ∙ are) in
      tests request kind (record { parts = asked.parts; are = subst (λ rest. Are asked.parts rest) behind asked.are; means = subst (λ given. Means given request) (sym (nothing_followed (given_by asked.parts))) asked.means })
