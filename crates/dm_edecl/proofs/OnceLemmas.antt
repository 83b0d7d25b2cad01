-- A unit defines a function once.
use Rattle.std.specs.Prelude.{◌≡◌, ℕ, Bool, true, false, not, ◌||◌, ◌&&◌, ◌==◌, nat_eq, List, [], ◌∷◌, ◌++◌, refl}
use Rattle.std.specs.List.{IsDistinct, AllByRecursion}
use Rattle.std.proofs.Common.{sym, ap, subst, eqb-true, eq-eqb}
use Rattle.dm_token.specs.declared.place.Span.{Span}
use Rattle.dm_token.specs.declared.token.CToken.{CToken}
use Rattle.dm_type.specs.declared.shape.Shape.{Shape}
use Rattle.dm_type.specs.CTypes.{CType}
use Rattle.dm_syn.specs.Spans.{declarator_span}
use Rattle.dm_syn.specs.Trees.{Declarator, Stmt, External}
use Rattle.dm_syn.specs.Trees as tree
use Rattle.dm_name_map.specs.Numbers.{Numbers}
use Rattle.dm_tree.specs.Typing.{defined_by, defined_functions}
use Rattle.dm_tree.specs.Units.{declares, defines_function, TypedUnit}
use Rattle.dm_tree.specs.Trees.{Tree}
use Rattle.dm_tree.specs.Trees as label
use Rattle.dm_tree.specs.Units as unit
use Rattle.dm_typing.specs.Known.{Known, Setting, Outcome, given, broken}
use Rattle.dm_typing.specs.Specifiers.{of_definition}
use Rattle.dm_edecl.specs.Standing.{Linked, Standing, Progress, goes_on, stops, further, knowing, collecting, keeps}
use Rattle.dm_edecl.specs.Linkages.{is_defined, with_link, function_here, number_here, entry_of, may_be_declared, kind_seen}
use Rattle.dm_edecl.specs.Declaring.{Specified, specified, declarable, is_misplaced_static, may_be_object, may_be_main, fits_main, name_at, declarators_of, expressions_of, typed_declaration}
use Rattle.dm_edecl.specs.Statements.{Within, statement, typed_items_in}
use Rattle.dm_edecl.specs.Units.{Heading, typed_heading, body_within, numbers_of, external_of, function_defined, typed_external, typed_externals, typed_unit, unit_of, unit_setting, beginning, typed_body}
use Rattle.dm_edecl.proofs.ProgressLemmas.{Grows, grows-with, GrowsTo, scope-grows, made-grows, declaration-grows, stmt-grows, block-grows}

-- ---- what is defined

-- the functions of some numbers weren't defined, and are now, each once; and what was defined still is
AreNew : List Linked → List Linked → List ℕ → Type 0
AreNew old new numbers =
    AllByRecursion (λ n. is_defined n old ≡ false) numbers × AllByRecursion (λ n. is_defined n new ≡ true) numbers
    × IsDistinct nat_eq numbers × ((n : ℕ) → is_defined n old ≡ true → is_defined n new ≡ true)

DefinesTo : {A : Type 0} → (A → List ℕ) → List Linked → Progress A → Type 0
DefinesTo numbers old (goes_on new it) = AreNew old new.linked (numbers it)
DefinesTo numbers old (stops rule at) = Unit {0}

-- what isn't defined afterwards wasn't before
not-before : (a b : Bool) → (a ≡ true → b ≡ true) → b ≡ false → a ≡ false
not-before false b f h = refl
not-before true b f h = let t = f refl in absurd (cc)

none-before : (old new : List Linked) (numbers : List ℕ) → ((n : ℕ) → is_defined n old ≡ true → is_defined n new ≡ true)
    → AllByRecursion (λ n. is_defined n new ≡ false) numbers → AllByRecursion (λ n. is_defined n old ≡ false) numbers
none-before old new [] grows none = tt
none-before old new (n ∷ others) grows none =
    (not-before (is_defined n old) (is_defined n new) (grows n) none.0, none-before old new others grows none.1)

all-after : (old new : List Linked) (numbers : List ℕ) → ((n : ℕ) → is_defined n old ≡ true → is_defined n new ≡ true)
    → AllByRecursion (λ n. is_defined n old ≡ true) numbers → AllByRecursion (λ n. is_defined n new ≡ true) numbers
all-after old new [] grows all = tt
all-after old new (n ∷ others) grows all = (grows n all.0, all-after old new others grows all.1)

all-append : (P : ℕ → Type 0) (numbers others : List ℕ) → AllByRecursion P numbers → AllByRecursion P others → AllByRecursion P (numbers ++ others)
all-append P [] others a b = b
all-append P (n ∷ numbers) others a b = (a.0, all-append P numbers others a.1 b)

-- a number that is defined is none of those that aren't
differ : (linked : List Linked) (n m : ℕ) → is_defined n linked ≡ true → is_defined m linked ≡ false → nat_eq n m ≡ false
differ linked n m a b = by-test (nat_eq n m) refl
  where
    by-test : (test : Bool) → nat_eq n m ≡ test → nat_eq n m ≡ false
    by-test false e = e
    by-test true e =
        let t : is_defined m linked ≡ true = subst (λ k. is_defined k linked ≡ true) (eqb-true n m e) a in absurd (cc)

all-differ : (linked : List Linked) (n : ℕ) (numbers : List ℕ) → is_defined n linked ≡ true → AllByRecursion (λ m. is_defined m linked ≡ false) numbers
    → AllByRecursion (λ m. nat_eq n m ≡ false) numbers
all-differ linked n [] a none = tt
all-differ linked n (m ∷ others) a none = (differ linked n m a none.0, all-differ linked n others a none.1)

distinct-append : (linked : List Linked) (numbers others : List ℕ) → AllByRecursion (λ n. is_defined n linked ≡ true) numbers
    → AllByRecursion (λ n. is_defined n linked ≡ false) others → IsDistinct nat_eq numbers → IsDistinct nat_eq others → IsDistinct nat_eq (numbers ++ others)
unfolding IsDistinct
distinct-append linked [] others all none a b = b
distinct-append linked (n ∷ numbers) others all none a b =
    (all-append (λ m. nat_eq n m ≡ false) numbers others a.0 (all-differ linked n others all.0 none), distinct-append linked numbers others all.1 none a.1 b)

both-new : (old middle new : List Linked) (numbers others : List ℕ) → AreNew old middle numbers → AreNew middle new others → AreNew old new (numbers ++ others)
unfolding AreNew
both-new old middle new numbers others a b = (
  all-append (λ n. is_defined n old ≡ false) numbers others a.0 (none-before old middle others a.3 b.0),
  all-append (λ n. is_defined n new ≡ true) numbers others (all-after middle new numbers b.3 a.1) b.1,
  distinct-append middle numbers others a.1 b.0 a.2 b.2,
  (λ n h. b.3 n (a.3 n h)),
)

-- ---- steps

collecting-defines : {A B : Type 0} (numbers : B → List ℕ) (s : Standing) (outcome : Outcome A) (next : Standing → List Tree → A → Progress B)
    → ((t : Standing) (constants : List Tree) (it : A) → DefinesTo numbers t.linked (next t constants it)) → DefinesTo numbers s.linked (collecting s outcome next)
unfolding DefinesTo
collecting-defines numbers s (given known it) next g = g (knowing s known) known.constants it
collecting-defines numbers s (broken rule at) next g = tt

keeps-defines : {A : Type 0} (numbers : A → List ℕ) (old : List Linked) (test : Bool) (rule at : ℕ) (next : Progress A)
    → (test ≡ true → DefinesTo numbers old next) → DefinesTo numbers old (keeps test rule at next)
unfolding DefinesTo
keeps-defines numbers old true rule at next g = g refl
keeps-defines numbers old false rule at next g = tt

four-define : {A : Type 0} (numbers : A → List ℕ) (old : List Linked) (a b c d : Bool) (name first here : ℕ) (next : Progress A) → DefinesTo numbers old next
    → DefinesTo numbers old (keeps a 2 name (keeps b 3 first (keeps c 5 here (keeps d 36 name next))))
four-define numbers old a b c d name first here next g =
    keeps-defines numbers old a 2 name (keeps b 3 first (keeps c 5 here (keeps d 36 name next))) (λ _.
    keeps-defines numbers old b 3 first (keeps c 5 here (keeps d 36 name next)) (λ _.
    keeps-defines numbers old c 5 here (keeps d 36 name next) (λ _. keeps-defines numbers old d 36 name next (λ _. g))))

declarable-defines : {A : Type 0} (numbers : A → List ℕ) (said : Specified) (s : Standing) (initialised : Bool) (here name : ℕ) (entry : unit.Declaration)
    (next : Progress A) → DefinesTo numbers s.linked next → DefinesTo numbers s.linked (declarable said s initialised here name entry next)
declarable-defines numbers said s initialised here name entry next g =
    four-define numbers s.linked (may_be_declared s entry) (not (is_misplaced_static s.known said.storage entry.sort))
    (may_be_object s.known said.storage initialised entry.sort (kind_seen s entry)) (may_be_main s.known entry) name said.first here next g

-- ---- external declarations

defined_by_one : unit.External → List ℕ
defined_by_one one = defined_by one.form

nothing-new : {A B : Type 0} (numbers : B → List ℕ) (s : Standing) (progress : Progress A) (make : A → B) → ((it : A) → numbers (make it) ≡ [])
    → GrowsTo s progress → DefinesTo numbers s.linked (further progress (λ t it. goes_on t (make it)))
unfolding DefinesTo AreNew GrowsTo Grows IsDistinct
nothing-new numbers s (goes_on t it) make e g = subst (AreNew s.linked t.linked) (sym (e it)) (tt, tt, tt, g)
nothing-new numbers s (stops rule at) make e g = tt

one-new : {A B : Type 0} (numbers : B → List ℕ) (n : ℕ) (s t : Standing) (progress : Progress A) (make : A → B) → ((it : A) → numbers (make it) ≡ n ∷ [])
    → is_defined n s.linked ≡ false → is_defined n t.linked ≡ true → Grows s t → GrowsTo t progress
    → DefinesTo numbers s.linked (further progress (λ u it. goes_on u (make it)))
unfolding DefinesTo AreNew GrowsTo Grows IsDistinct
one-new numbers n s t (goes_on u it) make e unused used f g =
    subst (AreNew s.linked u.linked) (sym (e it)) ((unused, tt), (g n used, tt), (tt, tt), (λ m h. g m (f m h)))
one-new numbers n s t (stops rule at) make e unused used f g = tt

both-true : (test : Bool) → test ≡ true → (true && test || false) ≡ true
both-true true h = refl
both-true false h = absurd (cc)

later-true : (one other : Bool) → other ≡ true → (one || other) ≡ true
later-true true other h = refl
later-true false other h = h

defined-last : (n : ℕ) (kind : CType) (linked : List Linked) → is_defined n (with_link n kind true linked) ≡ true
defined-last n kind [] = both-true (n == n) (eq-eqb n n refl)
defined-last n kind (one ∷ others) =
    later-true (one.defines && (one.number == n)) (is_defined n (with_link n kind true others)) (defined-last n kind others)

not-true : (test : Bool) → not test ≡ true → test ≡ false
not-true true h = absurd (cc)
not-true false h = refl

-- the body of a function
body-grows : (setting : Setting) (within : Within) (s : Standing) (scope : Numbers) (body : Stmt) → GrowsTo s (typed_body setting within s scope body)
body-grows setting within s scope (tree.block span items) =
    scope-grows s scope (λ t. further (typed_items_in setting within t items) (λ behind trees. goes_on behind (statement setting span label.block trees)))
    (λ t. made-grows t (typed_items_in setting within t items) (statement setting span label.block) (block-grows setting within t items))
body-grows setting within s scope stmt = stmt-grows setting within s stmt

function-defines : (setting : Setting) (said : Specified) (s : Standing) (span : Span) (declarator : Declarator) (body : Stmt) (constants : List Tree) (heading : Heading) (entry : unit.Declaration)
    → DefinesTo defined_by_one s.linked (function_defined setting said s span declarator body constants heading entry)
unfolding defined_by_one
function-defines setting said s span declarator body constants heading entry =
    let n = number_here s entry in
    let t = function_here s entry in
    keeps-defines defined_by_one s.linked (not (is_defined n s.linked)) 2 (name_at declarator)
    (declarable said s false (declarator_span declarator).first (name_at declarator) entry
    (keeps (fits_main entry) 36 (name_at declarator)
    (further (typed_body setting (body_within heading.kind) t heading.scope body)
    (λ behind made. goes_on behind (external_of span constants (defines_function n (numbers_of heading.parameters) made))))))
    (λ new.
    declarable-defines defined_by_one said s false (declarator_span declarator).first (name_at declarator) entry
    (keeps (fits_main entry) 36 (name_at declarator)
    (further (typed_body setting (body_within heading.kind) t heading.scope body)
    (λ behind made. goes_on behind (external_of span constants (defines_function n (numbers_of heading.parameters) made)))))
    (keeps-defines defined_by_one s.linked (fits_main entry) 36 (name_at declarator)
    (further (typed_body setting (body_within heading.kind) t heading.scope body)
    (λ behind made. goes_on behind (external_of span constants (defines_function n (numbers_of heading.parameters) made)))) (λ main.
    one-new defined_by_one n s t (typed_body setting (body_within heading.kind) t heading.scope body)
    (λ made. external_of span constants (defines_function n (numbers_of heading.parameters) made)) (λ made. refl)
    (not-true (is_defined n s.linked) new) (defined-last n entry.kind s.linked)
    (grows-with s t (record { number = n; kind = entry.kind; defines = true } ∷ []) refl)
    (body-grows setting (body_within heading.kind) t heading.scope body))))

external-defines : (setting : Setting) (s : Standing) (external : External) → DefinesTo defined_by_one s.linked (typed_external setting s external)
unfolding defined_by_one
external-defines setting s (tree.external span declaration) =
    nothing-new defined_by_one s (typed_declaration setting s declaration)
    (λ one. external_of span one.constants (declares (declarators_of one.locals) (expressions_of one.locals))) (λ it. refl) (declaration-grows setting s declaration)
external-defines setting s (tree.definition span specifiers declarator body) =
    collecting-defines defined_by_one s (specified setting of_definition false s.known specifiers)
    (λ then_standing constants said. collecting then_standing (typed_heading setting then_standing.known said.kind declarator)
    (λ behind more heading.
    function_defined setting said behind span declarator body (constants ++ more) heading (entry_of setting behind.known said.storage (name_at declarator) heading.kind)))
    (λ t constants said. collecting-defines defined_by_one t (typed_heading setting t.known said.kind declarator)
    (λ behind more heading.
    function_defined setting said behind span declarator body (constants ++ more) heading (entry_of setting behind.known said.storage (name_at declarator) heading.kind))
    (λ u more heading. function-defines setting said u span declarator body (constants ++ more) heading (entry_of setting u.known said.storage (name_at declarator) heading.kind)))

-- ---- units

first-then : (old : List Linked) (t : Standing) (made : unit.External) (progress : Progress (List unit.External)) → AreNew old t.linked (defined_by_one made)
    → DefinesTo defined_functions t.linked progress → DefinesTo defined_functions old (further progress (λ u more. goes_on u (made ∷ more)))
unfolding DefinesTo defined_by_one
first-then old t made (goes_on u more) a b = both-new old t.linked u.linked (defined_by made.form) (defined_functions more) a b
first-then old t made (stops rule at) a b = tt

both-define : (s : Standing) (progress : Progress unit.External) (next : Standing → Progress (List unit.External)) → DefinesTo defined_by_one s.linked progress
    → ((t : Standing) → DefinesTo defined_functions t.linked (next t))
    → DefinesTo defined_functions s.linked (further progress (λ t made. further (next t) (λ u more. goes_on u (made ∷ more))))
unfolding DefinesTo
both-define s (goes_on t made) next a b = first-then s.linked t made (next t) a (b t)
both-define s (stops rule at) next a b = tt

externals-define : (setting : Setting) (s : Standing) (externals : List External) → DefinesTo defined_functions s.linked (typed_externals setting s externals)
unfolding DefinesTo AreNew IsDistinct
externals-define setting s [] = (tt, tt, tt, (λ n h. h))
externals-define setting s (first ∷ others) =
    both-define s (typed_external setting s first) (λ t. typed_externals setting t others) (external-defines setting s first) (λ t. externals-define setting t others)

externals_in : Outcome TypedUnit → List unit.External
externals_in (given known one) = one.externals
externals_in (broken rule at) = []

distinct-in : (start : List Linked) (known : Known) (one : TypedUnit) (progress : Progress (List unit.External)) → DefinesTo defined_functions start progress
    → unit_of progress ≡ given known one → IsDistinct nat_eq (defined_functions one.externals)
unfolding DefinesTo AreNew externals_in
distinct-in start known one (goes_on behind externals) d e =
    let same : externals ≡ one.externals = ap externals_in e in subst (λ list. IsDistinct nat_eq (defined_functions list)) same d.2
distinct-in start known one (stops rule at) d e = absurd (cc)

pub functions-once : (shapes : List Shape) (tokens : List CToken) (externals : List External) (known : Known) (one : TypedUnit)
    → typed_unit shapes tokens externals ≡ given known one → IsDistinct nat_eq (defined_functions one.externals)
functions-once shapes tokens externals known one e =
    distinct-in [] known one (typed_externals (unit_setting tokens externals) (beginning shapes) externals)
    (externals-define (unit_setting tokens externals) (beginning shapes) externals) e
