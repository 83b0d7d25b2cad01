-- Where a rule is broken: each form breaks its rules at a token of its own.
use Rattle.std.specs.Prelude.{◌≡◌, ℕ, ◌<◌, ◌≤◌, ℤ, Bool, true, false, ◌&&◌, not, List, [], ◌∷◌, ◌++◌, length, Option, Some, None, is_some, option_and_then, unwrap_or, codes, bytes_eq, refl}
use Rattle.std.proofs.Common.{subst, arith}
use Rattle.dm_token.specs.declared.place.Span.{Span}
use Rattle.dm_int.specs.declared.Kind.TheVariants as k
use Rattle.dm_int.specs.declared.Op.{Op}
use Rattle.dm_type.specs.CTypes.{CType, integer, pointer, array, struct, function as function_type, all_of, bare}
use Rattle.dm_type.specs.Layouts.{contained, struct_layout}
use Rattle.dm_type.specs.Tables.{with_content}
use Rattle.dm_scope.specs.Scopes.{Scopes, number_of, is_declared}
use Rattle.dm_syn.specs.declared.symbol.Symbol.{Symbol}
use Rattle.dm_syn.specs.declared.symbol.Symbol.TheVariants as symbol
use Rattle.dm_syn.specs.Sources.{spelling_at}
use Rattle.dm_syn.specs.Trees.{Expr}
use Rattle.dm_tree.specs.Scenes.{is_lvalue, is_integer, is_scalar, is_function}
use Rattle.dm_tree.specs.Trees.{Label, Tree, label_of, kind_of}
use Rattle.dm_tree.specs.Trees as label
use Rattle.dm_tree.specs.Units.{Declaration}
use Rattle.dm_typing.specs.Known.{Known, Setting, Outcome, given, broken, after, with_it, obeys, if_given, declaring}
use Rattle.dm_typing.specs.Operators.{row_at, operator_of_row, operator_of_assignment, sign_of_row}
use Rattle.dm_typing.specs.Conversions.{made, as_value, as_type, is_complete, complete_target, constant_of}
use Rattle.dm_typing.specs.Rules.{named_by_sort, Pair, indexed, member_by_name, is_modifiable, may_be_counted, signed, may_be_cast, operated, rule_of, arms, is_assignable, called, updated}
use Rattle.dm_typing.specs.Specifiers.{Said, type_said, Where, are_allowed, with_said_const}
use Rattle.dm_typing.specs.Typing.{may_be_used, named, index_tree, typed_index, typed_member, typed_arrow, is_plus_plus, typed_count, typed_sign, typed_prefix, typed_sizeof, typed_sizeof_name, typed_cast, typed_operation, typed_logic, typed_binary, typed_choice, typed_update, typed_assignment, is_name, is_function_label, typed_call, comma_of, number_if_struct, struct_named, enum_named, TypedMember, is_named, name_of, typed_field, fields, struct_ended, is_int, is_file_scope, enumerator_entry, enumerator_declared, enumerator_valued, with_constant, Step, pointing, arraying, calling, kinds_of, length_fits, is_result, stepped, derived, natural, length_of, adjusted, is_new_parameter, parameter_declared, typed_parameter, left, typed_said, name_ended, extent}
use Rattle.dm_typing.specs.Sound.{BreaksWithin, step_at, StepsWithin}

-- a rule is broken within these tokens, or what is given is such
abbrev pub Places : {A : Type 0} → ℕ → ℕ → (A → Type 0) → Outcome A → Type 0
Places first behind P (given known it) = P it
Places first behind P (broken rule at) = (first ≤ at) × (at < behind)

-- nothing is said of what is given
abbrev pub Plain : {A : Type 0} → A → Type 0
Plain it = Unit {0}

pub within-places : {A : Type 0} (first behind : ℕ) (P : A → Type 0) (outcome : Outcome A) → Places first behind P outcome → BreaksWithin first behind outcome
within-places first behind P (given known it) h = tt
within-places first behind P (broken rule at) h = h

same-given : {A : Type 0} (known behind : Known) (it made : A) → given known it ≡ given behind made → it ≡ made
same-given known behind it made h = cc

pub given-places : {A : Type 0} (first behind : ℕ) (P : A → Type 0) (outcome : Outcome A) → Places first behind P outcome
    → (last : Known) (made : A) → outcome ≡ given last made → P made
given-places first behind P (given known it) h last made e = subst P (same-given known last it made e) h
given-places first behind P (broken rule at) h last made e = absurd (cc)

-- ---- one part after the other

pub wider : {A : Type 0} (first behind less more : ℕ) (P Q : A → Type 0) (outcome : Outcome A) → less ≤ first → behind ≤ more → ((it : A) → P it → Q it)
    → Places first behind P outcome → Places less more Q outcome
wider first behind less more P Q (given known it) low high keeps h = keeps it h
wider first behind less more P Q (broken rule at) low high keeps h = let from = h.0 in let to = h.1 in (omega (arith, low, from), omega (arith, high, to))

-- a part stands within the whole
pub after-places : {A B : Type 0} (first behind less more : ℕ) (P : A → Type 0) (Q : B → Type 0) (outcome : Outcome A) (next : Known → A → Outcome B)
    → less ≤ first → behind ≤ more → Places first behind P outcome → ((known : Known) (it : A) → P it → Places less more Q (next known it))
    → Places less more Q (after outcome next)
after-places first behind less more P Q (given known it) next low high h step = step known it h
after-places first behind less more P Q (broken rule at) next low high h step = let from = h.0 in let to = h.1 in (omega (arith, low, from), omega (arith, high, to))

pub with-places : {A B : Type 0} (first behind less more : ℕ) (P : A → Type 0) (Q : B → Type 0) (outcome : Outcome A) (made : Known → A → B)
    → less ≤ first → behind ≤ more → Places first behind P outcome → ((known : Known) (it : A) → P it → Q (made known it))
    → Places less more Q (with_it outcome made)
with-places first behind less more P Q (given known it) made low high h step = step known it h
with-places first behind less more P Q (broken rule at) made low high h step = let from = h.0 in let to = h.1 in (omega (arith, low, from), omega (arith, high, to))

pub obeys-places : {A : Type 0} (first behind : ℕ) (P : A → Type 0) (test : Bool) (rule at : ℕ) (next : Outcome A) → first ≤ at → at < behind
    → Places first behind P next → Places first behind P (obeys test rule at next)
obeys-places first behind P true rule at next low high h = h
obeys-places first behind P false rule at next low high h = (low, high)

pub if-places : {A B : Type 0} (first behind : ℕ) (P : B → Type 0) (found : Option A) (rule at : ℕ) (next : A → Outcome B) → first ≤ at → at < behind
    → ((it : A) → Places first behind P (next it)) → Places first behind P (if_given found rule at next)
if-places first behind P (Some it) rule at next low high h = h it
if-places first behind P None rule at next low high h = (low, high)

-- ---- expressions

-- an expression's own rules are broken at its first token
module _ (span : Span) (on : span.first < span.after) where
  abbrev pub Here : {A : Type 0} → Outcome A → Type 0
  Here outcome = Places span.first span.after Plain outcome

  first-is : span.first ≤ span.first
  first-is = omega arith

  obeys-here : (A : Type 0) (test : Bool) (rule : ℕ) (next : Outcome A) → Here next → Here (obeys test rule span.first next)
  obeys-here A test rule next h = obeys-places span.first span.after Plain test rule span.first next first-is on h

  if-here : {A : Type 0} (B : Type 0) (found : Option A) (rule : ℕ) (next : A → Outcome B) → ((it : A) → Here (next it)) → Here (if_given found rule span.first next)
  if-here B found rule next h = if-places span.first span.after Plain found rule span.first next first-is on h

  module _ (setting : Setting) (known : Known) (outer : Span) where
    pub named-here : (used : Bool) (name : List ℕ) (found : Option Declaration) → Here (named setting used known (extent span outer) name found)
    named-here used name None = (first-is, on)
    named-here used name (Some entry) =
        if-here Tree (named_by_sort entry.sort (unwrap_or (number_of known.scopes name) 0) entry.kind) 1
        (λ (form, kind). obeys (may_be_used setting used name entry) 37 span.first (given known (made setting.source (extent span outer) form kind [])))
        (λ one. obeys-here Tree (may_be_used setting used name entry) 37 (given known (made setting.source (extent span outer) one.0 one.1 [])) tt)

    pub index-here : (a b : Tree) → Here (typed_index setting known (extent span outer) a b)
    index-here a b = if-here Tree (indexed known (kind_of a) (kind_of b)) 11 (λ type. given known (index_tree setting (extent span outer) a b type (complete_target known type))) (λ type. tt)

    pub member-here : (name : ℕ) (whole : Tree) → Here (typed_member setting known (extent span outer) name whole)
    member-here name whole =
        if-here Tree (member_by_name known (spelling_at setting.source name) whole) 12 (λ (n, kind). given known (made setting.source (extent span outer) (label.member n) kind (whole ∷ []))) (λ one. tt)

    pub arrow-here : (name : ℕ) (operand : Tree) → Here (typed_arrow setting known (extent span outer) name operand)
    arrow-here name operand =
        if-here Tree (complete_target known (kind_of operand)) 12 (λ to. typed_member setting known (extent span outer) name (made setting.source (extent span outer) label.follow to (operand ∷ [])))
        (λ to. member-here name (made setting.source (extent span outer) label.follow to (operand ∷ [])))

    pub count-here : (operator : ℕ) (before : Bool) (operand : Tree) → Here (typed_count setting known (extent span outer) operator before operand)
    count-here operator before operand =
        obeys-here Tree (may_be_counted known operand) 13
        (given known (made setting.source (extent span outer) (label.count (is_plus_plus (row_at setting.source operator)) before) (bare (kind_of operand)) (operand ∷ []))) tt

    sign-here : (operator : ℕ) (operand : Tree) → Here (typed_sign setting known (extent span outer) operator operand)
    sign-here operator operand =
        if-here Tree (option_and_then sign_of_row (row_at setting.source operator)) 16
        (λ sign. if_given (signed sign operand) 16 span.first (λ (converted, kind). given known (made setting.source (extent span outer) (label.unary sign) kind (converted ∷ []))))
        (λ sign. if-here Tree (signed sign operand) 16 (λ (converted, kind). given known (made setting.source (extent span outer) (label.unary sign) kind (converted ∷ []))) (λ one. tt))

    pub prefix-here : (operator : ℕ) (operand : Tree) (it : Symbol) → Here (typed_prefix setting known (extent span outer) operator operand it)
    prefix-here operator operand symbol.Increment = count-here operator true operand
    prefix-here operator operand symbol.Ampersand =
        obeys-here Tree (is_lvalue operand) 14 (given known (made setting.source (extent span outer) label.address (pointer (kind_of operand)) (operand ∷ []))) tt
    prefix-here operator operand symbol.Star =
        if-here Tree (complete_target known (kind_of (as_value operand))) 15 (λ to. given known (made setting.source (extent span outer) label.follow to (as_value operand ∷ []))) (λ to. tt)
    prefix-here operator operand it = sign-here operator (as_value operand)

    pub sizeof-here : (operand : Tree) → Here (typed_sizeof setting known (extent span outer) operand)
    sizeof-here operand =
        obeys-here Tree (is_complete known (kind_of operand)) 17 (given known (made setting.source (extent span outer) label.sizeof_tree (integer k.ULong) (operand ∷ []))) tt

    pub sizeof-name-here : (type : CType) (lengths : List Tree) → Here (typed_sizeof_name setting known (extent span outer) type lengths)
    sizeof-name-here type lengths =
        obeys-here Tree (is_complete known type) 17 (given known (made setting.source (extent span outer) (label.sizeof_kind type) (integer k.ULong) lengths)) tt

    pub cast-here : (type : CType) (lengths : List Tree) (operand : Tree) → Here (typed_cast setting known (extent span outer) type lengths operand)
    cast-here type lengths operand = obeys-here Tree (may_be_cast known operand type) 18 (given known (made setting.source (extent span outer) label.convert type (operand ∷ lengths))) tt

    operation-here : (a b : Tree) (found : Option Op) → Here (typed_operation setting known (extent span outer) a b found)
    operation-here a b None = (first-is, on)
    operation-here a b (Some op) =
        if-here Tree (operated known op a b) (rule_of op) (λ (pair : Pair). given known (made setting.source (extent span outer) (label.binary op) pair.kind (pair.left ∷ pair.right ∷ []))) (λ one. tt)

    logic-here : (form : Label) (a b : Tree) → Here (typed_logic setting known (extent span outer) form a b)
    logic-here form a b =
        obeys-here Tree (is_scalar (kind_of a) && is_scalar (kind_of b)) 26 (given known (made setting.source (extent span outer) form (integer k.Int) (a ∷ b ∷ []))) tt

    pub binary-here : (operator : ℕ) (a b : Tree) (it : Symbol) → Here (typed_binary setting known (extent span outer) operator a b it)
    binary-here operator a b symbol.And = logic-here label.both a b
    binary-here operator a b symbol.Or = logic-here label.either a b
    binary-here operator a b it = operation-here a b (option_and_then operator_of_row (row_at setting.source operator))

    pub choice-here : (condition a b : Tree) → Here (typed_choice setting known (extent span outer) condition a b)
    choice-here condition a b =
        let chosen : Pair → Outcome Tree = λ pair. given known (made setting.source (extent span outer) label.choose pair.kind (condition ∷ pair.left ∷ pair.right ∷ [])) in
        obeys-here Tree (is_scalar (kind_of condition)) 27 (if_given (arms known a b) 27 span.first chosen) (if-here Tree (arms known a b) 27 chosen (λ one. tt))

    update-here : (object value : Tree) (found : Option Op) → Here (typed_update setting known (extent span outer) object value found)
    update-here object value None = (first-is, on)
    update-here object value (Some op) =
        if-here Tree (updated known op object value) 29
        (λ (works, converted). given known (made setting.source (extent span outer) (label.update op works) (bare (kind_of object)) (object ∷ converted ∷ []))) (λ one. tt)

    pub assignment-here : (operator : ℕ) (object value : Tree) (it : Symbol) → Here (typed_assignment setting known (extent span outer) operator object value it)
    assignment-here operator object value symbol.Equals =
        obeys-here Tree (is_modifiable known object && is_assignable known value (kind_of object)) 28
        (given known (made setting.source (extent span outer) label.store (bare (kind_of object)) (object ∷ as_type (kind_of object) value ∷ []))) tt
    assignment-here operator object value it = update-here object value (option_and_then operator_of_assignment (row_at setting.source operator))

    pub call-here : (callee : Expr) (tree : Tree) (values : List Tree) → Here (typed_call setting known (extent span outer) callee tree values)
    call-here callee tree values =
        let calls : CType × List Tree → Outcome Tree = λ (kind, arguments). given known (made setting.source (extent span outer) label.call kind (tree ∷ arguments)) in
        obeys-here Tree (is_name callee && is_function_label (label_of tree)) 10 (if_given (called known (kind_of tree) values) 10 span.first calls)
        (if-here Tree (called known (kind_of tree) values) 10 calls (λ one. tt))

    pub comma-here : (values : List Tree) → Here (if_given (comma_of setting (extent span outer) values) 1 span.first (λ made. given known made))
    comma-here values = if-here Tree (comma_of setting (extent span outer) values) 1 (λ made. given known made) (λ made. tt)

  -- ---- specifiers

  module _ (setting : Setting) (known : Known) where
    pub struct-here : (tag : Option ℕ) (found : Option Declaration) → Here (struct_named setting known span tag found)
    struct-here tag None = tt
    struct-here tag (Some entry) = obeys-here CType (is_some (number_if_struct entry.kind)) 4 (given known entry.kind) tt

    pub enum-here : (found : Option Declaration) → Here (enum_named known span found)
    enum-here None = (first-is, on)
    enum-here (Some entry) = obeys-here CType (is_integer entry.kind) 4 (given known (integer k.Int)) tt

    pub ended-here : (number : Option ℕ) (begun : List ℕ) (members : List TypedMember) → Here (struct_ended known span number begun members)
    ended-here None begun members = (first-is, on)
    ended-here (Some at) begun [] = (first-is, on)
    ended-here (Some at) begun (first ∷ others) =
        let members = fields known.types (first ∷ others) in
        obeys-here CType (is_some (struct_layout known.types members)) 5
        (given (record known { types = with_content known.types at (contained known.types members); begun = begun }) (struct at)) tt

    pub said-here : (stands : Where) (said : Said) → Here (typed_said known stands span.first said)
    said-here stands said =
        if-here CType (type_said said) 3 (λ type. obeys (are_allowed stands said) 3 span.first (given known (with_said_const said.const type)))
        (λ type. obeys-here CType (are_allowed stands said) 3 (given known (with_said_const said.const type)) tt)

    pub enum-ended-here : (test : Bool) (type : CType) → Here (obeys test 4 span.first (given known type))
    enum-ended-here test type = obeys-here CType test 4 (given known type) tt

-- ---- enumerators, members, lengths

module _ (setting : Setting) (first behind : ℕ) where
  pub declared-places : (known : Known) (at : ℕ) (value : ℤ) → first ≤ at → at < behind → Places first behind Plain (enumerator_declared setting known at value)
  declared-places known at value low high =
      let name = spelling_at setting.source at in
      let fine : Outcome ℤ = given (declaring known name (enumerator_entry setting at value)) value in
      let plain = not (is_file_scope known.scopes && bytes_eq name (codes "main")) in
      obeys-places first behind Plain (not (is_declared known.scopes name)) 2 at (obeys (is_int value) 7 at (obeys plain 36 at fine)) low high
      (obeys-places first behind Plain (is_int value) 7 at (obeys plain 36 at fine) low high (obeys-places first behind Plain plain 36 at fine low high tt))

  pub valued-places : (known : Known) (at here : ℕ) (tree : Tree) → first ≤ at → at < behind → first ≤ here → here < behind
      → Places first behind Plain (enumerator_valued setting known at here tree)
  valued-places known at here tree low high from to =
      if-places first behind Plain (constant_of known tree) 7 here (λ value. obeys (is_int value) 7 here (enumerator_declared setting (with_constant known tree) at value)) from to
      (λ value. obeys-places first behind Plain (is_int value) 7 here (enumerator_declared setting (with_constant known tree) at value) from to
      (declared-places (with_constant known tree) at value low high))

  pub field-places : (known : Known) (here name : ℕ) (before : List TypedMember) (kind : CType) → first ≤ here → here < behind → first ≤ name → name < behind
      → Places first behind Plain (typed_field setting known here (Some name) before kind)
  field-places known here name before kind low high from to =
      let spelled = name_of setting (Some name) in
      let fine : Outcome (List TypedMember) = given known (before ++ record { name = spelled; kind = kind } ∷ []) in
      obeys-places first behind Plain (is_complete known kind) 5 here (obeys (not (is_named spelled before)) 6 name fine) low high
      (obeys-places first behind Plain (not (is_named spelled before)) 6 name fine from to tt)

pub length-places : (known : Known) (first behind here : ℕ) (tree : Tree) → first ≤ here → here < behind → Places first behind Plain (length_of known here tree)
length-places known first behind here tree low high =
    if-places first behind Plain (option_and_then natural (constant_of known tree)) 5 here (λ n. given (with_constant known tree) n) low high (λ n. tt)

-- ---- declarators

pub steps-wider : (first behind less more : ℕ) → less ≤ first → behind ≤ more → (steps : List Step) → StepsWithin first behind steps → StepsWithin less more steps
steps-wider first behind less more low high [] h = tt
steps-wider first behind less more low high (step ∷ steps) h =
    let from = h.0 in let to = h.1 in (omega (arith, low, from), omega (arith, high, to), steps-wider first behind less more low high steps h.2)

stepped-places : (known : Known) (first behind : ℕ) (type : CType) (step : Step) → first ≤ step_at step → step_at step < behind → Places first behind Plain (stepped known type step)
stepped-places known first behind type (pointing at qualified) low high =
    obeys-places first behind Plain (not (is_function type)) 5 at (given known (with_said_const qualified (pointer type))) low high tt
stepped-places known first behind type (arraying at n) low high =
    obeys-places first behind Plain (is_complete known type && length_fits known type n) 5 at (given known (array type n)) low high tt
stepped-places known first behind type (calling at parameters) low high =
    obeys-places first behind Plain (is_result known type) 5 at (given known (function_type type (all_of (kinds_of parameters)))) low high tt

pub derived-places : (known : Known) (first behind : ℕ) (type : CType) (steps : List Step) → StepsWithin first behind steps → Places first behind Plain (derived known type steps)
derived-places known first behind type [] h = tt
derived-places known first behind type (step ∷ steps) h =
    after-places first behind first behind Plain Plain (stepped known type step) (λ then_known made. derived then_known made steps) (omega arith) (omega arith)
    (stepped-places known first behind type step h.0 h.1) (λ then_known made any. derived-places then_known first behind made steps h.2)

-- ---- parameters and type names

pub parameter-places : (setting : Setting) (known : Known) (first behind here : ℕ) (type : CType) (name : Option ℕ) → first ≤ here → here < behind
    → ((at : ℕ) → name ≡ Some at → (first ≤ at) × (at < behind)) → Places first behind Plain (typed_parameter setting known here type name)
parameter-places setting known first behind here type name low high named-at =
    let rest = obeys (not (is_function type)) 5 here (parameter_declared setting known (adjusted type) name) in
    let at = at-name name named-at in
    obeys-places first behind Plain (is_new_parameter setting known name) 2 (unwrap_or name here) rest at.0 at.1
    (obeys-places first behind Plain (not (is_function type)) 5 here (parameter_declared setting known (adjusted type) name) low high (go (adjusted type) name))
  where
    at-name : (name : Option ℕ) → ((at : ℕ) → name ≡ Some at → (first ≤ at) × (at < behind)) → (first ≤ unwrap_or name here) × (unwrap_or name here < behind)
    at-name None named-at = (low, high)
    at-name (Some at) named-at = named-at at refl

    go : (kind : CType) (name : Option ℕ) → Places first behind Plain (parameter_declared setting known kind name)
    go kind None = tt
    go kind (Some at) = tt

pub left-places : {A : Type 0} (first behind : ℕ) (P : A → Type 0) (scopes : Scopes) (outcome : Outcome A) → Places first behind P outcome → Places first behind P (left scopes outcome)
left-places first behind P scopes (given known it) h = h
left-places first behind P scopes (broken rule at) h = h

pub name-places : (first behind : ℕ) (constants : List Tree) (outcome : Outcome CType) → Places first behind Plain outcome → Places first behind Plain (name_ended constants outcome)
name-places first behind constants (given known kind) h = tt
name-places first behind constants (broken rule at) h = h
