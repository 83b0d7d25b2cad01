-- What typing leaves as it is: the scopes outside the innermost one, and which structs are being read. What it declares has no linkage, and
-- its names are new in the innermost scope.
use Rattle.std.specs.Prelude.{◌≡◌, ℕ, ◌≤◌, ◌⊎◌, ℤ, pos, ◌+ℤ◌, negsuc, Bool, true, false, if◌then◌else◌, List, [], ◌∷◌, ◌++◌, length, drop, All, Option, Some, None, is_some, refl, ◌&&◌, option_and_then, unwrap_or, bytes_eq, codes, not}
use Rattle.std.specs.Cmp.Lexicographic.{slice_cmp}
use Rattle.std.specs.FinMap as finite
use Rattle.std.specs.Ordering.{nat_cmp, eq_by_cmp}
use Rattle.std.proofs.Common.{sym, ap, ◌∙◌, cond, arith, inl, inr, ⊎_elim, append-nil, append_assoc}
use Rattle.std.proofs.lemmas.Cmp.{nat_list_cmp_total}
use Rattle.std.proofs.lemmas.List.{length-append}
use Rattle.std.proofs.lemmas.List.Elements.{All-nil, All-cons, All-append}
use Rattle.dm_token.specs.declared.place.Span.{Span}
use Rattle.dm_int.specs.declared.Kind.TheVariants as k
use Rattle.dm_type.specs.Layouts.{contained, struct_layout}
use Rattle.dm_type.specs.CTypes.{CType, integer, struct, bare}
use Rattle.dm_type.specs.TableLaws.{injected}
use Rattle.dm_type.specs.Tables.{with_struct, with_content}
use Rattle.dm_scope.specs.Scopes.{Scopes, number_of, is_declared, declared as declared_in}
use Rattle.dm_syn.specs.declared.symbol.Symbol.{Symbol}
use Rattle.dm_syn.specs.declared.symbol.Symbol.TheVariants as symbol
use Rattle.dm_syn.specs.Sources.{spelling_at, symbol_at}
use Rattle.dm_syn.specs.Spans.{expr_span, declarator_span}
use Rattle.dm_syn.specs.Scopes.{declarator_name}
use Rattle.dm_syn.specs.Trees.{Expr, Exprs, TypeName, Specifiers, Words, Specifier, Members, Member, Declarators, Enumerators, Enumerator, Declarator, Direct, Parameters, Parameter}
use Rattle.dm_syn.specs.Trees as tree
use Rattle.dm_int.specs.declared.Op.{Op}
use Rattle.dm_tree.specs.Trees.{Tree, kind_of, label_of}
use Rattle.dm_tree.specs.Trees as label
use Rattle.dm_tree.specs.Scenes.{is_lvalue, is_integer, is_scalar, is_function}
use Rattle.dm_tree.specs.Typing.{has_linkage}
use Rattle.dm_tree.specs.Units.{Declaration}
use Rattle.dm_typing.specs.declared.extent.Extent.{Extent}
use Rattle.dm_typing.specs.Rules.{named_by_sort, indexed, member_by_name, may_be_counted, signed, may_be_cast, operated, rule_of, arms, is_modifiable, is_assignable, called, updated}
use Rattle.dm_typing.specs.Operators.{row_at, operator_of_row, operator_of_assignment, sign_of_row}
use Rattle.dm_typing.specs.Known.{meaning_of, place_at, tag_key, tag_entry, Known, Setting, Outcome, given, broken, after, with_it, obeys, if_given, declaring}
use Rattle.dm_typing.specs.Conversions.{as_value, made, is_complete, complete_target, constant_of}
use Rattle.dm_typing.specs.Specifiers.{type_said, are_allowed, Said, Where, elsewhere, nothing_said}
use Rattle.dm_edeclarator.specs.Steps.{enum_begun_with}
use Rattle.dm_eexpr.specs.Parts.{begun_with}
use Rattle.dm_typing.specs.Typing.{comma_of, may_be_used, is_name, is_function_label, number_if_struct, fields, is_file_scope, enumerator_entry, is_int, with_constant, length_fits, is_result, natural, parameter_entry, is_named, name_of, named, spelled, typed_sign, typed_operation, typed_update, new_struct, typed_index, typed_member, typed_arrow, typed_count, typed_prefix, typed_sizeof, typed_sizeof_name, typed_cast, typed_binary, typed_choice, typed_assignment, typed_call, tag_declared, tag_inside, tag_seen, struct_named, enum_named, with_new_struct, struct_begun, struct_ended, beginning, enumerator_declared, enumerator_valued, TypedMember, typed_field, typed_said, name_ended, Step, arraying, calling, derived, stepped, pointing, direct_at, length_of, typed_parameter, is_new_parameter, parameter_declared, adjusted, parameter_at, entered, left, extent, typed, typed_within, typed_values, typed_name, typed_specifiers, words_said, word_said, fields_of, fields_declared, fields_with, enumerators_of, enumerator_of, steps_of, direct_steps, parameters_of, parameter_of}

-- the number that a name has in the innermost scope
abbrev pub number_inside : Scopes → List ℕ → Option ℕ
number_inside [] name = None
number_inside (scope ∷ scopes) name = finite.get scope name

-- declarations are added, none of them with linkage, and their names to the innermost scope
pub record Adds (known behind : Known) : Type 0 where
  pub outer : drop 1 behind.scopes ≡ drop 1 known.scopes
  pub depth : length behind.scopes ≡ length known.scopes
  pub more : List Declaration
  pub declared : behind.declared ≡ known.declared ++ more
  pub unlinked : All (λ (entry : Declaration). has_linkage entry.linkage ≡ false) more
  pub inside : (name : List ℕ) (number : ℕ) → number_inside behind.scopes name ≡ Some number → (number_inside known.scopes name ≡ Some number) ⊎ (length known.declared ≤ number)
  pub still : (name : List ℕ) → is_declared known.scopes name ≡ true → is_declared behind.scopes name ≡ true

-- the structs that are being read are the same
pub record Keeps (known behind : Known) : Type 0 where
  pub adds : Adds known behind
  pub begun : behind.begun ≡ known.begun

-- what is known behind, if anything is given, is so related
abbrev LeadsTo : {A : Type 0} → (Known → Known → Type 0) → Known → Outcome A → Type 0
LeadsTo R known (given behind it) = R known behind
LeadsTo R known (broken rule at) = Unit {0}

pub record Leads {A : Type 0} (R : Known → Known → Type 0) (known : Known) (outcome : Outcome A) : Type 0 where
  pub leads : LeadsTo R known outcome

abbrev pub KeepsIn : {A : Type 0} → Known → Outcome A → Type 0
KeepsIn known outcome = Leads Keeps known outcome

-- the trees so far
abbrev pub SameTrees : Known → Known → Type 0
SameTrees known behind = behind.constants ≡ known.constants

-- nothing is declared
pub adds-none : (known behind : Known) → behind.scopes ≡ known.scopes → behind.declared ≡ known.declared → Adds known behind
adds-none known behind s d = record {
  outer = ap (drop 1) s;
  depth = ap length s;
  more = [];
  declared = d ∙ sym (append-nil known.declared);
  unlinked = All-nil (λ (entry : Declaration). has_linkage entry.linkage ≡ false);
  inside = λ name number h. inl (sym (ap (λ scopes. number_inside scopes name) s) ∙ h);
  still = λ name h. ap (λ scopes. is_declared scopes name) s ∙ h;
}

more-declared : (known behind : Known) → Adds known behind → length known.declared ≤ length behind.declared
more-declared known behind adds =
    let l = length-append known.declared adds.more in let e = ap length adds.declared in omega (arith, l, e)

pub adds-on : (a b c : Known) → Adds a b → Adds b c → Adds a c
adds-on a b c first second = record {
  outer = second.outer ∙ first.outer;
  depth = second.depth ∙ first.depth;
  more = first.more ++ second.more;
  declared = second.declared ∙ ap (λ entries. entries ++ second.more) first.declared ∙ append_assoc a.declared first.more second.more;
  unlinked = All-append (λ (entry : Declaration). has_linkage entry.linkage ≡ false) first.more second.more first.unlinked second.unlinked;
  inside = λ name number h.
      ⊎_elim (λ old. first.inside name number old) (λ new. let fewer = more-declared a b first in inr (omega (arith, new, fewer))) (second.inside name number h);
  still = λ name h. second.still name (first.still name h);
}

pub keeps-itself : (known : Known) → Keeps known known
keeps-itself known = record { adds = adds-none known known refl refl; begun = refl }

keeps-on : (a b c : Known) → Keeps a b → Keeps b c → Keeps a c
keeps-on a b c first second = record { adds = adds-on a b c first.adds second.adds; begun = second.begun ∙ first.begun }

-- nothing is declared, and the same structs are being read
keeps-all : (known behind : Known) → behind.scopes ≡ known.scopes → behind.declared ≡ known.declared → behind.begun ≡ known.begun → Keeps known behind
keeps-all known behind s d b = record { adds = adds-none known behind s d; begun = b }

-- ---- outcomes

module _ (R : Known → Known → Type 0) (itself : (known : Known) → R known known) (on : (a b c : Known) → R a b → R b c → R a c) where
  outcome-leads : {A : Type 0} (a b : Known) → R a b → (outcome : Outcome A) → Leads R b outcome → Leads R a outcome
  outcome-leads a b first (given behind it) h = record { leads = on a b behind first h.leads }
  outcome-leads a b first (broken rule at) h = record { leads = tt }

  pub after-leads : {A B : Type 0} (known : Known) (one : Outcome A) (next : Known → A → Outcome B) → Leads R known one
      → ((behind : Known) (it : A) → Leads R behind (next behind it)) → Leads R known (after one next)
  after-leads known (given behind it) next h more = outcome-leads known behind h.leads (next behind it) (more behind it)
  after-leads known (broken rule at) next h more = record { leads = tt }

module _ (R : Known → Known → Type 0) where
  pub with-leads : {A B : Type 0} (known : Known) (one : Outcome A) (made : Known → A → B) → Leads R known one → Leads R known (with_it one made)
  with-leads known (given behind it) made h = record { leads = h.leads }
  with-leads known (broken rule at) made h = record { leads = tt }

  pub obeys-leads : {A : Type 0} (known : Known) (test : Bool) (rule at : ℕ) (next : Outcome A) → Leads R known next → Leads R known (obeys test rule at next)
  obeys-leads known true rule at next h = h
  obeys-leads known false rule at next h = record { leads = tt }

  pub if-leads : {A B : Type 0} (known : Known) (found : Option A) (rule at : ℕ) (next : A → Outcome B) → ((it : A) → Leads R known (next it)) → Leads R known (if_given found rule at next)
  if-leads known (Some it) rule at next h = h it
  if-leads known None rule at next h = record { leads = tt }

-- nothing more is known
pub stays : {A : Type 0} (R : Known → Known → Type 0) (known : Known) (it : A) → R known known → Leads R known (given known it)
stays R known it h = record { leads = h }

outcome-on : {A : Type 0} (a b : Known) → Keeps a b → (outcome : Outcome A) → KeepsIn b outcome → KeepsIn a outcome
outcome-on a b first outcome h = outcome-leads Keeps keeps-itself keeps-on a b first outcome h

pub after-keeps : {A B : Type 0} (known : Known) (one : Outcome A) (next : Known → A → Outcome B) → KeepsIn known one
    → ((behind : Known) (it : A) → KeepsIn behind (next behind it)) → KeepsIn known (after one next)
after-keeps known one next h more = after-leads Keeps keeps-itself keeps-on known one next h more

pub with-keeps : {A B : Type 0} (known : Known) (one : Outcome A) (made : Known → A → B) → KeepsIn known one → KeepsIn known (with_it one made)
with-keeps known one made h = with-leads Keeps known one made h

pub obeys-keeps : {A : Type 0} (known : Known) (test : Bool) (rule at : ℕ) (next : Outcome A) → KeepsIn known next → KeepsIn known (obeys test rule at next)
obeys-keeps known test rule at next h = obeys-leads Keeps known test rule at next h

pub if-keeps : {A B : Type 0} (known : Known) (found : Option A) (rule at : ℕ) (next : A → Outcome B) → ((it : A) → KeepsIn known (next it)) → KeepsIn known (if_given found rule at next)
if-keeps known found rule at next h = if-leads Keeps known found rule at next h

-- ---- nodes

module _ (R : Known → Known → Type 0) (itself : (known : Known) → R known known) (setting : Setting) (known : Known) (span : Extent) where
  named-keeps : (used : Bool) (name : List ℕ) (found : Option Declaration) → Leads R known (named setting used known span name found)
  named-keeps used name None = record { leads = tt }
  named-keeps used name (Some entry) =
      if-leads R known (named_by_sort entry.sort (unwrap_or (number_of known.scopes name) 0) entry.kind) 1 span.inner.first _ (λ it. obeys-leads R known (may_be_used setting used name entry) 37 span.inner.first _ (stays R known _ (itself known)))

  index-keeps : (a b : Tree) → Leads R known (typed_index setting known span a b)
  index-keeps a b = if-leads R known (indexed known (kind_of a) (kind_of b)) 11 span.inner.first _ (λ type. (stays R known _ (itself known)))

  member-keeps : (name : ℕ) (whole : Tree) → Leads R known (typed_member setting known span name whole)
  member-keeps name whole = if-leads R known (member_by_name known (spelling_at setting.source name) whole) 12 span.inner.first _ (λ it. (stays R known _ (itself known)))

  arrow-keeps : (name : ℕ) (operand : Tree) → Leads R known (typed_arrow setting known span name operand)
  arrow-keeps name operand = if-leads R known (complete_target known (kind_of operand)) 12 span.inner.first _ (λ to. member-keeps name (made setting.source span label.follow to (operand ∷ [])))

  count-keeps : (operator : ℕ) (before : Bool) (operand : Tree) → Leads R known (typed_count setting known span operator before operand)
  count-keeps operator before operand = obeys-leads R known (may_be_counted known operand) 13 span.inner.first _ (stays R known _ (itself known))

  sign-keeps : (operator : ℕ) (operand : Tree) → Leads R known (typed_sign setting known span operator operand)
  sign-keeps operator operand =
      if-leads R known (option_and_then sign_of_row (row_at setting.source operator)) 16 span.inner.first _ (λ sign. if-leads R known (signed sign operand) 16 span.inner.first _ (λ it. (stays R known _ (itself known))))

  prefix-keeps : (operator : ℕ) (operand : Tree) (it : Symbol) → Leads R known (typed_prefix setting known span operator operand it)
  prefix-keeps operator operand symbol.Increment = count-keeps operator true operand
  prefix-keeps operator operand symbol.Ampersand = obeys-leads R known (is_lvalue operand) 14 span.inner.first _ (stays R known _ (itself known))
  prefix-keeps operator operand symbol.Star = if-leads R known (complete_target known (kind_of (as_value operand))) 15 span.inner.first _ (λ to. (stays R known _ (itself known)))
  prefix-keeps operator operand other = sign-keeps operator (as_value operand)

  sizeof-keeps : (operand : Tree) → Leads R known (typed_sizeof setting known span operand)
  sizeof-keeps operand = obeys-leads R known (is_complete known (kind_of operand)) 17 span.inner.first _ (stays R known _ (itself known))

  sizeof-name-keeps : (type : CType) (lengths : List Tree) → Leads R known (typed_sizeof_name setting known span type lengths)
  sizeof-name-keeps type lengths = obeys-leads R known (is_complete known type) 17 span.inner.first _ (stays R known _ (itself known))

  cast-keeps : (type : CType) (lengths : List Tree) (operand : Tree) → Leads R known (typed_cast setting known span type lengths operand)
  cast-keeps type lengths operand = obeys-leads R known (may_be_cast known operand type) 18 span.inner.first _ (stays R known _ (itself known))

  operation-keeps : (a b : Tree) (op : Option Op) → Leads R known (typed_operation setting known span a b op)
  operation-keeps a b None = record { leads = tt }
  operation-keeps a b (Some op) = if-leads R known (operated known op a b) (rule_of op) span.inner.first _ (λ pair. (stays R known _ (itself known)))

  binary-keeps : (operator : ℕ) (a b : Tree) (it : Symbol) → Leads R known (typed_binary setting known span operator a b it)
  binary-keeps operator a b symbol.And = obeys-leads R known (is_scalar (kind_of a) && is_scalar (kind_of b)) 26 span.inner.first _ (stays R known _ (itself known))
  binary-keeps operator a b symbol.Or = obeys-leads R known (is_scalar (kind_of a) && is_scalar (kind_of b)) 26 span.inner.first _ (stays R known _ (itself known))
  binary-keeps operator a b other = operation-keeps a b (option_and_then operator_of_row (row_at setting.source operator))

  choice-keeps : (condition a b : Tree) → Leads R known (typed_choice setting known span condition a b)
  choice-keeps condition a b = obeys-leads R known (is_scalar (kind_of condition)) 27 span.inner.first _ (if-leads R known (arms known a b) 27 span.inner.first _ (λ pair. (stays R known _ (itself known))))

  update-keeps : (object value : Tree) (op : Option Op) → Leads R known (typed_update setting known span object value op)
  update-keeps object value None = record { leads = tt }
  update-keeps object value (Some op) = if-leads R known (updated known op object value) 29 span.inner.first _ (λ it. (stays R known _ (itself known)))

  assignment-keeps : (operator : ℕ) (object value : Tree) (it : Symbol) → Leads R known (typed_assignment setting known span operator object value it)
  assignment-keeps operator object value symbol.Equals = obeys-leads R known (is_modifiable known object && is_assignable known value (kind_of object)) 28 span.inner.first _ (stays R known _ (itself known))
  assignment-keeps operator object value other = update-keeps object value (option_and_then operator_of_assignment (row_at setting.source operator))

  call-keeps : (callee : Expr) (tree : Tree) (values : List Tree) → Leads R known (typed_call setting known span callee tree values)
  call-keeps callee tree values =
      obeys-leads R known (is_name callee && is_function_label (label_of tree)) 10 span.inner.first _ (if-leads R known (called known (kind_of tree) values) 10 span.inner.first _ (λ it. (stays R known _ (itself known))))

-- ---- declarations

declared-outside : (scopes : Scopes) (name : List ℕ) (number : ℕ) → drop 1 (declared_in scopes name number) ≡ drop 1 scopes
declared-outside [] name number = refl
declared-outside (scope ∷ scopes) name number = refl

declared-depth : (scopes : Scopes) (name : List ℕ) (number : ℕ) → length (declared_in scopes name number) ≡ length scopes
declared-depth [] name number = refl
declared-depth (scope ∷ scopes) name number = refl

inside-put : (scopes : Scopes) (name : List ℕ) (n : ℕ) (other : List ℕ) (number : ℕ) → number_inside (declared_in scopes name n) other ≡ Some number
    → (number_inside scopes other ≡ Some number) ⊎ (number ≡ n)
inside-put [] name n other number h = inl h
inside-put (scope ∷ scopes) name n other number h =
    go (eq_by_cmp (slice_cmp nat_cmp) other name) (sym (finite.get-insert nat_list_cmp_total scope name n other) ∙ h)
  where
    go : (test : Bool) → cond test (Some n) (finite.get scope other) ≡ Some number → (finite.get scope other ≡ Some number) ⊎ (number ≡ n)
    go true e = inr (sym (injected n number e))
    go false e = inl e

still-put : (scopes : Scopes) (name : List ℕ) (n : ℕ) (other : List ℕ) → is_declared scopes other ≡ true → is_declared (declared_in scopes name n) other ≡ true
still-put [] name n other h = absurd (cc)
still-put (scope ∷ scopes) name n other h =
    ap is_some (finite.get-insert nat_list_cmp_total scope name n other) ∙ go (eq_by_cmp (slice_cmp nat_cmp) other name) (finite.get scope other) h
  where
    go : (test : Bool) (found : Option ℕ) → is_some found ≡ true → is_some (cond test (Some n) found) ≡ true
    go true found e = refl
    go false found e = e

declaring-adds : (known : Known) (name : List ℕ) (entry : Declaration) → has_linkage entry.linkage ≡ false → Adds known (declaring known name entry)
declaring-adds known name entry none = record {
  outer = declared-outside known.scopes name (length known.declared);
  depth = declared-depth known.scopes name (length known.declared);
  more = entry ∷ [];
  declared = refl;
  unlinked = let P : Declaration → Type 0 = λ one. has_linkage one.linkage ≡ false in All-cons P entry [] none (All-nil P);
  inside = λ other number h.
      ⊎_elim (λ old. inl old) (λ new. inr (omega (arith, new))) (inside-put known.scopes name (length known.declared) other number h);
  still = λ other h. still-put known.scopes name (length known.declared) other h;
}

declaring-keeps : (known : Known) (name : List ℕ) (entry : Declaration) → has_linkage entry.linkage ≡ false → Keeps known (declaring known name entry)
declaring-keeps known name entry none = record { adds = declaring-adds known name entry none; begun = refl }

tag-keeps : (setting : Setting) (known : Known) (tag : Option ℕ) (type : CType) → Keeps known (tag_declared setting known tag type)
tag-keeps setting known None type = keeps-itself known
tag-keeps setting known (Some at) type = declaring-keeps known (tag_key (spelling_at setting.source at)) (tag_entry (spelling_at setting.source at) type (place_at setting.source at)) refl

pub new-keeps : (setting : Setting) (known : Known) (tag : Option ℕ) → Keeps known (new_struct setting known tag)
new-keeps setting known tag =
    let grown : Known = record known { types = with_struct known.types (spelled setting tag) } in
    keeps-on known grown (new_struct setting known tag) (keeps-all known grown refl refl refl) (tag-keeps setting grown tag (struct (length known.types.structs)))

struct-named-keeps : (setting : Setting) (known : Known) (span : Span) (tag : Option ℕ) (found : Option Declaration) → KeepsIn known (struct_named setting known span tag found)
struct-named-keeps setting known span tag None = record { leads = new-keeps setting known tag }
struct-named-keeps setting known span tag (Some entry) = obeys-keeps known (is_some (number_if_struct entry.kind)) 4 span.first _ (stays Keeps known _ (keeps-itself known))

enum-named-keeps : (known : Known) (span : Span) (found : Option Declaration) → KeepsIn known (enum_named known span found)
enum-named-keeps known span None = record { leads = tt }
enum-named-keeps known span (Some entry) = obeys-keeps known (is_integer entry.kind) 4 span.first _ (stays Keeps known _ (keeps-itself known))

-- where members begin, one more struct may be being read
new-outside : (setting : Setting) (known : Known) (tag : Option ℕ) (found : Option Declaration) → Keeps known (with_new_struct setting known tag found)
new-outside setting known tag None = new-keeps setting known tag
new-outside setting known tag (Some entry) = keeps-itself known

beginning-adds : (known : Known) (number : Option ℕ) → Adds known (beginning known number)
beginning-adds known None = adds-none known known refl refl
beginning-adds known (Some at) = adds-none known (record known { begun = at ∷ known.begun }) refl refl

begun-outside : (setting : Setting) (known : Known) (tag : Option ℕ) → Adds known (begun_with setting known tag)
begun-outside setting known tag =
    let new = with_new_struct setting known tag (tag_inside setting known tag) in
    adds-on known new (begun_with setting known tag) (new-outside setting known tag (tag_inside setting known tag)).adds (beginning-adds new (struct_begun known (tag_inside setting known tag)))

ended-keeps : (known begun : Known) (span : Span) (number : Option ℕ) → Adds known begun → (outcome : Outcome (List TypedMember)) → KeepsIn begun outcome
    → KeepsIn known (after outcome (λ behind members. struct_ended behind span number known.begun members))
ended-keeps known begun span number outside (broken rule at) h = record { leads = tt }
ended-keeps known begun span None outside (given behind members) h = record { leads = tt }
ended-keeps known begun span (Some at) outside (given behind []) h = record { leads = tt }
ended-keeps known begun span (Some at) outside (given behind (first ∷ others)) h =
    let done : Known = record behind { types = with_content behind.types at (contained behind.types (fields behind.types (first ∷ others))); begun = known.begun } in
    obeys-keeps known (is_some (struct_layout behind.types (fields behind.types (first ∷ others)))) 5 span.first _
    (record { leads = record { adds = adds-on known begun done outside (adds-on begun behind done h.leads.adds (adds-none behind done refl refl)); begun = refl } })

enum-begun-keeps : (setting : Setting) (known : Known) (tag : Option ℕ) (test : Bool) → Keeps known (if test then known else tag_declared setting known tag (integer k.Int))
enum-begun-keeps setting known tag true = keeps-itself known
enum-begun-keeps setting known tag false = tag-keeps setting known tag (integer k.Int)

enumerator-declared-keeps : (setting : Setting) (known : Known) (at : ℕ) (value : ℤ) → KeepsIn known (enumerator_declared setting known at value)
enumerator-declared-keeps setting known at value =
    obeys-keeps known (not (is_declared known.scopes (spelling_at setting.source at))) 2 at _
    (obeys-keeps known (is_int value) 7 at _
    (obeys-keeps known (not (is_file_scope known.scopes && bytes_eq (spelling_at setting.source at) (codes "main"))) 36 at _
    (record { leads = declaring-keeps known (spelling_at setting.source at) (enumerator_entry setting at value) refl })))

valued-keeps : (setting : Setting) (known : Known) (at here : ℕ) (tree : Tree) → KeepsIn known (enumerator_valued setting known at here tree)
valued-keeps setting known at here tree =
    if-keeps known (constant_of known tree) 7 here _ (λ value. obeys-keeps known (is_int value) 7 here _
    (outcome-on known (with_constant known tree) (keeps-all known (with_constant known tree) refl refl refl) (enumerator_declared setting (with_constant known tree) at value) (enumerator-declared-keeps setting (with_constant known tree) at value)))

-- ---- specifiers and declarators

pub said-keeps : (known : Known) (stands : Where) (here : ℕ) (said : Said) → KeepsIn known (typed_said known stands here said)
said-keeps known stands here said = if-keeps known (type_said said) 3 here _ (λ type. obeys-keeps known (are_allowed stands said) 3 here _ (stays Keeps known _ (keeps-itself known)))

stepped-keeps : (known : Known) (type : CType) (step : Step) → KeepsIn known (stepped known type step)
stepped-keeps known type (pointing at const) = obeys-keeps known (not (is_function type)) 5 at _ (stays Keeps known _ (keeps-itself known))
stepped-keeps known type (arraying at n) = obeys-keeps known (is_complete known type && length_fits known type n) 5 at _ (stays Keeps known _ (keeps-itself known))
stepped-keeps known type (calling at parameters) = obeys-keeps known (is_result known type) 5 at _ (stays Keeps known _ (keeps-itself known))

pub derived-keeps : (known : Known) (type : CType) (steps : List Step) → KeepsIn known (derived known type steps)
derived-keeps known type [] = stays Keeps known _ (keeps-itself known)
derived-keeps known type (step ∷ steps) = after-keeps known (stepped known type step) _ (stepped-keeps known type step) (λ behind made. derived-keeps behind made steps)

length-keeps : (known : Known) (here : ℕ) (tree : Tree) → KeepsIn known (length_of known here tree)
length-keeps known here tree = if-keeps known (option_and_then natural (constant_of known tree)) 5 here _ (λ n. record { leads = keeps-all known (with_constant known tree) refl refl refl })

pub parameter-keeps : (setting : Setting) (known : Known) (type : CType) (name : Option ℕ) → KeepsIn known (parameter_declared setting known type name)
parameter-keeps setting known type None = stays Keeps known _ (keeps-itself known)
parameter-keeps setting known type (Some at) = record { leads = declaring-keeps known (spelling_at setting.source at) (parameter_entry setting at type) refl }

typed-parameter-keeps : (setting : Setting) (known : Known) (here : ℕ) (type : CType) (name : Option ℕ) → KeepsIn known (typed_parameter setting known here type name)
typed-parameter-keeps setting known here type name =
    obeys-keeps known (is_new_parameter setting known name) 2 (unwrap_or name here) _
    (obeys-keeps known (not (is_function type)) 5 here _ (parameter-keeps setting known (adjusted type) name))

field-keeps : (setting : Setting) (known : Known) (here : ℕ) (name : Option ℕ) (before : List TypedMember) (type : CType) → KeepsIn known (typed_field setting known here name before type)
field-keeps setting known here name before type = obeys-keeps known (is_complete known type) 5 here _ (obeys-keeps known (not (is_named (name_of setting name) before)) 6 (unwrap_or name here) _ (stays Keeps known _ (keeps-itself known)))

left-keeps : {A : Type 0} (known : Known) (outcome : Outcome A) → KeepsIn (entered known) outcome → KeepsIn known (left known.scopes outcome)
left-keeps known (given behind it) h = record {
  leads = record {
    adds = record {
      outer = refl;
      depth = refl;
      more = h.leads.adds.more;
      declared = h.leads.adds.declared;
      unlinked = h.leads.adds.unlinked;
      inside = λ name number e. inl e;
      still = λ name e. e;
    };
    begun = h.leads.begun;
  };
}
left-keeps known (broken rule at) h = record { leads = tt }

ended-name-keeps : (known : Known) (outcome : Outcome CType) → KeepsIn (record known { constants = [] }) outcome → KeepsIn known (name_ended known.constants outcome)
ended-name-keeps known (given behind kind) h =
    let bare : Known = record known { constants = [] } in
    let done : Known = record behind { constants = known.constants } in
    record {
      leads = record {
        adds = adds-on known bare done (adds-none known bare refl refl) (adds-on bare behind done h.leads.adds (adds-none behind done refl refl));
        begun = h.leads.begun;
      };
    }
ended-name-keeps known (broken rule at) h = record { leads = tt }

same-itself : (known : Known) → SameTrees known known
same-itself known = refl

same-on : (a b c : Known) → SameTrees a b → SameTrees b c → SameTrees a c
same-on a b c first second = second ∙ first

ended-trees : (known : Known) (outcome : Outcome CType) → Leads SameTrees known (name_ended known.constants outcome)
ended-trees known (given behind kind) = record { leads = refl }
ended-trees known (broken rule at) = record { leads = tt }

-- ---- the syntax

module _ (setting : Setting) where
  mutual
    unfolding typed_within typed_values typed_name typed_specifiers words_said word_said fields_of fields_declared fields_with enumerators_of enumerator_of steps_of direct_steps parameters_of parameter_of

    pub expr-keeps : (used : Bool) (known : Known) (outer : Span) (expr : Expr) → KeepsIn known (typed_within setting used known outer expr)
    expr-keeps used known outer (tree.name span) = named-keeps Keeps keeps-itself setting known (extent span outer) used (spelling_at setting.source span.first) (meaning_of known (spelling_at setting.source span.first))
    expr-keeps used known outer (tree.constant span) = stays Keeps known _ (keeps-itself known)
    expr-keeps used known outer (tree.literal span) = stays Keeps known _ (keeps-itself known)
    expr-keeps used known outer (tree.paren span inner) = expr-keeps used known outer inner
    expr-keeps used known outer (tree.index span a b) =
        after-keeps known (typed setting used known a) _ (expr-keeps used known _ a) (λ then_known first.
        after-keeps then_known (typed setting used then_known b) _ (expr-keeps used then_known _ b) (λ behind second. index-keeps Keeps keeps-itself setting behind (extent span outer) (as_value first) (as_value second)))
    expr-keeps used known outer (tree.call span callee arguments) =
        after-keeps known (typed setting used known callee) _ (expr-keeps used known _ callee) (λ then_known first.
        after-keeps then_known (typed_values setting used then_known arguments) _ (values-keep used then_known arguments) (λ behind values. call-keeps Keeps keeps-itself setting behind (extent span outer) callee first values))
    expr-keeps used known outer (tree.member span whole name) =
        after-keeps known (typed setting used known whole) _ (expr-keeps used known _ whole) (λ behind made. member-keeps Keeps keeps-itself setting behind (extent span outer) name made)
    expr-keeps used known outer (tree.arrow span operand name) =
        after-keeps known (typed setting used known operand) _ (expr-keeps used known _ operand) (λ behind made. arrow-keeps Keeps keeps-itself setting behind (extent span outer) name (as_value made))
    expr-keeps used known outer (tree.postfix span operand operator) =
        after-keeps known (typed setting used known operand) _ (expr-keeps used known _ operand) (λ behind made. count-keeps Keeps keeps-itself setting behind (extent span outer) operator false made)
    expr-keeps used known outer (tree.prefix span operator operand) =
        after-keeps known (typed setting used known operand) _ (expr-keeps used known _ operand) (λ behind made. prefix-keeps Keeps keeps-itself setting behind (extent span outer) operator made (symbol_at setting.source operator))
    expr-keeps used known outer (tree.sizeof_expr span operand) =
        after-keeps known (typed setting false known operand) _ (expr-keeps false known _ operand) (λ behind made. sizeof-keeps Keeps keeps-itself setting behind (extent span outer) made)
    expr-keeps used known outer (tree.sizeof_name span name) =
        after-keeps known (typed_name setting false known name) _ (name-keeps false known name) (λ behind named. sizeof-name-keeps Keeps keeps-itself setting behind (extent span outer) named.kind named.constants)
    expr-keeps used known outer (tree.cast span name operand) =
        after-keeps known (typed_name setting used known name) _ (name-keeps used known name) (λ then_known named.
        after-keeps then_known (typed setting used then_known operand) _ (expr-keeps used then_known _ operand) (λ behind made. cast-keeps Keeps keeps-itself setting behind (extent span outer) (bare named.kind) named.constants (as_value made)))
    expr-keeps used known outer (tree.binary span a operator b) =
        after-keeps known (typed setting used known a) _ (expr-keeps used known _ a) (λ then_known first.
        after-keeps then_known (typed setting used then_known b) _ (expr-keeps used then_known _ b) (λ behind second. binary-keeps Keeps keeps-itself setting behind (extent span outer) operator (as_value first) (as_value second) (symbol_at setting.source operator)))
    expr-keeps used known outer (tree.conditional span a b c) =
        after-keeps known (typed setting used known a) _ (expr-keeps used known _ a) (λ then_known first.
        after-keeps then_known (typed setting used then_known b) _ (expr-keeps used then_known _ b) (λ then_more second.
        after-keeps then_more (typed setting used then_more c) _ (expr-keeps used then_more _ c) (λ behind third. choice-keeps Keeps keeps-itself setting behind (extent span outer) (as_value first) (as_value second) (as_value third))))
    expr-keeps used known outer (tree.assign span object operator value) =
        after-keeps known (typed setting used known object) _ (expr-keeps used known _ object) (λ then_known first.
        after-keeps then_known (typed setting used then_known value) _ (expr-keeps used then_known _ value) (λ behind second. assignment-keeps Keeps keeps-itself setting behind (extent span outer) operator first (as_value second) (symbol_at setting.source operator)))
    expr-keeps used known outer (tree.comma span parts) =
        after-keeps known (typed_values setting used known parts) _ (values-keep used known parts) (λ behind values. if-keeps behind (comma_of setting (extent span outer) values) 1 span.first _ (λ made. stays Keeps behind _ (keeps-itself behind)))

    values-keep : (used : Bool) (known : Known) (exprs : Exprs) → KeepsIn known (typed_values setting used known exprs)
    values-keep used known tree.no_exprs = stays Keeps known _ (keeps-itself known)
    values-keep used known (tree.more_exprs first others) =
        after-keeps known (typed setting used known first) _ (expr-keeps used known _ first) (λ then_known made.
        after-keeps then_known (typed_values setting used then_known others) _ (values-keep used then_known others) (λ behind values. stays Keeps behind _ (keeps-itself behind)))

    pub name-keeps : (used : Bool) (known : Known) (name : TypeName) → KeepsIn known (typed_name setting used known name)
    name-keeps used known (tree.type_name span specifiers declarator) =
        ended-name-keeps known _
        (after-keeps _ (typed_specifiers setting used elsewhere false (record known { constants = [] }) specifiers) _ (specifiers-keep used elsewhere false (record known { constants = [] }) specifiers) (λ then_known base.
        after-keeps then_known (steps_of setting used then_known declarator) _ (steps-keep used then_known declarator) (λ behind steps. derived-keeps behind base steps)))

    pub specifiers-keep : (used : Bool) (stands : Where) (alone : Bool) (known : Known) (specifiers : Specifiers) → KeepsIn known (typed_specifiers setting used stands alone known specifiers)
    specifiers-keep used stands alone known (tree.listed span words) =
        after-keeps known (words_said setting used alone known nothing_said words) _ (words-keep used alone known nothing_said words) (λ behind said. said-keeps behind stands span.first said)

    pub words-keep : (used alone : Bool) (known : Known) (said : Said) (words : Words) → KeepsIn known (words_said setting used alone known said words)
    words-keep used alone known said tree.no_words = stays Keeps known _ (keeps-itself known)
    words-keep used alone known said (tree.more_words first others) =
        after-keeps known (word_said setting used alone known said first) _ (word-keeps used alone known said first) (λ behind so_far. words-keep used alone behind so_far others)

    word-keeps : (used alone : Bool) (known : Known) (said : Said) (word : Specifier) → KeepsIn known (word_said setting used alone known said word)
    word-keeps used alone known said (tree.keyword at) = stays Keeps known _ (keeps-itself known)
    word-keeps used alone known said (tree.typedef_name at) = if-keeps known (meaning_of known (spelling_at setting.source at)) 1 at _ (λ (entry : Declaration). stays Keeps known _ (keeps-itself known))
    word-keeps used alone known said (tree.struct_only span tag) =
        with-keeps known _ _ (struct-named-keeps setting known span tag (if alone then tag_inside setting known tag else tag_seen setting known tag))
    word-keeps used alone known said (tree.struct_with span tag members) =
        with-keeps known _ _ (ended-keeps known (begun_with setting known tag) span (struct_begun known (tag_inside setting known tag)) (begun-outside setting known tag)
        (fields_of setting used (begun_with setting known tag) [] members) (fields-keep used (begun_with setting known tag) [] members))
    word-keeps used alone known said (tree.enum_only span tag trailing) = with-keeps known _ _ (enum-named-keeps known span (tag_seen setting known tag))
    word-keeps used alone known said (tree.enum_with span tag enumerators trailing) =
        let begun = enum_begun_with setting known tag in
        with-keeps known _ _ (after-keeps known (enumerators_of setting used begun (negsuc 0) enumerators) _
        (outcome-on known begun (enum-begun-keeps setting known tag (is_some (tag_inside setting known tag))) _ (enumerators-keep used begun (negsuc 0) enumerators))
        (λ behind last. obeys-keeps behind (not (is_some (tag_inside setting known tag))) 4 span.first _ (stays Keeps behind _ (keeps-itself behind))))

    pub fields-keep : (used : Bool) (known : Known) (before : List TypedMember) (members : Members) → KeepsIn known (fields_of setting used known before members)
    fields-keep used known before tree.no_members = stays Keeps known _ (keeps-itself known)
    fields-keep used known before (tree.more_members first others) =
        after-keeps known (fields_declared setting used known before first) _ (declared-fields-keep used known before first) (λ behind so_far. fields-keep used behind so_far others)

    declared-fields-keep : (used : Bool) (known : Known) (before : List TypedMember) (member : Member) → KeepsIn known (fields_declared setting used known before member)
    declared-fields-keep used known before (tree.members span specifiers declarators) =
        after-keeps known (typed_specifiers setting used elsewhere false known specifiers) _ (specifiers-keep used elsewhere false known specifiers) (λ behind base. fields-with-keep used behind base before declarators)

    fields-with-keep : (used : Bool) (known : Known) (base : CType) (before : List TypedMember) (declarators : Declarators) → KeepsIn known (fields_with setting used known base before declarators)
    fields-with-keep used known base before tree.no_declarators = stays Keeps known _ (keeps-itself known)
    fields-with-keep used known base before (tree.more_declarators first others) =
        after-keeps known (steps_of setting used known first) _ (steps-keep used known first) (λ then_known steps.
        after-keeps then_known (derived then_known base steps) _ (derived-keeps then_known base steps) (λ then_more type.
        after-keeps then_more (typed_field setting then_more (declarator_span first).first (declarator_name first) before type) _
        (field-keeps setting then_more (declarator_span first).first (declarator_name first) before type) (λ behind so_far. fields-with-keep used behind base so_far others)))

    enumerators-keep : (used : Bool) (known : Known) (last : ℤ) (enumerators : Enumerators) → KeepsIn known (enumerators_of setting used known last enumerators)
    enumerators-keep used known last tree.no_enumerators = stays Keeps known _ (keeps-itself known)
    enumerators-keep used known last (tree.more_enumerators first others) =
        after-keeps known (enumerator_of setting used known last first) _ (enumerator-keeps used known last first) (λ behind value. enumerators-keep used behind value others)

    enumerator-keeps : (used : Bool) (known : Known) (last : ℤ) (enumerator : Enumerator) → KeepsIn known (enumerator_of setting used known last enumerator)
    enumerator-keeps used known last (tree.bare span at) = enumerator-declared-keeps setting known at (last +ℤ pos 1)
    enumerator-keeps used known last (tree.valued span at value) =
        after-keeps known (typed setting used known value) _ (expr-keeps used known _ value) (λ behind made. valued-keeps setting behind at (expr_span value).first (as_value made))

    pub steps-keep : (used : Bool) (known : Known) (declarator : Declarator) → KeepsIn known (steps_of setting used known declarator)
    steps-keep used known (tree.shaped span consts direct) =
        with-keeps known _ _ (direct-keeps used known (direct_at span.first consts) direct)

    direct-keeps : (used : Bool) (known : Known) (here : ℕ) (direct : Direct) → KeepsIn known (direct_steps setting used known here direct)
    direct-keeps used known here tree.absent = stays Keeps known _ (keeps-itself known)
    direct-keeps used known here (tree.declared at) = stays Keeps known _ (keeps-itself known)
    direct-keeps used known here (tree.enclosed declarator) = steps-keep used known declarator
    direct-keeps used known here (tree.array direct) = with-keeps known _ _ (direct-keeps used known here direct)
    direct-keeps used known here (tree.sized direct value) =
        after-keeps known (direct_steps setting used known here direct) _ (direct-keeps used known here direct) (λ then_known steps.
        after-keeps then_known (typed setting used then_known value) _ (expr-keeps used then_known _ value) (λ then_more made.
        with-keeps then_more _ _ (length-keeps then_more (expr_span value).first (as_value made))))
    direct-keeps used known here (tree.function direct parameters) =
        after-keeps known (direct_steps setting used known here direct) _ (direct-keeps used known here direct) (λ then_known steps.
        with-keeps then_known _ _ (left-keeps then_known (parameters_of setting used (entered then_known) parameters) (parameters-keep used (entered then_known) parameters)))

    pub parameters-keep : (used : Bool) (known : Known) (parameters : Parameters) → KeepsIn known (parameters_of setting used known parameters)
    parameters-keep used known tree.no_parameters = stays Keeps known _ (keeps-itself known)
    parameters-keep used known (tree.more_parameters first others) =
        after-keeps known (parameter_of setting used known first) _ (one-parameter-keeps used known first) (λ then_known made. with-keeps then_known _ _ (parameters-keep used then_known others))

    pub one-parameter-keeps : (used : Bool) (known : Known) (parameter : Parameter) → KeepsIn known (parameter_of setting used known parameter)
    one-parameter-keeps used known (tree.parameter span specifiers declarator) =
        after-keeps known (typed_specifiers setting used elsewhere false known specifiers) _ (specifiers-keep used elsewhere false known specifiers) (λ then_known base.
        after-keeps then_known (steps_of setting used then_known declarator) _ (steps-keep used then_known declarator) (λ then_more steps.
        after-keeps then_more (derived then_more base steps) _ (derived-keeps then_more base steps) (λ behind type.
        typed-parameter-keeps setting behind (parameter_at span declarator) type (declarator_name declarator))))

  -- the trees of type names are lists of their own, so an expression leaves those so far
  mutual
    unfolding typed_within typed_values typed_name

    pub expr-trees : (used : Bool) (known : Known) (outer : Span) (expr : Expr) → Leads SameTrees known (typed_within setting used known outer expr)
    expr-trees used known outer (tree.name span) = named-keeps SameTrees same-itself setting known (extent span outer) used (spelling_at setting.source span.first) (meaning_of known (spelling_at setting.source span.first))
    expr-trees used known outer (tree.constant span) = stays SameTrees known _ (same-itself known)
    expr-trees used known outer (tree.literal span) = stays SameTrees known _ (same-itself known)
    expr-trees used known outer (tree.paren span inner) = expr-trees used known outer inner
    expr-trees used known outer (tree.index span a b) =
        after-leads SameTrees same-itself same-on known (typed setting used known a) _ (expr-trees used known _ a) (λ then_known first.
        after-leads SameTrees same-itself same-on then_known (typed setting used then_known b) _ (expr-trees used then_known _ b) (λ behind second. index-keeps SameTrees same-itself setting behind (extent span outer) (as_value first) (as_value second)))
    expr-trees used known outer (tree.call span callee arguments) =
        after-leads SameTrees same-itself same-on known (typed setting used known callee) _ (expr-trees used known _ callee) (λ then_known first.
        after-leads SameTrees same-itself same-on then_known (typed_values setting used then_known arguments) _ (values-trees used then_known arguments) (λ behind values. call-keeps SameTrees same-itself setting behind (extent span outer) callee first values))
    expr-trees used known outer (tree.member span whole name) =
        after-leads SameTrees same-itself same-on known (typed setting used known whole) _ (expr-trees used known _ whole) (λ behind made. member-keeps SameTrees same-itself setting behind (extent span outer) name made)
    expr-trees used known outer (tree.arrow span operand name) =
        after-leads SameTrees same-itself same-on known (typed setting used known operand) _ (expr-trees used known _ operand) (λ behind made. arrow-keeps SameTrees same-itself setting behind (extent span outer) name (as_value made))
    expr-trees used known outer (tree.postfix span operand operator) =
        after-leads SameTrees same-itself same-on known (typed setting used known operand) _ (expr-trees used known _ operand) (λ behind made. count-keeps SameTrees same-itself setting behind (extent span outer) operator false made)
    expr-trees used known outer (tree.prefix span operator operand) =
        after-leads SameTrees same-itself same-on known (typed setting used known operand) _ (expr-trees used known _ operand) (λ behind made. prefix-keeps SameTrees same-itself setting behind (extent span outer) operator made (symbol_at setting.source operator))
    expr-trees used known outer (tree.sizeof_expr span operand) =
        after-leads SameTrees same-itself same-on known (typed setting false known operand) _ (expr-trees false known _ operand) (λ behind made. sizeof-keeps SameTrees same-itself setting behind (extent span outer) made)
    expr-trees used known outer (tree.sizeof_name span name) =
        after-leads SameTrees same-itself same-on known (typed_name setting false known name) _ (name-trees false known name) (λ behind named. sizeof-name-keeps SameTrees same-itself setting behind (extent span outer) named.kind named.constants)
    expr-trees used known outer (tree.cast span name operand) =
        after-leads SameTrees same-itself same-on known (typed_name setting used known name) _ (name-trees used known name) (λ then_known named.
        after-leads SameTrees same-itself same-on then_known (typed setting used then_known operand) _ (expr-trees used then_known _ operand) (λ behind made. cast-keeps SameTrees same-itself setting behind (extent span outer) (bare named.kind) named.constants (as_value made)))
    expr-trees used known outer (tree.binary span a operator b) =
        after-leads SameTrees same-itself same-on known (typed setting used known a) _ (expr-trees used known _ a) (λ then_known first.
        after-leads SameTrees same-itself same-on then_known (typed setting used then_known b) _ (expr-trees used then_known _ b) (λ behind second. binary-keeps SameTrees same-itself setting behind (extent span outer) operator (as_value first) (as_value second) (symbol_at setting.source operator)))
    expr-trees used known outer (tree.conditional span a b c) =
        after-leads SameTrees same-itself same-on known (typed setting used known a) _ (expr-trees used known _ a) (λ then_known first.
        after-leads SameTrees same-itself same-on then_known (typed setting used then_known b) _ (expr-trees used then_known _ b) (λ then_more second.
        after-leads SameTrees same-itself same-on then_more (typed setting used then_more c) _ (expr-trees used then_more _ c) (λ behind third. choice-keeps SameTrees same-itself setting behind (extent span outer) (as_value first) (as_value second) (as_value third))))
    expr-trees used known outer (tree.assign span object operator value) =
        after-leads SameTrees same-itself same-on known (typed setting used known object) _ (expr-trees used known _ object) (λ then_known first.
        after-leads SameTrees same-itself same-on then_known (typed setting used then_known value) _ (expr-trees used then_known _ value) (λ behind second. assignment-keeps SameTrees same-itself setting behind (extent span outer) operator first (as_value second) (symbol_at setting.source operator)))
    expr-trees used known outer (tree.comma span parts) =
        after-leads SameTrees same-itself same-on known (typed_values setting used known parts) _ (values-trees used known parts) (λ behind values. if-leads SameTrees behind (comma_of setting (extent span outer) values) 1 span.first _ (λ made. stays SameTrees behind _ (same-itself behind)))

    values-trees : (used : Bool) (known : Known) (exprs : Exprs) → Leads SameTrees known (typed_values setting used known exprs)
    values-trees used known tree.no_exprs = stays SameTrees known _ (same-itself known)
    values-trees used known (tree.more_exprs first others) =
        after-leads SameTrees same-itself same-on known (typed setting used known first) _ (expr-trees used known _ first) (λ then_known made.
        after-leads SameTrees same-itself same-on then_known (typed_values setting used then_known others) _ (values-trees used then_known others) (λ behind values. stays SameTrees behind _ (same-itself behind)))

    name-trees : (used : Bool) (known : Known) (name : TypeName) → Leads SameTrees known (typed_name setting used known name)
    name-trees used known (tree.type_name span specifiers declarator) = ended-trees known _
