-- What the typing of expressions and type names asks of a unit, and what it declares. Where two settings say the same of each name that
-- stands in the tokens, it gives the same; and a name that is new in the innermost scope is that of its entry.
use Rattle.std.specs.Prelude.{◌≡◌, ℕ, zero, suc, ◌≤◌, ◌⊎◌, ℤ, pos, ◌+ℤ◌, negsuc, Bool, true, false, if◌then◌else◌, List, [], ◌∷◌, ◌++◌, length, Option, Some, None, is_some, refl, ◌&&◌, option_and_then, unwrap_or, bytes_eq, codes, not, slice_get}
use Rattle.std.specs.Cmp.Lexicographic.{slice_cmp, texts_ties}
use Rattle.std.specs.FinMap as finite
use Rattle.std.specs.Ordering.{nat_cmp, eq_by_cmp}
use Rattle.std.proofs.Common.{sym, ap, ◌∙◌, subst, cond, arith, inl, inr, ⊎_elim, append-nil, append_assoc}
use Rattle.std.proofs.lemmas.Cmp.{nat_list_cmp_total}
use Rattle.std.proofs.lemmas.Slice.Eq.{bytes_eq-Decides}
use Rattle.std.proofs.lemmas.List.{length-append}
use Rattle.dm_token.specs.declared.place.Span.{Span}
use Rattle.dm_token.specs.declared.token.CToken.{CToken}
use Rattle.dm_int.specs.declared.Kind.TheVariants as k
use Rattle.dm_int.specs.declared.Op.{Op}
use Rattle.dm_type.specs.Layouts.{contained, struct_layout}
use Rattle.dm_type.specs.CTypes.{CType, integer, struct, bare}
use Rattle.dm_type.specs.TableLaws.{injected}
use Rattle.dm_type.specs.Tables.{with_struct, with_content}
use Rattle.dm_scope.specs.Scopes.{Scopes, number_of, is_declared, declared as declared_in}
use Rattle.dm_syn.specs.declared.symbol.Symbol.{Symbol}
use Rattle.dm_syn.specs.declared.symbol.Symbol.TheVariants as symbol
use Rattle.dm_syn.specs.Sources.{Source, spelling_at, symbol_at}
use Rattle.dm_syn.specs.Spans.{expr_span, declarator_span}
use Rattle.dm_syn.specs.Scopes.{declarator_name}
use Rattle.dm_syn.specs.Trees.{Expr, Exprs, TypeName, Specifiers, Words, Specifier, Members, Member, Declarators, Enumerators, Enumerator, Declarator, Direct, Parameters, Parameter}
use Rattle.dm_syn.specs.Trees as tree
use Rattle.dm_tree.specs.Trees.{Tree, kind_of, label_of}
use Rattle.dm_tree.specs.Trees as label
use Rattle.dm_tree.specs.Scenes.{is_lvalue, is_integer, is_scalar, is_function}
use Rattle.dm_tree.specs.Initialisers.{is_function_sort}
use Rattle.dm_tree.specs.Units.{Declaration}
use Rattle.dm_typing.specs.declared.extent.Extent.{Extent}
use Rattle.dm_typing.specs.Rules.{named_by_sort, indexed, member_by_name, may_be_counted, signed, may_be_cast, operated, rule_of, arms, is_modifiable, is_assignable, called, updated}
use Rattle.dm_typing.specs.Operators.{row_at, operator_of_row, operator_of_assignment, sign_of_row}
use Rattle.dm_typing.specs.Known.{meaning_of, place_at, tag_key, tag_entry, Known, Setting, Outcome, given, broken, after, with_it, obeys, if_given, declaring}
use Rattle.dm_typing.specs.Conversions.{as_value, made, is_complete, complete_target, constant_of}
use Rattle.dm_typing.specs.Specifiers.{type_said, are_allowed, Said, Where, elsewhere, nothing_said}
use Rattle.dm_typing.specs.Typing.{comma_of, comma_tree, constant_tree, index_tree, is_internal, is_name, is_function_label, number_if_struct, fields, is_file_scope, enumerator_entry, is_int, with_constant, length_fits, is_result, natural, parameter_entry, is_named, named, typed_index, typed_member, typed_arrow, typed_count, typed_sign, typed_prefix, typed_sizeof, typed_sizeof_name, typed_cast, typed_operation, typed_binary, typed_choice, typed_update, typed_assignment, typed_call, tag_declared, new_struct, tag_inside, tag_seen, struct_named, enum_named, struct_begun, with_new_struct, beginning, TypedMember, struct_ended, enumerator_declared, enumerator_valued, Step, pointing, arraying, calling, stepped, derived, direct_at, length_of, adjusted, is_new_parameter, parameter_declared, typed_parameter, parameter_at, entered, left, typed_field, typed_said, name_ended, extent, typed_within, typed_values, typed_name, typed_specifiers, words_said, word_said, fields_of, fields_declared, fields_with, enumerators_of, enumerator_of, steps_of, direct_steps, parameters_of, parameter_of, typed}
use Rattle.dm_edecl.specs.Units.{innermost}
use Rattle.dm_eunit.specs.Naming.{key_of}

-- ---- what is declared

-- the number is that of an entry of this name, from a number on
pub record IsNamed (entries : List Declaration) (from number : ℕ) (name : List ℕ) : Type 0 where
  pub from_there : from ≤ number
  pub entry : Declaration
  pub at : slice_get entries number ≡ Some entry
  pub key : key_of entry ≡ name

-- declarations are added, and a name that is new in the innermost scope is that of its entry
pub record Declares (known behind : Known) : Type 0 where
  pub more : List Declaration
  pub declared : behind.declared ≡ known.declared ++ more
  pub named : (name : List ℕ) (number : ℕ) → finite.get (innermost behind.scopes) name ≡ Some number
      → (finite.get (innermost known.scopes) name ≡ Some number) ⊎ IsNamed behind.declared (length known.declared) number name

pub declares-none : (known behind : Known) → behind.scopes ≡ known.scopes → behind.declared ≡ known.declared → Declares known behind
declares-none known behind s d = record {
  more = [];
  declared = d ∙ sym (append-nil known.declared);
  named = λ name number h. inl (sym (ap (λ scopes. finite.get (innermost scopes) name) s) ∙ h);
}

pub declares-itself : (known : Known) → Declares known known
declares-itself known = declares-none known known refl refl

get-front : {A : Type 0} (xs ys : List A) (at : ℕ) (x : A) → slice_get xs at ≡ Some x → slice_get (xs ++ ys) at ≡ Some x
get-front [] ys at x h = absurd (cc)
get-front (y ∷ xs) ys zero x h = h
get-front (y ∷ xs) ys (suc at) x h = get-front xs ys at x h

named-on : (a b c : Known) (number : ℕ) (name : List ℕ) (more : List Declaration) → c.declared ≡ b.declared ++ more
    → IsNamed b.declared (length a.declared) number name → IsNamed c.declared (length a.declared) number name
named-on a b c number name more e h = record {
  from_there = h.from_there;
  entry = h.entry;
  at = ap (λ entries. slice_get entries number) e ∙ get-front b.declared more number h.entry h.at;
  key = h.key;
}

more-entries : (a b : Known) → Declares a b → length a.declared ≤ length b.declared
more-entries a b h = let l = length-append a.declared h.more in let e = ap length h.declared in omega (arith, l, e)

named-later : (a b c : Known) (number : ℕ) (name : List ℕ) → Declares a b → IsNamed c.declared (length b.declared) number name → IsNamed c.declared (length a.declared) number name
named-later a b c number name first h =
    let fewer = more-entries a b first in record { from_there = let f = h.from_there in omega (arith, f, fewer); entry = h.entry; at = h.at; key = h.key }

pub declares-on : (a b c : Known) → Declares a b → Declares b c → Declares a c
declares-on a b c first second = record {
  more = first.more ++ second.more;
  declared = second.declared ∙ ap (λ entries. entries ++ second.more) first.declared ∙ append_assoc a.declared first.more second.more;
  named = λ name number h.
      ⊎_elim
      (λ old. ⊎_elim (λ older. inl older) (λ new. inr (named-on a b c number name second.more second.declared new)) (first.named name number old))
      (λ new. inr (named-later a b c number name first new))
      (second.named name number h);
}

-- ---- two answers

abbrev pub LeadsTo : {A : Type 0} → Known → Outcome A → Type 0
LeadsTo known (given behind it) = Declares known behind
LeadsTo known (broken rule at) = Unit {0}

-- they are the same, and declare so
pub record Both {A : Type 0} (known : Known) (one other : Outcome A) : Type 0 where
  pub same : one ≡ other
  pub adds : LeadsTo known one

outcome-on : {A : Type 0} (a b : Known) → Declares a b → (outcome : Outcome A) → LeadsTo b outcome → LeadsTo a outcome
outcome-on a b first (given behind it) h = declares-on a b behind first h
outcome-on a b first (broken rule at) h = tt

both-on : {A : Type 0} (a b : Known) → Declares a b → (one other : Outcome A) → Both b one other → Both a one other
both-on a b first one other h = record { same = h.same; adds = outcome-on a b first one h.adds }

after-one : {A B : Type 0} (known : Known) (outcome : Outcome A) (next more : Known → A → Outcome B) → LeadsTo known outcome
    → ((behind : Known) (it : A) → Both behind (next behind it) (more behind it)) → Both known (after outcome next) (after outcome more)
after-one known (given behind it) next more h both = both-on known behind h (next behind it) (more behind it) (both behind it)
after-one known (broken rule at) next more h both = record { same = refl; adds = tt }

pub after-both : {A B : Type 0} (known : Known) (one other : Outcome A) (next more : Known → A → Outcome B) → Both known one other
    → ((behind : Known) (it : A) → Both behind (next behind it) (more behind it)) → Both known (after one next) (after other more)
after-both {A} known one other next more h both =
    subst (λ (outcome : Outcome A). Both known (after one next) (after outcome more)) h.same (after-one known one next more h.adds both)

with-one : {A B : Type 0} (known : Known) (outcome : Outcome A) (one other : Known → A → B) → LeadsTo known outcome
    → ((behind : Known) (it : A) → one behind it ≡ other behind it) → Both known (with_it outcome one) (with_it outcome other)
with-one known (given behind it) one other h same = record { same = ap (given behind) (same behind it); adds = h }
with-one known (broken rule at) one other h same = record { same = refl; adds = tt }

pub with-both : {A B : Type 0} (known : Known) (one other : Outcome A) (made_one made_other : Known → A → B) → Both known one other
    → ((behind : Known) (it : A) → made_one behind it ≡ made_other behind it) → Both known (with_it one made_one) (with_it other made_other)
with-both {A} known one other made_one made_other h same =
    subst (λ (outcome : Outcome A). Both known (with_it one made_one) (with_it outcome made_other)) h.same (with-one known one made_one made_other h.adds same)

obeys-one : {A : Type 0} (known : Known) (test : Bool) (rule at : ℕ) (one other : Outcome A) → Both known one other → Both known (obeys test rule at one) (obeys test rule at other)
obeys-one known true rule at one other h = h
obeys-one known false rule at one other h = record { same = refl; adds = tt }

pub obeys-both : {A : Type 0} (known : Known) (first second : Bool) (rule at : ℕ) (one other : Outcome A) → first ≡ second → Both known one other
    → Both known (obeys first rule at one) (obeys second rule at other)
obeys-both known first second rule at one other same h =
    subst (λ test. Both known (obeys first rule at one) (obeys test rule at other)) same (obeys-one known first rule at one other h)

pub if-both : {A B : Type 0} (known : Known) (found : Option A) (rule at : ℕ) (next more : A → Outcome B) → ((it : A) → Both known (next it) (more it))
    → Both known (if_given found rule at next) (if_given found rule at more)
if-both known (Some it) rule at next more both = both it
if-both known None rule at next more both = record { same = refl; adds = tt }

pub there : {A : Type 0} (known : Known) (one other : A) → one ≡ other → Both known (given known one) (given known other)
there known one other same = record { same = ap (given known) same; adds = declares-itself known }

pub fails : {A : Type 0} (known : Known) (rule at : ℕ) → Both {A = A} known (broken rule at) (broken rule at)
fails known rule at = record { same = refl; adds = tt }

-- where other things are known, but nothing is declared
pub known-there : {A : Type 0} (known behind : Known) (it : A) → behind.scopes ≡ known.scopes → behind.declared ≡ known.declared → Both known (given behind it) (given behind it)
known-there known behind it s d = record { same = refl; adds = declares-none known behind s d }

-- ---- one declaration more

put-named : (scopes : Scopes) (name : List ℕ) (n : ℕ) (other : List ℕ) (number : ℕ) → finite.get (innermost (declared_in scopes name n)) other ≡ Some number
    → (finite.get (innermost scopes) other ≡ Some number) ⊎ ((number ≡ n) × (name ≡ other))
put-named [] name n other number h = inl h
put-named (scope ∷ scopes) name n other number h =
    go (eq_by_cmp (slice_cmp nat_cmp) other name) refl (sym (finite.get-insert nat_list_cmp_total scope name n other) ∙ h)
  where
    go : (test : Bool) → eq_by_cmp (slice_cmp nat_cmp) other name ≡ test → cond test (Some n) (finite.get scope other) ≡ Some number
        → (finite.get scope other ≡ Some number) ⊎ ((number ≡ n) × (name ≡ other))
    go true same e = inr (sym (injected n number e), sym ((bytes_eq-Decides other name).0 (texts_ties other name ∙ same)))
    go false same e = inl e

get-last : {A : Type 0} (xs : List A) (x : A) → slice_get (xs ++ x ∷ []) (length xs) ≡ Some x
get-last [] x = refl
get-last (y ∷ xs) x = get-last xs x

pub declaring-declares : (known : Known) (name : List ℕ) (entry : Declaration) → key_of entry ≡ name → Declares known (declaring known name entry)
declaring-declares known name entry key = record {
  more = entry ∷ [];
  declared = refl;
  named = λ other number h.
      ⊎_elim (λ old. inl old)
      (λ new. inr (record {
        from_there = let e = new.0 in omega (arith, e);
        entry = entry;
        at = ap (slice_get (known.declared ++ entry ∷ [])) new.0 ∙ get-last known.declared entry;
        key = key ∙ new.1;
      }))
      (put-named known.scopes name (length known.declared) other number h);
}

-- ---- nodes

module _ (source : Source) (la lb : List ℕ → Bool) (alike : (at : ℕ) → la (spelling_at source at) ≡ lb (spelling_at source at)) where
  abbrev a : Setting
  a = record { source = source; lacks = la }

  abbrev b : Setting
  b = record { source = source; lacks = lb }

  module _ (known : Known) (span : Extent) where
    named-both : (used : Bool) (at : ℕ) (found : Option Declaration) → Both known (named a used known span (spelling_at source at) found) (named b used known span (spelling_at source at) found)
    named-both used at None = fails known 1 span.inner.first
    named-both used at (Some entry) =
        if-both known (named_by_sort entry.sort (unwrap_or (number_of known.scopes (spelling_at source at)) 0) entry.kind) 1 span.inner.first _ _
        (λ it. obeys-both known _ _ 37 span.inner.first _ _ (ap (λ test. not (used && is_function_sort entry.sort && is_internal entry.linkage && test)) (alike at)) (there known _ _ refl))

    constant-both : (token : Option CToken) → Both known (given known (constant_tree a span token)) (given known (constant_tree b span token))
    constant-both None = there known _ _ refl
    constant-both (Some token) = there known _ _ refl

    index-same : (x y : Tree) (type : CType) (to : Option CType) → index_tree a span x y type to ≡ index_tree b span x y type to
    index-same x y type None = refl
    index-same x y type (Some to) = refl

    index-both : (x y : Tree) → Both known (typed_index a known span x y) (typed_index b known span x y)
    index-both x y = if-both known (indexed known (kind_of x) (kind_of y)) 11 span.inner.first _ _ (λ type. there known _ _ (index-same x y type (complete_target known type)))

    member-both : (name : ℕ) (whole : Tree) → Both known (typed_member a known span name whole) (typed_member b known span name whole)
    member-both name whole = if-both known (member_by_name known (spelling_at source name) whole) 12 span.inner.first _ _ (λ it. there known _ _ refl)

    arrow-both : (name : ℕ) (operand : Tree) → Both known (typed_arrow a known span name operand) (typed_arrow b known span name operand)
    arrow-both name operand =
        if-both known (complete_target known (kind_of operand)) 12 span.inner.first _ _ (λ to. member-both name (made source span label.follow to (operand ∷ [])))

    count-both : (operator : ℕ) (before : Bool) (operand : Tree) → Both known (typed_count a known span operator before operand) (typed_count b known span operator before operand)
    count-both operator before operand = obeys-both known (may_be_counted known operand) _ 13 span.inner.first _ _ refl (there known _ _ refl)

    sign-both : (operator : ℕ) (operand : Tree) → Both known (typed_sign a known span operator operand) (typed_sign b known span operator operand)
    sign-both operator operand =
        if-both known (option_and_then sign_of_row (row_at source operator)) 16 span.inner.first _ _
        (λ sign. if-both known (signed sign operand) 16 span.inner.first _ _ (λ it. there known _ _ refl))

    prefix-both : (operator : ℕ) (operand : Tree) (it : Symbol) → Both known (typed_prefix a known span operator operand it) (typed_prefix b known span operator operand it)
    prefix-both operator operand symbol.Increment = count-both operator true operand
    prefix-both operator operand symbol.Ampersand = obeys-both known (is_lvalue operand) _ 14 span.inner.first _ _ refl (there known _ _ refl)
    prefix-both operator operand symbol.Star = if-both known (complete_target known (kind_of (as_value operand))) 15 span.inner.first _ _ (λ to. there known _ _ refl)
    prefix-both operator operand _ = sign-both operator (as_value operand)

    sizeof-both : (operand : Tree) → Both known (typed_sizeof a known span operand) (typed_sizeof b known span operand)
    sizeof-both operand = obeys-both known (is_complete known (kind_of operand)) _ 17 span.inner.first _ _ refl (there known _ _ refl)

    sizeof-name-both : (type : CType) (lengths : List Tree) → Both known (typed_sizeof_name a known span type lengths) (typed_sizeof_name b known span type lengths)
    sizeof-name-both type lengths = obeys-both known (is_complete known type) _ 17 span.inner.first _ _ refl (there known _ _ refl)

    cast-both : (type : CType) (lengths : List Tree) (operand : Tree) → Both known (typed_cast a known span type lengths operand) (typed_cast b known span type lengths operand)
    cast-both type lengths operand = obeys-both known (may_be_cast known operand type) _ 18 span.inner.first _ _ refl (there known _ _ refl)

    operation-both : (x y : Tree) (op : Option Op) → Both known (typed_operation a known span x y op) (typed_operation b known span x y op)
    operation-both x y None = fails known 19 span.inner.first
    operation-both x y (Some op) = if-both known (operated known op x y) (rule_of op) span.inner.first _ _ (λ pair. there known _ _ refl)

    binary-both : (operator : ℕ) (x y : Tree) (it : Symbol) → Both known (typed_binary a known span operator x y it) (typed_binary b known span operator x y it)
    binary-both operator x y symbol.And = obeys-both known (is_scalar (kind_of x) && is_scalar (kind_of y)) _ 26 span.inner.first _ _ refl (there known _ _ refl)
    binary-both operator x y symbol.Or = obeys-both known (is_scalar (kind_of x) && is_scalar (kind_of y)) _ 26 span.inner.first _ _ refl (there known _ _ refl)
    binary-both operator x y _ = operation-both x y (option_and_then operator_of_row (row_at source operator))

    choice-both : (condition x y : Tree) → Both known (typed_choice a known span condition x y) (typed_choice b known span condition x y)
    choice-both condition x y =
        obeys-both known (is_scalar (kind_of condition)) _ 27 span.inner.first _ _ refl (if-both known (arms known x y) 27 span.inner.first _ _ (λ pair. there known _ _ refl))

    update-both : (object value : Tree) (op : Option Op) → Both known (typed_update a known span object value op) (typed_update b known span object value op)
    update-both object value None = fails known 29 span.inner.first
    update-both object value (Some op) = if-both known (updated known op object value) 29 span.inner.first _ _ (λ it. there known _ _ refl)

    assignment-both : (operator : ℕ) (object value : Tree) (it : Symbol) → Both known (typed_assignment a known span operator object value it) (typed_assignment b known span operator object value it)
    assignment-both operator object value symbol.Equals =
        obeys-both known (is_modifiable known object && is_assignable known value (kind_of object)) _ 28 span.inner.first _ _ refl (there known _ _ refl)
    assignment-both operator object value _ = update-both object value (option_and_then operator_of_assignment (row_at source operator))

    call-both : (callee : Expr) (tree : Tree) (values : List Tree) → Both known (typed_call a known span callee tree values) (typed_call b known span callee tree values)
    call-both callee tree values =
        obeys-both known (is_name callee && is_function_label (label_of tree)) _ 10 span.inner.first _ _ refl (if-both known (called known (kind_of tree) values) 10 span.inner.first _ _ (λ it. there known _ _ refl))

    commas-same : (first : Tree) (others : List Tree) → comma_tree a span first others ≡ comma_tree b span first others
    commas-same first [] = refl
    commas-same first (second ∷ others) = commas-same (made source span label.comma (kind_of second) (first ∷ second ∷ [])) others

    comma-same : (values : List Tree) → comma_of a span values ≡ comma_of b span values
    comma-same [] = refl
    comma-same (first ∷ others) = ap Some (commas-same first others)

    comma-both : (at : ℕ) (values : List Tree)
        → Both known (if_given (comma_of a span values) 1 at (λ made. given known made)) (if_given (comma_of b span values) 1 at (λ made. given known made))
    comma-both at values =
        subst (λ found. Both known (if_given (comma_of a span values) 1 at (λ made. given known made)) (if_given found 1 at (λ made. given known made))) (comma-same values)
        (if-both known (comma_of a span values) 1 at _ _ (λ made. there known _ _ refl))

  -- ---- tags and enumerators

  module _ (known : Known) where
    new-same : (tag : Option ℕ) → new_struct a known tag ≡ new_struct b known tag
    new-same None = refl
    new-same (Some at) = refl

    new-declares : (tag : Option ℕ) → Declares known (new_struct a known tag)
    new-declares None = declares-none known (new_struct a known None) refl refl
    new-declares (Some at) =
        let grown : Known = record known { types = with_struct known.types (Some (spelling_at source at)) } in
        declares-on known grown (new_struct a known (Some at)) (declares-none known grown refl refl)
        (declaring-declares grown (tag_key (spelling_at source at)) (tag_entry (spelling_at source at) (struct (length known.types.structs)) (place_at source at)) refl)

    struct-both : (span : Span) (tag : Option ℕ) (found : Option Declaration) → Both known (struct_named a known span tag found) (struct_named b known span tag found)
    struct-both span tag None = record { same = ap (λ behind. given behind (struct (length known.types.structs))) (new-same tag); adds = new-declares tag }
    struct-both span tag (Some entry) = obeys-both known (is_some (number_if_struct entry.kind)) _ 4 span.first _ _ refl (there known _ _ refl)

    enum-both : (span : Span) (found : Option Declaration) → Both known (enum_named known span found) (enum_named known span found)
    enum-both span None = fails known 1 span.first
    enum-both span (Some entry) = obeys-both known (is_integer entry.kind) _ 4 span.first _ _ refl (there known _ _ refl)

    inside-same : (tag : Option ℕ) → tag_inside a known tag ≡ tag_inside b known tag
    inside-same None = refl
    inside-same (Some at) = refl

    named-tag-same : (alone : Bool) (tag : Option ℕ) → (if alone then tag_inside a known tag else tag_seen a known tag) ≡ (if alone then tag_inside b known tag else tag_seen b known tag)
    named-tag-same alone None = refl
    named-tag-same alone (Some at) = refl

    seen-same : (tag : Option ℕ) → tag_seen a known tag ≡ tag_seen b known tag
    seen-same None = refl
    seen-same (Some at) = refl

    -- where members begin
    with-new-same : (tag : Option ℕ) (found : Option Declaration) → with_new_struct a known tag found ≡ with_new_struct b known tag found
    with-new-same tag None = new-same tag
    with-new-same tag (Some entry) = refl

    with-new-declares : (tag : Option ℕ) (found : Option Declaration) → Declares known (with_new_struct a known tag found)
    with-new-declares tag None = new-declares tag
    with-new-declares tag (Some entry) = declares-itself known

    enum-begun-same : (test : Bool) (tag : Option ℕ) → (if test then known else tag_declared a known tag (integer k.Int)) ≡ (if test then known else tag_declared b known tag (integer k.Int))
    enum-begun-same true tag = refl
    enum-begun-same false None = refl
    enum-begun-same false (Some at) = refl

    enum-begun-declares : (test : Bool) (tag : Option ℕ) → Declares known (if test then known else tag_declared a known tag (integer k.Int))
    enum-begun-declares true tag = declares-itself known
    enum-begun-declares false None = declares-itself known
    enum-begun-declares false (Some at) = declaring-declares known (tag_key (spelling_at source at)) (tag_entry (spelling_at source at) (integer k.Int) (place_at source at)) refl

    enumerator-declared-both : (at : ℕ) (value : ℤ) → Both known (enumerator_declared a known at value) (enumerator_declared b known at value)
    enumerator-declared-both at value =
        obeys-both known (not (is_declared known.scopes (spelling_at source at))) _ 2 at _ _ refl
        (obeys-both known (is_int value) _ 7 at _ _ refl
        (obeys-both known (not (is_file_scope known.scopes && bytes_eq (spelling_at source at) (codes "main"))) _ 36 at _ _ refl
        (record { same = refl; adds = declaring-declares known (spelling_at source at) (enumerator_entry a at value) refl })))

  beginning-declares : (known : Known) (number : Option ℕ) → Declares known (beginning known number)
  beginning-declares known None = declares-itself known
  beginning-declares known (Some at) = declares-none known (record known { begun = at ∷ known.begun }) refl refl

  valued-both : (known : Known) (at here : ℕ) (tree : Tree) → Both known (enumerator_valued a known at here tree) (enumerator_valued b known at here tree)
  valued-both known at here tree =
      if-both known (constant_of known tree) 7 here _ _ (λ value. obeys-both known (is_int value) _ 7 here _ _ refl
      (both-on known (with_constant known tree) (declares-none known (with_constant known tree) refl refl) _ _ (enumerator-declared-both (with_constant known tree) at value)))

  -- ---- specifiers and declarators

  module _ (known : Known) where
    pub said-both : (stands : Where) (here : ℕ) (said : Said) → Both known (typed_said known stands here said) (typed_said known stands here said)
    said-both stands here said =
        if-both known (type_said said) 3 here _ _ (λ type. obeys-both known (are_allowed stands said) _ 3 here _ _ refl (there known _ _ refl))

    stepped-both : (type : CType) (step : Step) → Both known (stepped known type step) (stepped known type step)
    stepped-both type (pointing at const) = obeys-both known (not (is_function type)) _ 5 at _ _ refl (there known _ _ refl)
    stepped-both type (arraying at n) = obeys-both known (is_complete known type && length_fits known type n) _ 5 at _ _ refl (there known _ _ refl)
    stepped-both type (calling at parameters) = obeys-both known (is_result known type) _ 5 at _ _ refl (there known _ _ refl)

    length-both : (here : ℕ) (tree : Tree) → Both known (length_of known here tree) (length_of known here tree)
    length-both here tree = if-both known (option_and_then natural (constant_of known tree)) 5 here _ _ (λ n. known-there known (with_constant known tree) n refl refl)

    new-both : (name : Option ℕ) → is_new_parameter a known name ≡ is_new_parameter b known name
    new-both None = refl
    new-both (Some at) = refl

    parameter-declared-both : (type : CType) (name : Option ℕ) → Both known (parameter_declared a known type name) (parameter_declared b known type name)
    parameter-declared-both type None = there known _ _ refl
    parameter-declared-both type (Some at) = record { same = refl; adds = declaring-declares known (spelling_at source at) (parameter_entry a at type) refl }

    typed-parameter-both : (here : ℕ) (type : CType) (name : Option ℕ) → Both known (typed_parameter a known here type name) (typed_parameter b known here type name)
    typed-parameter-both here type name =
        obeys-both known (is_new_parameter a known name) _ 2 (unwrap_or name here) _ _ (new-both name)
        (obeys-both known (not (is_function type)) _ 5 here _ _ refl (parameter-declared-both (adjusted type) name))

    field-both : (here : ℕ) (name : Option ℕ) (before : List TypedMember) (type : CType) → Both known (typed_field a known here name before type) (typed_field b known here name before type)
    field-both here None before type =
        obeys-both known (is_complete known type) _ 5 here _ _ refl (obeys-both known (not (is_named [] before)) _ 6 here _ _ refl (there known _ _ refl))
    field-both here (Some at) before type =
        obeys-both known (is_complete known type) _ 5 here _ _ refl (obeys-both known (not (is_named (spelling_at source at) before)) _ 6 at _ _ refl (there known _ _ refl))

  pub derived-both : (known : Known) (type : CType) (steps : List Step) → Both known (derived known type steps) (derived known type steps)
  derived-both known type [] = there known _ _ refl
  derived-both known type (step ∷ steps) = after-both known (stepped known type step) _ _ _ (stepped-both known type step) (λ behind made. derived-both behind made steps)

  left-one : {A : Type 0} (known : Known) (one : Outcome A) → LeadsTo (entered known) one → LeadsTo known (left known.scopes one)
  left-one known (given behind it) h = record { more = h.more; declared = h.declared; named = λ name number e. inl e }
  left-one known (broken rule at) h = tt

  left-both : {A : Type 0} (known : Known) (one other : Outcome A) → Both (entered known) one other → Both known (left known.scopes one) (left known.scopes other)
  left-both known one other h = record { same = ap (left known.scopes) h.same; adds = left-one known one h.adds }

  named-one : (known : Known) (one : Outcome CType) → LeadsTo (record known { constants = [] }) one → LeadsTo known (name_ended known.constants one)
  named-one known (given behind kind) h = record { more = h.more; declared = h.declared; named = h.named }
  named-one known (broken rule at) h = tt

  ended-name-both : (known : Known) (one other : Outcome CType) → Both (record known { constants = [] }) one other → Both known (name_ended known.constants one) (name_ended known.constants other)
  ended-name-both known one other h = record { same = ap (name_ended known.constants) h.same; adds = named-one known one h.adds }

  ended-one : (known begun : Known) (span : Span) (number : Option ℕ) → Declares known begun → (one : Outcome (List TypedMember)) → LeadsTo begun one
      → LeadsTo known (after one (λ behind members. struct_ended behind span number known.begun members))
  ended-one known begun span number outside (broken rule at) h = tt
  ended-one known begun span None outside (given behind members) h = tt
  ended-one known begun span (Some at) outside (given behind []) h = tt
  ended-one known begun span (Some at) outside (given behind (first ∷ others)) h =
      let done : Known = record behind { types = with_content behind.types at (contained behind.types (fields behind.types (first ∷ others))); begun = known.begun } in
      (obeys-both known (is_some (struct_layout behind.types (fields behind.types (first ∷ others)))) _ 5 span.first _ _ refl
      (record { same = refl; adds = declares-on known behind done (declares-on known begun behind outside h) (declares-none behind done refl refl) })).adds

  ended-both : (known begun : Known) (span : Span) (number : Option ℕ) → Declares known begun → (one other : Outcome (List TypedMember)) → Both begun one other
      → Both known (after one (λ behind members. struct_ended behind span number known.begun members)) (after other (λ behind members. struct_ended behind span number known.begun members))
  ended-both known begun span number outside one other h =
      record { same = ap (λ outcome. after outcome (λ behind members. struct_ended behind span number known.begun members)) h.same; adds = ended-one known begun span number outside one h.adds }

  -- ---- the syntax

  mutual
    unfolding typed_within typed_values typed_name typed_specifiers words_said word_said fields_of fields_declared fields_with enumerators_of enumerator_of steps_of direct_steps parameters_of parameter_of

    pub expr-both : (used : Bool) (known : Known) (outer : Span) (expr : Expr) → Both known (typed_within a used known outer expr) (typed_within b used known outer expr)
    expr-both used known outer (tree.name span) = named-both known (extent span outer) used span.first (meaning_of known (spelling_at source span.first))
    expr-both used known outer (tree.constant span) = constant-both known (extent span outer) (slice_get source.tokens span.first)
    expr-both used known outer (tree.literal span) = there known _ _ refl
    expr-both used known outer (tree.paren span inner) = expr-both used known outer inner
    expr-both used known outer (tree.index span x y) =
        after-both known (typed a used known x) _ _ _ (expr-both used known _ x) (λ then_known first.
        after-both then_known (typed a used then_known y) _ _ _ (expr-both used then_known _ y) (λ behind second. index-both behind (extent span outer) (as_value first) (as_value second)))
    expr-both used known outer (tree.call span callee arguments) =
        after-both known (typed a used known callee) _ _ _ (expr-both used known _ callee) (λ then_known first.
        after-both then_known (typed_values a used then_known arguments) _ _ _ (values-both used then_known arguments) (λ behind values. call-both behind (extent span outer) callee first values))
    expr-both used known outer (tree.member span whole name) =
        after-both known (typed a used known whole) _ _ _ (expr-both used known _ whole) (λ behind made. member-both behind (extent span outer) name made)
    expr-both used known outer (tree.arrow span operand name) =
        after-both known (typed a used known operand) _ _ _ (expr-both used known _ operand) (λ behind made. arrow-both behind (extent span outer) name (as_value made))
    expr-both used known outer (tree.postfix span operand operator) =
        after-both known (typed a used known operand) _ _ _ (expr-both used known _ operand) (λ behind made. count-both behind (extent span outer) operator false made)
    expr-both used known outer (tree.prefix span operator operand) =
        after-both known (typed a used known operand) _ _ _ (expr-both used known _ operand) (λ behind made. prefix-both behind (extent span outer) operator made (symbol_at source operator))
    expr-both used known outer (tree.sizeof_expr span operand) =
        after-both known (typed a false known operand) _ _ _ (expr-both false known _ operand) (λ behind made. sizeof-both behind (extent span outer) made)
    expr-both used known outer (tree.sizeof_name span name) =
        after-both known (typed_name a false known name) _ _ _ (name-both false known name) (λ behind named. sizeof-name-both behind (extent span outer) named.kind named.constants)
    expr-both used known outer (tree.cast span name operand) =
        after-both known (typed_name a used known name) _ _ _ (name-both used known name) (λ then_known named.
        after-both then_known (typed a used then_known operand) _ _ _ (expr-both used then_known _ operand) (λ behind made. cast-both behind (extent span outer) (bare named.kind) named.constants (as_value made)))
    expr-both used known outer (tree.binary span x operator y) =
        after-both known (typed a used known x) _ _ _ (expr-both used known _ x) (λ then_known first.
        after-both then_known (typed a used then_known y) _ _ _ (expr-both used then_known _ y)
        (λ behind second. binary-both behind (extent span outer) operator (as_value first) (as_value second) (symbol_at source operator)))
    expr-both used known outer (tree.conditional span x y z) =
        after-both known (typed a used known x) _ _ _ (expr-both used known _ x) (λ then_known first.
        after-both then_known (typed a used then_known y) _ _ _ (expr-both used then_known _ y) (λ then_more second.
        after-both then_more (typed a used then_more z) _ _ _ (expr-both used then_more _ z)
        (λ behind third. choice-both behind (extent span outer) (as_value first) (as_value second) (as_value third))))
    expr-both used known outer (tree.assign span object operator value) =
        after-both known (typed a used known object) _ _ _ (expr-both used known _ object) (λ then_known first.
        after-both then_known (typed a used then_known value) _ _ _ (expr-both used then_known _ value)
        (λ behind second. assignment-both behind (extent span outer) operator first (as_value second) (symbol_at source operator)))
    expr-both used known outer (tree.comma span parts) =
        after-both known (typed_values a used known parts) _ _ _ (values-both used known parts) (λ behind values. comma-both behind (extent span outer) span.first values)

    values-both : (used : Bool) (known : Known) (exprs : Exprs) → Both known (typed_values a used known exprs) (typed_values b used known exprs)
    values-both used known tree.no_exprs = there known _ _ refl
    values-both used known (tree.more_exprs first others) =
        after-both known (typed a used known first) _ _ _ (expr-both used known _ first) (λ then_known made.
        after-both then_known (typed_values a used then_known others) _ _ _ (values-both used then_known others) (λ behind values. there behind _ _ refl))

    name-both : (used : Bool) (known : Known) (name : TypeName) → Both known (typed_name a used known name) (typed_name b used known name)
    name-both used known (tree.type_name span specifiers declarator) =
        ended-name-both known _ _
        (after-both (record known { constants = [] }) (typed_specifiers a used elsewhere false (record known { constants = [] }) specifiers) _ _ _
        (specifiers-both used elsewhere false (record known { constants = [] }) specifiers) (λ then_known base.
        after-both then_known (steps_of a used then_known declarator) _ _ _ (steps-both used then_known declarator) (λ behind steps. derived-both behind base steps)))

    specifiers-both : (used : Bool) (stands : Where) (alone : Bool) (known : Known) (specifiers : Specifiers)
        → Both known (typed_specifiers a used stands alone known specifiers) (typed_specifiers b used stands alone known specifiers)
    specifiers-both used stands alone known (tree.listed span words) =
        after-both known (words_said a used alone known nothing_said words) _ _ _ (words-both used alone known nothing_said words) (λ behind said. said-both behind stands span.first said)

    pub words-both : (used alone : Bool) (known : Known) (said : Said) (words : Words) → Both known (words_said a used alone known said words) (words_said b used alone known said words)
    words-both used alone known said tree.no_words = there known _ _ refl
    words-both used alone known said (tree.more_words first others) =
        after-both known (word_said a used alone known said first) _ _ _ (word-both used alone known said first) (λ behind so_far. words-both used alone behind so_far others)

    word-both : (used alone : Bool) (known : Known) (said : Said) (word : Specifier) → Both known (word_said a used alone known said word) (word_said b used alone known said word)
    word-both used alone known said (tree.keyword at) = there known _ _ refl
    word-both used alone known said (tree.typedef_name at) = if-both known (meaning_of known (spelling_at source at)) 1 at _ _ (λ (entry : Declaration). there known _ _ refl)
    word-both used alone known said (tree.struct_only span tag) =
        with-both known _ _ _ _
        (subst (λ found. Both known (struct_named a known span tag (if alone then tag_inside a known tag else tag_seen a known tag)) (struct_named b known span tag found)) (named-tag-same known alone tag)
        (struct-both known span tag (if alone then tag_inside a known tag else tag_seen a known tag)))
        (λ behind type. refl)
    word-both used alone known said (tree.struct_with span tag members) =
        let found = tag_inside a known tag in
        let number = struct_begun known found in
        let begun = beginning (with_new_struct a known tag found) number in
        let ended = λ (setting : Setting) (it : Known) (inside : Option Declaration). after (fields_of setting used (beginning it (struct_begun known inside)) [] members)
        (λ behind typed_members. struct_ended behind span (struct_begun known inside) known.begun typed_members) in
        with-both known _ _ _ _
        (subst (λ inside. Both known (ended a (with_new_struct a known tag found) found) (ended b (with_new_struct b known tag inside) inside)) (inside-same known tag)
        (subst (λ it. Both known (ended a (with_new_struct a known tag found) found) (ended b it found)) (with-new-same known tag found)
        (ended-both known begun span number (declares-on known (with_new_struct a known tag found) begun (with-new-declares known tag found) (beginning-declares (with_new_struct a known tag found) number))
        (fields_of a used begun [] members) (fields_of b used begun [] members) (fields-both used begun [] members))))
        (λ behind type. refl)
    word-both used alone known said (tree.enum_only span tag trailing) =
        with-both known _ _ _ _
        (subst (λ found. Both known (enum_named known span (tag_seen a known tag)) (enum_named known span found)) (seen-same known tag) (enum-both known span (tag_seen a known tag)))
        (λ behind type. refl)
    word-both used alone known said (tree.enum_with span tag enumerators trailing) =
        let test = is_some (tag_inside a known tag) in
        let begun = if test then known else tag_declared a known tag (integer k.Int) in
        let ended = λ (setting : Setting) (it : Known) (is_old : Bool). after (enumerators_of setting used it (negsuc 0) enumerators) (λ behind last. obeys (not is_old) 4 span.first (given behind (integer k.Int))) in
        with-both known _ _ _ _
        (subst (λ inside. Both known (ended a begun test) (ended b (if is_some inside then known else tag_declared b known tag (integer k.Int)) (is_some inside))) (inside-same known tag)
        (subst (λ it. Both known (ended a begun test) (ended b it test)) (enum-begun-same known test tag)
        (both-on known begun (enum-begun-declares known test tag) _ _
        (after-both begun (enumerators_of a used begun (negsuc 0) enumerators) _ _ _ (enumerators-both used begun (negsuc 0) enumerators)
        (λ behind last. obeys-both behind (not test) _ 4 span.first _ _ refl (there behind _ _ refl))))))
        (λ behind type. refl)

    fields-both : (used : Bool) (known : Known) (before : List TypedMember) (members : Members) → Both known (fields_of a used known before members) (fields_of b used known before members)
    fields-both used known before tree.no_members = there known _ _ refl
    fields-both used known before (tree.more_members first others) =
        after-both known (fields_declared a used known before first) _ _ _ (declared-fields-both used known before first) (λ behind so_far. fields-both used behind so_far others)

    declared-fields-both : (used : Bool) (known : Known) (before : List TypedMember) (member : Member)
        → Both known (fields_declared a used known before member) (fields_declared b used known before member)
    declared-fields-both used known before (tree.members span specifiers declarators) =
        after-both known (typed_specifiers a used elsewhere false known specifiers) _ _ _ (specifiers-both used elsewhere false known specifiers)
        (λ behind base. fields-with-both used behind base before declarators)

    fields-with-both : (used : Bool) (known : Known) (base : CType) (before : List TypedMember) (declarators : Declarators)
        → Both known (fields_with a used known base before declarators) (fields_with b used known base before declarators)
    fields-with-both used known base before tree.no_declarators = there known _ _ refl
    fields-with-both used known base before (tree.more_declarators first others) =
        after-both known (steps_of a used known first) _ _ _ (steps-both used known first) (λ then_known steps.
        after-both then_known (derived then_known base steps) _ _ _ (derived-both then_known base steps) (λ then_more type.
        after-both then_more (typed_field a then_more (declarator_span first).first (declarator_name first) before type) _ _ _
        (field-both then_more (declarator_span first).first (declarator_name first) before type) (λ behind so_far. fields-with-both used behind base so_far others)))

    enumerators-both : (used : Bool) (known : Known) (last : ℤ) (enumerators : Enumerators) → Both known (enumerators_of a used known last enumerators) (enumerators_of b used known last enumerators)
    enumerators-both used known last tree.no_enumerators = there known _ _ refl
    enumerators-both used known last (tree.more_enumerators first others) =
        after-both known (enumerator_of a used known last first) _ _ _ (enumerator-both used known last first) (λ behind value. enumerators-both used behind value others)

    enumerator-both : (used : Bool) (known : Known) (last : ℤ) (enumerator : Enumerator) → Both known (enumerator_of a used known last enumerator) (enumerator_of b used known last enumerator)
    enumerator-both used known last (tree.bare span at) = enumerator-declared-both known at (last +ℤ pos 1)
    enumerator-both used known last (tree.valued span at value) =
        after-both known (typed a used known value) _ _ _ (expr-both used known _ value) (λ behind made. valued-both behind at (expr_span value).first (as_value made))

    pub steps-both : (used : Bool) (known : Known) (declarator : Declarator) → Both known (steps_of a used known declarator) (steps_of b used known declarator)
    steps-both used known (tree.shaped span consts direct) =
        with-both known _ _ _ _ (direct-both used known (direct_at span.first consts) direct) (λ behind steps. refl)

    direct-both : (used : Bool) (known : Known) (here : ℕ) (direct : Direct) → Both known (direct_steps a used known here direct) (direct_steps b used known here direct)
    direct-both used known here tree.absent = there known _ _ refl
    direct-both used known here (tree.declared at) = there known _ _ refl
    direct-both used known here (tree.enclosed declarator) = steps-both used known declarator
    direct-both used known here (tree.array direct) = with-both known _ _ _ _ (direct-both used known here direct) (λ behind steps. refl)
    direct-both used known here (tree.sized direct value) =
        after-both known (direct_steps a used known here direct) _ _ _ (direct-both used known here direct) (λ then_known steps.
        after-both then_known (typed a used then_known value) _ _ _ (expr-both used then_known _ value) (λ then_more made.
        with-both then_more _ _ _ _ (length-both then_more (expr_span value).first (as_value made)) (λ behind n. refl)))
    direct-both used known here (tree.function direct parameters) =
        after-both known (direct_steps a used known here direct) _ _ _ (direct-both used known here direct) (λ then_known steps.
        with-both then_known _ _ _ _
        (left-both then_known (parameters_of a used (entered then_known) parameters) (parameters_of b used (entered then_known) parameters) (parameters-both used (entered then_known) parameters))
        (λ behind ones. refl))

    parameters-both : (used : Bool) (known : Known) (parameters : Parameters) → Both known (parameters_of a used known parameters) (parameters_of b used known parameters)
    parameters-both used known tree.no_parameters = there known _ _ refl
    parameters-both used known (tree.more_parameters first others) =
        after-both known (parameter_of a used known first) _ _ _ (parameter-both used known first) (λ then_known made.
        with-both then_known _ _ _ _ (parameters-both used then_known others) (λ behind rest. refl))

    pub parameter-both : (used : Bool) (known : Known) (parameter : Parameter) → Both known (parameter_of a used known parameter) (parameter_of b used known parameter)
    parameter-both used known (tree.parameter span specifiers declarator) =
        after-both known (typed_specifiers a used elsewhere false known specifiers) _ _ _ (specifiers-both used elsewhere false known specifiers) (λ then_known base.
        after-both then_known (steps_of a used then_known declarator) _ _ _ (steps-both used then_known declarator) (λ then_more steps.
        after-both then_more (derived then_more base steps) _ _ _ (derived-both then_more base steps)
        (λ behind type. typed-parameter-both behind (parameter_at span declarator) type (declarator_name declarator))))
