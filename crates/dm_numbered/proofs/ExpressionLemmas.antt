-- Names in expressions and type names mean what their typing says, and what is seen behind them goes with what is known: by induction over the syntax.
use Rattle.std.specs.Prelude.{◌≡◌, ◌<◌, suc, zero, length, drop, refl, ℕ, ℤ, pos, ◌+ℤ◌, negsuc, Bool, true, false, ◌&&◌, not, if◌then◌else◌, List, [], ◌∷◌, ◌++◌, Option, Some, None, is_some, option_and_then, slice_get, unwrap_or, codes, bytes_eq}
use Rattle.std.proofs.Common.{sym, ap, ◌∙◌, subst, arith}
use Rattle.dm_token.specs.declared.place.Span.{Span}
use Rattle.dm_int.specs.declared.Kind.TheVariants as k
use Rattle.dm_type.specs.CTypes.{CType, integer, bare}
use Rattle.dm_type.specs.Tables.{Table}
use Rattle.dm_type.specs.Layouts.{struct_layout}
use Rattle.dm_scope.specs.Scopes.{or_else, number_of, is_declared}
use Rattle.dm_syn.specs.Sources.{spelling_at, symbol_at}
use Rattle.dm_syn.specs.Spans.{expr_span, declarator_span}
use Rattle.dm_syn.specs.Scopes.{declarator_name}
use Rattle.dm_syn.specs.Trees.{Expr, Exprs, TypeName, Specifiers, Words, Specifier, Members, Member, Declarators, Enumerators, Enumerator, Declarator, Direct, Parameters, Parameter}
use Rattle.dm_syn.specs.Trees as tree
use Rattle.dm_tree.specs.Scenes.{is_integer, is_function}
use Rattle.dm_tree.specs.Trees.{Tree}
use Rattle.dm_tree.specs.Units.{Declaration}
use Rattle.dm_typing.specs.Known.{Known, Outcome, given, broken, after, obeys, meaning_of, tag_key}
use Rattle.dm_typing.specs.Conversions.{as_value, is_complete, constant_of}
use Rattle.dm_typing.specs.Specifiers.{Said, nothing_said, type_said, Where, elsewhere, are_allowed}
use Rattle.dm_typing.specs.Typing.{comma_of, number_if_struct, tag_declared, new_struct, tag_inside, tag_seen, struct_named, enum_named, with_new_struct, struct_begun, beginning, TypedMember, is_named, fields, struct_ended, is_int, is_file_scope, enumerator_declared, with_constant, enumerator_valued, Step, pointing, arraying, calling, enumerator_entry, parameter_entry, length_fits, is_result, stepped, derived, direct_at, natural, length_of, adjusted, is_new_parameter, parameter_declared, typed_parameter, parameter_at, entered, left, name_of, typed_field, typed_said, TypedName, name_ended, extent, typed_within, typed_values, typed_name, typed_specifiers, words_said, word_said, fields_of, fields_declared, fields_with, enumerators_of, enumerator_of, steps_of, direct_steps, parameters_of, parameter_of}
use Rattle.dm_names.specs.declared.seen.Seen.{Seen}
use Rattle.dm_names.specs.Scopes as names
use Rattle.dm_names.specs.Seen.{Source, spelled, mentioned, declaring_new, naming_new, is_known_tag, struct_named as struct_seen, enum_named as enum_seen, enum_begun, list_opened, list_closed, expr, exprs, type_name, specifiers, words, specifier, members, member, declarators, enumerators, enumerator, declarator, direct, parameters, parameter}
use Rattle.dm_numbered.proofs.GrowthLemmas.{Grows, expr-grows, exprs-grow, words-grow, members-grow, declarators-grow, enumerators-grow, declarator-grows, parameters-grow, new-grows, naming-new-grows}
use Rattle.dm_numbered.proofs.ScopeLemmas.{AreAlike, empty-alike, name-means, tag-means, tag-here, AreUnder, empty-under, under-means}
use Rattle.dm_numbered.proofs.StateLemmas.{Frame, source_in, spelled-is, Good, In, last-told, last-plain, mentioned-good, name-good, tag-good}
use Rattle.dm_numbered.proofs.FormLemmas.{Each, EachOf, Yields, Any, after-yields, with-yields, obeys-yields, if-yields, found-yields, value-each, named-yields, constant-each, literal-each, index-yields, member-yields, arrow-yields, count-yields, prefix-yields, sizeof-yields, sizeof-name-yields, cast-yields, binary-yields, choice-yields, assignment-yields, call-yields, comma-found}

-- ---- lists

there : {A : Type 0} (xs : List A) (n : ℕ) → n < length xs → is_some (slice_get xs n) ≡ true
there [] n l = absurd (omega (arith, l))
there (x ∷ xs) zero l = refl
there (x ∷ xs) (suc n) l = there xs n (omega (arith, l))

pub under-drop : (n : ℕ) (scopes : names.Scopes) → AreUnder n scopes → AreUnder n (drop 1 scopes)
under-drop n [] h = tt
under-drop n (scope ∷ scopes) h = h.1

module _ (c : Frame) where
  pub each-append : (xs ys : List Tree) → EachOf c xs → EachOf c ys → EachOf c (xs ++ ys)
  each-append [] ys h k = k
  each-append (x ∷ xs) ys h k = (h.0, each-append xs ys h.1 k)

  -- what gives no tree
  abbrev pub Keeps : {A : Type 0} → Seen → Outcome A → Type 0
  Keeps seen outcome = Yields c seen (Any c) outcome

  -- ---- what counts of what is known

  pub same-good : (known : Known) (types : Table) (begun : List ℕ) (constants : List Tree) (seen : Seen) → Good c known seen → EachOf c constants
      → Good c (record known { types = types; begun = begun; constants = constants }) seen
  same-good known types begun constants seen good each = record { alike = good.alike; entries = good.entries; under = good.under; constants = each }

  constant-good : (known : Known) (value : Tree) (seen : Seen) → Good c known seen → Each c value → Good c (with_constant known value) seen
  constant-good known value seen good one = same-good known known.types known.begun (known.constants ++ value ∷ []) seen good (each-append known.constants (value ∷ []) good.constants (one, tt))

  -- ---- tags

  abbrev tag_name : ℕ → List ℕ
  tag_name at = spelling_at c.setting.source at

  some-of : (found : Option ℕ) (declared : List Declaration) → ((number : ℕ) → found ≡ Some number → number < length declared)
      → is_some (option_and_then (slice_get declared) found) ≡ is_some found
  some-of None declared h = refl
  some-of (Some number) declared h = there declared number (h number refl)

  -- a tag is seen where the names have one
  tag-seen : (known : Known) (seen : Seen) (at : ℕ) → Good c known seen → is_some (meaning_of known (tag_key (tag_name at))) ≡ is_some (names.meaning_of true (tag_name at) seen.scopes)
  tag-seen known seen at good =
      let same = tag-means known.scopes seen.scopes (tag_name at) good.alike in
      let count = good.entries in
      some-of (number_of known.scopes (tag_key (tag_name at))) known.declared
      (λ number e. let l = under-means seen.entries true (tag_name at) number seen.scopes good.under (sym same ∙ e) in omega (arith, count, l))
      ∙ ap is_some same

  here-means : (name : List ℕ) (scopes : names.Scopes) → names.is_declared_here true name scopes ≡ true → is_some (names.meaning_of true name scopes) ≡ true
  here-means name [] h = absurd (cc)
  here-means name (scope ∷ scopes) h = by (names.get true name scope) h
    where
      by : (found : Option ℕ) → is_some found ≡ true → is_some (or_else found (names.meaning_of true name scopes)) ≡ true
      by (Some n) e = refl
      by None e = absurd (cc)

  inside-known : (known : Known) (seen : Seen) (at : ℕ) → Good c known seen → is_some (tag_inside c.setting known (Some at)) ≡ names.is_declared_here true (tag_name at) seen.scopes
  inside-known known seen at good =
      by (is_declared known.scopes (tag_key (tag_name at))) (names.is_declared_here true (tag_name at) seen.scopes) refl (tag-here known.scopes seen.scopes (tag_name at) good.alike)
    where
      by : (test here : Bool) → names.is_declared_here true (tag_name at) seen.scopes ≡ here → test ≡ here → is_some (if test then meaning_of known (tag_key (tag_name at)) else None) ≡ here
      by true true e same = tag-seen known seen at good ∙ here-means (tag_name at) seen.scopes e
      by false false e same = refl
      by true false e same = absurd (cc)
      by false true e same = absurd (cc)

  tag-known : (known : Known) (seen : Seen) (alone : Bool) (at : ℕ) → Good c known seen
      → is_some (if alone then tag_inside c.setting known (Some at) else tag_seen c.setting known (Some at)) ≡ is_known_tag alone (spelled (source_in c) at) seen.scopes
  tag-known known seen true at good = inside-known known seen at good ∙ sym (ap (λ name. names.is_declared_here true name seen.scopes) (spelled-is c at))
  tag-known known seen false at good = tag-seen known seen at good ∙ sym (ap (λ name. is_some (names.meaning_of true name seen.scopes)) (spelled-is c at))

  declared-good : (known : Known) (seen : Seen) (tag : Option ℕ) (type : CType) → Good c known seen → Good c (tag_declared c.setting known tag type) (enum_begun (source_in c) tag seen)
  declared-good known seen None type good = good
  declared-good known seen (Some at) type good = tag-good c known seen at _ good

  struct-good : (known : Known) (seen : Seen) (at : ℕ) → Good c known seen → Good c (new_struct c.setting known (Some at)) (declaring_new (source_in c) true at seen)
  struct-good known seen at good = tag-good c (record known { types = _ }) seen at _ (same-good known _ known.begun known.constants seen good good.constants)

  -- `struct` with a tag, or a new struct
  struct-by : (known : Known) (seen : Seen) (span : Span) (at : ℕ) (found : Option Declaration) (test : Bool) → is_some found ≡ test → Good c known seen
      → Keeps (if test then mentioned (source_in c) true at seen else declaring_new (source_in c) true at seen) (struct_named c.setting known span (Some at) found)
  struct-by known seen span at None false e good = (struct-good known seen at good, tt)
  struct-by known seen span at None true e good = absurd (cc)
  struct-by known seen span at (Some entry) true e good =
      obeys-yields c (mentioned (source_in c) true at seen) (Any c) (is_some (number_if_struct entry.kind)) 4 span.first _ (mentioned-good c known seen true at good, tt)
  struct-by known seen span at (Some entry) false e good = absurd (cc)

  struct-named-keeps : (known : Known) (seen : Seen) (span : Span) (alone : Bool) (tag : Option ℕ) → Good c known seen
      → Keeps (struct_seen (source_in c) alone tag seen) (struct_named c.setting known span tag (if alone then tag_inside c.setting known tag else tag_seen c.setting known tag))
  struct-named-keeps known seen span true None good = (same-good known _ known.begun known.constants seen good good.constants, tt)
  struct-named-keeps known seen span false None good = (same-good known _ known.begun known.constants seen good good.constants, tt)
  struct-named-keeps known seen span alone (Some at) good =
      struct-by known seen span at (if alone then tag_inside c.setting known (Some at) else tag_seen c.setting known (Some at)) (is_known_tag alone (spelled (source_in c) at) seen.scopes)
      (tag-known known seen alone at good) good

  begun-by : (known : Known) (seen : Seen) (at : ℕ) (found : Option Declaration) (test : Bool) → is_some found ≡ test → Good c known seen
      → Good c (with_new_struct c.setting known (Some at) found) (if test then mentioned (source_in c) true at seen else declaring_new (source_in c) true at seen)
  begun-by known seen at None false e good = struct-good known seen at good
  begun-by known seen at None true e good = absurd (cc)
  begun-by known seen at (Some entry) true e good = mentioned-good c known seen true at good
  begun-by known seen at (Some entry) false e good = absurd (cc)

  begun-good : (known : Known) (seen : Seen) (tag : Option ℕ) → Good c known seen → Good c (with_new_struct c.setting known tag (tag_inside c.setting known tag)) (struct_seen (source_in c) true tag seen)
  begun-good known seen None good = same-good known _ known.begun known.constants seen good good.constants
  begun-good known seen (Some at) good =
      begun-by known seen at (tag_inside c.setting known (Some at)) (is_known_tag true (spelled (source_in c) at) seen.scopes) (tag-known known seen true at good) good

  beginning-good : (known : Known) (seen : Seen) (begun : Option ℕ) → Good c known seen → Good c (beginning known begun) seen
  beginning-good known seen None good = good
  beginning-good known seen (Some at) good = same-good known known.types _ known.constants seen good good.constants

  enum-named-keeps : (known : Known) (seen : Seen) (span : Span) (tag : Option ℕ) → Good c known seen → Keeps (enum_seen (source_in c) tag seen) (enum_named known span (tag_seen c.setting known tag))
  enum-named-keeps known seen span None good = tt
  enum-named-keeps known seen span (Some at) good = by (tag_seen c.setting known (Some at))
    where
      by : (found : Option Declaration) → Keeps (mentioned (source_in c) true at seen) (enum_named known span found)
      by None = tt
      by (Some entry) = obeys-yields c (mentioned (source_in c) true at seen) (Any c) (is_integer entry.kind) 4 span.first _ (mentioned-good c known seen true at good, tt)

  ended-keeps : (known : Known) (seen : Seen) (span : Span) (at : Option ℕ) (begun : List ℕ) (members : List TypedMember) → Good c known seen → Keeps seen (struct_ended known span at begun members)
  ended-keeps known seen span None begun members good = tt
  ended-keeps known seen span (Some at) begun [] good = tt
  ended-keeps known seen span (Some at) begun (first ∷ others) good =
      obeys-yields c seen (Any c) (is_some (struct_layout known.types (fields known.types (first ∷ others)))) 5 span.first _ (same-good known _ begun known.constants seen good good.constants, tt)

  -- ---- enumerators and declarators

  declared-keeps : (known : Known) (seen : Seen) (at : ℕ) (value : ℤ) → In c (declaring_new (source_in c) false at seen) → Good c known seen
      → Keeps (declaring_new (source_in c) false at seen) (enumerator_declared c.setting known at value)
  declared-keeps known seen at value within good =
      let behind = declaring_new (source_in c) false at seen in
      obeys-yields c behind (Any c) (not (is_declared known.scopes (spelling_at c.setting.source at))) 2 at _
      (obeys-yields c behind (Any c) (is_int value) 7 at _
      (obeys-yields c behind (Any c) (not (is_file_scope known.scopes && bytes_eq (spelling_at c.setting.source at) (codes "main"))) 36 at _
      (name-good c known seen at (enumerator_entry c.setting at value) within good, tt)))

  valued-keeps : (known : Known) (seen : Seen) (at here : ℕ) (value : Tree) → In c (declaring_new (source_in c) false at seen) → Good c known seen → Each c value
      → Keeps (declaring_new (source_in c) false at seen) (enumerator_valued c.setting known at here value)
  valued-keeps known seen at here value within good h =
      let behind = declaring_new (source_in c) false at seen in
      if-yields c behind (Any c) (constant_of known value) 7 here _ (λ n e. obeys-yields c behind (Any c) (is_int n) 7 here _
      (declared-keeps (with_constant known value) seen at n within (constant-good known value seen good h)))

  length-keeps : (known : Known) (seen : Seen) (here : ℕ) (value : Tree) → Good c known seen → Each c value → Keeps seen (length_of known here value)
  length-keeps known seen here value good h =
      if-yields c seen (Any c) (option_and_then natural (constant_of known value)) 5 here _ (λ n e. (constant-good known value seen good h, tt))

  stepped-keeps : (known : Known) (seen : Seen) (type : CType) (step : Step) → Good c known seen → Keeps seen (stepped known type step)
  stepped-keeps known seen type (pointing at const) good = obeys-yields c seen (Any c) (not (is_function type)) 5 at _ (good, tt)
  stepped-keeps known seen type (arraying at n) good = obeys-yields c seen (Any c) (is_complete known type && length_fits known type n) 5 at _ (good, tt)
  stepped-keeps known seen type (calling at parameters) good = obeys-yields c seen (Any c) (is_result known type) 5 at _ (good, tt)

  pub derived-keeps : (known : Known) (seen : Seen) (type : CType) (steps : List Step) → Good c known seen → Keeps seen (derived known type steps)
  derived-keeps known seen type [] good = (good, tt)
  derived-keeps known seen type (step ∷ steps) good =
      after-yields c seen seen (Any c) (Any c) (stepped known type step) _ (stepped-keeps known seen type step good) (λ behind made still h. derived-keeps behind seen made steps still)

  field-keeps : (known : Known) (seen : Seen) (here : ℕ) (name : Option ℕ) (before : List TypedMember) (kind : CType) → Good c known seen → Keeps seen (typed_field c.setting known here name before kind)
  field-keeps known seen here name before kind good =
      obeys-yields c seen (Any c) (is_complete known kind) 5 here _ (obeys-yields c seen (Any c) (not (is_named (name_of c.setting name) before)) 6 (unwrap_or name here) _ (good, tt))

  parameter-declared-keeps : (known : Known) (seen : Seen) (kind : CType) (name : Option ℕ) → In c (naming_new (source_in c) name seen) → Good c known seen
      → Keeps (naming_new (source_in c) name seen) (parameter_declared c.setting known kind name)
  parameter-declared-keeps known seen kind None within good = (good, tt)
  parameter-declared-keeps known seen kind (Some at) within good = (name-good c known seen at (parameter_entry c.setting at kind) within good, tt)

  parameter-keeps : (known : Known) (seen : Seen) (here : ℕ) (type : CType) (name : Option ℕ) → In c (naming_new (source_in c) name seen) → Good c known seen
      → Keeps (naming_new (source_in c) name seen) (typed_parameter c.setting known here type name)
  parameter-keeps known seen here type name within good =
      let behind = naming_new (source_in c) name seen in
      obeys-yields c behind (Any c) (is_new_parameter c.setting known name) 2 (unwrap_or name here) _
      (obeys-yields c behind (Any c) (not (is_function type)) 5 here _ (parameter-declared-keeps known seen (adjusted type) name within good))

  -- the scope of a parameter list
  pub entered-good : (known : Known) (seen : Seen) → Good c known seen → Good c (entered known) (list_opened seen)
  entered-good known seen good = record { alike = (empty-alike, good.alike); entries = good.entries; under = (empty-under seen.entries, good.under); constants = good.constants }

  left-keeps : {A : Type 0} (known : Known) (seen inside : Seen) (outcome : Outcome A) → Good c known seen → Grows c.Told true (list_opened seen) inside → Keeps inside outcome
      → Keeps (list_closed seen.own inside) (left known.scopes outcome)
  left-keeps known seen inside (given behind it) good grows h = (
    record {
      alike = subst (AreAlike known.scopes) (sym grows.outer) good.alike;
      entries = h.0.entries;
      under = under-drop inside.entries inside.scopes h.0.under;
      constants = h.0.constants;
    },
    tt,
  )
  left-keeps known seen inside (broken rule at) good grows h = tt

  pub said-keeps : (known : Known) (seen : Seen) (stands : Where) (here : ℕ) (said : Said) → Good c known seen → Keeps seen (typed_said known stands here said)
  said-keeps known seen stands here said good = if-yields c seen (Any c) (type_said said) 3 here _ (λ type e. obeys-yields c seen (Any c) (are_allowed stands said) 3 here _ (good, tt))

  -- what is broken in any case
  ends-broken : {A B : Type 0} (seen : Seen) (R : B → Type 0) (one : Outcome A) (rule at : ℕ) (next : Known → A → Outcome B) → Yields c seen R (after one (λ behind it. obeys false rule at (next behind it)))
  ends-broken seen R (given behind it) rule at next = tt
  ends-broken seen R (broken other place) rule at next = tt

  -- an enum that is declared already breaks a rule behind its enumerators
  enum-by : (known : Known) (last : Seen) (test : Bool) (all : Known → Outcome ℤ) (opened : Known) (at : ℕ) → Keeps last (all opened)
      → Keeps last (after (all (if test then known else opened)) (λ behind value. obeys (not test) 4 at (given behind (integer k.Int))))
  enum-by known last true all opened at h = ends-broken last (Any c) (all known) 4 at (λ behind value. given behind (integer k.Int))
  enum-by known last false all opened at h = after-yields c last last (Any c) (Any c) (all opened) _ h (λ behind value still any. (still, tt))

  -- ---- names

  name-told : (known : Known) (seen : Seen) (at : ℕ) → In c (mentioned (source_in c) false at seen) → Good c known seen
      → (number : ℕ) → number_of known.scopes (spelling_at c.setting.source at) ≡ Some number → c.Told (record { at = at; tag = false; number = Some number })
  name-told known seen at within good number e =
      let means = name-means known.scopes seen.scopes (spelling_at c.setting.source at) good.alike (last-plain c seen at within) in
      subst (λ found. c.Told (record { at = at; tag = false; number = found }))
      (ap (λ name. names.meaning_of false name seen.scopes) (spelled-is c at) ∙ sym means ∙ e) (last-told c seen false at within)

  -- ---- type names

  abbrev EachNamed : TypedName → Type 0
  EachNamed it = EachOf c it.constants

  name-ended : (seen : Seen) (constants : List Tree) (outcome : Outcome CType) → EachOf c constants → Keeps seen outcome → Yields c seen EachNamed (name_ended constants outcome)
  name-ended seen constants (given known kind) h k = (same-good known known.types known.begun constants seen k.0 h, k.0.constants)
  name-ended seen constants (broken rule at) h k = tt

  -- ---- the syntax

  abbrev pub source : Source
  source = source_in c

  mutual
    unfolding typed_within typed_values typed_name typed_specifiers words_said word_said fields_of fields_declared fields_with enumerators_of enumerator_of steps_of direct_steps parameters_of parameter_of expr exprs type_name specifiers words specifier members member declarators enumerators enumerator declarator direct parameters parameter

    pub expr-yields : (used : Bool) (known : Known) (outer : Span) (it : Expr) (seen : Seen) → In c (expr source seen it) → Good c known seen
        → Yields c (expr source seen it) (Each c) (typed_within c.setting used known outer it)
    expr-yields used known outer (tree.name span) seen within good =
        named-yields c (extent span outer) (mentioned source false span.first seen) used known (spelling_at c.setting.source span.first) (meaning_of known (spelling_at c.setting.source span.first)) refl
        (name-told known seen span.first within good) (mentioned-good c known seen false span.first good)
    expr-yields used known outer (tree.constant span) seen within good = (good, constant-each c (extent span outer) seen (slice_get c.setting.source.tokens span.first))
    expr-yields used known outer (tree.literal span) seen within good = (good, literal-each c (extent span outer) seen (spelling_at c.setting.source span.first))
    expr-yields used known outer (tree.paren span inner) seen within good = expr-yields used known outer inner seen within good
    expr-yields used known outer (tree.index span a b) seen within good =
        let mid = expr source seen a in let last = expr source mid b in
        after-yields c mid last (Each c) (Each c) (typed_within c.setting used known (expr_span a) a) _ (expr-yields used known (expr_span a) a seen ((expr-grows c.Told source mid b).told within) good)
        (λ then_known first now one. after-yields c last last (Each c) (Each c) (typed_within c.setting used then_known (expr_span b) b) _ (expr-yields used then_known (expr_span b) b mid within now)
        (λ behind second still other. index-yields c (extent span outer) last behind (as_value first) (as_value second) still (value-each c first one) (value-each c second other)))
    expr-yields used known outer (tree.call span callee arguments) seen within good =
        let mid = expr source seen callee in let last = exprs source mid arguments in
        after-yields c mid last (Each c) (Each c) (typed_within c.setting used known (expr_span callee) callee) _
        (expr-yields used known (expr_span callee) callee seen ((exprs-grow c.Told source mid arguments).told within) good)
        (λ then_known first now one. after-yields c last last (EachOf c) (Each c) (typed_values c.setting used then_known arguments) _ (values-yield used then_known arguments mid within now)
        (λ behind values still each. call-yields c (extent span outer) last behind callee first values still one each))
    expr-yields used known outer (tree.member span whole name) seen within good =
        let last = expr source seen whole in
        after-yields c last last (Each c) (Each c) (typed_within c.setting used known (expr_span whole) whole) _ (expr-yields used known (expr_span whole) whole seen within good)
        (λ behind made still one. member-yields c (extent span outer) last behind name made still one)
    expr-yields used known outer (tree.arrow span operand name) seen within good =
        let last = expr source seen operand in
        after-yields c last last (Each c) (Each c) (typed_within c.setting used known (expr_span operand) operand) _ (expr-yields used known (expr_span operand) operand seen within good)
        (λ behind made still one. arrow-yields c (extent span outer) last behind name (as_value made) still (value-each c made one))
    expr-yields used known outer (tree.postfix span operand operator) seen within good =
        let last = expr source seen operand in
        after-yields c last last (Each c) (Each c) (typed_within c.setting used known (expr_span operand) operand) _ (expr-yields used known (expr_span operand) operand seen within good)
        (λ behind made still one. count-yields c (extent span outer) last behind operator false made still one)
    expr-yields used known outer (tree.prefix span operator operand) seen within good =
        let last = expr source seen operand in
        after-yields c last last (Each c) (Each c) (typed_within c.setting used known (expr_span operand) operand) _ (expr-yields used known (expr_span operand) operand seen within good)
        (λ behind made still one. prefix-yields c (extent span outer) last behind operator made (symbol_at c.setting.source operator) still one)
    expr-yields used known outer (tree.sizeof_expr span operand) seen within good =
        let last = expr source seen operand in
        after-yields c last last (Each c) (Each c) (typed_within c.setting false known (expr_span operand) operand) _ (expr-yields false known (expr_span operand) operand seen within good)
        (λ behind made still one. sizeof-yields c (extent span outer) last behind made still one)
    expr-yields used known outer (tree.sizeof_name span name) seen within good =
        let last = type_name source seen name in
        after-yields c last last EachNamed (Each c) (typed_name c.setting false known name) _ (name-yields false known name seen within good)
        (λ behind named still each. sizeof-name-yields c (extent span outer) last behind named.kind named.constants still each)
    expr-yields used known outer (tree.cast span name operand) seen within good =
        let mid = type_name source seen name in let last = expr source mid operand in
        after-yields c mid last EachNamed (Each c) (typed_name c.setting used known name) _ (name-yields used known name seen ((expr-grows c.Told source mid operand).told within) good)
        (λ then_known named now each. after-yields c last last (Each c) (Each c) (typed_within c.setting used then_known (expr_span operand) operand) _
        (expr-yields used then_known (expr_span operand) operand mid within now)
        (λ behind made still one. cast-yields c (extent span outer) last behind (bare named.kind) named.constants (as_value made) still each (value-each c made one)))
    expr-yields used known outer (tree.binary span a operator b) seen within good =
        let mid = expr source seen a in let last = expr source mid b in
        after-yields c mid last (Each c) (Each c) (typed_within c.setting used known (expr_span a) a) _ (expr-yields used known (expr_span a) a seen ((expr-grows c.Told source mid b).told within) good)
        (λ then_known first now one. after-yields c last last (Each c) (Each c) (typed_within c.setting used then_known (expr_span b) b) _ (expr-yields used then_known (expr_span b) b mid within now)
        (λ behind second still other. binary-yields c (extent span outer) last behind operator (as_value first) (as_value second) (symbol_at c.setting.source operator) still (value-each c first one) (value-each c second other)))
    expr-yields used known outer (tree.conditional span a b d) seen within good =
        let mid = expr source seen a in let next = expr source mid b in let last = expr source next d in
        let inside = (expr-grows c.Told source next d).told within in
        after-yields c mid last (Each c) (Each c) (typed_within c.setting used known (expr_span a) a) _ (expr-yields used known (expr_span a) a seen ((expr-grows c.Told source mid b).told inside) good)
        (λ then_known first now one. after-yields c next last (Each c) (Each c) (typed_within c.setting used then_known (expr_span b) b) _ (expr-yields used then_known (expr_span b) b mid inside now)
        (λ then_more second more other. after-yields c last last (Each c) (Each c) (typed_within c.setting used then_more (expr_span d) d) _ (expr-yields used then_more (expr_span d) d next within more)
        (λ behind third still another. choice-yields c (extent span outer) last behind (as_value first) (as_value second) (as_value third) still
        (value-each c first one) (value-each c second other) (value-each c third another))))
    expr-yields used known outer (tree.assign span object operator value) seen within good =
        let mid = expr source seen object in let last = expr source mid value in
        after-yields c mid last (Each c) (Each c) (typed_within c.setting used known (expr_span object) object) _
        (expr-yields used known (expr_span object) object seen ((expr-grows c.Told source mid value).told within) good)
        (λ then_known first now one. after-yields c last last (Each c) (Each c) (typed_within c.setting used then_known (expr_span value) value) _ (expr-yields used then_known (expr_span value) value mid within now)
        (λ behind second still other. assignment-yields c (extent span outer) last behind operator first (as_value second) (symbol_at c.setting.source operator) still one (value-each c second other)))
    expr-yields used known outer (tree.comma span parts) seen within good =
        let last = exprs source seen parts in
        after-yields c last last (EachOf c) (Each c) (typed_values c.setting used known parts) _ (values-yield used known parts seen within good)
        (λ behind values still each. found-yields c last (Each c) (Each c) (comma_of c.setting (extent span outer) values) 1 span.first _ (comma-found c (extent span outer) last values each)
        (λ made one. (still, one)))

    values-yield : (used : Bool) (known : Known) (all : Exprs) (seen : Seen) → In c (exprs source seen all) → Good c known seen → Yields c (exprs source seen all) (EachOf c) (typed_values c.setting used known all)
    values-yield used known tree.no_exprs seen within good = (good, tt)
    values-yield used known (tree.more_exprs first others) seen within good =
        let mid = expr source seen first in let last = exprs source mid others in
        after-yields c mid last (Each c) (EachOf c) (typed_within c.setting used known (expr_span first) first) _
        (expr-yields used known (expr_span first) first seen ((exprs-grow c.Told source mid others).told within) good)
        (λ then_known made now one. after-yields c last last (EachOf c) (EachOf c) (typed_values c.setting used then_known others) _ (values-yield used then_known others mid within now)
        (λ behind values still each. (still, (value-each c made one, each))))

    name-yields : (used : Bool) (known : Known) (name : TypeName) (seen : Seen) → In c (type_name source seen name) → Good c known seen → Yields c (type_name source seen name) EachNamed (typed_name c.setting used known name)
    name-yields used known (tree.type_name span these shape) seen within good =
        let mid = specifiers source false seen these in let last = declarator source mid shape in
        name-ended last known.constants _ good.constants
        (after-yields c mid last (Any c) (Any c) (typed_specifiers c.setting used elsewhere false (record known { constants = [] }) these) _
        (specifiers-keep used elsewhere false (record known { constants = [] }) these seen ((declarator-grows c.Told source mid shape).told within) (same-good known known.types known.begun [] seen good tt))
        (λ then_known base now any. after-yields c last last (Any c) (Any c) (steps_of c.setting used then_known shape) _ (declarator-keeps used then_known shape mid within now)
        (λ behind steps still any. derived-keeps behind last base steps still)))

    pub specifiers-keep : (used : Bool) (stands : Where) (alone : Bool) (known : Known) (these : Specifiers) (seen : Seen) → In c (specifiers source alone seen these) → Good c known seen
        → Keeps (specifiers source alone seen these) (typed_specifiers c.setting used stands alone known these)
    specifiers-keep used stands alone known (tree.listed span all) seen within good =
        let last = words source alone seen all in
        after-yields c last last (Any c) (Any c) (words_said c.setting used alone known nothing_said all) _ (words-keep used alone known nothing_said all seen within good)
        (λ behind said still any. said-keeps behind last stands span.first said still)

    pub words-keep : (used alone : Bool) (known : Known) (said : Said) (all : Words) (seen : Seen) → In c (words source alone seen all) → Good c known seen
        → Keeps (words source alone seen all) (words_said c.setting used alone known said all)
    words-keep used alone known said tree.no_words seen within good = (good, tt)
    words-keep used alone known said (tree.more_words first others) seen within good =
        let mid = specifier source alone seen first in let last = words source alone mid others in
        after-yields c mid last (Any c) (Any c) (word_said c.setting used alone known said first) _ (word-keeps used alone known said first seen ((words-grow c.Told source alone mid others).told within) good)
        (λ behind so_far now any. words-keep used alone behind so_far others mid within now)

    word-keeps : (used alone : Bool) (known : Known) (said : Said) (word : Specifier) (seen : Seen) → In c (specifier source alone seen word) → Good c known seen
        → Keeps (specifier source alone seen word) (word_said c.setting used alone known said word)
    word-keeps used alone known said (tree.keyword at) seen within good = (good, tt)
    word-keeps used alone known said (tree.typedef_name at) seen within good =
        if-yields c (mentioned source false at seen) (Any c) (meaning_of known (spelling_at c.setting.source at)) 1 at _ (λ entry e. (mentioned-good c known seen false at good, tt))
    word-keeps used alone known said (tree.struct_only span tag) seen within good =
        with-yields c (struct_seen source alone tag seen) (Any c) (Any c) _ _ (struct-named-keeps known seen span alone tag good) (λ behind type any. tt)
    word-keeps used alone known said (tree.struct_with span tag its_members) seen within good =
        let mid = struct_seen source true tag seen in let last = members source mid its_members in
        with-yields c last (Any c) (Any c) _ _
        (after-yields c last last (Any c) (Any c) (fields_of c.setting used (beginning (with_new_struct c.setting known tag (tag_inside c.setting known tag)) (struct_begun known (tag_inside c.setting known tag))) [] its_members) _
        (fields-keep used _ [] its_members mid within
        (beginning-good (with_new_struct c.setting known tag (tag_inside c.setting known tag)) mid (struct_begun known (tag_inside c.setting known tag)) (begun-good known seen tag good)))
        (λ behind typed_members still any. ended-keeps behind last span (struct_begun known (tag_inside c.setting known tag)) known.begun typed_members still))
        (λ behind type any. tt)
    word-keeps used alone known said (tree.enum_only span tag trailing) seen within good =
        with-yields c (enum_seen source tag seen) (Any c) (Any c) _ _ (enum-named-keeps known seen span tag good) (λ behind type any. tt)
    word-keeps used alone known said (tree.enum_with span tag all trailing) seen within good =
        let mid = enum_begun source tag seen in let last = enumerators source mid all in
        with-yields c last (Any c) (Any c) _ _
        (enum-by known last (is_some (tag_inside c.setting known tag)) (λ inside. enumerators_of c.setting used inside (negsuc 0) all) (tag_declared c.setting known tag (integer k.Int)) span.first
        (enumerators-keep used (tag_declared c.setting known tag (integer k.Int)) (negsuc 0) all mid within (declared-good known seen tag (integer k.Int) good)))
        (λ behind type any. tt)

    fields-keep : (used : Bool) (known : Known) (before : List TypedMember) (all : Members) (seen : Seen) → In c (members source seen all) → Good c known seen
        → Keeps (members source seen all) (fields_of c.setting used known before all)
    fields-keep used known before tree.no_members seen within good = (good, tt)
    fields-keep used known before (tree.more_members first others) seen within good =
        let mid = member source seen first in let last = members source mid others in
        after-yields c mid last (Any c) (Any c) (fields_declared c.setting used known before first) _ (member-keeps used known before first seen ((members-grow c.Told source mid others).told within) good)
        (λ behind so_far now any. fields-keep used behind so_far others mid within now)

    member-keeps : (used : Bool) (known : Known) (before : List TypedMember) (one : Member) (seen : Seen) → In c (member source seen one) → Good c known seen
        → Keeps (member source seen one) (fields_declared c.setting used known before one)
    member-keeps used known before (tree.members span these all) seen within good =
        let mid = specifiers source false seen these in let last = declarators source mid all in
        after-yields c mid last (Any c) (Any c) (typed_specifiers c.setting used elsewhere false known these) _
        (specifiers-keep used elsewhere false known these seen ((declarators-grow c.Told source mid all).told within) good)
        (λ behind base now any. declarators-keep used behind base before all mid within now)

    declarators-keep : (used : Bool) (known : Known) (base : CType) (before : List TypedMember) (all : Declarators) (seen : Seen) → In c (declarators source seen all) → Good c known seen
        → Keeps (declarators source seen all) (fields_with c.setting used known base before all)
    declarators-keep used known base before tree.no_declarators seen within good = (good, tt)
    declarators-keep used known base before (tree.more_declarators first others) seen within good =
        let mid = declarator source seen first in let last = declarators source mid others in
        after-yields c mid last (Any c) (Any c) (steps_of c.setting used known first) _ (declarator-keeps used known first seen ((declarators-grow c.Told source mid others).told within) good)
        (λ then_known steps now any. after-yields c mid last (Any c) (Any c) (derived then_known base steps) _ (derived-keeps then_known mid base steps now)
        (λ then_more type more any. after-yields c mid last (Any c) (Any c) (typed_field c.setting then_more (declarator_span first).first (declarator_name first) before type) _
        (field-keeps then_more mid (declarator_span first).first (declarator_name first) before type more)
        (λ behind so_far still any. declarators-keep used behind base so_far others mid within still)))

    enumerators-keep : (used : Bool) (known : Known) (last_value : ℤ) (all : Enumerators) (seen : Seen) → In c (enumerators source seen all) → Good c known seen
        → Keeps (enumerators source seen all) (enumerators_of c.setting used known last_value all)
    enumerators-keep used known last_value tree.no_enumerators seen within good = (good, tt)
    enumerators-keep used known last_value (tree.more_enumerators first others) seen within good =
        let mid = enumerator source seen first in let last = enumerators source mid others in
        after-yields c mid last (Any c) (Any c) (enumerator_of c.setting used known last_value first) _
        (enumerator-keeps used known last_value first seen ((enumerators-grow c.Told source mid others).told within) good)
        (λ behind value now any. enumerators-keep used behind value others mid within now)

    enumerator-keeps : (used : Bool) (known : Known) (last_value : ℤ) (one : Enumerator) (seen : Seen) → In c (enumerator source seen one) → Good c known seen
        → Keeps (enumerator source seen one) (enumerator_of c.setting used known last_value one)
    enumerator-keeps used known last_value (tree.bare span at) seen within good = declared-keeps known seen at (last_value +ℤ pos 1) within good
    enumerator-keeps used known last_value (tree.valued span at value) seen within good =
        let mid = expr source seen value in let last = declaring_new source false at mid in
        after-yields c mid last (Each c) (Any c) (typed_within c.setting used known (expr_span value) value) _
        (expr-yields used known (expr_span value) value seen ((new-grows c.Told source true false at mid).told within) good)
        (λ behind made still one. valued-keeps behind mid at (expr_span value).first (as_value made) within still (value-each c made one))

    pub declarator-keeps : (used : Bool) (known : Known) (shape : Declarator) (seen : Seen) → In c (declarator source seen shape) → Good c known seen
        → Keeps (declarator source seen shape) (steps_of c.setting used known shape)
    declarator-keeps used known (tree.shaped span consts it) seen within good =
        with-yields c (direct source seen it) (Any c) (Any c) (direct_steps c.setting used known (direct_at span.first consts) it) _ (direct-keeps used known (direct_at span.first consts) it seen within good) (λ behind steps any. tt)

    direct-keeps : (used : Bool) (known : Known) (here : ℕ) (it : Direct) (seen : Seen) → In c (direct source seen it) → Good c known seen
        → Keeps (direct source seen it) (direct_steps c.setting used known here it)
    direct-keeps used known here tree.absent seen within good = (good, tt)
    direct-keeps used known here (tree.declared name) seen within good = (good, tt)
    direct-keeps used known here (tree.enclosed shape) seen within good = declarator-keeps used known shape seen within good
    direct-keeps used known here (tree.array it) seen within good =
        with-yields c (direct source seen it) (Any c) (Any c) (direct_steps c.setting used known here it) _ (direct-keeps used known here it seen within good) (λ behind steps any. tt)
    direct-keeps used known here (tree.sized it value) seen within good =
        let mid = direct source seen it in let last = expr source mid value in
        after-yields c mid last (Any c) (Any c) (direct_steps c.setting used known here it) _ (direct-keeps used known here it seen ((expr-grows c.Told source mid value).told within) good)
        (λ then_known steps now any. after-yields c last last (Each c) (Any c) (typed_within c.setting used then_known (expr_span value) value) _
        (expr-yields used then_known (expr_span value) value mid within now)
        (λ then_more made more one. with-yields c last (Any c) (Any c) (length_of then_more (expr_span value).first (as_value made)) _
        (length-keeps then_more last (expr_span value).first (as_value made) more (value-each c made one)) (λ behind n any. tt)))
    direct-keeps used known here (tree.function it these) seen within good =
        let mid = direct source seen it in let inside = parameters source (list_opened mid) these in let last = list_closed mid.own inside in
        after-yields c mid last (Any c) (Any c) (direct_steps c.setting used known here it) _
        (direct-keeps used known here it seen ((parameters-grow c.Told source (list_opened mid) these).told within) good)
        (λ then_known steps now any. with-yields c last (Any c) (Any c) (left then_known.scopes (parameters_of c.setting used (entered then_known) these)) _
        (left-keeps then_known mid inside (parameters_of c.setting used (entered then_known) these) now (parameters-grow c.Told source (list_opened mid) these)
        (parameters-keep used (entered then_known) these (list_opened mid) within (entered-good then_known mid now))) (λ behind ones any. tt))

    pub parameters-keep : (used : Bool) (known : Known) (these : Parameters) (seen : Seen) → In c (parameters source seen these) → Good c known seen
        → Keeps (parameters source seen these) (parameters_of c.setting used known these)
    parameters-keep used known tree.no_parameters seen within good = (good, tt)
    parameters-keep used known (tree.more_parameters first others) seen within good =
        let mid = parameter source seen first in let last = parameters source mid others in
        after-yields c mid last (Any c) (Any c) (parameter_of c.setting used known first) _ (parameter-of-keeps used known first seen ((parameters-grow c.Told source mid others).told within) good)
        (λ then_known made now any. with-yields c last (Any c) (Any c) (parameters_of c.setting used then_known others) _
        (parameters-keep used then_known others mid within now) (λ behind rest any. tt))

    parameter-of-keeps : (used : Bool) (known : Known) (one : Parameter) (seen : Seen) → In c (parameter source seen one) → Good c known seen
        → Keeps (parameter source seen one) (parameter_of c.setting used known one)
    parameter-of-keeps used known (tree.parameter span these shape) seen within good =
        let mid = specifiers source false seen these in let next = declarator source mid shape in let last = naming_new source (declarator_name shape) next in
        let inside = (naming-new-grows c.Told source (declarator_name shape) next).told within in
        after-yields c mid last (Any c) (Any c) (typed_specifiers c.setting used elsewhere false known these) _
        (specifiers-keep used elsewhere false known these seen ((declarator-grows c.Told source mid shape).told inside) good)
        (λ then_known base now any. after-yields c next last (Any c) (Any c) (steps_of c.setting used then_known shape) _ (declarator-keeps used then_known shape mid inside now)
        (λ then_more steps more any. after-yields c next last (Any c) (Any c) (derived then_more base steps) _ (derived-keeps then_more next base steps more)
        (λ behind type still any. parameter-keeps behind next (parameter_at span shape) type (declarator_name shape) within still)))
