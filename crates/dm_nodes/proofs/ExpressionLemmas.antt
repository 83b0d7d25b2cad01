-- The nodes of typed expressions stand where the nodes of the syntax do: by induction over the syntax of expressions and type names.
use Rattle.std.specs.Prelude.{ℕ, ℤ, pos, ◌+ℤ◌, negsuc, Bool, true, false, ◌&&◌, not, if◌then◌else◌, List, [], ◌∷◌, ◌++◌, Option, Some, None, is_some, option_and_then, slice_get, unwrap_or, codes, bytes_eq}
use Rattle.std.specs.List.{AllByRecursion}
use Rattle.dm_token.specs.declared.place.Span.{Span}
use Rattle.dm_int.specs.declared.Kind.TheVariants as k
use Rattle.dm_type.specs.CTypes.{CType, integer, bare}
use Rattle.dm_type.specs.Layouts.{struct_layout}
use Rattle.dm_scope.specs.Scopes.{Scopes, is_declared}
use Rattle.dm_syn.specs.Sources.{spelling_at, symbol_at}
use Rattle.dm_syn.specs.Spans.{expr_span, declarator_span}
use Rattle.dm_syn.specs.Scopes.{declarator_name}
use Rattle.dm_syn.specs.Trees.{Expr, Exprs, TypeName, Specifiers, Words, Specifier, Members, Member, Declarators, Enumerators, Enumerator, Declarator, Direct, Parameters, Parameter}
use Rattle.dm_syn.specs.Trees as tree
use Rattle.dm_tree.specs.Scenes.{is_integer, is_function}
use Rattle.dm_tree.specs.Trees.{Spans, Tree}
use Rattle.dm_tree.specs.Units.{Declaration}
use Rattle.dm_typing.specs.declared.extent.Extent.{Extent}
use Rattle.dm_typing.specs.Known.{Known, Setting, Outcome, given, broken, meaning_of}
use Rattle.dm_typing.specs.Conversions.{spans_at, as_value, is_complete, constant_of}
use Rattle.dm_typing.specs.Specifiers.{Said, nothing_said, type_said, Where, elsewhere, are_allowed}
use Rattle.dm_typing.specs.Typing.{comma_of, number_if_struct, tag_declared, new_struct, tag_inside, tag_seen, struct_named, enum_named, with_new_struct, struct_begun, beginning, TypedMember, is_named, fields, struct_ended, is_int, is_file_scope, enumerator_declared, with_constant, enumerator_valued, Step, pointing, arraying, calling, length_fits, is_result, stepped, derived, direct_at, natural, length_of, adjusted, is_new_parameter, parameter_declared, typed_parameter, parameter_at, entered, left, name_of, typed_field, typed_said, TypedName, name_ended, extent, typed_within, typed_values, typed_name, typed_specifiers, words_said, word_said, fields_of, fields_declared, fields_with, enumerators_of, enumerator_of, steps_of, direct_steps, parameters_of, parameter_of}
use Rattle.dm_nodes.specs.Syntax.{in_expr, in_exprs, in_name, in_specifiers, in_words, in_specifier, in_members, in_member, in_declarators, in_enumerators, in_enumerator, in_declarator, in_direct, in_parameters, in_parameter}
use Rattle.dm_nodes.proofs.FormLemmas.{Each, EachOf, Good, Yields, Any, after-yields, with-yields, obeys-yields, if-yields, found-yields, value-each, named-yields, constant-each, literal-each, index-yields, member-yields, arrow-yields, count-yields, prefix-yields, sizeof-yields, sizeof-name-yields, cast-yields, binary-yields, choice-yields, assignment-yields, call-yields, comma-found}

module _ (P : Spans → Type 0) (setting : Setting) where
  -- nodes stand so at all of these
  abbrev pub At : List Extent → Type 0
  At list = AllByRecursion (λ (one : Extent). P (spans_at setting.source one)) list

  pub at-front : (xs ys : List Extent) → At (xs ++ ys) → At xs
  at-front [] ys h = tt
  at-front (x ∷ xs) ys h = (h.0, at-front xs ys h.1)

  pub at-back : (xs ys : List Extent) → At (xs ++ ys) → At ys
  at-back [] ys h = h
  at-back (x ∷ xs) ys h = at-back xs ys h.1

  pub each-append : (xs ys : List Tree) → EachOf P xs → EachOf P ys → EachOf P (xs ++ ys)
  each-append [] ys h k = k
  each-append (x ∷ xs) ys h k = (h.0, each-append xs ys h.1 k)

  -- what gives no tree
  abbrev pub Keeps : {A : Type 0} → Outcome A → Type 0
  Keeps outcome = Yields P (Any P) outcome

  -- ---- tags

  tag-good : (known : Known) (tag : Option ℕ) (type : CType) → Good P known → Good P (tag_declared setting known tag type)
  tag-good known None type good = good
  tag-good known (Some at) type good = good

  new-good : (known : Known) (tag : Option ℕ) → Good P known → Good P (new_struct setting known tag)
  new-good known None good = good
  new-good known (Some at) good = good

  with-new-good : (known : Known) (tag : Option ℕ) (entry : Option Declaration) → Good P known → Good P (with_new_struct setting known tag entry)
  with-new-good known tag None good = new-good known tag good
  with-new-good known tag (Some entry) good = good

  beginning-good : (known : Known) (begun : Option ℕ) → Good P known → Good P (beginning known begun)
  beginning-good known None good = good
  beginning-good known (Some at) good = good

  enum-good : (known : Known) (tag : Option ℕ) (b : Bool) → Good P known → Good P (if b then known else tag_declared setting known tag (integer k.Int))
  enum-good known tag true good = good
  enum-good known tag false good = tag-good known tag (integer k.Int) good

  struct-named-keeps : (known : Known) (span : Span) (tag : Option ℕ) (entry : Option Declaration) → Good P known → Keeps (struct_named setting known span tag entry)
  struct-named-keeps known span tag None good = (new-good known tag good, tt)
  struct-named-keeps known span tag (Some entry) good = obeys-yields P (Any P) (is_some (number_if_struct entry.kind)) 4 span.first _ (good, tt)

  enum-named-keeps : (known : Known) (span : Span) (entry : Option Declaration) → Good P known → Keeps (enum_named known span entry)
  enum-named-keeps known span None good = tt
  enum-named-keeps known span (Some entry) good = obeys-yields P (Any P) (is_integer entry.kind) 4 span.first _ (good, tt)

  ended-keeps : (known : Known) (span : Span) (at : Option ℕ) (begun : List ℕ) (members : List TypedMember) → Good P known → Keeps (struct_ended known span at begun members)
  ended-keeps known span None begun members good = tt
  ended-keeps known span (Some at) begun [] good = tt
  ended-keeps known span (Some at) begun (first ∷ others) good =
      obeys-yields P (Any P) (is_some (struct_layout known.types (fields known.types (first ∷ others)))) 5 span.first _ (good, tt)

  -- ---- enumerators and declarators

  declared-keeps : (known : Known) (at : ℕ) (value : ℤ) → Good P known → Keeps (enumerator_declared setting known at value)
  declared-keeps known at value good =
      obeys-yields P (Any P) (not (is_declared known.scopes (spelling_at setting.source at))) 2 at _
      (obeys-yields P (Any P) (is_int value) 7 at _
      (obeys-yields P (Any P) (not (is_file_scope known.scopes && bytes_eq (spelling_at setting.source at) (codes "main"))) 36 at _ (good, tt)))

  valued-keeps : (known : Known) (at here : ℕ) (value : Tree) → Good P known → Each P value → Keeps (enumerator_valued setting known at here value)
  valued-keeps known at here value good h =
      if-yields P (Any P) (constant_of known value) 7 here _ (λ n e. obeys-yields P (Any P) (is_int n) 7 here _
      (declared-keeps (with_constant known value) at n (each-append known.constants (value ∷ []) good (h, tt))))

  length-keeps : (known : Known) (here : ℕ) (value : Tree) → Good P known → Each P value → Keeps (length_of known here value)
  length-keeps known here value good h =
      if-yields P (Any P) (option_and_then natural (constant_of known value)) 5 here _ (λ n e. (each-append known.constants (value ∷ []) good (h, tt), tt))

  stepped-keeps : (known : Known) (type : CType) (step : Step) → Good P known → Keeps (stepped known type step)
  stepped-keeps known type (pointing at const) good = obeys-yields P (Any P) (not (is_function type)) 5 at _ (good, tt)
  stepped-keeps known type (arraying at n) good = obeys-yields P (Any P) (is_complete known type && length_fits known type n) 5 at _ (good, tt)
  stepped-keeps known type (calling at parameters) good = obeys-yields P (Any P) (is_result known type) 5 at _ (good, tt)

  pub derived-keeps : (known : Known) (type : CType) (steps : List Step) → Good P known → Keeps (derived known type steps)
  derived-keeps known type [] good = (good, tt)
  derived-keeps known type (step ∷ steps) good =
      after-yields P (Any P) (Any P) (stepped known type step) _ (stepped-keeps known type step good) (λ behind made good h. derived-keeps behind made steps good)

  field-keeps : (known : Known) (here : ℕ) (name : Option ℕ) (before : List TypedMember) (kind : CType) → Good P known → Keeps (typed_field setting known here name before kind)
  field-keeps known here name before kind good =
      obeys-yields P (Any P) (is_complete known kind) 5 here _ (obeys-yields P (Any P) (not (is_named (name_of setting name) before)) 6 (unwrap_or name here) _ (good, tt))

  parameter-declared-keeps : (known : Known) (kind : CType) (name : Option ℕ) → Good P known → Keeps (parameter_declared setting known kind name)
  parameter-declared-keeps known kind None good = (good, tt)
  parameter-declared-keeps known kind (Some at) good = (good, tt)

  parameter-keeps : (known : Known) (here : ℕ) (type : CType) (name : Option ℕ) → Good P known → Keeps (typed_parameter setting known here type name)
  parameter-keeps known here type name good =
      obeys-yields P (Any P) (is_new_parameter setting known name) 2 (unwrap_or name here) _
      (obeys-yields P (Any P) (not (is_function type)) 5 here _ (parameter-declared-keeps known (adjusted type) name good))

  left-keeps : {A : Type 0} (scopes : Scopes) (outcome : Outcome A) → Keeps outcome → Keeps (left scopes outcome)
  left-keeps scopes (given known it) h = h
  left-keeps scopes (broken rule at) h = tt

  pub said-keeps : (known : Known) (stands : Where) (here : ℕ) (said : Said) → Good P known → Keeps (typed_said known stands here said)
  said-keeps known stands here said good = if-yields P (Any P) (type_said said) 3 here _ (λ type e. obeys-yields P (Any P) (are_allowed stands said) 3 here _ (good, tt))

  -- ---- type names

  abbrev EachNamed : TypedName → Type 0
  EachNamed it = EachOf P it.constants

  name-ended : (constants : List Tree) (outcome : Outcome CType) → EachOf P constants → Keeps outcome → Yields P EachNamed (name_ended constants outcome)
  name-ended constants (given known kind) h k = (h, k.0)
  name-ended constants (broken rule at) h k = tt

  -- ---- the syntax

  mutual
    unfolding typed_within typed_values typed_name typed_specifiers words_said word_said fields_of fields_declared fields_with enumerators_of enumerator_of steps_of direct_steps parameters_of parameter_of

    pub expr-yields : (used : Bool) (known : Known) (outer : Span) (expr : Expr) → At (in_expr outer expr) → Good P known → Yields P (Each P) (typed_within setting used known outer expr)
    expr-yields used known outer (tree.name span) at good =
        named-yields P setting (extent span outer) at.0 used known (spelling_at setting.source span.first) (meaning_of known (spelling_at setting.source span.first)) good
    expr-yields used known outer (tree.constant span) at good = (good, constant-each P setting (extent span outer) at.0 (slice_get setting.source.tokens span.first))
    expr-yields used known outer (tree.literal span) at good = (good, literal-each P setting (extent span outer) at.0 (spelling_at setting.source span.first))
    expr-yields used known outer (tree.paren span inner) at good = expr-yields used known outer inner at good
    expr-yields used known outer (tree.index span a b) at good =
        after-yields P (Each P) (Each P) (typed_within setting used known (expr_span a) a) _ (expr-yields used known (expr_span a) a (at-front (in_expr (expr_span a) a) (in_expr (expr_span b) b) at.1) good)
        (λ then_known first now one. after-yields P (Each P) (Each P) (typed_within setting used then_known (expr_span b) b) _
        (expr-yields used then_known (expr_span b) b (at-back (in_expr (expr_span a) a) (in_expr (expr_span b) b) at.1) now)
        (λ behind second still other. index-yields P setting (extent span outer) at.0 behind (as_value first) (as_value second) still (value-each P first one) (value-each P second other)))
    expr-yields used known outer (tree.call span callee arguments) at good =
        after-yields P (Each P) (Each P) (typed_within setting used known (expr_span callee) callee) _
        (expr-yields used known (expr_span callee) callee (at-front (in_expr (expr_span callee) callee) (in_exprs arguments) at.1) good)
        (λ then_known first now one. after-yields P (EachOf P) (Each P) (typed_values setting used then_known arguments) _
        (values-yield used then_known arguments (at-back (in_expr (expr_span callee) callee) (in_exprs arguments) at.1) now)
        (λ behind values still others. call-yields P setting (extent span outer) at.0 behind callee first values still one others))
    expr-yields used known outer (tree.member span whole name) at good =
        after-yields P (Each P) (Each P) (typed_within setting used known (expr_span whole) whole) _ (expr-yields used known (expr_span whole) whole at.1 good)
        (λ behind made still one. member-yields P setting (extent span outer) at.0 behind name made still one)
    expr-yields used known outer (tree.arrow span operand name) at good =
        after-yields P (Each P) (Each P) (typed_within setting used known (expr_span operand) operand) _ (expr-yields used known (expr_span operand) operand at.1 good)
        (λ behind made still one. arrow-yields P setting (extent span outer) at.0 behind name (as_value made) still (value-each P made one))
    expr-yields used known outer (tree.postfix span operand operator) at good =
        after-yields P (Each P) (Each P) (typed_within setting used known (expr_span operand) operand) _ (expr-yields used known (expr_span operand) operand at.1 good)
        (λ behind made still one. count-yields P setting (extent span outer) at.0 behind operator false made still one)
    expr-yields used known outer (tree.prefix span operator operand) at good =
        after-yields P (Each P) (Each P) (typed_within setting used known (expr_span operand) operand) _ (expr-yields used known (expr_span operand) operand at.1 good)
        (λ behind made still one. prefix-yields P setting (extent span outer) at.0 behind operator made (symbol_at setting.source operator) still one)
    expr-yields used known outer (tree.sizeof_expr span operand) at good =
        after-yields P (Each P) (Each P) (typed_within setting false known (expr_span operand) operand) _ (expr-yields false known (expr_span operand) operand at.1 good)
        (λ behind made still one. sizeof-yields P setting (extent span outer) at.0 behind made still one)
    expr-yields used known outer (tree.sizeof_name span name) at good =
        after-yields P EachNamed (Each P) (typed_name setting false known name) _ (name-yields false known name at.1 good)
        (λ behind named still one. sizeof-name-yields P setting (extent span outer) at.0 behind named.kind named.constants still one)
    expr-yields used known outer (tree.cast span name operand) at good =
        after-yields P EachNamed (Each P) (typed_name setting used known name) _ (name-yields used known name (at-front (in_name name) (in_expr (expr_span operand) operand) at.1) good)
        (λ then_known named now lengths. after-yields P (Each P) (Each P) (typed_within setting used then_known (expr_span operand) operand) _
        (expr-yields used then_known (expr_span operand) operand (at-back (in_name name) (in_expr (expr_span operand) operand) at.1) now)
        (λ behind made still one. cast-yields P setting (extent span outer) at.0 behind (bare named.kind) named.constants (as_value made) still lengths (value-each P made one)))
    expr-yields used known outer (tree.binary span a operator b) at good =
        after-yields P (Each P) (Each P) (typed_within setting used known (expr_span a) a) _ (expr-yields used known (expr_span a) a (at-front (in_expr (expr_span a) a) (in_expr (expr_span b) b) at.1) good)
        (λ then_known first now one. after-yields P (Each P) (Each P) (typed_within setting used then_known (expr_span b) b) _
        (expr-yields used then_known (expr_span b) b (at-back (in_expr (expr_span a) a) (in_expr (expr_span b) b) at.1) now)
        (λ behind second still other. binary-yields P setting (extent span outer) at.0 behind operator (as_value first) (as_value second) (symbol_at setting.source operator) still
        (value-each P first one) (value-each P second other)))
    expr-yields used known outer (tree.conditional span a b c) at good =
        let rest = at-back (in_expr (expr_span a) a) (in_expr (expr_span b) b ++ in_expr (expr_span c) c) at.1 in
        after-yields P (Each P) (Each P) (typed_within setting used known (expr_span a) a) _
        (expr-yields used known (expr_span a) a (at-front (in_expr (expr_span a) a) (in_expr (expr_span b) b ++ in_expr (expr_span c) c) at.1) good)
        (λ then_known first now one. after-yields P (Each P) (Each P) (typed_within setting used then_known (expr_span b) b) _
        (expr-yields used then_known (expr_span b) b (at-front (in_expr (expr_span b) b) (in_expr (expr_span c) c) rest) now)
        (λ then_more second more other. after-yields P (Each P) (Each P) (typed_within setting used then_more (expr_span c) c) _
        (expr-yields used then_more (expr_span c) c (at-back (in_expr (expr_span b) b) (in_expr (expr_span c) c) rest) more)
        (λ behind third still another. choice-yields P setting (extent span outer) at.0 behind (as_value first) (as_value second) (as_value third) still
        (value-each P first one) (value-each P second other) (value-each P third another))))
    expr-yields used known outer (tree.assign span object operator value) at good =
        after-yields P (Each P) (Each P) (typed_within setting used known (expr_span object) object) _
        (expr-yields used known (expr_span object) object (at-front (in_expr (expr_span object) object) (in_expr (expr_span value) value) at.1) good)
        (λ then_known first now one. after-yields P (Each P) (Each P) (typed_within setting used then_known (expr_span value) value) _
        (expr-yields used then_known (expr_span value) value (at-back (in_expr (expr_span object) object) (in_expr (expr_span value) value) at.1) now)
        (λ behind second still other. assignment-yields P setting (extent span outer) at.0 behind operator first (as_value second) (symbol_at setting.source operator) still one (value-each P second other)))
    expr-yields used known outer (tree.comma span parts) at good =
        after-yields P (EachOf P) (Each P) (typed_values setting used known parts) _ (values-yield used known parts at.1 good)
        (λ behind values still each. found-yields P (Each P) (Each P) (comma_of setting (extent span outer) values) 1 span.first _ (comma-found P setting (extent span outer) at.0 values each)
        (λ made one. (still, one)))

    values-yield : (used : Bool) (known : Known) (exprs : Exprs) → At (in_exprs exprs) → Good P known → Yields P (EachOf P) (typed_values setting used known exprs)
    values-yield used known tree.no_exprs at good = (good, tt)
    values-yield used known (tree.more_exprs first others) at good =
        after-yields P (Each P) (EachOf P) (typed_within setting used known (expr_span first) first) _
        (expr-yields used known (expr_span first) first (at-front (in_expr (expr_span first) first) (in_exprs others) at) good)
        (λ then_known made now one. after-yields P (EachOf P) (EachOf P) (typed_values setting used then_known others) _
        (values-yield used then_known others (at-back (in_expr (expr_span first) first) (in_exprs others) at) now)
        (λ behind values still each. (still, (value-each P made one, each))))

    name-yields : (used : Bool) (known : Known) (name : TypeName) → At (in_name name) → Good P known → Yields P EachNamed (typed_name setting used known name)
    name-yields used known (tree.type_name span specifiers declarator) at good =
        name-ended known.constants _ good
        (after-yields P (Any P) (Any P) (typed_specifiers setting used elsewhere false (record known { constants = [] }) specifiers) _
        (specifiers-keep used elsewhere false (record known { constants = [] }) specifiers (at-front (in_specifiers specifiers) (in_declarator declarator) at) tt)
        (λ then_known base now any. after-yields P (Any P) (Any P) (steps_of setting used then_known declarator) _
        (declarator-keeps used then_known declarator (at-back (in_specifiers specifiers) (in_declarator declarator) at) now)
        (λ behind steps still any. derived-keeps behind base steps still)))

    pub specifiers-keep : (used : Bool) (stands : Where) (alone : Bool) (known : Known) (specifiers : Specifiers) → At (in_specifiers specifiers) → Good P known
        → Keeps (typed_specifiers setting used stands alone known specifiers)
    specifiers-keep used stands alone known (tree.listed span words) at good =
        after-yields P (Any P) (Any P) (words_said setting used alone known nothing_said words) _ (words-keep used alone known nothing_said words at good)
        (λ behind said still any. said-keeps behind stands span.first said still)

    pub words-keep : (used alone : Bool) (known : Known) (said : Said) (words : Words) → At (in_words words) → Good P known → Keeps (words_said setting used alone known said words)
    words-keep used alone known said tree.no_words at good = (good, tt)
    words-keep used alone known said (tree.more_words first others) at good =
        after-yields P (Any P) (Any P) (word_said setting used alone known said first) _ (word-keeps used alone known said first (at-front (in_specifier first) (in_words others) at) good)
        (λ behind so_far now any. words-keep used alone behind so_far others (at-back (in_specifier first) (in_words others) at) now)

    word-keeps : (used alone : Bool) (known : Known) (said : Said) (word : Specifier) → At (in_specifier word) → Good P known → Keeps (word_said setting used alone known said word)
    word-keeps used alone known said (tree.keyword at) all good = (good, tt)
    word-keeps used alone known said (tree.typedef_name at) all good =
        if-yields P (Any P) (meaning_of known (spelling_at setting.source at)) 1 at _ (λ entry e. (good, tt))
    word-keeps used alone known said (tree.struct_only span tag) all good =
        with-yields P (Any P) (Any P) _ _ (struct-named-keeps known span tag (if alone then tag_inside setting known tag else tag_seen setting known tag) good) (λ behind type any. tt)
    word-keeps used alone known said (tree.struct_with span tag members) all good =
        with-yields P (Any P) (Any P) _ _
        (after-yields P (Any P) (Any P) (fields_of setting used (beginning (with_new_struct setting known tag (tag_inside setting known tag)) (struct_begun known (tag_inside setting known tag))) [] members) _
        (fields-keep used _ [] members all
        (beginning-good (with_new_struct setting known tag (tag_inside setting known tag)) (struct_begun known (tag_inside setting known tag)) (with-new-good known tag (tag_inside setting known tag) good)))
        (λ behind typed_members still any. ended-keeps behind span (struct_begun known (tag_inside setting known tag)) known.begun typed_members still))
        (λ behind type any. tt)
    word-keeps used alone known said (tree.enum_only span tag trailing) all good =
        with-yields P (Any P) (Any P) _ _ (enum-named-keeps known span (tag_seen setting known tag) good) (λ behind type any. tt)
    word-keeps used alone known said (tree.enum_with span tag enumerators trailing) all good =
        with-yields P (Any P) (Any P) _ _
        (after-yields P (Any P) (Any P) (enumerators_of setting used (if is_some (tag_inside setting known tag) then known else tag_declared setting known tag (integer k.Int)) (negsuc 0) enumerators) _
        (enumerators-keep used _ (negsuc 0) enumerators all (enum-good known tag (is_some (tag_inside setting known tag)) good))
        (λ behind last still any. obeys-yields P (Any P) (not (is_some (tag_inside setting known tag))) 4 span.first _ (still, tt)))
        (λ behind type any. tt)

    fields-keep : (used : Bool) (known : Known) (before : List TypedMember) (members : Members) → At (in_members members) → Good P known → Keeps (fields_of setting used known before members)
    fields-keep used known before tree.no_members at good = (good, tt)
    fields-keep used known before (tree.more_members first others) at good =
        after-yields P (Any P) (Any P) (fields_declared setting used known before first) _ (member-keeps used known before first (at-front (in_member first) (in_members others) at) good)
        (λ behind so_far now any. fields-keep used behind so_far others (at-back (in_member first) (in_members others) at) now)

    member-keeps : (used : Bool) (known : Known) (before : List TypedMember) (member : Member) → At (in_member member) → Good P known → Keeps (fields_declared setting used known before member)
    member-keeps used known before (tree.members span specifiers declarators) at good =
        after-yields P (Any P) (Any P) (typed_specifiers setting used elsewhere false known specifiers) _
        (specifiers-keep used elsewhere false known specifiers (at-front (in_specifiers specifiers) (in_declarators declarators) at) good)
        (λ behind base now any. declarators-keep used behind base before declarators (at-back (in_specifiers specifiers) (in_declarators declarators) at) now)

    declarators-keep : (used : Bool) (known : Known) (base : CType) (before : List TypedMember) (declarators : Declarators) → At (in_declarators declarators) → Good P known
        → Keeps (fields_with setting used known base before declarators)
    declarators-keep used known base before tree.no_declarators at good = (good, tt)
    declarators-keep used known base before (tree.more_declarators first others) at good =
        after-yields P (Any P) (Any P) (steps_of setting used known first) _ (declarator-keeps used known first (at-front (in_declarator first) (in_declarators others) at) good)
        (λ then_known steps now any. after-yields P (Any P) (Any P) (derived then_known base steps) _ (derived-keeps then_known base steps now)
        (λ then_more type more any. after-yields P (Any P) (Any P) (typed_field setting then_more (declarator_span first).first (declarator_name first) before type) _
        (field-keeps then_more (declarator_span first).first (declarator_name first) before type more)
        (λ behind so_far still any. declarators-keep used behind base so_far others (at-back (in_declarator first) (in_declarators others) at) still)))

    enumerators-keep : (used : Bool) (known : Known) (last : ℤ) (enumerators : Enumerators) → At (in_enumerators enumerators) → Good P known → Keeps (enumerators_of setting used known last enumerators)
    enumerators-keep used known last tree.no_enumerators at good = (good, tt)
    enumerators-keep used known last (tree.more_enumerators first others) at good =
        after-yields P (Any P) (Any P) (enumerator_of setting used known last first) _ (enumerator-keeps used known last first (at-front (in_enumerator first) (in_enumerators others) at) good)
        (λ behind value now any. enumerators-keep used behind value others (at-back (in_enumerator first) (in_enumerators others) at) now)

    enumerator-keeps : (used : Bool) (known : Known) (last : ℤ) (enumerator : Enumerator) → At (in_enumerator enumerator) → Good P known → Keeps (enumerator_of setting used known last enumerator)
    enumerator-keeps used known last (tree.bare span at) all good = declared-keeps known at (last +ℤ pos 1) good
    enumerator-keeps used known last (tree.valued span at value) all good =
        after-yields P (Each P) (Any P) (typed_within setting used known (expr_span value) value) _ (expr-yields used known (expr_span value) value all good)
        (λ behind made still one. valued-keeps behind at (expr_span value).first (as_value made) still (value-each P made one))

    pub declarator-keeps : (used : Bool) (known : Known) (declarator : Declarator) → At (in_declarator declarator) → Good P known → Keeps (steps_of setting used known declarator)
    declarator-keeps used known (tree.shaped span consts direct) at good =
        with-yields P (Any P) (Any P) (direct_steps setting used known (direct_at span.first consts) direct) _ (direct-keeps used known (direct_at span.first consts) direct at good) (λ behind steps any. tt)

    direct-keeps : (used : Bool) (known : Known) (here : ℕ) (direct : Direct) → At (in_direct direct) → Good P known → Keeps (direct_steps setting used known here direct)
    direct-keeps used known here tree.absent at good = (good, tt)
    direct-keeps used known here (tree.declared name) at good = (good, tt)
    direct-keeps used known here (tree.enclosed declarator) at good = declarator-keeps used known declarator at good
    direct-keeps used known here (tree.array direct) at good =
        with-yields P (Any P) (Any P) (direct_steps setting used known here direct) _ (direct-keeps used known here direct at good) (λ behind steps any. tt)
    direct-keeps used known here (tree.sized direct value) at good =
        after-yields P (Any P) (Any P) (direct_steps setting used known here direct) _ (direct-keeps used known here direct (at-front (in_direct direct) (in_expr (expr_span value) value) at) good)
        (λ then_known steps now any. after-yields P (Each P) (Any P) (typed_within setting used then_known (expr_span value) value) _
        (expr-yields used then_known (expr_span value) value (at-back (in_direct direct) (in_expr (expr_span value) value) at) now)
        (λ then_more made more one. with-yields P (Any P) (Any P) (length_of then_more (expr_span value).first (as_value made)) _
        (length-keeps then_more (expr_span value).first (as_value made) more (value-each P made one)) (λ behind n any. tt)))
    direct-keeps used known here (tree.function direct parameters) at good =
        after-yields P (Any P) (Any P) (direct_steps setting used known here direct) _ (direct-keeps used known here direct (at-front (in_direct direct) (in_parameters parameters) at) good)
        (λ then_known steps now any. with-yields P (Any P) (Any P) (left then_known.scopes (parameters_of setting used (entered then_known) parameters)) _
        (left-keeps then_known.scopes (parameters_of setting used (entered then_known) parameters)
        (parameters-keep used (entered then_known) parameters (at-back (in_direct direct) (in_parameters parameters) at) now)) (λ behind ones any. tt))

    parameters-keep : (used : Bool) (known : Known) (parameters : Parameters) → At (in_parameters parameters) → Good P known → Keeps (parameters_of setting used known parameters)
    parameters-keep used known tree.no_parameters at good = (good, tt)
    parameters-keep used known (tree.more_parameters first others) at good =
        after-yields P (Any P) (Any P) (parameter_of setting used known first) _ (parameter-of-keeps used known first (at-front (in_parameter first) (in_parameters others) at) good)
        (λ then_known made now any. with-yields P (Any P) (Any P) (parameters_of setting used then_known others) _
        (parameters-keep used then_known others (at-back (in_parameter first) (in_parameters others) at) now) (λ behind rest any. tt))

    pub parameter-of-keeps : (used : Bool) (known : Known) (parameter : Parameter) → At (in_parameter parameter) → Good P known → Keeps (parameter_of setting used known parameter)
    parameter-of-keeps used known (tree.parameter span specifiers declarator) at good =
        after-yields P (Any P) (Any P) (typed_specifiers setting used elsewhere false known specifiers) _
        (specifiers-keep used elsewhere false known specifiers (at-front (in_specifiers specifiers) (in_declarator declarator) at) good)
        (λ then_known base now any. after-yields P (Any P) (Any P) (steps_of setting used then_known declarator) _
        (declarator-keeps used then_known declarator (at-back (in_specifiers specifiers) (in_declarator declarator) at) now)
        (λ then_more steps more any. after-yields P (Any P) (Any P) (derived then_more base steps) _ (derived-keeps then_more base steps more)
        (λ behind type still any. parameter-keeps behind (parameter_at span declarator) type (declarator_name declarator) still)))
