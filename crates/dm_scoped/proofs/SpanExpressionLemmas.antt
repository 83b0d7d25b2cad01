-- The nodes of expressions and of what stands in type names stand where their syntax stands: by induction over the syntax.
use Rattle.std.specs.Prelude.{◌≡◌, ℕ, ◌+◌, ◌<◌, ◌≤◌, ℤ, pos, ◌+ℤ◌, negsuc, Bool, true, false, not, if◌then◌else◌, List, [], ◌∷◌, Option, Some, None, is_some, slice_get, refl}
use Rattle.std.proofs.Common.{sym, subst, arith}
use Rattle.dm_token.specs.declared.place.Span.{Span}
use Rattle.dm_int.specs.declared.Kind.TheVariants as k
use Rattle.dm_type.specs.CTypes.{CType, integer, bare}
use Rattle.dm_syn.specs.declared.declared.Declared.{Declared}
use Rattle.dm_syn.specs.Sources.{symbol_at, spelling_at}
use Rattle.dm_syn.specs.Spans.{expr_span, exprs_after, type_name_span, specifiers_span, specifier_after, words_after, member_span, members_after, declarator_span, declarators_after, enumerator_span, enumerators_after, parameter_span, parameters_after, pointers_after, direct_after}
use Rattle.dm_syn.specs.Scopes.{declarator_name}
use Rattle.dm_syn.specs.Grammar.{Types, tag_after, trailing_after, IsExpr, AreArguments, AreMoreExprs, IsTypeName, IsSpecifiers, AreWords, IsSpecifier, AreMembers, IsMember, AreMoreDeclarators, AreMoreEnumerators, IsEnumerator, IsDeclarator, IsDirect, AreParameters, AreMoreParameters, IsParameter}
use Rattle.dm_syn.specs.Trees.{Expr, Exprs, TypeName, Specifiers, Words, Specifier, Members, Member, Declarators, Enumerators, Enumerator, Declarator, Direct, Parameters, Parameter}
use Rattle.dm_syn.specs.Trees as tree
use Rattle.dm_tree.specs.Trees.{Tree}
use Rattle.dm_scoped.specs.Spans.{IsLaidOut, StandBetween}
use Rattle.dm_typing.specs.Known.{Known, Setting, Outcome, given, after, if_given, meaning_of}
use Rattle.dm_typing.specs.Conversions.{as_value}
use Rattle.dm_typing.specs.Specifiers.{Said, nothing_said, with_type, Where, elsewhere}
use Rattle.dm_typing.specs.Typing.{comma_of, tag_declared, tag_inside, tag_seen, with_new_struct, struct_begun, beginning, TypedMember, typed_field, struct_ended, derived, direct_at, length_of, parameter_at, entered, left, TypedName, extent, typed, typed_within, typed_values, typed_name, typed_specifiers, words_said, word_said, fields_of, fields_declared, fields_with, enumerators_of, enumerator_of, steps_of, direct_steps, parameters_of, parameter_of}
use Rattle.dm_scoped.specs.Bare.{bare_span}
use Rattle.dm_scoped.proofs.SpanLemmas.{IsAround, IsMade, outer-of}
use Rattle.dm_scoped.proofs.CollectLemmas.{Yields, Collects, yields-so, yields-after, collects-kept, collects-wider, collects-after, collects-with, collects-behind, collects-obeys, collects-if, collects-known, said-collects, struct-collects, begun-constants, enum-constants, ended-collects, enum-collects, field-collects, enumerator-collects, parameter-collects, length-collects, valued-collects, derived-collects, left-collects, name-yields as named-yields}
use Rattle.dm_scoped.proofs.SpanFormLemmas.{value-made, name-yields, constant-made, literal-made, member-yields, arrow-yields, count-yields, prefix-yields, sizeof-yields, sizeof-name-yields, cast-yields, index-yields, binary-yields, assignment-yields, choice-yields, call-yields, comma-yields}

-- ---- where an expression stands

-- it has a token, and its typed tree stands there
pub record Laid (setting : Setting) (expr : Expr) : Type 0 where
  pub around : IsAround (bare_span expr) (expr_span expr)
  pub whole : (used : Bool) (known : Known) (outer : Span) → IsAround (bare_span expr) outer
      → Yields (IsMade setting.source (bare_span expr) outer) known (typed_within setting used known outer expr)

pub laid-some : (setting : Setting) (expr : Expr) → Laid setting expr → (expr_span expr).first < (expr_span expr).after
laid-some setting expr one = let low = one.around.0 in let mid = one.around.1 in let high = one.around.2 in omega (arith, low, mid, high)

-- the tree of an expression
abbrev pub IsOf : Setting → Expr → Tree → Type 0
IsOf setting expr tree = IsMade setting.source (bare_span expr) (expr_span expr) tree

pub laid-typed : (setting : Setting) (expr : Expr) → Laid setting expr → (used : Bool) (known : Known) → Yields (IsOf setting expr) known (typed setting used known expr)
laid-typed setting expr one used known = one.whole used known (expr_span expr) one.around

pub of-value : (setting : Setting) (expr : Expr) (tree : Tree) → IsOf setting expr tree → IsOf setting expr (as_value tree)
of-value setting expr tree h = value-made setting.source (bare_span expr) (expr_span expr) tree h

-- one tree in a row
pub of-row : (setting : Setting) (expr : Expr) (tree : Tree) (at behind : ℕ) → IsOf setting expr tree → at ≤ (expr_span expr).first → (expr_span expr).after ≤ behind
    → StandBetween at behind (tree ∷ [])
of-row setting expr tree at behind h low high =
    subst (λ (it : Span). (at ≤ it.first) × IsLaidOut tree × (it.after ≤ behind)) (sym (outer-of setting.source (bare_span expr) (expr_span expr) tree h)) (low, h.1, high)

-- a form whose span is its own
own-laid : (setting : Setting) (span : Span) (expr : Expr) → expr_span expr ≡ span → bare_span expr ≡ span → span.first < span.after
    → ((used : Bool) (known : Known) (outer : Span) → IsAround span outer → Yields (IsMade setting.source span outer) known (typed_within setting used known outer expr))
    → Laid setting expr
own-laid setting span expr is own some h = record {
  around = subst (λ (it : Span). IsAround (bare_span expr) it) (sym is) (subst (λ (it : Span). IsAround it span) (sym own) (omega arith, some, omega arith));
  whole = λ used known outer around. subst (λ (it : Span). Yields (IsMade setting.source it outer) known (typed_within setting used known outer expr)) (sym own)
      (h used known outer (subst (λ (it : Span). IsAround it outer) own around));
}

-- ---- lists of expressions

-- a value for each
abbrev pub AreFor : Exprs → List Tree → Type 0
AreFor tree.no_exprs [] = Unit {0}
AreFor (tree.more_exprs first others) (value ∷ values) = AreFor others values
AreFor exprs values = ⊥

abbrev pub AreRow : ℕ → ℕ → Exprs → List Tree → Type 0
AreRow at behind exprs values = StandBetween at behind values × AreFor exprs values

values-laid : (setting : Setting) (at behind : ℕ) (first : Expr) (others : Exprs) → at ≤ (expr_span first).first → Laid setting first
    → ((used : Bool) (known : Known) → Yields (AreRow (expr_span first).after behind others) known (typed_values setting used known others))
    → (used : Bool) (known : Known)
    → Yields (AreRow at behind (tree.more_exprs first others)) known
    (after (typed setting used known first) (λ then_known made. after (typed_values setting used then_known others) (λ last values. given last (as_value made ∷ values))))
values-laid setting at behind first others low one rest used known =
    yields-after (IsOf setting first) (AreRow at behind (tree.more_exprs first others)) known (typed setting used known first) _ (laid-typed setting first one used known) (λ then_known made h.
    yields-after (AreRow (expr_span first).after behind others) (AreRow at behind (tree.more_exprs first others)) then_known (typed_values setting used then_known others) _ (rest used then_known)
    (λ last values g. yields-so (AreRow at behind (tree.more_exprs first others)) last (as_value made ∷ values) (row made values h g.0, g.1)))
  where
    row : (made : Tree) (values : List Tree) → IsOf setting first made → StandBetween (expr_span first).after behind values → StandBetween at behind (as_value made ∷ values)
    row made values h g =
        let value = of-value setting first made h in
        subst (λ (it : Span). (at ≤ it.first) × IsLaidOut (as_value made) × StandBetween it.after behind values) (sym (outer-of setting.source (bare_span first) (expr_span first) (as_value made) value)) (low, value.1, g)

comma-laid : (setting : Setting) (used : Bool) (known : Known) (span outer : Span) (first second : Expr) (others : Exprs) (outcome : Outcome (List Tree)) → IsAround span outer
    → Yields (AreRow span.first span.after (tree.more_exprs first (tree.more_exprs second others))) known outcome
    → Yields (IsMade setting.source span outer) known (after outcome (λ behind values. if_given (comma_of setting (extent span outer) values) 1 span.first (λ made. given behind made)))
comma-laid setting used known span outer first second others outcome around h =
    yields-after (AreRow span.first span.after (tree.more_exprs first (tree.more_exprs second others))) (IsMade setting.source span outer) known outcome _ h (λ behind values row. by-values behind values row)
  where
    by-values : (behind : Known) (values : List Tree) → AreRow span.first span.after (tree.more_exprs first (tree.more_exprs second others)) values
        → Yields (IsMade setting.source span outer) behind
        (if_given (comma_of setting (extent span outer) values) 1 span.first (λ made. given behind made))
    by-values behind [] row = absurd row.1
    by-values behind (one ∷ []) row = absurd row.1
    by-values behind (one ∷ other ∷ rest) row = comma-yields setting behind span outer around span.first one other rest row.0

-- ---- declarators

pub pointers-on : (at : ℕ) (consts : List ℕ) → at ≤ pointers_after at consts
pointers-on at [] = omega arith
pointers-on at (many ∷ others) = let rest = pointers-on (at + 1 + many) others in omega (arith, rest)

tag-on : (at : ℕ) (tag : Option ℕ) → at ≤ tag_after at tag
tag-on at None = omega arith
tag-on at (Some tag) = omega arith

pub trailing-on : (at : ℕ) (trailing : Bool) → at ≤ trailing_after at trailing
trailing-on at true = omega arith
trailing-on at false = omega arith

-- something in one piece, and more behind it
then-laid : {A B : Type 0} (at first after_first behind : ℕ) (known : Known) (one : Outcome A) (next : Known → A → Outcome B) → at ≤ first → Collects first after_first known one
    → ((then_known : Known) (it : A) → Collects after_first behind then_known (next then_known it)) → Collects at behind known (after one next)
then-laid at first after_first behind known one next low h step =
    collects-after at after_first behind known one next (collects-wider first after_first at after_first known one low (omega arith) h) step

-- a declarator of members, and more behind it
module _ (setting : Setting) where
  field-laid : (at behind : ℕ) (first : Declarator) (others : Declarators) (used : Bool) (known : Known) (base : CType) (before : List TypedMember) → at ≤ (declarator_span first).first
      → declarators_after (declarator_span first).after others ≤ behind
      → ((declarator_span first).first ≤ (declarator_span first).after)
      × ((used : Bool) (known : Known) → Collects (declarator_span first).first (declarator_span first).after known (steps_of setting used known first))
      → ((declarator_span first).after ≤ declarators_after (declarator_span first).after others)
      × ((used : Bool) (known : Known) (base : CType) (before : List TypedMember)
      → Collects (declarator_span first).after (declarators_after (declarator_span first).after others) known (fields_with setting used known base before others))
      → Collects at behind known (fields_with setting used known base before (tree.more_declarators first others))
  unfolding fields_with
  field-laid at behind first others used known base before low high shape rest =
      let on = (declarator_span first).after in
      then-laid at (declarator_span first).first on behind known (steps_of setting used known first) _ low (shape.1 used known) (λ then_known steps.
      collects-after on on behind then_known (derived then_known base steps) _ (derived-collects on on then_known base steps (omega arith)) (λ then_more type.
      collects-after on on behind then_more (typed_field setting then_more (declarator_span first).first (declarator_name first) before type) _
      (field-collects setting on on (omega arith) then_more (declarator_span first).first (declarator_name first) before type) (λ last so_far.
      collects-wider on (declarators_after on others) on behind last (fields_with setting used last base so_far others) (omega arith) high (rest.1 used last base so_far))))

-- ---- the syntax

module _ (setting : Setting) where
  mutual
    unfolding typed_within typed_values typed_name typed_specifiers words_said word_said fields_of fields_declared fields_with enumerators_of enumerator_of steps_of direct_steps parameters_of parameter_of IsExpr AreArguments AreMoreExprs IsTypeName IsSpecifiers AreWords IsSpecifier AreMembers IsMember AreMoreDeclarators AreMoreEnumerators IsEnumerator IsDeclarator IsDirect AreParameters AreMoreParameters IsParameter

    -- 6.5
    pub expr-laid : (names : List Declared) (expr : Expr) → IsExpr setting.source names expr → Laid setting expr
    expr-laid names (tree.name span) h =
        own-laid setting span (tree.name span) refl refl (omega (arith, h.1)) (λ used known outer around.
        name-yields setting known span outer around used (spelling_at setting.source span.first) (meaning_of known (spelling_at setting.source span.first)))
    expr-laid names (tree.constant span) h =
        own-laid setting span (tree.constant span) refl refl (omega (arith, h.1)) (λ used known outer around.
        yields-so (IsMade setting.source span outer) known _ (constant-made setting known span outer around (slice_get setting.source.tokens span.first)))
    expr-laid names (tree.literal span) h =
        own-laid setting span (tree.literal span) refl refl (omega (arith, h.1)) (λ used known outer around.
        yields-so (IsMade setting.source span outer) known _ (literal-made setting known span outer around (spelling_at setting.source span.first)))
    expr-laid names (tree.paren span inner) h =
        let one = expr-laid _ inner h.2 in
        let low = one.around.0 in
        let mid = one.around.1 in
        let high = one.around.2 in record {
          around = (omega (arith, h.1, low), mid, omega (arith, h.1, h.4, high));
          whole = λ used known outer around. one.whole used known outer around;
        }
    expr-laid names (tree.index span a b) h =
        let one = expr-laid _ a h.1 in
        let other = expr-laid _ b h.5 in
        let some = laid-some setting a one in
        let more = laid-some setting b other in
        own-laid setting span (tree.index span a b) refl refl (omega (arith, h.0, h.4, h.7, some, more)) (λ used known outer around.
        yields-after (IsOf setting a) (IsMade setting.source span outer) known (typed setting used known a) _ (laid-typed setting a one used known) (λ then_known first x.
        yields-after (IsOf setting b) (IsMade setting.source span outer) then_known (typed setting used then_known b) _ (laid-typed setting b other used then_known) (λ behind second y.
        index-yields setting behind span outer around (bare_span a) (bare_span b) (expr_span a) (expr_span b) (omega (arith, h.0)) (omega (arith, h.4)) (omega (arith, h.7))
        (omega (arith, h.0, h.4, h.7, more)) (omega (arith, h.0, h.4, h.7, some)) (as_value first) (as_value second) (of-value setting a first x) (of-value setting b second y))))
    expr-laid names (tree.call span callee arguments) h =
        let one = expr-laid _ callee h.1 in
        let all = arguments-laid _ _ arguments h.4 in
        let some = laid-some setting callee one in
        own-laid setting span (tree.call span callee arguments) refl refl (omega (arith, h.0, h.6, some, all.0)) (λ used known outer around.
        yields-after (IsOf setting callee) (IsMade setting.source span outer) known (typed setting used known callee) _ (laid-typed setting callee one used known) (λ then_known first x.
        yields-after (AreRow ((expr_span callee).after + 1) (exprs_after ((expr_span callee).after + 1) arguments) arguments) (IsMade setting.source span outer) then_known
        (typed_values setting used then_known arguments) _ (all.1 used then_known) (λ behind values row.
        call-yields setting behind span outer around callee (bare_span callee) (expr_span callee) ((expr_span callee).after + 1) (exprs_after ((expr_span callee).after + 1) arguments) first values
        (omega (arith, h.0)) (omega arith) (omega (arith, h.6)) x row.0)))
    expr-laid names (tree.member span whole name) h =
        let one = expr-laid _ whole h.1 in
        let some = laid-some setting whole one in
        own-laid setting span (tree.member span whole name) refl refl (omega (arith, h.0, h.4, h.6, some)) (λ used known outer around.
        yields-after (IsOf setting whole) (IsMade setting.source span outer) known (typed setting used known whole) _ (laid-typed setting whole one used known) (λ behind made x.
        member-yields setting behind span outer around (bare_span whole) (expr_span whole) (omega (arith, h.0)) (omega (arith, h.4, h.6)) (omega (arith, h.0, h.4, h.6)) name made x))
    expr-laid names (tree.arrow span operand name) h =
        let one = expr-laid _ operand h.1 in
        let some = laid-some setting operand one in
        own-laid setting span (tree.arrow span operand name) refl refl (omega (arith, h.0, h.4, h.6, some)) (λ used known outer around.
        yields-after (IsOf setting operand) (IsMade setting.source span outer) known (typed setting used known operand) _ (laid-typed setting operand one used known) (λ behind made x.
        arrow-yields setting behind span outer around (bare_span operand) (expr_span operand) (omega (arith, h.0)) (omega (arith, h.4, h.6)) (omega (arith, h.0, h.4, h.6)) name (as_value made)
        (of-value setting operand made x)))
    expr-laid names (tree.postfix span operand operator) h =
        let one = expr-laid _ operand h.1 in
        let some = laid-some setting operand one in
        own-laid setting span (tree.postfix span operand operator) refl refl (omega (arith, h.0, h.3, h.5, some)) (λ used known outer around.
        yields-after (IsOf setting operand) (IsMade setting.source span outer) known (typed setting used known operand) _ (laid-typed setting operand one used known) (λ behind made x.
        count-yields setting behind span outer around (bare_span operand) (expr_span operand) (omega (arith, h.0)) (omega (arith, h.3, h.5)) (omega (arith, h.0, h.3, h.5)) operator false made x))
    expr-laid names (tree.prefix span operator operand) h =
        let one = expr-laid _ operand h.2 in
        let some = laid-some setting operand one in
        own-laid setting span (tree.prefix span operator operand) refl refl (omega (arith, h.0, h.1, h.4, some)) (λ used known outer around.
        yields-after (IsOf setting operand) (IsMade setting.source span outer) known (typed setting used known operand) _ (laid-typed setting operand one used known) (λ behind made x.
        prefix-yields setting behind span outer around (bare_span operand) (expr_span operand) (omega (arith, h.0, h.1)) (omega (arith, h.4)) (omega (arith, h.0, h.1, h.4)) operator made
        (symbol_at setting.source operator) x))
    expr-laid names (tree.sizeof_expr span operand) h =
        let one = expr-laid _ operand h.2 in
        let some = laid-some setting operand one in
        own-laid setting span (tree.sizeof_expr span operand) refl refl (omega (arith, h.1, h.4, some)) (λ used known outer around.
        yields-after (IsOf setting operand) (IsMade setting.source span outer) known (typed setting false known operand) _ (laid-typed setting operand one false known) (λ behind made x.
        sizeof-yields setting behind span outer around (bare_span operand) (expr_span operand) (omega (arith, h.1)) (omega (arith, h.4)) (omega (arith, h.1, h.4)) made x))
    expr-laid names (tree.sizeof_name span name) h =
        let one = name-laid _ name h.3 in
        let some = one.0 in
        own-laid setting span (tree.sizeof_name span name) refl refl (omega (arith, h.2, h.5, some)) (λ used known outer around.
        yields-after (λ (named : TypedName). StandBetween (type_name_span name).first (type_name_span name).after named.constants) (IsMade setting.source span outer) known
        (typed_name setting false known name) _ (one.1 false known) (λ behind named row.
        sizeof-name-yields setting behind span outer around (type_name_span name).first (type_name_span name).after named.kind named.constants (omega (arith, h.2)) (omega (arith, h.5)) row))
    expr-laid names (tree.cast span name operand) h =
        let one = name-laid _ name h.2 in
        let other = expr-laid _ operand h.5 in
        let some = one.0 in
        let more = laid-some setting operand other in
        own-laid setting span (tree.cast span name operand) refl refl (omega (arith, h.1, h.4, h.7, some, more)) (λ used known outer around.
        yields-after (λ (named : TypedName). StandBetween (type_name_span name).first (type_name_span name).after named.constants) (IsMade setting.source span outer) known
        (typed_name setting used known name) _ (one.1 used known) (λ then_known named row.
        yields-after (IsOf setting operand) (IsMade setting.source span outer) then_known (typed setting used then_known operand) _ (laid-typed setting operand other used then_known) (λ behind made x.
        cast-yields setting behind span outer around (type_name_span name).first (type_name_span name).after (bare_span operand) (expr_span operand) (bare named.kind) named.constants (as_value made)
        (omega (arith, h.1)) (omega (arith, h.4)) (omega (arith, h.7)) row (of-value setting operand made x))))
    expr-laid names (tree.binary span a operator b) h =
        let one = expr-laid _ a h.1 in
        let other = expr-laid _ b h.6 in
        let some = laid-some setting a one in
        let more = laid-some setting b other in
        own-laid setting span (tree.binary span a operator b) refl refl (omega (arith, h.0, h.2, h.5, h.8, some, more)) (λ used known outer around.
        yields-after (IsOf setting a) (IsMade setting.source span outer) known (typed setting used known a) _ (laid-typed setting a one used known) (λ then_known first x.
        yields-after (IsOf setting b) (IsMade setting.source span outer) then_known (typed setting used then_known b) _ (laid-typed setting b other used then_known) (λ behind second y.
        binary-yields setting behind span outer around (bare_span a) (bare_span b) (expr_span a) (expr_span b) (omega (arith, h.0)) (omega (arith, h.2, h.5)) (omega (arith, h.8))
        (omega (arith, h.0, h.2, h.5, h.8, more)) (omega (arith, h.0, h.2, h.5, h.8, some)) operator (as_value first) (as_value second) (symbol_at setting.source operator)
        (of-value setting a first x) (of-value setting b second y))))
    expr-laid names (tree.conditional span a b c) h =
        let one = expr-laid _ a h.1 in
        let other = expr-laid _ b h.5 in
        let another = expr-laid _ c h.8 in
        let some = laid-some setting a one in
        let more = laid-some setting b other in
        let most = laid-some setting c another in
        own-laid setting span (tree.conditional span a b c) refl refl (omega (arith, h.0, h.4, h.7, h.10, some, more, most)) (λ used known outer around.
        yields-after (IsOf setting a) (IsMade setting.source span outer) known (typed setting used known a) _ (laid-typed setting a one used known) (λ then_known first x.
        yields-after (IsOf setting b) (IsMade setting.source span outer) then_known (typed setting used then_known b) _ (laid-typed setting b other used then_known) (λ then_more second y.
        yields-after (IsOf setting c) (IsMade setting.source span outer) then_more (typed setting used then_more c) _ (laid-typed setting c another used then_more) (λ behind third z.
        choice-yields setting behind span outer around (bare_span a) (bare_span b) (bare_span c) (expr_span a) (expr_span b) (expr_span c) (as_value first) (as_value second) (as_value third)
        (omega (arith, h.0)) (omega (arith, h.4)) (omega (arith, h.7)) (omega (arith, h.10)) (omega (arith, h.0, h.4, h.7, h.10, more, most)) (omega (arith, h.0, h.4, h.7, h.10, some, most))
        (omega (arith, h.0, h.4, h.7, h.10, some, more)) (of-value setting a first x) (of-value setting b second y) (of-value setting c third z)))))
    expr-laid names (tree.assign span object operator value) h =
        let one = expr-laid _ object h.1 in
        let other = expr-laid _ value h.6 in
        let some = laid-some setting object one in
        let more = laid-some setting value other in
        own-laid setting span (tree.assign span object operator value) refl refl (omega (arith, h.0, h.3, h.5, h.8, some, more)) (λ used known outer around.
        yields-after (IsOf setting object) (IsMade setting.source span outer) known (typed setting used known object) _ (laid-typed setting object one used known) (λ then_known first x.
        yields-after (IsOf setting value) (IsMade setting.source span outer) then_known (typed setting used then_known value) _ (laid-typed setting value other used then_known) (λ behind second y.
        assignment-yields setting behind span outer around (bare_span object) (bare_span value) (expr_span object) (expr_span value) (omega (arith, h.0)) (omega (arith, h.3, h.5)) (omega (arith, h.8))
        (omega (arith, h.0, h.3, h.5, h.8, more)) (omega (arith, h.0, h.3, h.5, h.8, some)) operator first (as_value second) (symbol_at setting.source operator) x (of-value setting value second y))))
    expr-laid names (tree.comma span tree.no_exprs) h = absurd h
    expr-laid names (tree.comma span (tree.more_exprs first tree.no_exprs)) h = absurd h
    expr-laid names (tree.comma span (tree.more_exprs first (tree.more_exprs second others))) h =
        let one = expr-laid _ first h.1 in
        let rest = more-exprs-laid _ _ (tree.more_exprs second others) h.3 in
        let some = laid-some setting first one in
        let all = values-laid setting span.first span.after first (tree.more_exprs second others) (omega (arith, h.0)) one
        (λ used known. subst (λ behind. Yields (AreRow (expr_span first).after behind (tree.more_exprs second others)) known (typed_values setting used known (tree.more_exprs second others)))
        (sym h.4) (rest.1 used known)) in
        own-laid setting span (tree.comma span (tree.more_exprs first (tree.more_exprs second others))) refl refl (omega (arith, h.0, h.4, some, rest.0)) (λ used known outer around.
        comma-laid setting used known span outer first second others _ around (all used known))

    arguments-laid : (names : List Declared) (at : ℕ) (exprs : Exprs) → AreArguments setting.source names at exprs
        → (at ≤ exprs_after at exprs) × ((used : Bool) (known : Known) → Yields (AreRow at (exprs_after at exprs) exprs) known (typed_values setting used known exprs))
    arguments-laid names at tree.no_exprs h = (omega arith, λ used known. yields-so (AreRow at at tree.no_exprs) known [] (omega arith, tt))
    arguments-laid names at (tree.more_exprs first others) h =
        let one = expr-laid _ first h.1 in
        let rest = more-exprs-laid _ _ others h.3 in
        let some = laid-some setting first one in
        (omega (arith, h.0, some, rest.0), values-laid setting at (exprs_after (expr_span first).after others) first others (omega (arith, h.0)) one rest.1)

    more-exprs-laid : (names : List Declared) (at : ℕ) (exprs : Exprs) → AreMoreExprs setting.source names at exprs
        → (at ≤ exprs_after at exprs) × ((used : Bool) (known : Known) → Yields (AreRow at (exprs_after at exprs) exprs) known (typed_values setting used known exprs))
    more-exprs-laid names at tree.no_exprs h = (omega arith, λ used known. yields-so (AreRow at at tree.no_exprs) known [] (omega arith, tt))
    more-exprs-laid names at (tree.more_exprs first others) h =
        let one = expr-laid _ first h.2 in
        let rest = more-exprs-laid _ _ others h.4 in
        let some = laid-some setting first one in
        (omega (arith, h.1, some, rest.0), values-laid setting at (exprs_after (expr_span first).after others) first others (omega (arith, h.1)) one rest.1)

    -- 6.7.7
    pub name-laid : (names : List Declared) (name : TypeName) → IsTypeName setting.source names name
        → ((type_name_span name).first < (type_name_span name).after)
        × ((used : Bool) (known : Known)
        → Yields (λ (named : TypedName). StandBetween (type_name_span name).first (type_name_span name).after named.constants) known (typed_name setting used known name))
    name-laid names (tree.type_name span specifiers declarator) h =
        let words = specifiers-laid _ elsewhere false specifiers h.1 in
        let shape = declarator-laid _ false declarator h.3 in
        let begins = words.0 in
        let on = shape.0 in (
          omega (arith, h.0, h.2, h.5, begins, on),
          λ used known. named-yields span.first span.after known _
              (then-laid span.first (specifiers_span specifiers).first (specifiers_span specifiers).after span.after (record known { constants = [] })
              (typed_specifiers setting used elsewhere false (record known { constants = [] }) specifiers) _ (omega (arith, h.0)) (words.1 used (record known { constants = [] })) (λ then_known base.
              then-laid (specifiers_span specifiers).after (declarator_span declarator).first (declarator_span declarator).after span.after then_known (steps_of setting used then_known declarator) _
              (omega (arith, h.2)) (shape.1 used then_known) (λ behind steps. derived-collects (declarator_span declarator).after span.after behind base steps (omega (arith, h.5))))),
        )

    -- 6.7
    pub specifiers-laid : (names : List Declared) (stands : Where) (alone : Bool) (specifiers : Specifiers) → IsSpecifiers setting.source names specifiers
        → ((specifiers_span specifiers).first < (specifiers_span specifiers).after)
        × ((used : Bool) (known : Known) → Collects (specifiers_span specifiers).first (specifiers_span specifiers).after known (typed_specifiers setting used stands alone known specifiers))
    specifiers-laid names stands alone (tree.listed span tree.no_words) h = absurd h
    specifiers-laid names stands alone (tree.listed span (tree.more_words first others)) h =
        let one = word-laid _ _ _ alone first h.0.0 in
        let rest = words-laid _ _ _ alone others h.0.1 in
        let some = one.0 in
        let on = rest.0 in (
          omega (arith, h.1, some, on),
          λ used known. then-laid span.first span.first (words_after span.first (tree.more_words first others)) span.after known
              (words_said setting used alone known nothing_said (tree.more_words first others)) _ (omega arith)
              (collects-after span.first (specifier_after span.first first) (words_after (specifier_after span.first first) others) known (word_said setting used alone known nothing_said first) _
              (one.1 used known nothing_said) (λ behind so_far. rest.1 used behind so_far))
              (λ behind said. said-collects setting (words_after span.first (tree.more_words first others)) span.after (omega (arith, h.1)) behind stands span.first said),
        )

    pub words-laid : (names : List Declared) (at : ℕ) (types : Types) (alone : Bool) (words : Words) → AreWords setting.source names at types words
        → (at ≤ words_after at words) × ((used : Bool) (known : Known) (said : Said) → Collects at (words_after at words) known (words_said setting used alone known said words))
    words-laid names at types alone tree.no_words h = (omega arith, λ used known said. collects-kept at at known known said refl (omega arith))
    words-laid names at types alone (tree.more_words first others) h =
        let one = word-laid _ _ _ alone first h.0 in
        let rest = words-laid _ _ _ alone others h.1 in
        let some = one.0 in
        let on = rest.0 in (
          omega (arith, some, on),
          λ used known said. collects-after at (specifier_after at first) (words_after (specifier_after at first) others) known (word_said setting used alone known said first) _
              (one.1 used known said) (λ behind so_far. rest.1 used behind so_far),
        )

    pub word-laid : (names : List Declared) (at : ℕ) (types : Types) (alone : Bool) (word : Specifier) → IsSpecifier setting.source names at types word
        → (at < specifier_after at word) × ((used : Bool) (known : Known) (said : Said) → Collects at (specifier_after at word) known (word_said setting used alone known said word))
    word-laid names at types alone (tree.keyword here) h = (omega arith, λ used known said. collects-kept at (at + 1) known known _ refl (omega arith))
    word-laid names at types alone (tree.typedef_name here) h = (
      omega arith,
      λ used known said. collects-if at (at + 1) known (meaning_of known (spelling_at setting.source here)) 1 here _ (λ entry e. collects-kept at (at + 1) known known _ refl (omega arith)),
    )
    word-laid names at types alone (tree.struct_only span tag) h =
        let on : at < span.after = omega (arith, h.5) in (
          on,
          λ used known said. collects-with at span.after known _ (λ behind type. with_type type said)
              (struct-collects setting at span.after (omega (arith, on)) known span tag (if alone then tag_inside setting known tag else tag_seen setting known tag)),
        )
    word-laid names at types alone (tree.struct_with span tag tree.no_members) h = absurd h
    word-laid names at types alone (tree.struct_with span tag (tree.more_members first others)) h =
        let all = members-laid _ _ (tree.more_members first others) h.5 in
        let begins = tag-on (at + 1) tag in
        let on = all.0 in
        let ends : at < span.after = omega (arith, h.7, begins, on) in (
          ends,
          λ used known said.
              let found = tag_inside setting known tag in
              let number = struct_begun known found in
              let begun = beginning (with_new_struct setting known tag found) number in
              collects-with at span.after known _ (λ behind type. with_type type said)
              (collects-known at span.after known begun (after (fields_of setting used begun [] (tree.more_members first others)) (λ behind so_far. struct_ended behind span number known.begun so_far))
              (begun-constants setting at span.after (omega (arith, ends)) known tag found number)
              (then-laid at (tag_after (at + 1) tag + 1) (members_after (tag_after (at + 1) tag + 1) (tree.more_members first others)) span.after begun
              (fields_of setting used begun [] (tree.more_members first others)) _ (omega (arith, begins)) (all.1 used begun [])
              (λ behind so_far. ended-collects setting (members_after (tag_after (at + 1) tag + 1) (tree.more_members first others)) span.after (omega (arith, h.7)) behind span number known.begun so_far))),
        )
    word-laid names at types alone (tree.enum_only span tag trailing) h =
        let on : at < span.after = omega (arith, h.6) in (
          on,
          λ used known said. collects-with at span.after known _ (λ behind type. with_type type said)
              (enum-collects setting at span.after (omega (arith, on)) known span (tag_seen setting known tag)),
        )
    word-laid names at types alone (tree.enum_with span tag tree.no_enumerators trailing) h = absurd h
    word-laid names at types alone (tree.enum_with span tag (tree.more_enumerators first others) trailing) h =
        let one = enumerator-laid _ first h.6 in
        let rest = enumerators-laid _ _ others h.7 in
        let begins = tag-on (at + 1) tag in
        let ends = trailing-on (enumerators_after (enumerator_span first).after others) trailing in
        let some = one.0 in
        let on = rest.0 in
        let whole : at < span.after = omega (arith, h.5, h.10, begins, ends, some, on) in (
          whole,
          λ used known said.
              let test = is_some (tag_inside setting known tag) in
              let begun = if test then known else tag_declared setting known tag (integer k.Int) in
              collects-with at span.after known _ (λ behind type. with_type type said)
              (collects-known at span.after known begun _ (enum-constants setting at span.after (omega (arith, whole)) known tag test)
              (then-laid at (enumerator_span first).first (enumerators_after (enumerator_span first).after others) span.after begun
              (enumerators_of setting used begun (negsuc 0) (tree.more_enumerators first others)) _ (omega (arith, h.5, begins))
              (collects-after (enumerator_span first).first (enumerator_span first).after (enumerators_after (enumerator_span first).after others) begun
              (enumerator_of setting used begun (negsuc 0) first) _ (one.1 used begun (negsuc 0)) (λ then_known value. rest.1 used then_known value))
              (λ behind last. collects-obeys (enumerators_after (enumerator_span first).after others) span.after behind (not test) 4 span.first _
              (collects-kept (enumerators_after (enumerator_span first).after others) span.after behind behind (integer k.Int) refl (omega (arith, h.10, ends)))))),
        )

    -- 6.7.2.1
    members-laid : (names : List Declared) (at : ℕ) (members : Members) → AreMembers setting.source names at members
        → (at ≤ members_after at members)
        × ((used : Bool) (known : Known) (before : List TypedMember) → Collects at (members_after at members) known (fields_of setting used known before members))
    members-laid names at tree.no_members h = (omega arith, λ used known before. collects-kept at at known known before refl (omega arith))
    members-laid names at (tree.more_members first others) h =
        let one = member-laid _ first h.1 in
        let rest = members-laid _ _ others h.2 in
        let some = one.0 in
        let on = rest.0 in (
          omega (arith, h.0, some, on),
          λ used known before. then-laid at (member_span first).first (member_span first).after (members_after (member_span first).after others) known
              (fields_declared setting used known before first) _ (omega (arith, h.0)) (one.1 used known before) (λ behind so_far. rest.1 used behind so_far),
        )

    member-laid : (names : List Declared) (member : Member) → IsMember setting.source names member
        → ((member_span member).first < (member_span member).after)
        × ((used : Bool) (known : Known) (before : List TypedMember) → Collects (member_span member).first (member_span member).after known (fields_declared setting used known before member))
    member-laid names (tree.members span specifiers tree.no_declarators) h = absurd h
    member-laid names (tree.members span specifiers (tree.more_declarators first others)) h =
        let words = specifiers-laid _ elsewhere false specifiers h.1 in
        let shape = declarator-laid _ false first h.3 in
        let rest = declarators-laid _ _ others h.5 in
        let begins = words.0 in
        let on = shape.0 in
        let goes = rest.0 in (
          omega (arith, h.0, h.2, h.7, begins, on, goes),
          λ used known before. then-laid span.first (specifiers_span specifiers).first (specifiers_span specifiers).after span.after known
              (typed_specifiers setting used elsewhere false known specifiers) _ (omega (arith, h.0)) (words.1 used known)
              (λ behind base. field-laid setting (specifiers_span specifiers).after span.after first others used behind base before (omega (arith, h.2)) (omega (arith, h.7)) shape rest),
        )

    declarators-laid : (names : List Declared) (at : ℕ) (declarators : Declarators) → AreMoreDeclarators setting.source names at declarators
        → (at ≤ declarators_after at declarators)
        × ((used : Bool) (known : Known) (base : CType) (before : List TypedMember) → Collects at (declarators_after at declarators) known (fields_with setting used known base before declarators))
    declarators-laid names at tree.no_declarators h = (omega arith, λ used known base before. collects-kept at at known known before refl (omega arith))
    declarators-laid names at (tree.more_declarators first others) h =
        let shape = declarator-laid _ false first h.2 in
        let rest = declarators-laid _ _ others h.4 in
        let on = shape.0 in
        let goes = rest.0 in (
          omega (arith, h.1, on, goes),
          λ used known base before. field-laid setting at (declarators_after (declarator_span first).after others) first others used known base before (omega (arith, h.1)) (omega arith) shape rest,
        )

    -- 6.7.2.2
    enumerators-laid : (names : List Declared) (at : ℕ) (enumerators : Enumerators) → AreMoreEnumerators setting.source names at enumerators
        → (at ≤ enumerators_after at enumerators)
        × ((used : Bool) (known : Known) (last : ℤ) → Collects at (enumerators_after at enumerators) known (enumerators_of setting used known last enumerators))
    enumerators-laid names at tree.no_enumerators h = (omega arith, λ used known last. collects-kept at at known known last refl (omega arith))
    enumerators-laid names at (tree.more_enumerators first others) h =
        let one = enumerator-laid _ first h.2 in
        let rest = enumerators-laid _ _ others h.3 in
        let some = one.0 in
        let on = rest.0 in (
          omega (arith, h.1, some, on),
          λ used known last. then-laid at (enumerator_span first).first (enumerator_span first).after (enumerators_after (enumerator_span first).after others) known
              (enumerator_of setting used known last first) _ (omega (arith, h.1)) (one.1 used known last) (λ behind value. rest.1 used behind value),
        )

    enumerator-laid : (names : List Declared) (enumerator : Enumerator) → IsEnumerator setting.source names enumerator
        → ((enumerator_span enumerator).first < (enumerator_span enumerator).after)
        × ((used : Bool) (known : Known) (last : ℤ) → Collects (enumerator_span enumerator).first (enumerator_span enumerator).after known (enumerator_of setting used known last enumerator))
    enumerator-laid names (tree.bare span at) h =
        (omega (arith, h.0, h.2), λ used known last. enumerator-collects setting span.first span.after (omega (arith, h.0, h.2)) known at (last +ℤ pos 1))
    enumerator-laid names (tree.valued span at value) h =
        let one = expr-laid _ value h.4 in
        let some = laid-some setting value one in (
          omega (arith, h.0, h.3, h.6, some),
          λ used known last. collects-behind (IsOf setting value) span.first span.after known (typed setting used known value) _ (laid-typed setting value one used known)
              (λ behind made x. valued-collects setting span.first span.after behind (as_value made)
              (of-row setting value (as_value made) span.first span.after (of-value setting value made x) (omega (arith, h.0, h.3)) (omega (arith, h.6))) at (expr_span value).first),
        )

    -- 6.7.6
    pub declarator-laid : (names : List Declared) (of_parameter : Bool) (declarator : Declarator) → IsDeclarator setting.source names of_parameter declarator
        → ((declarator_span declarator).first ≤ (declarator_span declarator).after)
        × ((used : Bool) (known : Known) → Collects (declarator_span declarator).first (declarator_span declarator).after known (steps_of setting used known declarator))
    declarator-laid names of_parameter (tree.shaped span consts direct) h =
        let one = direct-laid _ of_parameter _ direct h.1 in
        let begins = pointers-on span.first consts in
        let on = one.0 in (
          omega (arith, h.2, begins, on),
          λ used known. collects-with span.first span.after known (direct_steps setting used known (direct_at span.first consts) direct) _
              (collects-wider (pointers_after span.first consts) (direct_after (pointers_after span.first consts) direct) span.first span.after known
              (direct_steps setting used known (direct_at span.first consts) direct) begins (omega (arith, h.2)) (one.1 used known (direct_at span.first consts))),
        )

    pub direct-laid : (names : List Declared) (of_parameter : Bool) (at : ℕ) (direct : Direct) → IsDirect setting.source names of_parameter at direct
        → (at ≤ direct_after at direct) × ((used : Bool) (known : Known) (here : ℕ) → Collects at (direct_after at direct) known (direct_steps setting used known here direct))
    direct-laid names of_parameter at tree.absent h = (omega arith, λ used known here. collects-kept at at known known [] refl (omega arith))
    direct-laid names of_parameter at (tree.declared name) h = (omega arith, λ used known here. collects-kept at (at + 1) known known [] refl (omega arith))
    direct-laid names of_parameter at (tree.enclosed declarator) h =
        let one = declarator-laid _ of_parameter declarator h.3 in
        let on = one.0 in (
          omega (arith, h.2, on),
          λ used known here. collects-wider (declarator_span declarator).first (declarator_span declarator).after at ((declarator_span declarator).after + 1) known
              (steps_of setting used known declarator) (omega (arith, h.2)) (omega arith) (one.1 used known),
        )
    direct-laid names of_parameter at (tree.array direct) h =
        let one = direct-laid _ of_parameter at direct h.0 in
        let on = one.0 in (
          omega (arith, on),
          λ used known here. collects-with at (direct_after at direct + 2) known (direct_steps setting used known here direct) _
              (collects-wider at (direct_after at direct) at (direct_after at direct + 2) known (direct_steps setting used known here direct) (omega arith) (omega arith) (one.1 used known here)),
        )
    direct-laid names of_parameter at (tree.sized direct value) h =
        let one = direct-laid _ of_parameter at direct h.0 in
        let length = expr-laid _ value h.3 in
        let some = laid-some setting value length in
        let on = one.0 in (
          omega (arith, h.2, on, some),
          λ used known here. collects-after at (direct_after at direct) ((expr_span value).after + 1) known (direct_steps setting used known here direct) _ (one.1 used known here) (λ then_known steps.
              collects-behind (IsOf setting value) (direct_after at direct) ((expr_span value).after + 1) then_known (typed setting used then_known value) _ (laid-typed setting value length used then_known)
              (λ then_more made x. collects-with (direct_after at direct) ((expr_span value).after + 1) then_more (length_of then_more (expr_span value).first (as_value made)) _
              (length-collects setting (direct_after at direct) ((expr_span value).after + 1) then_more (as_value made)
              (of-row setting value (as_value made) (direct_after at direct) ((expr_span value).after + 1) (of-value setting value made x) (omega (arith, h.2)) (omega arith)) (expr_span value).first))),
        )
    direct-laid names of_parameter at (tree.function direct parameters) h =
        let one = direct-laid _ of_parameter at direct h.0 in
        let all = parameters-laid _ _ parameters h.2 in
        let on = one.0 in
        let goes = all.0 in (
          omega (arith, on, goes),
          λ used known here. collects-after at (direct_after at direct) (parameters_after (direct_after at direct + 1) parameters + 1) known (direct_steps setting used known here direct) _
              (one.1 used known here) (λ then_known steps.
              collects-with (direct_after at direct) (parameters_after (direct_after at direct + 1) parameters + 1) then_known
              (left then_known.scopes (parameters_of setting used (entered then_known) parameters)) _
              (left-collects (direct_after at direct) (parameters_after (direct_after at direct + 1) parameters + 1) then_known (parameters_of setting used (entered then_known) parameters)
              (collects-wider (direct_after at direct + 1) (parameters_after (direct_after at direct + 1) parameters) (direct_after at direct)
              (parameters_after (direct_after at direct + 1) parameters + 1) (entered then_known) (parameters_of setting used (entered then_known) parameters) (omega arith) (omega arith)
              (all.1 used (entered then_known))))),
        )

    -- 6.7.6.3
    parameters-laid : (names : List Declared) (at : ℕ) (parameters : Parameters) → AreParameters setting.source names at parameters
        → (at ≤ parameters_after at parameters) × ((used : Bool) (known : Known) → Collects at (parameters_after at parameters) known (parameters_of setting used known parameters))
    parameters-laid names at tree.no_parameters h = (omega arith, λ used known. collects-kept at at known known [] refl (omega arith))
    parameters-laid names at (tree.more_parameters first others) h =
        let one = parameter-laid _ first h.1 in
        let rest = more-parameters-laid _ _ others h.2 in
        let some = one.0 in
        let on = rest.0 in (
          omega (arith, h.0, some, on),
          λ used known. then-laid at (parameter_span first).first (parameter_span first).after (parameters_after (parameter_span first).after others) known
              (parameter_of setting used known first) _ (omega (arith, h.0)) (one.1 used known)
              (λ then_known made. collects-with (parameter_span first).after (parameters_after (parameter_span first).after others) then_known
              (parameters_of setting used then_known others) _ (rest.1 used then_known)),
        )

    more-parameters-laid : (names : List Declared) (at : ℕ) (parameters : Parameters) → AreMoreParameters setting.source names at parameters
        → (at ≤ parameters_after at parameters) × ((used : Bool) (known : Known) → Collects at (parameters_after at parameters) known (parameters_of setting used known parameters))
    more-parameters-laid names at tree.no_parameters h = (omega arith, λ used known. collects-kept at at known known [] refl (omega arith))
    more-parameters-laid names at (tree.more_parameters first others) h =
        let one = parameter-laid _ first h.2 in
        let rest = more-parameters-laid _ _ others h.3 in
        let some = one.0 in
        let on = rest.0 in (
          omega (arith, h.1, some, on),
          λ used known. then-laid at (parameter_span first).first (parameter_span first).after (parameters_after (parameter_span first).after others) known
              (parameter_of setting used known first) _ (omega (arith, h.1)) (one.1 used known)
              (λ then_known made. collects-with (parameter_span first).after (parameters_after (parameter_span first).after others) then_known
              (parameters_of setting used then_known others) _ (rest.1 used then_known)),
        )

    parameter-laid : (names : List Declared) (parameter : Parameter) → IsParameter setting.source names parameter
        → ((parameter_span parameter).first < (parameter_span parameter).after)
        × ((used : Bool) (known : Known) → Collects (parameter_span parameter).first (parameter_span parameter).after known (parameter_of setting used known parameter))
    parameter-laid names (tree.parameter span specifiers declarator) h =
        let words = specifiers-laid _ elsewhere false specifiers h.1 in
        let shape = declarator-laid _ true declarator h.3 in
        let begins = words.0 in
        let on = shape.0 in (
          omega (arith, h.0, h.2, h.4, begins, on),
          λ used known. then-laid span.first (specifiers_span specifiers).first (specifiers_span specifiers).after span.after known
              (typed_specifiers setting used elsewhere false known specifiers) _ (omega (arith, h.0)) (words.1 used known) (λ then_known base.
              then-laid (specifiers_span specifiers).after (declarator_span declarator).first (declarator_span declarator).after span.after then_known (steps_of setting used then_known declarator) _
              (omega (arith, h.2)) (shape.1 used then_known) (λ then_more steps.
              collects-after (declarator_span declarator).after (declarator_span declarator).after span.after then_more (derived then_more base steps) _
              (derived-collects (declarator_span declarator).after (declarator_span declarator).after then_more base steps (omega arith))
              (λ behind type. parameter-collects setting (declarator_span declarator).after span.after (omega (arith, h.4)) behind (parameter_at span declarator) type (declarator_name declarator)))),
        )
