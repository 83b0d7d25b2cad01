-- Being well formed depends on what names stand for, and not on how that is known: by declarations in scope or from outside. So the
-- external declarations that are read one by one are those of one source in which no name is a type from outside.
use Rattle.std.specs.Prelude.{◌≡◌, ◌≢◌, ◌≤◌, ℕ, zero, suc, ◌+◌, Bool, true, false, cond, List, [], ◌∷◌, ◌++◌, Option, Some, None, length, IsTrue, unwrap_or, bytes_eq, if◌then◌else◌, refl}
use Rattle.std.proofs.Common.{sym, ap, ◌∙◌, subst}
use Rattle.std.specs.FinMap as finite
use Rattle.std.specs.Cmp.Lexicographic.{slice_cmp}
use Rattle.std.specs.Ordering.{nat_cmp}
use Rattle.std.proofs.lemmas.Cmp.{nat_list_cmp_total}
use Rattle.dm_token.specs.declared.token.CToken.{CToken}
use Rattle.dm_syn.specs.declared.declared.Declared.{Declared}
use Rattle.dm_syn.specs.declared.symbol.Symbol.{Symbol}
use Rattle.dm_syn.specs.declared.symbol.Symbol.TheVariants as symbol
use Rattle.dm_syn.specs.Symbols.{is_identifier}
use Rattle.dm_syn.specs.Sources.{Source, names_type, seen_as, symbol_at, spelling_at, symbol_in}
use Rattle.dm_syn.specs.Trees.{Expr, Exprs, TypeName, Specifiers, Words, Specifier, Members, Member, Declarators, Enumerators, Enumerator, Declarator, Direct, Parameters, Parameter, Initialiser, Initialisers, Item, Declaration, ForStart, Stmt, BlockItems, BlockItem, SwitchItems, SwitchItem, External}
use Rattle.dm_syn.specs.Trees as tree
use Rattle.dm_syn.specs.Spans.{expr_span, exprs_after, type_name_span, specifiers_span, specifier_after, member_span, members_after, declarator_span, declarators_after, enumerator_span, enumerators_after, parameter_span, parameters_after, pointers_after, direct_after, initialiser_span, initialisers_after, item_span, items_after, stmt_span, block_item_span, block_items_after, switch_item_span, switch_items_after, external_span}
use Rattle.dm_syn.specs.Scopes.{specifiers_declares, specifier_declares, item_declares, defines_types, external_declares}
use Rattle.dm_syn.specs.Grammar.{level, prefix_level, Types, no_type, types_behind, EndsBefore, MayBeEnclosed, IsTag, tag_after, IsTrailing, trailing_after, AreConsts, ArePointers, IsExpr, AreArguments, AreMoreExprs, IsTypeName, IsSpecifiers, AreWords, IsSpecifier, AreMembers, IsMember, AreMoreDeclarators, AreMoreEnumerators, IsEnumerator, IsDeclarator, IsDirect, AreParameters, AreMoreParameters, IsParameter}
use Rattle.dm_syn.specs.Statements.{IsInitialiser, AreMoreInitialisers, IsItem, AreMoreItems, AreItems, IsDeclaration, IsOptional, optional_after, IsStart, start_after, IsEnclosed, IsStmt, AreBlockItems, IsBlockItem, AreSwitchItems, IsSwitchItem, own_parameters, IsExternal}
use Rattle.dm_pexpr.specs.Answers.{source_with}
use Rattle.dm_pexpr.specs.NameMaps.{NameMap, is_type as is_type_in}
use Rattle.dm_pexpr.specs.Scoping.{known_with}
use Rattle.dm_name_map.proofs.MapLemmas.{tied}
use Rattle.dm_eexpr.specs.Alone.{source_alone}
use Rattle.dm_edecl.specs.Placing.{AreExternals}
use Rattle.dm_reading.specs.Syntax.{Stand, IsSyntax, names_behind}
use Rattle.dm_formed.proofs.DeclaredLemmas.{source_of, Agree, behind, behind-expr, behind-exprs, behind-type-name, behind-specifiers, behind-specifier, behind-members, behind-member, behind-declarators, behind-enumerators, behind-enumerator, behind-declarator, behind-direct, behind-parameter, behind-parameters, behind-initialiser, behind-initialisers, behind-optional, behind-start, behind-block-item, behind-switch-item, behind-body, behind-external, behind-named, behind-item, behind-declared, behind-definition, defines-same}

-- ---- what stands at a place

module _ {tokens : List CToken} {one other : List ℕ → Bool} {names these : List Declared} (a : Agree tokens one other names these) where
  symbols-same : (at : ℕ) → symbol_in (source_of tokens one) names at ≡ symbol_in (source_of tokens other) these at
  unfolding symbol_in symbol_at spelling_at
  symbols-same at = ap (seen_as (symbol_at (source_of tokens one) at)) (a.says (spelling_at (source_of tokens one) at))

  -- what holds of the symbol at a place
  seen : (at : ℕ) (P : Symbol → Type 0) → P (symbol_in (source_of tokens one) names at) → P (symbol_in (source_of tokens other) these at)
  seen at P h = subst P (symbols-same at) h

  see : (at : ℕ) {it : Symbol} → symbol_in (source_of tokens one) names at ≡ it → symbol_in (source_of tokens other) these at ≡ it
  see at h = sym (symbols-same at) ∙ h

  tag-formed : (at : ℕ) (tag : Option ℕ) → IsTag (source_of tokens one) names at tag → IsTag (source_of tokens other) these at tag
  tag-formed at None h = h
  tag-formed at (Some tag) h = (h.0, seen at (λ it. IsTrue (is_identifier it)) h.1)

  trailing-formed : (at : ℕ) (trailing : Bool) → IsTrailing (source_of tokens one) names at trailing → IsTrailing (source_of tokens other) these at trailing
  trailing-formed at true h = see at h
  trailing-formed at false h = h

  consts-formed : (at count : ℕ) → AreConsts (source_of tokens one) names at count → AreConsts (source_of tokens other) these at count
  consts-formed at zero h = h
  consts-formed at (suc count) h = (see at h.0, consts-formed (at + 1) count h.1)

  pointers-formed : (at : ℕ) (pointers : List ℕ) → ArePointers (source_of tokens one) names at pointers → ArePointers (source_of tokens other) these at pointers
  pointers-formed at [] h = h
  pointers-formed at (consts ∷ others) h = (see at h.0, consts-formed (at + 1) consts h.1, pointers-formed (at + 1 + consts) others h.2)

  -- levels are those of tokens
  level-same : (it : Expr) → level (source_of tokens one) it ≡ level (source_of tokens other) it
  unfolding symbol_at
  level-same (tree.name span) = refl
  level-same (tree.constant span) = refl
  level-same (tree.literal span) = refl
  level-same (tree.paren span inner) = refl
  level-same (tree.index span left right) = refl
  level-same (tree.call span callee arguments) = refl
  level-same (tree.member span left name) = refl
  level-same (tree.arrow span left name) = refl
  level-same (tree.postfix span left operator) = refl
  level-same (tree.prefix span operator operand) = refl
  level-same (tree.sizeof_expr span operand) = refl
  level-same (tree.sizeof_name span name) = refl
  level-same (tree.cast span name operand) = refl
  level-same (tree.binary span left operator right) = refl
  level-same (tree.conditional span first second third) = refl
  level-same (tree.assign span left operator right) = refl
  level-same (tree.comma span parts) = refl

  at-level : {least : ℕ} (it : Expr) → least ≤ level (source_of tokens one) it → least ≤ level (source_of tokens other) it
  at-level {least = least} it h = subst (λ found. least ≤ found) (level-same it) h

  types-same : (at : ℕ) (first : Specifier) (types : Types) → types_behind (source_of tokens one) at first types ≡ types_behind (source_of tokens other) at first types
  unfolding symbol_at
  types-same at (tree.keyword word) types = refl
  types-same at (tree.typedef_name name) types = refl
  types-same at (tree.struct_only span tag) types = refl
  types-same at (tree.struct_with span tag _) types = refl
  types-same at (tree.enum_only span tag trailing) types = refl
  types-same at (tree.enum_with span tag _ trailing) types = refl

module _ (tokens : List CToken) (one other : List ℕ → Bool) where
  abbrev here : Source
  here = source_of tokens one

  abbrev there : Source
  there = source_of tokens other

  -- ---- expressions, type names, specifiers and declarators

  mutual
    unfolding IsExpr symbol_at

    expr-formed : {names these : List Declared} → Agree tokens one other names these → (it : Expr) → IsExpr here names it → IsExpr there these it
    expr-formed a (tree.name span) h = (see a span.first h.0, h.1)
    expr-formed a (tree.constant span) h = (see a span.first h.0, h.1)
    expr-formed a (tree.literal span) h = (see a span.first h.0, h.1)
    expr-formed a (tree.paren span inner) h = (
      see a span.first h.0,
      h.1,
      expr-formed a inner h.2,
      see (behind-expr a inner) (expr_span inner).after h.3,
      h.4,
    )
    expr-formed a (tree.index span left right) h = (
      h.0,
      expr-formed a left h.1,
      at-level a left h.2,
      see (behind-expr a left) (expr_span left).after h.3,
      h.4,
      expr-formed (behind-expr a left) right h.5,
      see (behind-expr (behind-expr a left) right) (expr_span right).after h.6,
      h.7,
    )
    expr-formed a (tree.call span callee arguments) h = (
      h.0,
      expr-formed a callee h.1,
      at-level a callee h.2,
      see (behind-expr a callee) (expr_span callee).after h.3,
      arguments-formed (behind-expr a callee) ((expr_span callee).after + 1) arguments h.4,
      see (behind-exprs (behind-expr a callee) arguments) (exprs_after ((expr_span callee).after + 1) arguments) h.5,
      h.6,
    )
    expr-formed a (tree.member span left name) h = (
      h.0,
      expr-formed a left h.1,
      at-level a left h.2,
      see (behind-expr a left) (expr_span left).after h.3,
      h.4,
      seen (behind-expr a left) name (λ it. IsTrue (is_identifier it)) h.5,
      h.6,
    )
    expr-formed a (tree.arrow span left name) h = (
      h.0,
      expr-formed a left h.1,
      at-level a left h.2,
      see (behind-expr a left) (expr_span left).after h.3,
      h.4,
      seen (behind-expr a left) name (λ it. IsTrue (is_identifier it)) h.5,
      h.6,
    )
    expr-formed a (tree.postfix span left operator) h = (
      h.0,
      expr-formed a left h.1,
      at-level a left h.2,
      h.3,
      see (behind-expr a left) operator h.4,
      h.5,
    )
    expr-formed a (tree.prefix span operator operand) h = (
      h.0,
      h.1,
      expr-formed a operand h.2,
      (h.3.0, seen a operator (λ it. prefix_level it ≡ Some h.3.0) h.3.1, at-level a operand h.3.2),
      h.4,
    )
    expr-formed a (tree.sizeof_expr span operand) h = (see a span.first h.0, h.1, expr-formed a operand h.2, at-level a operand h.3, h.4)
    expr-formed a (tree.sizeof_name span name) h = (
      see a span.first h.0,
      see a (span.first + 1) h.1,
      h.2,
      type-name-formed a name h.3,
      see (behind-type-name a name) (type_name_span name).after h.4,
      h.5,
    )
    expr-formed a (tree.cast span name operand) h = (
      see a span.first h.0,
      h.1,
      type-name-formed a name h.2,
      see (behind-type-name a name) (type_name_span name).after h.3,
      h.4,
      expr-formed (behind-type-name a name) operand h.5,
      at-level a operand h.6,
      h.7,
    )
    expr-formed a (tree.binary span left operator right) h = (
      h.0,
      expr-formed a left h.1,
      h.2,
      h.3,
      at-level a left h.4,
      h.5,
      expr-formed (behind-expr a left) right h.6,
      at-level a right h.7,
      h.8,
    )
    expr-formed a (tree.conditional span first second third) h = (
      h.0,
      expr-formed a first h.1,
      at-level a first h.2,
      see (behind-expr a first) (expr_span first).after h.3,
      h.4,
      expr-formed (behind-expr a first) second h.5,
      see (behind-expr (behind-expr a first) second) (expr_span second).after h.6,
      h.7,
      expr-formed (behind-expr (behind-expr a first) second) third h.8,
      at-level a third h.9,
      h.10,
    )
    expr-formed a (tree.assign span left operator right) h = (
      h.0,
      expr-formed a left h.1,
      at-level a left h.2,
      h.3,
      h.4,
      h.5,
      expr-formed (behind-expr a left) right h.6,
      at-level a right h.7,
      h.8,
    )
    expr-formed a (tree.comma span tree.no_exprs) h = h
    expr-formed a (tree.comma span (tree.more_exprs first tree.no_exprs)) h = h
    expr-formed a (tree.comma span (tree.more_exprs first (tree.more_exprs second others))) h = (
      h.0,
      expr-formed a first h.1,
      at-level a first h.2,
      more-exprs-formed (behind-expr a first) (expr_span first).after (tree.more_exprs second others) h.3,
      h.4,
    )

    arguments-formed : {names these : List Declared} → Agree tokens one other names these → (at : ℕ) (all : Exprs) → AreArguments here names at all → AreArguments there these at all
    arguments-formed a at tree.no_exprs h = h
    arguments-formed a at (tree.more_exprs first others) h = (
      h.0,
      expr-formed a first h.1,
      at-level a first h.2,
      more-exprs-formed (behind-expr a first) (expr_span first).after others h.3,
    )

    more-exprs-formed : {names these : List Declared} → Agree tokens one other names these → (at : ℕ) (all : Exprs) → AreMoreExprs here names at all → AreMoreExprs there these at all
    more-exprs-formed a at tree.no_exprs h = h
    more-exprs-formed a at (tree.more_exprs first others) h = (
      see a at h.0,
      h.1,
      expr-formed a first h.2,
      at-level a first h.3,
      more-exprs-formed (behind-expr a first) (expr_span first).after others h.4,
    )

    type-name-formed : {names these : List Declared} → Agree tokens one other names these → (it : TypeName) → IsTypeName here names it → IsTypeName there these it
    type-name-formed a (tree.type_name span specifiers declarator) h = (
      h.0,
      specifiers-formed a specifiers h.1,
      h.2,
      declarator-formed (behind-specifiers a specifiers) false declarator h.3,
      h.4,
      h.5,
    )

    specifiers-formed : {names these : List Declared} → Agree tokens one other names these → (it : Specifiers) → IsSpecifiers here names it → IsSpecifiers there these it
    specifiers-formed a (tree.listed span tree.no_words) h = h
    specifiers-formed a (tree.listed span (tree.more_words first others)) h = (
      words-formed a span.first no_type (tree.more_words first others) h.0,
      h.1,
    )

    words-formed : {names these : List Declared} → Agree tokens one other names these → (at : ℕ) (types : Types) (all : Words) → AreWords here names at types all → AreWords there these at types all
    words-formed a at types tree.no_words h = seen a at (EndsBefore types) h
    words-formed {these = these} a at types (tree.more_words first others) h = (
      specifier-formed a at types first h.0,
      subst (λ last. AreWords there (specifier_declares there first ++ these) (specifier_after at first) last others) (types-same a at first types) (words-formed (behind-specifier a first) (specifier_after at first) (types_behind here at first types) others h.1),
    )

    specifier-formed : {names these : List Declared} → Agree tokens one other names these → (at : ℕ) (types : Types) (it : Specifier) → IsSpecifier here names at types it → IsSpecifier there these at types it
    specifier-formed a at types (tree.keyword word) h = (h.0, h.1, h.2)
    specifier-formed a at types (tree.typedef_name name) h = (h.0, see a at h.1, h.2)
    specifier-formed a at types (tree.struct_only span tag) h = (h.0, h.1, see a at h.2, h.3, tag-formed a (at + 1) tag h.4, h.5)
    specifier-formed a at types (tree.struct_with span tag tree.no_members) h = h
    specifier-formed a at types (tree.struct_with span tag (tree.more_members first others)) h = (
      h.0,
      h.1,
      see a at h.2,
      tag-formed a (at + 1) tag h.3,
      see a (tag_after (at + 1) tag) h.4,
      members-formed a (tag_after (at + 1) tag + 1) (tree.more_members first others) h.5,
      see (behind-members a (tree.more_members first others)) (members_after (tag_after (at + 1) tag + 1) (tree.more_members first others)) h.6,
      h.7,
    )
    specifier-formed a at types (tree.enum_only span tag trailing) h = (
      h.0,
      h.1,
      see a at h.2,
      h.3,
      tag-formed a (at + 1) tag h.4,
      h.5,
      h.6,
    )
    specifier-formed a at types (tree.enum_with span tag tree.no_enumerators trailing) h = h
    specifier-formed a at types (tree.enum_with span tag (tree.more_enumerators first others) trailing) h = (
      h.0,
      h.1,
      see a at h.2,
      tag-formed a (at + 1) tag h.3,
      see a (tag_after (at + 1) tag) h.4,
      h.5,
      enumerator-formed a first h.6,
      more-enumerators-formed (behind-enumerator a first) (enumerator_span first).after others h.7,
      trailing-formed (behind-enumerators (behind-enumerator a first) others) (enumerators_after (enumerator_span first).after others) trailing h.8,
      see (behind-enumerators (behind-enumerator a first) others) (trailing_after (enumerators_after (enumerator_span first).after others) trailing) h.9,
      h.10,
    )

    members-formed : {names these : List Declared} → Agree tokens one other names these → (at : ℕ) (all : Members) → AreMembers here names at all → AreMembers there these at all
    members-formed a at tree.no_members h = h
    members-formed a at (tree.more_members first others) h = (
      h.0,
      member-formed a first h.1,
      members-formed (behind-member a first) (member_span first).after others h.2,
    )

    member-formed : {names these : List Declared} → Agree tokens one other names these → (it : Member) → IsMember here names it → IsMember there these it
    member-formed a (tree.members span specifiers tree.no_declarators) h = h
    member-formed a (tree.members span specifiers (tree.more_declarators first others)) h = (
      h.0,
      specifiers-formed a specifiers h.1,
      h.2,
      declarator-formed (behind-specifiers a specifiers) false first h.3,
      h.4,
      more-declarators-formed (behind-declarator (behind-specifiers a specifiers) first) (declarator_span first).after others h.5,
      see (behind-declarators (behind-declarator (behind-specifiers a specifiers) first) others) (declarators_after (declarator_span first).after others) h.6,
      h.7,
    )

    more-declarators-formed : {names these : List Declared} → Agree tokens one other names these → (at : ℕ) (all : Declarators) → AreMoreDeclarators here names at all → AreMoreDeclarators there these at all
    more-declarators-formed a at tree.no_declarators h = h
    more-declarators-formed a at (tree.more_declarators first others) h = (
      see a at h.0,
      h.1,
      declarator-formed a false first h.2,
      h.3,
      more-declarators-formed (behind-declarator a first) (declarator_span first).after others h.4,
    )

    more-enumerators-formed : {names these : List Declared} → Agree tokens one other names these → (at : ℕ) (all : Enumerators) → AreMoreEnumerators here names at all → AreMoreEnumerators there these at all
    more-enumerators-formed a at tree.no_enumerators h = h
    more-enumerators-formed a at (tree.more_enumerators first others) h = (
      see a at h.0,
      h.1,
      enumerator-formed a first h.2,
      more-enumerators-formed (behind-enumerator a first) (enumerator_span first).after others h.3,
    )

    enumerator-formed : {names these : List Declared} → Agree tokens one other names these → (it : Enumerator) → IsEnumerator here names it → IsEnumerator there these it
    enumerator-formed a (tree.bare span name) h = (h.0, seen a name (λ it. IsTrue (is_identifier it)) h.1, h.2)
    enumerator-formed a (tree.valued span name value) h = (
      h.0,
      seen a name (λ it. IsTrue (is_identifier it)) h.1,
      see a (name + 1) h.2,
      h.3,
      expr-formed a value h.4,
      at-level a value h.5,
      h.6,
    )

    declarator-formed : {names these : List Declared} → Agree tokens one other names these → (of_parameter : Bool) (it : Declarator) → IsDeclarator here names of_parameter it → IsDeclarator there these of_parameter it
    declarator-formed a of_parameter (tree.shaped span pointers direct) h = (
      pointers-formed a span.first pointers h.0,
      direct-formed a of_parameter (pointers_after span.first pointers) direct h.1,
      h.2,
    )

    direct-formed : {names these : List Declared} → Agree tokens one other names these → (of_parameter : Bool) (at : ℕ) (it : Direct) → IsDirect here names of_parameter at it → IsDirect there these of_parameter at it
    direct-formed a of_parameter at tree.absent h = h
    direct-formed a of_parameter at (tree.declared name) h = (h.0, seen a at (λ it. IsTrue (is_identifier it)) h.1)
    direct-formed a of_parameter at (tree.enclosed declarator) h = (
      see a at h.0,
      seen a (at + 1) (MayBeEnclosed of_parameter) h.1,
      h.2,
      declarator-formed a of_parameter declarator h.3,
      h.4,
      see (behind-declarator a declarator) (declarator_span declarator).after h.5,
    )
    direct-formed a of_parameter at (tree.array direct) h = (
      direct-formed a of_parameter at direct h.0,
      see (behind-direct a direct) (direct_after at direct) h.1,
      see (behind-direct a direct) (direct_after at direct + 1) h.2,
    )
    direct-formed a of_parameter at (tree.sized direct length) h = (
      direct-formed a of_parameter at direct h.0,
      see (behind-direct a direct) (direct_after at direct) h.1,
      h.2,
      expr-formed (behind-direct a direct) length h.3,
      at-level a length h.4,
      see (behind-expr (behind-direct a direct) length) (expr_span length).after h.5,
    )
    direct-formed a of_parameter at (tree.function direct parameters) h = (
      direct-formed a of_parameter at direct h.0,
      see (behind-direct a direct) (direct_after at direct) h.1,
      parameters-formed (behind-direct a direct) (direct_after at direct + 1) parameters h.2,
      see (behind-parameters (behind-direct a direct) parameters) (parameters_after (direct_after at direct + 1) parameters) h.3,
    )

    parameters-formed : {names these : List Declared} → Agree tokens one other names these → (at : ℕ) (all : Parameters) → AreParameters here names at all → AreParameters there these at all
    parameters-formed a at tree.no_parameters h = h
    parameters-formed a at (tree.more_parameters first others) h = (
      h.0,
      parameter-formed a first h.1,
      more-parameters-formed (behind-parameter a first) (parameter_span first).after others h.2,
    )

    more-parameters-formed : {names these : List Declared} → Agree tokens one other names these → (at : ℕ) (all : Parameters) → AreMoreParameters here names at all → AreMoreParameters there these at all
    more-parameters-formed a at tree.no_parameters h = h
    more-parameters-formed a at (tree.more_parameters first others) h = (
      see a at h.0,
      h.1,
      parameter-formed a first h.2,
      more-parameters-formed (behind-parameter a first) (parameter_span first).after others h.3,
    )

    parameter-formed : {names these : List Declared} → Agree tokens one other names these → (it : Parameter) → IsParameter here names it → IsParameter there these it
    parameter-formed a (tree.parameter span specifiers declarator) h = (
      h.0,
      specifiers-formed a specifiers h.1,
      h.2,
      declarator-formed (behind-specifiers a specifiers) true declarator h.3,
      h.4,
    )

  -- ---- declarations

  mutual
    unfolding IsInitialiser

    initialiser-formed : {names these : List Declared} → Agree tokens one other names these → (it : Initialiser) → IsInitialiser here names it → IsInitialiser there these it
    initialiser-formed a (tree.value span expr) h = (h.0, expr-formed a expr h.1, at-level a expr h.2, h.3)
    initialiser-formed a (tree.braces span tree.no_initialisers trailing) h = h
    initialiser-formed a (tree.braces span (tree.more_initialisers first others) trailing) h = (
      see a span.first h.0,
      h.1,
      initialiser-formed a first h.2,
      more-initialisers-formed (behind-initialiser a first) (initialiser_span first).after others h.3,
      trailing-formed (behind-initialisers (behind-initialiser a first) others) (initialisers_after (initialiser_span first).after others) trailing h.4,
      see (behind-initialisers (behind-initialiser a first) others) (trailing_after (initialisers_after (initialiser_span first).after others) trailing) h.5,
      h.6,
    )

    more-initialisers-formed : {names these : List Declared} → Agree tokens one other names these → (at : ℕ) (all : Initialisers) → AreMoreInitialisers here names at all → AreMoreInitialisers there these at all
    more-initialisers-formed a at tree.no_initialisers h = h
    more-initialisers-formed a at (tree.more_initialisers first others) h = (
      see a at h.0,
      h.1,
      initialiser-formed a first h.2,
      more-initialisers-formed (behind-initialiser a first) (initialiser_span first).after others h.3,
    )

  item-formed : {names these : List Declared} → Agree tokens one other names these → (is_type : Bool) (it : Item) → IsItem here names is_type it → IsItem there these is_type it
  unfolding IsItem
  item-formed a is_type (tree.plain span declarator) h = (h.0, declarator-formed a false declarator h.1, h.2, h.3)
  item-formed a is_type (tree.initialised span declarator initialiser) h = (
    h.0,
    declarator-formed a false declarator h.1,
    h.2,
    see (behind-named a is_type declarator) (declarator_span declarator).after h.3,
    h.4,
    initialiser-formed (behind-named a is_type declarator) initialiser h.5,
    h.6,
  )

  more-items-formed : {names these : List Declared} → Agree tokens one other names these → (is_type : Bool) (at : ℕ) (all : List Item) → AreMoreItems here names is_type at all → AreMoreItems there these is_type at all
  unfolding AreMoreItems
  more-items-formed {names = names} {these = these} a is_type at [] h = h
  more-items-formed {names = names} {these = these} a is_type at (first ∷ others) h = (
    see a at h.0,
    h.1,
    item-formed a is_type first h.2,
    more-items-formed {names = item_declares here is_type first ++ names} {these = item_declares there is_type first ++ these} (behind-item a is_type first) is_type (item_span first).after others h.3,
  )

  items-formed : {names these : List Declared} → Agree tokens one other names these → (is_type : Bool) (at : ℕ) (all : List Item) → AreItems here names is_type at all → AreItems there these is_type at all
  unfolding AreItems
  items-formed a is_type at [] h = h
  items-formed a is_type at (first ∷ others) h = (
    h.0,
    item-formed a is_type first h.1,
    more-items-formed (behind-item a is_type first) is_type (item_span first).after others h.2,
  )

  declaration-formed : {names these : List Declared} → Agree tokens one other names these → (it : Declaration) → IsDeclaration here names it → IsDeclaration there these it
  unfolding IsDeclaration
  declaration-formed {these = these} a (tree.declaring span specifiers items) h = (
    h.0,
    specifiers-formed a specifiers h.1,
    subst (λ is_type. AreItems there (specifiers_declares there specifiers ++ these) is_type (specifiers_span specifiers).after items) (defines-same tokens one other specifiers)
        (items-formed (behind-specifiers a specifiers) (defines_types here specifiers) (specifiers_span specifiers).after items h.2),
    see (behind-declared (behind-specifiers a specifiers) specifiers items) (items_after (specifiers_span specifiers).after items) h.3,
    h.4,
  )

  -- ---- statements

  optional-formed : {names these : List Declared} → Agree tokens one other names these → (at : ℕ) (it : Option Expr) → IsOptional here names at it → IsOptional there these at it
  optional-formed a at None h = h
  optional-formed a at (Some expr) h = (h.0, expr-formed a expr h.1)

  start-formed : {names these : List Declared} → Agree tokens one other names these → (at : ℕ) (it : ForStart) → IsStart here names at it → IsStart there these at it
  unfolding IsStart
  start-formed a at (tree.declares declaration) h = (h.0, declaration-formed a declaration h.1)
  start-formed a at (tree.evaluates expr) h = (optional-formed a at expr h.0, see (behind-optional a expr) (optional_after at expr) h.1)

  enclosed-formed : {names these : List Declared} → Agree tokens one other names these → (at : ℕ) (it : Expr) → IsEnclosed here names at it → IsEnclosed there these at it
  enclosed-formed a at expr h = (see a at h.0, h.1, expr-formed a expr h.2, see (behind-expr a expr) (expr_span expr).after h.3)

  -- what is in scope behind, in the other source
  abbrev Behind : List Declared → (List Declared → Type 0) → Type 0
  Behind last Is = (others : List Declared) × Is others × Agree tokens one other last others

  mutual
    unfolding IsStmt

    stmt-formed : {names these : List Declared} → Agree tokens one other names these → (it : Stmt) → IsStmt here names it → IsStmt there these it
    stmt-formed a (tree.block span items) h =
        let rest = block-items-formed a (span.first + 1) items h.1.0 h.1.1 in
        (see a span.first h.0, (rest.0, rest.1, see rest.2 (block_items_after (span.first + 1) items) h.1.2), h.2)
    stmt-formed a (tree.expression span expr) h = (
      optional-formed a span.first expr h.0,
      see (behind-optional a expr) (optional_after span.first expr) h.1,
      h.2,
    )
    stmt-formed a (tree.if_only span condition body) h = (
      see a span.first h.0,
      enclosed-formed a (span.first + 1) condition h.1,
      h.2,
      stmt-formed (behind-expr a condition) body h.3,
      seen a (stmt_span body).after (λ it. it ≢ symbol.Else) h.4,
      h.5,
    )
    stmt-formed a (tree.if_else span condition body other) h = (
      see a span.first h.0,
      enclosed-formed a (span.first + 1) condition h.1,
      h.2,
      stmt-formed (behind-expr a condition) body h.3,
      see a (stmt_span body).after h.4,
      h.5,
      stmt-formed (behind-expr a condition) other h.6,
      h.7,
    )
    stmt-formed a (tree.switch span subject items) h =
        let rest = switch-items-formed (behind-expr a subject) ((expr_span subject).after + 2) items h.3.0 h.3.1 in (
          see a span.first h.0,
          enclosed-formed a (span.first + 1) subject h.1,
          see a ((expr_span subject).after + 1) h.2,
          (rest.0, rest.1, see rest.2 (switch_items_after ((expr_span subject).after + 2) items) h.3.2),
          h.4,
        )
    stmt-formed a (tree.while span condition body) h = (
      see a span.first h.0,
      enclosed-formed a (span.first + 1) condition h.1,
      h.2,
      stmt-formed (behind-expr a condition) body h.3,
      h.4,
    )
    stmt-formed a (tree.do_while span body condition) h = (
      see a span.first h.0,
      h.1,
      stmt-formed a body h.2,
      see a (stmt_span body).after h.3,
      enclosed-formed a ((stmt_span body).after + 1) condition h.4,
      see a ((expr_span condition).after + 1) h.5,
      h.6,
    )
    stmt-formed a (tree.for_loop span start condition step body) h = (
      see a span.first h.0,
      see a (span.first + 1) h.1,
      start-formed a (span.first + 2) start h.2,
      optional-formed (behind-start a start) (start_after (span.first + 2) start) condition h.3,
      see a (optional_after (start_after (span.first + 2) start) condition) h.4,
      optional-formed (behind-optional (behind-start a start) condition) (optional_after (start_after (span.first + 2) start) condition + 1) step h.5,
      see a (optional_after (optional_after (start_after (span.first + 2) start) condition + 1) step) h.6,
      h.7,
      stmt-formed (behind-optional (behind-optional (behind-start a start) condition) step) body h.8,
      h.9,
    )
    stmt-formed a (tree.break span) h = (see a span.first h.0, see a (span.first + 1) h.1, h.2)
    stmt-formed a (tree.continue span) h = (see a span.first h.0, see a (span.first + 1) h.1, h.2)
    stmt-formed a (tree.return span expr) h = (
      see a span.first h.0,
      optional-formed a (span.first + 1) expr h.1,
      see (behind-optional a expr) (optional_after (span.first + 1) expr) h.2,
      h.3,
    )

    block-items-formed : {names these : List Declared} → Agree tokens one other names these → (at : ℕ) (all : BlockItems) (behind : List Declared) → AreBlockItems here names at all behind → Behind behind (AreBlockItems there these at all)
    block-items-formed {these = these} a at tree.no_items behind h = (these, refl, subst (λ last. Agree tokens one other last these) (sym h) a)
    block-items-formed a at (tree.more_items first others) behind h =
        let rest = block-items-formed (behind-block-item a first) (block_item_span first).after others behind h.2 in
        (rest.0, (h.0, block-item-formed a first h.1, rest.1), rest.2)

    block-item-formed : {names these : List Declared} → Agree tokens one other names these → (it : BlockItem) → IsBlockItem here names it → IsBlockItem there these it
    block-item-formed a (tree.declared_item declaration) h = declaration-formed a declaration h
    block-item-formed a (tree.stated_item stmt) h = stmt-formed a stmt h

    switch-items-formed : {names these : List Declared} → Agree tokens one other names these → (at : ℕ) (all : SwitchItems) (behind : List Declared) → AreSwitchItems here names at all behind → Behind behind (AreSwitchItems there these at all)
    switch-items-formed {these = these} a at tree.no_switch_items behind h = (these, refl, subst (λ last. Agree tokens one other last these) (sym h) a)
    switch-items-formed a at (tree.more_switch_items first others) behind h =
        let rest = switch-items-formed (behind-switch-item a first) (switch_item_span first).after others behind h.2 in
        (rest.0, (h.0, switch-item-formed a first h.1, rest.1), rest.2)

    switch-item-formed : {names these : List Declared} → Agree tokens one other names these → (it : SwitchItem) → IsSwitchItem here names it → IsSwitchItem there these it
    switch-item-formed a (tree.case span label item) h = (
      see a span.first h.0,
      h.1,
      expr-formed a label h.2,
      at-level a label h.3,
      see (behind-expr a label) (expr_span label).after h.4,
      h.5,
      switch-item-formed (behind-expr a label) item h.6,
      h.7,
    )
    switch-item-formed a (tree.default span item) h = (
      see a span.first h.0,
      see a (span.first + 1) h.1,
      h.2,
      switch-item-formed a item h.3,
      h.4,
    )
    switch-item-formed a (tree.unlabelled span stmt) h = (h.0, stmt-formed a stmt h.1, h.2)

  -- ---- external declarations

  pub external-formed : {names these : List Declared} → Agree tokens one other names these → (it : External) → IsExternal here names it → IsExternal there these it
  unfolding IsExternal
  external-formed a (tree.external span declaration) h = (h.0, declaration-formed a declaration h.1, h.2)
  external-formed a (tree.definition span specifiers declarator body) h =
      let inside = behind-specifiers a specifiers in (
        h.0,
        specifiers-formed a specifiers h.1,
        h.2,
        declarator-formed inside false declarator h.3,
        h.4,
        h.5,
        h.6,
        h.7,
        stmt-formed (behind-body (behind-definition inside specifiers declarator) (own_parameters None declarator)) body h.8,
        h.9,
      )

-- ---- a unit

type-if : (test type : Bool) (found : Option Bool) (others : Bool) → unwrap_or found false ≡ others → unwrap_or (cond test (Some type) found) false ≡ (if test then type else others)
type-if true type found others e = refl
type-if false type found others e = e

-- the map says of names what the declarations do that it has besides
known-alike : (tokens : List CToken) (known : NameMap) (declared : List Declared) (name : List ℕ)
    → is_type_in (known_with known declared) name ≡ names_type (source_with tokens known) (declared ++ []) name
unfolding known_with names_type
known-alike tokens known [] name = refl
known-alike tokens known (latest ∷ others) name =
    ap (λ found. unwrap_or found false) (finite.get-insert nat_list_cmp_total (known_with known others) latest.name latest.is_type name
    ∙ (λ i. cond (sym (tied latest.name name) i) (Some latest.is_type) (finite.get (known_with known others) name)))
    ∙ type-if (bytes_eq latest.name name) latest.is_type (finite.get (known_with known others) name) _ (known-alike tokens known others name)

abbrev no_type_outside : List ℕ → Bool
no_type_outside name = false

-- a map that says of names what declarations do still does behind one more external declaration
agree-behind : (tokens : List CToken) (known : NameMap) (names : List Declared) (it : External) → Agree tokens (is_type_in known) no_type_outside [] names
    → Agree tokens (is_type_in (names_behind tokens known it)) no_type_outside [] (external_declares (source_alone tokens) it ++ names)
unfolding names_type
agree-behind tokens known names it a =
    record { says = λ name. known-alike tokens known (external_declares (source_with tokens known) it) name ∙ (behind-external a it).says name }

-- external declarations that are read one by one from such a map on
stand-externals : (tokens : List CToken) (known : NameMap) (names : List Declared) (at to : ℕ) (externals : List External) (last : NameMap) → Agree tokens (is_type_in known) no_type_outside [] names
    → Stand tokens known at externals to last → AreExternals (source_alone tokens) names at externals
unfolding Stand
stand-externals tokens known names at to [] last a h = tt
stand-externals tokens known names at to (it ∷ others) last a h = (
  h.0.begins,
  external-formed tokens (is_type_in known) no_type_outside a it h.0.formed.0,
  stand-externals tokens (names_behind tokens known it) (external_declares (source_alone tokens) it ++ names) (external_span it).after to others last (agree-behind tokens known names it a) h.1,
)

-- where nothing is known yet
nothing-known : (tokens : List CToken) (name : List ℕ) → names_type (source_with tokens finite.empty) [] name ≡ names_type (source_alone tokens) [] name
unfolding names_type
nothing-known tokens name = ap (λ found. unwrap_or found false) (finite.get-empty (slice_cmp nat_cmp) name)

-- the syntax of a unit is well formed in one source, in which no name is a type from outside
pub syntax-externals : (tokens : List CToken) (externals : List External) → IsSyntax tokens externals → AreExternals (source_alone tokens) [] 0 externals
syntax-externals tokens externals h = stand-externals tokens finite.empty [] 0 (length tokens) externals h.0 (record { says = nothing-known tokens }) h.1
