-- Well-formed trees end behind where they begin.
use Rattle.std.proofs.Common.{◌≡◌, ℕ, ◌+◌, ◌<◌, ◌≤◌, Bool, true, false, List, [], ◌∷◌, Option, Some, None, sym, ap, ◌∙◌, arith, length, ⊎_elim}
use Rattle.std.proofs.lemmas.Option.{slice_get_cases}
use Rattle.dm_syn.specs.declared.declared.Declared.{Declared}
use Rattle.dm_syn.specs.declared.symbol.Symbol.{Symbol}
use Rattle.dm_syn.specs.declared.symbol.Symbol.TheVariants as symbol
use Rattle.dm_syn.specs.Sources.{Source, symbol_at, symbol_in, seen_as, names_type, spelling_at, symbol_of_token}
use Rattle.dm_syn.specs.Trees.{Expr, Exprs, TypeName, Specifiers, Words, Specifier, Members, Member, Declarators, Enumerators, Enumerator, Declarator, Direct, Parameters, Parameter}
use Rattle.dm_syn.specs.Trees as tree
use Rattle.dm_syn.specs.Spans.{expr_span, exprs_after, type_name_span, specifiers_span, specifier_after, words_after, member_span, members_after, declarator_span, declarators_after, enumerator_span, enumerators_after, parameter_span, parameters_after, pointers_after, direct_after}
use Rattle.dm_syn.specs.Grammar.{IsExpr, AreArguments, AreMoreExprs, IsTypeName, IsSpecifiers, AreWords, Types, IsSpecifier, AreMembers, IsMember, AreMoreDeclarators, AreMoreEnumerators, IsEnumerator, IsDeclarator, IsDirect, AreParameters, AreMoreParameters, IsParameter, tag_after, trailing_after}

-- pointers only go on
pub pointers-on : (at : ℕ) (stars : List ℕ) → at ≤ pointers_after at stars
pointers-on at [] = omega arith
pointers-on at (consts ∷ others) = omega (arith, pointers-on (at + 1 + consts) others)

tag-on : (at : ℕ) (tag : Option ℕ) → at ≤ tag_after at tag
tag-on at None = omega arith
tag-on at (Some tag) = omega arith

pub trailing-on : (at : ℕ) (trailing : Bool) → at ≤ trailing_after at trailing
trailing-on at true = omega arith
trailing-on at false = omega arith

mutual
  unfolding IsExpr AreArguments AreMoreExprs IsTypeName IsSpecifiers AreWords IsSpecifier AreMembers IsMember AreMoreDeclarators AreMoreEnumerators IsEnumerator IsDeclarator IsDirect AreParameters AreMoreParameters IsParameter

  pub expr-on : (source : Source) (names : List Declared) (expr : Expr) → IsExpr source names expr → (expr_span expr).first < (expr_span expr).after
  expr-on source names (tree.name span) h = omega (arith, h.1)
  expr-on source names (tree.constant span) h = omega (arith, h.1)
  expr-on source names (tree.literal span) h = omega (arith, h.1)
  expr-on source names (tree.paren span inner) h = omega (arith, h.1, h.4, expr-on source _ inner h.2)
  expr-on source names (tree.index span left right) h = omega (arith, h.0, h.4, h.7, expr-on source _ left h.1, expr-on source _ right h.5)
  expr-on source names (tree.call span callee arguments) h = omega (arith, h.0, h.6, expr-on source _ callee h.1, arguments-on source _ _ arguments h.4)
  expr-on source names (tree.member span left name) h = omega (arith, h.0, h.4, h.6, expr-on source _ left h.1)
  expr-on source names (tree.arrow span left name) h = omega (arith, h.0, h.4, h.6, expr-on source _ left h.1)
  expr-on source names (tree.postfix span left operator) h = omega (arith, h.0, h.3, h.5, expr-on source _ left h.1)
  expr-on source names (tree.prefix span operator operand) h = omega (arith, h.0, h.1, h.4, expr-on source _ operand h.2)
  expr-on source names (tree.sizeof_expr span operand) h = omega (arith, h.1, h.4, expr-on source _ operand h.2)
  expr-on source names (tree.sizeof_name span name) h = omega (arith, h.2, h.5, type-name-on source _ name h.3)
  expr-on source names (tree.cast span name operand) h = omega (arith, h.1, h.4, h.7, type-name-on source _ name h.2, expr-on source _ operand h.5)
  expr-on source names (tree.binary span left operator right) h = omega (arith, h.0, h.2, h.5, h.8, expr-on source _ left h.1, expr-on source _ right h.6)
  expr-on source names (tree.conditional span first second third) h =
      omega (arith, h.0, h.4, h.7, h.10, expr-on source _ first h.1, expr-on source _ second h.5, expr-on source _ third h.8)
  expr-on source names (tree.assign span left operator right) h = omega (arith, h.0, h.3, h.5, h.8, expr-on source _ left h.1, expr-on source _ right h.6)
  expr-on source names (tree.comma span tree.no_exprs) h = absurd h
  expr-on source names (tree.comma span (tree.more_exprs first tree.no_exprs)) h = absurd h
  expr-on source names (tree.comma span (tree.more_exprs first (tree.more_exprs second others))) h =
      omega (arith, h.0, h.4, expr-on source _ first h.1, more-exprs-on source _ _ (tree.more_exprs second others) h.3)

  pub arguments-on : (source : Source) (names : List Declared) (at : ℕ) (exprs : Exprs) → AreArguments source names at exprs → at ≤ exprs_after at exprs
  arguments-on source names at tree.no_exprs h = omega arith
  arguments-on source names at (tree.more_exprs first others) h = omega (arith, h.0, expr-on source _ first h.1, more-exprs-on source _ _ others h.3)

  pub more-exprs-on : (source : Source) (names : List Declared) (at : ℕ) (exprs : Exprs) → AreMoreExprs source names at exprs → at ≤ exprs_after at exprs
  more-exprs-on source names at tree.no_exprs h = omega arith
  more-exprs-on source names at (tree.more_exprs first others) h = omega (arith, h.1, expr-on source _ first h.2, more-exprs-on source _ _ others h.4)

  pub type-name-on : (source : Source) (names : List Declared) (name : TypeName) → IsTypeName source names name → (type_name_span name).first < (type_name_span name).after
  type-name-on source names (tree.type_name span specifiers declarator) h =
      omega (arith, h.0, h.2, h.5, specifiers-on source _ specifiers h.1, declarator-on source _ false declarator h.3)

  pub specifiers-on : (source : Source) (names : List Declared) (specifiers : Specifiers) → IsSpecifiers source names specifiers → (specifiers_span specifiers).first < (specifiers_span specifiers).after
  specifiers-on source names (tree.listed span tree.no_words) h = absurd h
  specifiers-on source names (tree.listed span (tree.more_words first others)) h =
      omega (arith, h.1, specifier-on source _ _ _ first h.0.0, words-on source _ _ _ others h.0.1)

  pub words-on : (source : Source) (names : List Declared) (at : ℕ) (types : Types) (words : Words) → AreWords source names at types words → at ≤ words_after at words
  words-on source names at types tree.no_words h = omega arith
  words-on source names at types (tree.more_words first others) h = omega (arith, specifier-on source _ _ _ first h.0, words-on source _ _ _ others h.1)

  pub specifier-on : (source : Source) (names : List Declared) (at : ℕ) (types : Types) (specifier : Specifier) → IsSpecifier source names at types specifier → at < specifier_after at specifier
  specifier-on source names at types (tree.keyword word) h = omega arith
  specifier-on source names at types (tree.typedef_name name) h = omega arith
  specifier-on source names at types (tree.struct_only span tag) h = omega (arith, h.5)
  specifier-on source names at types (tree.struct_with span tag tree.no_members) h = absurd h
  specifier-on source names at types (tree.struct_with span tag (tree.more_members first others)) h =
      omega (arith, h.7, tag-on (at + 1) tag, members-on source _ _ (tree.more_members first others) h.5)
  specifier-on source names at types (tree.enum_only span tag trailing) h = omega (arith, h.6)
  specifier-on source names at types (tree.enum_with span tag tree.no_enumerators trailing) h = absurd h
  specifier-on source names at types (tree.enum_with span tag (tree.more_enumerators first others) trailing) h =
      omega (
        arith,
        h.5,
        h.10,
        tag-on (at + 1) tag,
        enumerator-on source _ first h.6,
        enumerators-on source _ _ others h.7,
        trailing-on (enumerators_after (enumerator_span first).after others) trailing,
      )

  pub members-on : (source : Source) (names : List Declared) (at : ℕ) (members : Members) → AreMembers source names at members → at ≤ members_after at members
  members-on source names at tree.no_members h = omega arith
  members-on source names at (tree.more_members first others) h = omega (arith, h.0, member-on source _ first h.1, members-on source _ _ others h.2)

  pub member-on : (source : Source) (names : List Declared) (member : Member) → IsMember source names member → (member_span member).first < (member_span member).after
  member-on source names (tree.members span specifiers tree.no_declarators) h = absurd h
  member-on source names (tree.members span specifiers (tree.more_declarators first others)) h =
      omega (arith, h.0, h.2, h.7, specifiers-on source _ specifiers h.1, declarator-on source _ false first h.3, declarators-on source _ _ others h.5)

  pub declarators-on : (source : Source) (names : List Declared) (at : ℕ) (declarators : Declarators) → AreMoreDeclarators source names at declarators → at ≤ declarators_after at declarators
  declarators-on source names at tree.no_declarators h = omega arith
  declarators-on source names at (tree.more_declarators first others) h =
      omega (arith, h.1, declarator-on source _ false first h.2, declarators-on source _ _ others h.4)

  pub enumerators-on : (source : Source) (names : List Declared) (at : ℕ) (enumerators : Enumerators) → AreMoreEnumerators source names at enumerators → at ≤ enumerators_after at enumerators
  enumerators-on source names at tree.no_enumerators h = omega arith
  enumerators-on source names at (tree.more_enumerators first others) h =
      omega (arith, h.1, enumerator-on source _ first h.2, enumerators-on source _ _ others h.3)

  pub enumerator-on : (source : Source) (names : List Declared) (enumerator : Enumerator) → IsEnumerator source names enumerator → (enumerator_span enumerator).first < (enumerator_span enumerator).after
  enumerator-on source names (tree.bare span name) h = omega (arith, h.0, h.2)
  enumerator-on source names (tree.valued span name value) h = omega (arith, h.0, h.3, h.6, expr-on source _ value h.4)

  pub declarator-on : (source : Source) (names : List Declared) (of_parameter : Bool) (declarator : Declarator) → IsDeclarator source names of_parameter declarator → (declarator_span declarator).first ≤ (declarator_span declarator).after
  declarator-on source names of_parameter (tree.shaped span pointers direct) h =
      omega (arith, h.2, pointers-on span.first pointers, direct-on source _ of_parameter _ direct h.1)

  pub direct-on : (source : Source) (names : List Declared) (of_parameter : Bool) (at : ℕ) (direct : Direct) → IsDirect source names of_parameter at direct → at ≤ direct_after at direct
  direct-on source names of_parameter at tree.absent h = omega arith
  direct-on source names of_parameter at (tree.declared name) h = omega arith
  direct-on source names of_parameter at (tree.enclosed declarator) h = omega (arith, h.2, declarator-on source _ of_parameter declarator h.3)
  direct-on source names of_parameter at (tree.array direct) h = omega (arith, direct-on source _ of_parameter at direct h.0)
  direct-on source names of_parameter at (tree.sized direct length) h =
      omega (arith, h.2, direct-on source _ of_parameter at direct h.0, expr-on source _ length h.3)
  direct-on source names of_parameter at (tree.function direct parameters) h =
      omega (arith, direct-on source _ of_parameter at direct h.0, parameters-on source _ _ parameters h.2)

  pub parameters-on : (source : Source) (names : List Declared) (at : ℕ) (parameters : Parameters) → AreParameters source names at parameters → at ≤ parameters_after at parameters
  parameters-on source names at tree.no_parameters h = omega arith
  parameters-on source names at (tree.more_parameters first others) h =
      omega (arith, h.0, parameter-on source _ first h.1, more-parameters-on source _ _ others h.2)

  pub more-parameters-on : (source : Source) (names : List Declared) (at : ℕ) (parameters : Parameters) → AreMoreParameters source names at parameters → at ≤ parameters_after at parameters
  more-parameters-on source names at tree.no_parameters h = omega arith
  more-parameters-on source names at (tree.more_parameters first others) h =
      omega (arith, h.1, parameter-on source _ first h.2, more-parameters-on source _ _ others h.3)

  pub parameter-on : (source : Source) (names : List Declared) (parameter : Parameter) → IsParameter source names parameter → (parameter_span parameter).first < (parameter_span parameter).after
  parameter-on source names (tree.parameter span specifiers declarator) h =
      omega (arith, h.0, h.2, h.4, specifiers-on source _ specifiers h.1, declarator-on source _ true declarator h.3)

-- a symbol other than the end stands at a token
pub present : (source : Source) (names : List Declared) (at : ℕ) (it : Symbol) → symbol_in source names at ≡ it → (it ≡ symbol.End → ⊥) → at < length source.tokens
unfolding symbol_in symbol_at
present source names at it h differs =
    ⊎_elim (λ found. found.1)
    (λ past. absurd (differs (sym h ∙ ap (λ token. seen_as (symbol_of_token token) (names_type source names (spelling_at source at))) past.1)))
    (slice_get_cases source.tokens at).1
