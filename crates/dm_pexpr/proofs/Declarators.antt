-- Well-formed type names and declarators are read from their tokens, where what reads their parts does so.
use Rattle.std.proofs.Common.{◌≡◌, ℕ, zero, suc, ◌+◌, ◌<◌, ◌≤◌, Bool, true, false, not, ◌&&◌, ◌||◌, List, [], ◌∷◌, ◌++◌, Option, Some, None, IsSome, refl, sym, ap, ◌∙◌, subst, arith, length, append_assoc}
use Rattle.dm_token.specs.declared.place.Span.{Span}
use Rattle.dm_token.specs.Limits.{greatest_height}
use Rattle.dm_syn.specs.declared.declared.Declared.{Declared}
use Rattle.dm_syn.specs.declared.symbol.Symbol.{Symbol}
use Rattle.dm_syn.specs.declared.symbol.Symbol.TheVariants as symbol
use Rattle.dm_syn.specs.Symbols.{is, is_identifier, begins_specifiers}
use Rattle.dm_syn.specs.Sources.{Source, symbol_at, symbol_in, names_type, spelling_at}
use Rattle.dm_syn.specs.Trees.{Expr, TypeName, Specifiers, Specifier, Words, Declarator, Direct, Parameters, Parameter}
use Rattle.dm_syn.specs.Trees as tree
use Rattle.dm_syn.specs.Spans.{expr_span, type_name_span, specifiers_span, declarator_span, parameter_span, parameters_after, pointers_after, direct_after}
use Rattle.dm_syn.specs.Scopes.{declarator_name, direct_name, expr_declares, type_name_declares, specifiers_declares, declarator_declares, direct_declares, parameter_declares, parameters_declares}
use Rattle.dm_syn.specs.Heights.{expr_height, type_name_height, specifiers_height, specifier_height, declarator_height, direct_height, parameters_height, parameter_height, named_node, is_absent}
use Rattle.dm_syn.specs.Grammar.{level, Types, no_type, IsExpr, IsTypeName, IsSpecifiers, AreWords, IsSpecifier, IsDeclarator, IsDirect, ArePointers, AreConsts, AreParameters, AreMoreParameters, IsParameter, IsNotEmpty, MayBeEnclosed}
use Rattle.dm_pexpr.specs.Parsing.{Parts, Shape, named, abstract, of_parameter, span_of, checked, all_turns, and_then, suffix_kind, type_name_of, type_name_from, type_name_with, consts, pointers, parameter_of, parameter_from, parameter_with, prepend_parameter, more_parameters_from, more_parameters, parameters_of, enclosed_from, encloses, takes_name, core, sized_from, function_from, array_of, function_of, suffixed, declarator_with, declarator_behind, declarator_of}
use Rattle.dm_pexpr.proofs.Positions.{parameter-on, present}
use Rattle.dm_pexpr.proofs.SymbolLemmas.{seen-word, stops-none, front-no-bracket}
use Rattle.dm_pexpr.proofs.SpecifierSymbols.{follows_specifiers, follows_declarator, declarator-specifiers, declarator-no-star, declarator-no-const, declarator-no-bracket, declarator-no-paren, declarator-no-name, identifier-follows, identifier-no-star, identifier-no-const, identifier-begins, identifier-no-paren, specifier-no-right-paren, word-begins, follows-alike}
use Rattle.dm_pexpr.proofs.Expressions.{Follows, fits, holds, it-is, fronts, if-true, if-false, both-tests}
use Rattle.dm_pexpr.proofs.TestLemmas.{first-no, second-no}

-- whether a declarator of this shape is a parameter's
abbrev pub of_a_parameter : Shape → Bool
of_a_parameter named = false
of_a_parameter abstract = false
of_a_parameter of_parameter = true

-- whether a name may stand there
abbrev pub HasShape : Shape → Option ℕ → Type 0
HasShape named name = IsSome name
HasShape abstract name = name ≡ None
HasShape of_parameter name = Unit {0}

-- the trees of at most this height are read
pub record ReadsParts (source : Source) (parts : Parts) (depth : ℕ) : Type 0 where
  pub expr : (least : ℕ) (names : List Declared) (expr : Expr) → IsExpr source names expr → least ≤ level source expr → expr_height expr ≤ depth → expr_height expr ≤ greatest_height
      → Follows source least (expr_declares source expr ++ names) (expr_span expr).after → parts.expr least names (expr_span expr).first ≡ Some expr
  pub specifiers : (names : List Declared) (it : Specifiers) → IsSpecifiers source names it → specifiers_height it ≤ depth → specifiers_height it ≤ greatest_height
      → follows_specifiers (symbol_in source (specifiers_declares source it ++ names) (specifiers_span it).after) ≡ true → parts.specifiers names (specifiers_span it).first ≡ Some it
  pub declarator : (shape : Shape) (names : List Declared) (it : Declarator) → IsDeclarator source names (of_a_parameter shape) it → HasShape shape (declarator_name it)
      → 1 ≤ depth → declarator_height it ≤ depth → declarator_height it ≤ greatest_height
      → follows_declarator (symbol_in source (declarator_declares source it ++ names) (declarator_span it).after) ≡ true → parts.declarator shape names (declarator_span it).first ≡ Some it

-- what holds of the symbol at a direct declarator
direct-symbol : (source : Source) (direct : Direct) (names : List Declared) (flag : Bool) (at : ℕ) (P : Symbol → Type 0) → IsDirect source names flag at direct
    → P (symbol_in source (direct_declares source direct ++ names) (direct_after at direct)) → P symbol.LeftBracket → P symbol.LeftParen
    → ((it : Symbol) → is_identifier it ≡ true → P it) → P (symbol_in source names at)
unfolding IsDirect direct_declares
direct-symbol source tree.absent names flag at P h behind bracket paren identifier = behind
direct-symbol source (tree.declared name) names flag at P h behind bracket paren identifier = identifier _ h.1
direct-symbol source (tree.enclosed declarator) names flag at P h behind bracket paren identifier = subst P (sym h.0) paren
direct-symbol source (tree.array direct) names flag at P h behind bracket paren identifier =
    direct-symbol source direct names flag at P h.0 (subst P (sym h.1) bracket) bracket paren identifier
direct-symbol source (tree.sized direct length) names flag at P h behind bracket paren identifier =
    direct-symbol source direct names flag at P h.0 (subst P (sym h.1) bracket) bracket paren identifier
direct-symbol source (tree.function direct parameters) names flag at P h behind bracket paren identifier =
    direct-symbol source direct names flag at P h.0 (subst P (sym h.1) paren) bracket paren identifier

-- what a declarator begins with may stand behind specifiers
pub declarator-begins : (source : Source) (names : List Declared) (flag : Bool) (it : Declarator) → IsDeclarator source names flag it
    → follows_specifiers (symbol_in source (declarator_declares source it ++ names) (declarator_span it).after) ≡ true → follows_specifiers (symbol_in source names (declarator_span it).first) ≡ true
unfolding IsDeclarator declarator_declares
declarator-begins source names flag (tree.shaped span [] direct) h f =
    direct-symbol source direct names flag span.first (λ (it : Symbol). follows_specifiers it ≡ true) h.1
    (subst (λ (at : ℕ). follows_specifiers (symbol_in source (direct_declares source direct ++ names) at) ≡ true) h.2 f) refl refl identifier-follows
declarator-begins source names flag (tree.shaped span (consts ∷ others) direct) h f = ap follows_specifiers h.0.0

-- what a declarator in parentheses begins with
pub data Opens (name : Option ℕ) (it : Symbol) : Type 0 where
  by_sign : is it symbol.RightParen ≡ false → begins_specifiers it ≡ false → Opens name it
  by_name : is_identifier it ≡ true → IsSome name → Opens name it

pub it-is-not : (it one other : Symbol) → it ≡ one → is one other ≡ false → is it other ≡ false
it-is-not it one other h differs = ap (λ (this : Symbol). is this other) h ∙ differs

opens-behind : (source : Source) (direct : Direct) (names : List Declared) (flag : Bool) (at : ℕ) → IsDirect source names flag at direct
    → Opens (direct_name direct) (symbol_in source (direct_declares source direct ++ names) (direct_after at direct)) → Opens (direct_name direct) (symbol_in source names at)
unfolding IsDirect direct_declares
opens-behind source tree.absent names flag at h o = o
opens-behind source (tree.declared name) names flag at h o = by_name h.1 refl
opens-behind source (tree.enclosed declarator) names flag at h o = by_sign (it-is-not _ symbol.LeftParen symbol.RightParen h.0 refl) (ap begins_specifiers h.0)
opens-behind source (tree.array direct) names flag at h o =
    opens-behind source direct names flag at h.0 (by_sign (it-is-not _ symbol.LeftBracket symbol.RightParen h.1 refl) (ap begins_specifiers h.1))
opens-behind source (tree.sized direct length) names flag at h o =
    opens-behind source direct names flag at h.0 (by_sign (it-is-not _ symbol.LeftBracket symbol.RightParen h.1 refl) (ap begins_specifiers h.1))
opens-behind source (tree.function direct parameters) names flag at h o =
    opens-behind source direct names flag at h.0 (by_sign (it-is-not _ symbol.LeftParen symbol.RightParen h.1 refl) (ap begins_specifiers h.1))

opens-direct : (source : Source) (direct : Direct) (names : List Declared) (flag : Bool) (at : ℕ) (span : Span) → IsDirect source names flag at direct
    → IsNotEmpty (tree.shaped span [] direct) → Opens (direct_name direct) (symbol_in source names at)
unfolding IsDirect direct_declares
opens-direct source tree.absent names flag at span h some = absurd some
opens-direct source (tree.declared name) names flag at span h some = by_name h.1 refl
opens-direct source (tree.enclosed declarator) names flag at span h some = by_sign (it-is-not _ symbol.LeftParen symbol.RightParen h.0 refl) (ap begins_specifiers h.0)
opens-direct source (tree.array direct) names flag at span h some =
    opens-behind source direct names flag at h.0 (by_sign (it-is-not _ symbol.LeftBracket symbol.RightParen h.1 refl) (ap begins_specifiers h.1))
opens-direct source (tree.sized direct length) names flag at span h some =
    opens-behind source direct names flag at h.0 (by_sign (it-is-not _ symbol.LeftBracket symbol.RightParen h.1 refl) (ap begins_specifiers h.1))
opens-direct source (tree.function direct parameters) names flag at span h some =
    opens-behind source direct names flag at h.0 (by_sign (it-is-not _ symbol.LeftParen symbol.RightParen h.1 refl) (ap begins_specifiers h.1))

opens : (source : Source) (it : Declarator) (names : List Declared) (flag : Bool) → IsDeclarator source names flag it → IsNotEmpty it
    → Opens (declarator_name it) (symbol_in source names (declarator_span it).first)
unfolding IsDeclarator
opens source (tree.shaped span [] direct) names flag h some = opens-direct source direct names flag span.first span h.1 some
opens source (tree.shaped span (consts ∷ others) direct) names flag h some =
    by_sign (it-is-not _ symbol.Star symbol.RightParen h.0.0 refl) (ap begins_specifiers h.0.0)

neither : (one other : Bool) → one ≡ false → other ≡ false → not (one || other) ≡ true
neither one other h k = ap (λ (it : Bool). not (it || other)) h ∙ ap not k

-- so the parenthesis encloses it
encloses-it : (shape : Shape) (name : Option ℕ) (next : Symbol) → HasShape shape name → MayBeEnclosed (of_a_parameter shape) next → Opens name next → encloses shape next ≡ true
encloses-it named name next s m o = refl
encloses-it abstract name next s m (by_sign p b) = neither _ _ p b
encloses-it abstract None next s m (by_name i n) = absurd (cc)
encloses-it abstract (Some name) next s m (by_name i n) = absurd (cc)
encloses-it of_parameter name next s m (by_sign p b) = neither _ _ p b
encloses-it of_parameter name next s m (by_name i n) = neither _ _ (identifier-no-paren next i) (identifier-begins next i m)

-- what stands behind nothing doesn't go into the declarator
abbrev pub Free : Source → Shape → List Declared → ℕ → Type 0
Free source named names at = Unit {0}
Free source abstract names at = (is (symbol_in source names at) symbol.LeftParen && encloses abstract (symbol_in source names (at + 1))) ≡ false
Free source of_parameter names at =
    (is_identifier (symbol_in source names at) ≡ false)
    × ((is (symbol_in source names at) symbol.LeftParen && encloses of_parameter (symbol_in source names (at + 1))) ≡ false)

-- where it is no parenthesis and no name
free-of : (source : Source) (shape : Shape) (names : List Declared) (at : ℕ) → is_identifier (symbol_in source names at) ≡ false → is (symbol_in source names at) symbol.LeftParen ≡ false
    → Free source shape names at
free-of source named names at i p = tt
free-of source abstract names at i p = first-no _ _ p
free-of source of_parameter names at i p = (i, first-no _ _ p)

either-way : (one other : Bool) → other ≡ true → not (one || other) ≡ false
either-way true other h = refl
either-way false other h = ap not h

-- where it is the parenthesis of a parameter list
free-list : (source : Source) (shape : Shape) (names : List Declared) (at : ℕ) → symbol_in source names at ≡ symbol.LeftParen
    → not (is (symbol_in source names (at + 1)) symbol.RightParen || begins_specifiers (symbol_in source names (at + 1))) ≡ false → Free source shape names at
free-list source named names at p l = tt
free-list source abstract names at p l = second-no _ _ l
free-list source of_parameter names at p l = (ap is_identifier p, second-no _ _ l)

-- specifiers begin with one
specifier-begins : (source : Source) (names : List Declared) (at : ℕ) (types : Types) (it : Specifier) → IsSpecifier source names at types it → begins_specifiers (symbol_in source names at) ≡ true
unfolding IsSpecifier symbol_in
specifier-begins source names at types (tree.keyword word) h =
    ap begins_specifiers (seen-word (symbol_at source at) (names_type source names (spelling_at source at)) h.1) ∙ word-begins (symbol_at source at) h.1
specifier-begins source names at types (tree.typedef_name name) h = ap begins_specifiers h.1
specifier-begins source names at types (tree.struct_only span tag) h = ap begins_specifiers h.2
specifier-begins source names at types (tree.struct_with span tag tree.no_members) h = absurd h
specifier-begins source names at types (tree.struct_with span tag (tree.more_members first others)) h = ap begins_specifiers h.2
specifier-begins source names at types (tree.enum_only span tag trailing) h = ap begins_specifiers h.2
specifier-begins source names at types (tree.enum_with span tag tree.no_enumerators trailing) h = absurd h
specifier-begins source names at types (tree.enum_with span tag (tree.more_enumerators first others) trailing) h = ap begins_specifiers h.2

pub specifiers-begin : (source : Source) (names : List Declared) (it : Specifiers) → IsSpecifiers source names it → begins_specifiers (symbol_in source names (specifiers_span it).first) ≡ true
unfolding IsSpecifiers AreWords
specifiers-begin source names (tree.listed span tree.no_words) h = absurd h
specifiers-begin source names (tree.listed span (tree.more_words first others)) h = specifier-begins source names span.first no_type first h.0.0

pub name-begins : (source : Source) (names : List Declared) (it : TypeName) → IsTypeName source names it → begins_specifiers (symbol_in source names (type_name_span it).first) ≡ true
unfolding IsTypeName
name-begins source names (tree.type_name span specifiers declarator) h =
    ap (λ (at : ℕ). begins_specifiers (symbol_in source names at)) (sym h.0) ∙ specifiers-begin source names specifiers h.1

parameter-begins : (source : Source) (names : List Declared) (it : Parameter) → IsParameter source names it → begins_specifiers (symbol_in source names (parameter_span it).first) ≡ true
unfolding IsParameter
parameter-begins source names (tree.parameter span specifiers declarator) h =
    ap (λ (at : ℕ). begins_specifiers (symbol_in source names at)) (sym h.0) ∙ specifiers-begin source names specifiers h.1

-- what begins a parameter list behind a parenthesis
list-begins : (source : Source) (names : List Declared) (at : ℕ) (parameters : Parameters) → AreParameters source names at parameters
    → symbol_in source (parameters_declares source parameters ++ names) (parameters_after at parameters) ≡ symbol.RightParen
    → not (is (symbol_in source names at) symbol.RightParen || begins_specifiers (symbol_in source names at)) ≡ false
unfolding AreParameters
list-begins source names at tree.no_parameters h e = ap (λ (it : Symbol). not (is it symbol.RightParen || begins_specifiers it)) e
list-begins source names at (tree.more_parameters first others) h e =
    either-way _ _ (ap (λ (place : ℕ). begins_specifiers (symbol_in source names place)) (sym h.0) ∙ parameter-begins source names first h.1)

-- the heights of specifiers
specifier-high : (it : Specifier) → 1 ≤ specifier_height it
unfolding specifier_height
specifier-high (tree.keyword word) = omega arith
specifier-high (tree.typedef_name name) = omega arith
specifier-high (tree.struct_only span tag) = omega arith
specifier-high (tree.struct_with span tag members) = omega arith
specifier-high (tree.enum_only span tag trailing) = omega arith
specifier-high (tree.enum_with span tag enumerators trailing) = omega arith

pub specifiers-high : (source : Source) (names : List Declared) (it : Specifiers) → IsSpecifiers source names it → 1 ≤ specifiers_height it
unfolding IsSpecifiers specifiers_height
specifiers-high source names (tree.listed span tree.no_words) h = absurd h
specifiers-high source names (tree.listed span (tree.more_words first tree.no_words)) h = omega (arith, specifier-high first)
specifiers-high source names (tree.listed span (tree.more_words first (tree.more_words second others))) h = omega arith

-- the heights of specifiers and a declarator are within that of both
pub named-within : (specifiers : ℕ) (it : Declarator) (most : ℕ) → named_node specifiers it (declarator_height it) ≤ most → (specifiers ≤ most) × (declarator_height it ≤ most)
unfolding declarator_height
named-within specifiers (tree.shaped span [] tree.absent) most h = (h, omega arith)
named-within specifiers (tree.shaped span [] (tree.declared name)) most h = (omega (arith, h), omega (arith, h))
named-within specifiers (tree.shaped span [] (tree.enclosed declarator)) most h = (omega (arith, h), omega (arith, h))
named-within specifiers (tree.shaped span [] (tree.array direct)) most h = (omega (arith, h), omega (arith, h))
named-within specifiers (tree.shaped span [] (tree.sized direct length)) most h = (omega (arith, h), omega (arith, h))
named-within specifiers (tree.shaped span [] (tree.function direct parameters)) most h = (omega (arith, h), omega (arith, h))
named-within specifiers (tree.shaped span (consts ∷ others) direct) most h = (omega (arith, h), omega (arith, h))

neither-stands : (one other : Bool) → one ≡ false → other ≡ false → (one || other) ≡ false
neither-stands one other h k = ap (λ (it : Bool). it || other) h ∙ k

-- a direct declarator is no higher than the declarator
direct-low : (stars : List ℕ) (direct : Direct) (most : ℕ) (span : Span) → declarator_height (tree.shaped span stars direct) ≤ most → direct_height direct ≤ most
unfolding declarator_height
direct-low [] direct most span h = h
direct-low (consts ∷ others) direct most span h = omega (arith, h)

-- `const`, so many
consts-read : (source : Source) (count turns : ℕ) (names : List Declared) (at : ℕ) → AreConsts source names at count → length source.tokens < at + turns
    → is (symbol_in source names (at + count)) symbol.Const ≡ false → consts source names turns at ≡ count
unfolding consts
consts-read source zero zero names at h t e = refl
consts-read source zero (suc turns) names at h t e = if-false _ _ _ (ap (λ (place : ℕ). is (symbol_in source names place) symbol.Const) (let p : at ≡ at + 0 = omega arith in p) ∙ e)
consts-read source (suc count) zero names at h t e =
    absurd (omega (arith, t, present source names at symbol.Const h.0 (λ (it : symbol.Const ≡ symbol.End). cc)))
consts-read source (suc count) (suc turns) names at h t e =
    if-true _ _ _ (it-is (symbol_in source names at) symbol.Const h.0)
    ∙ ap (λ (n : ℕ). n + 1) (consts-read source count turns names (at + 1) h.1 (omega (arith, t))
    (ap (λ (place : ℕ). is (symbol_in source names place) symbol.Const) (let p : at + 1 + count ≡ at + suc count = omega arith in p) ∙ e))
    ∙ (let p : count + 1 ≡ suc count = omega arith in p)

-- no `const` stands behind the first of some pointers
next-no-const : (source : Source) (others : List ℕ) (names : List Declared) (at : ℕ) → ArePointers source names at others
    → is (symbol_in source names (pointers_after at others)) symbol.Const ≡ false → is (symbol_in source names at) symbol.Const ≡ false
next-no-const source [] names at h e = e
next-no-const source (count ∷ others) names at h e = it-is-not _ symbol.Star symbol.Const h.0 refl

pointers-read : (source : Source) (stars : List ℕ) (turns : ℕ) (names : List Declared) (at : ℕ) → ArePointers source names at stars → length source.tokens < at + turns
    → is (symbol_in source names (pointers_after at stars)) symbol.Star ≡ false → is (symbol_in source names (pointers_after at stars)) symbol.Const ≡ false
    → pointers source names turns at ≡ stars
unfolding pointers
pointers-read source [] zero names at h t s c = refl
pointers-read source [] (suc turns) names at h t s c = if-false _ _ _ s
pointers-read source (count ∷ others) zero names at h t s c =
    absurd (omega (arith, t, present source names at symbol.Star h.0 (λ (it : symbol.Star ≡ symbol.End). cc)))
pointers-read source (count ∷ others) (suc turns) names at h t s c =
    if-true _ _ _ (it-is (symbol_in source names at) symbol.Star h.0)
    ∙ ap (λ (n : ℕ). n ∷ pointers source names turns (at + 1 + n))
    (consts-read source count (all_turns source) names (at + 1) h.1 (omega arith) (next-no-const source others names (at + 1 + count) h.2 c))
    ∙ ap (λ (rest : List ℕ). count ∷ rest) (pointers-read source others turns names (at + 1 + count) h.2 (omega (arith, t)) s c)

module _ (source : Source) (parts : Parts) (depth : ℕ) (reads : ReadsParts source parts depth) where
  -- type names
  pub name-read : (names : List Declared) (it : TypeName) → IsTypeName source names it → type_name_height it ≤ depth → type_name_height it ≤ greatest_height
      → follows_declarator (symbol_in source (type_name_declares source it ++ names) (type_name_span it).after) ≡ true
      → type_name_of source parts names (type_name_span it).first ≡ Some it
  unfolding IsTypeName type_name_height type_name_declares type_name_of
  name-read names (tree.type_name span specifiers declarator) h d l f =
      let follow : follows_declarator (symbol_in source (declarator_declares source declarator ++ (specifiers_declares source specifiers ++ names)) (declarator_span declarator).after) ≡ true =
      subst (λ (all : List Declared). follows_declarator (symbol_in source all (declarator_span declarator).after) ≡ true)
      (append_assoc (declarator_declares source declarator) (specifiers_declares source specifiers) names)
      (subst (λ (at : ℕ). follows_declarator (symbol_in source ((declarator_declares source declarator ++ specifiers_declares source specifiers) ++ names) at) ≡ true) h.5 f) in
      let high : 1 ≤ specifiers_height specifiers = specifiers-high source names specifiers h.1 in
      let low : (specifiers_height specifiers ≤ depth) × (declarator_height declarator ≤ depth) = named-within (specifiers_height specifiers) declarator depth d in
      let lower : (specifiers_height specifiers ≤ greatest_height) × (declarator_height declarator ≤ greatest_height) = named-within (specifiers_height specifiers) declarator greatest_height l in
      ap (type_name_from source parts names span.first) (ap (parts.specifiers names) (sym h.0)
      ∙ reads.specifiers names specifiers h.1 low.0 lower.0
      (subst (λ (at : ℕ). follows_specifiers (symbol_in source (specifiers_declares source specifiers ++ names) at) ≡ true) h.2
      (declarator-begins source _ false declarator h.3 (declarator-specifiers _ follow))))
      ∙ ap (type_name_with span.first specifiers) (ap (parts.declarator abstract (specifiers_declares source specifiers ++ names)) (sym h.2)
      ∙ reads.declarator abstract (specifiers_declares source specifiers ++ names) declarator h.3 h.4 (omega (arith, high, low.0)) low.1 lower.1 follow)
      ∙ ap (λ (after : ℕ). Some (tree.type_name (span_of span.first after) specifiers declarator)) (sym h.5)

  -- parameters
  parameter-read : (names : List Declared) (it : Parameter) → IsParameter source names it → parameter_height it ≤ depth → parameter_height it ≤ greatest_height
      → follows_declarator (symbol_in source (parameter_declares source it ++ names) (parameter_span it).after) ≡ true
      → parameter_of source parts names (parameter_span it).first ≡ Some it
  unfolding IsParameter parameter_height parameter_of
  parameter-read names (tree.parameter span specifiers declarator) h d l f =
      let follow : follows_declarator (symbol_in source (declarator_declares source declarator ++ (specifiers_declares source specifiers ++ names)) (declarator_span declarator).after) ≡ true =
      follows-alike source (parameter_declares source (tree.parameter span specifiers declarator) ++ names) _ _
      (subst (λ (at : ℕ). follows_declarator (symbol_in source (parameter_declares source (tree.parameter span specifiers declarator) ++ names) at) ≡ true) h.4 f) in
      let high : 1 ≤ specifiers_height specifiers = specifiers-high source names specifiers h.1 in
      let low : (specifiers_height specifiers ≤ depth) × (declarator_height declarator ≤ depth) = named-within (specifiers_height specifiers) declarator depth d in
      let lower : (specifiers_height specifiers ≤ greatest_height) × (declarator_height declarator ≤ greatest_height) = named-within (specifiers_height specifiers) declarator greatest_height l in
      ap (parameter_from source parts names span.first) (ap (parts.specifiers names) (sym h.0)
      ∙ reads.specifiers names specifiers h.1 low.0 lower.0
      (subst (λ (at : ℕ). follows_specifiers (symbol_in source (specifiers_declares source specifiers ++ names) at) ≡ true) h.2
      (declarator-begins source _ true declarator h.3 (declarator-specifiers _ follow))))
      ∙ ap (parameter_with span.first specifiers) (ap (parts.declarator of_parameter (specifiers_declares source specifiers ++ names)) (sym h.2)
      ∙ reads.declarator of_parameter (specifiers_declares source specifiers ++ names) declarator h.3 tt (omega (arith, high, low.0)) low.1 lower.1 follow)
      ∙ ap (λ (after : ℕ). Some (tree.parameter (span_of span.first after) specifiers declarator)) (sym h.4)

  -- what stands behind the first of some parameters
  parameters-follow : (others : Parameters) (names : List Declared) (at : ℕ) → AreMoreParameters source names at others
      → symbol_in source (parameters_declares source others ++ names) (parameters_after at others) ≡ symbol.RightParen → follows_declarator (symbol_in source names at) ≡ true
  unfolding AreMoreParameters
  parameters-follow tree.no_parameters names at h e = ap follows_declarator e
  parameters-follow (tree.more_parameters first others) names at h e = ap follows_declarator h.0

  more-parameters-read : (it : Parameters) (turns : ℕ) (names : List Declared) (at : ℕ) → AreMoreParameters source names at it
      → parameters_height it ≤ depth → parameters_height it ≤ greatest_height → length source.tokens < at + turns
      → symbol_in source (parameters_declares source it ++ names) (parameters_after at it) ≡ symbol.RightParen → more_parameters source parts turns names at ≡ Some it
  unfolding AreMoreParameters parameters_height more_parameters
  more-parameters-read tree.no_parameters zero names at h d l t e = refl
  more-parameters-read tree.no_parameters (suc turns) names at h d l t e = if-false _ _ _ (it-is-not _ symbol.RightParen symbol.Comma e refl)
  more-parameters-read (tree.more_parameters first others) zero names at h d l t e =
      absurd (omega (arith, t, present source names at symbol.Comma h.0 (λ (it : symbol.Comma ≡ symbol.End). cc)))
  more-parameters-read (tree.more_parameters first others) (suc turns) names at h d l t e =
      let ends : symbol_in source (parameters_declares source others ++ (parameter_declares source first ++ names)) (parameters_after (parameter_span first).after others) ≡ symbol.RightParen =
      subst (λ (all : List Declared). symbol_in source all (parameters_after (parameter_span first).after others) ≡ symbol.RightParen)
      (append_assoc (parameters_declares source others) (parameter_declares source first) names) e in
      if-true _ _ _ (it-is (symbol_in source names at) symbol.Comma h.0)
      ∙ ap (more_parameters_from (λ one. more_parameters source parts turns (parameter_declares source one ++ names) (parameter_span one).after))
      (ap (parameter_of source parts names) (sym h.1)
      ∙ parameter-read names first h.2 (omega (arith, d)) (omega (arith, l)) (parameters-follow others _ _ h.3 ends))
      ∙ ap (prepend_parameter first) (more-parameters-read others turns (parameter_declares source first ++ names) (parameter_span first).after h.3 (omega (arith, d)) (omega (arith, l))
      (omega (arith, t, h.1, parameter-on source names first h.2)) ends)

  parameters-read : (it : Parameters) (names : List Declared) (at : ℕ) → AreParameters source names at it
      → parameters_height it ≤ depth → parameters_height it ≤ greatest_height
      → symbol_in source (parameters_declares source it ++ names) (parameters_after at it) ≡ symbol.RightParen → parameters_of source parts names at ≡ Some it
  unfolding AreParameters parameters_height parameters_of
  parameters-read tree.no_parameters names at h d l e = if-true _ _ _ (it-is (symbol_in source names at) symbol.RightParen e)
  parameters-read (tree.more_parameters first others) names at h d l e =
      let ends : symbol_in source (parameters_declares source others ++ (parameter_declares source first ++ names)) (parameters_after (parameter_span first).after others) ≡ symbol.RightParen =
      subst (λ (all : List Declared). symbol_in source all (parameters_after (parameter_span first).after others) ≡ symbol.RightParen)
      (append_assoc (parameters_declares source others) (parameter_declares source first) names) e in
      if-false _ _ _ (ap (λ (place : ℕ). is (symbol_in source names place) symbol.RightParen) (sym h.0) ∙ specifier-no-right-paren _ (parameter-begins source names first h.1))
      ∙ ap (more_parameters_from (λ one. more_parameters source parts (all_turns source) (parameter_declares source one ++ names) (parameter_span one).after))
      (ap (parameter_of source parts names) (sym h.0)
      ∙ parameter-read names first h.1 (omega (arith, d)) (omega (arith, l)) (parameters-follow others _ _ h.2 ends))
      ∙ ap (prepend_parameter first) (more-parameters-read others (all_turns source) (parameter_declares source first ++ names) (parameter_span first).after h.2 (omega (arith, d)) (omega (arith, l))
      (omega arith) ends)

  -- reading a direct declarator comes to where this much is read, with enough turns left
  DirectGrows : Shape → List Declared → ℕ → Direct → Type 0
  DirectGrows shape names at direct =
      (turns : ℕ) × (greatest_height ≤ turns + direct_height direct)
      × (and_then (suffixed source parts names at greatest_height) (core source parts shape names at) ≡ suffixed source parts names at turns direct)

  from-core : (shape : Shape) (names : List Declared) (at : ℕ) (direct : Direct) → core source parts shape names at ≡ Some direct → DirectGrows shape names at direct
  unfolding DirectGrows
  from-core shape names at direct e = (greatest_height, omega arith, ap (and_then (suffixed source parts names at greatest_height)) e)

  -- one more array
  array-turn : (turns : ℕ) (names : List Declared) (at : ℕ) (direct next : Direct) → greatest_height ≤ turns + direct_height direct
      → symbol_in source (direct_declares source direct ++ names) (direct_after at direct) ≡ symbol.LeftBracket
      → array_of source parts (direct_declares source direct ++ names) (direct_after at direct + 1) direct ≡ Some next
      → direct_height direct + 1 ≤ direct_height next → direct_height next ≤ greatest_height
      → (less : ℕ) × (greatest_height ≤ less + direct_height next) × (suffixed source parts names at turns direct ≡ suffixed source parts names at less next)
  unfolding suffixed
  array-turn zero names at direct next enough s e higher low = absurd (omega (arith, enough, higher, low))
  array-turn (suc turns) names at direct next enough s e higher low = (
    turns,
    omega (arith, enough, higher),
    if-true _ _ _ (it-is _ symbol.LeftBracket s) ∙ ap (and_then (suffixed source parts names at turns)) e,
  )

  -- one more function
  function-turn : (turns : ℕ) (names : List Declared) (at : ℕ) (direct next : Direct) → greatest_height ≤ turns + direct_height direct
      → symbol_in source (direct_declares source direct ++ names) (direct_after at direct) ≡ symbol.LeftParen
      → function_of source parts (direct_declares source direct ++ names) (direct_after at direct + 1) direct ≡ Some next
      → direct_height direct + 1 ≤ direct_height next → direct_height next ≤ greatest_height
      → (less : ℕ) × (greatest_height ≤ less + direct_height next) × (suffixed source parts names at turns direct ≡ suffixed source parts names at less next)
  unfolding suffixed
  function-turn zero names at direct next enough s e higher low = absurd (omega (arith, enough, higher, low))
  function-turn (suc turns) names at direct next enough s e higher low = (
    turns,
    omega (arith, enough, higher),
    if-false _ _ _ (it-is-not _ symbol.LeftParen symbol.LeftBracket s refl)
        ∙ if-true _ _ _ (it-is _ symbol.LeftParen s) ∙ ap (and_then (suffixed source parts names at turns)) e,
  )

  array-grows : (shape : Shape) (names : List Declared) (at : ℕ) (direct next : Direct) → DirectGrows shape names at direct
      → symbol_in source (direct_declares source direct ++ names) (direct_after at direct) ≡ symbol.LeftBracket
      → array_of source parts (direct_declares source direct ++ names) (direct_after at direct + 1) direct ≡ Some next
      → direct_height direct + 1 ≤ direct_height next → direct_height next ≤ greatest_height → DirectGrows shape names at next
  unfolding DirectGrows
  array-grows shape names at direct next grows s e higher low =
      let more = array-turn grows.0 names at direct next grows.1 s e higher low in (more.0, more.1, grows.2 ∙ more.2)

  function-grows : (shape : Shape) (names : List Declared) (at : ℕ) (direct next : Direct) → DirectGrows shape names at direct
      → symbol_in source (direct_declares source direct ++ names) (direct_after at direct) ≡ symbol.LeftParen
      → function_of source parts (direct_declares source direct ++ names) (direct_after at direct + 1) direct ≡ Some next
      → direct_height direct + 1 ≤ direct_height next → direct_height next ≤ greatest_height → DirectGrows shape names at next
  unfolding DirectGrows
  function-grows shape names at direct next grows s e higher low =
      let more = function-turn grows.0 names at direct next grows.1 s e higher low in (more.0, more.1, grows.2 ∙ more.2)

  -- nothing is the core where what follows is free
  nothing-read : (shape : Shape) (names : List Declared) (at : ℕ) → HasShape shape None → Free source shape names at → core source parts shape names at ≡ Some tree.absent
  unfolding core
  nothing-read named names at s f = absurd (cc)
  nothing-read abstract names at s f = if-false _ _ _ f
  nothing-read of_parameter names at s f = if-false _ _ _ f.0 ∙ if-false _ _ _ f.1

  name-core : (shape : Shape) (names : List Declared) (at name : ℕ) → HasShape shape (Some name) → is_identifier (symbol_in source names at) ≡ true → core source parts shape names at ≡ Some (tree.declared at)
  unfolding core
  name-core named names at name s i = if-true _ _ _ i
  name-core abstract names at name s i = absurd (cc)
  name-core of_parameter names at name s i = if-true _ _ _ i

  no-name-first : (shape : Shape) (names : List Declared) (at : ℕ) → symbol_in source names at ≡ symbol.LeftParen → (takes_name shape && is_identifier (symbol_in source names at)) ≡ false
  no-name-first shape names at p = second-no _ _ (ap is_identifier p)

  not-empty : (it : Declarator) → IsNotEmpty it → is_absent it ≡ false
  not-empty (tree.shaped span [] tree.absent) h = absurd h
  not-empty (tree.shaped span [] (tree.declared name)) h = refl
  not-empty (tree.shaped span [] (tree.enclosed declarator)) h = refl
  not-empty (tree.shaped span [] (tree.array direct)) h = refl
  not-empty (tree.shaped span [] (tree.sized direct length)) h = refl
  not-empty (tree.shaped span [] (tree.function direct parameters)) h = refl
  not-empty (tree.shaped span (consts ∷ others) direct) h = refl

  -- it isn't flat
  not-flat : (it : Declarator) → IsNotEmpty it → 1 ≤ declarator_height it
  unfolding declarator_height direct_height
  not-flat (tree.shaped span [] tree.absent) h = absurd h
  not-flat (tree.shaped span [] (tree.declared name)) h = omega arith
  not-flat (tree.shaped span [] (tree.enclosed declarator)) h = omega arith
  not-flat (tree.shaped span [] (tree.array direct)) h = omega arith
  not-flat (tree.shaped span [] (tree.sized direct length)) h = omega arith
  not-flat (tree.shaped span [] (tree.function direct parameters)) h = omega arith
  not-flat (tree.shaped span (consts ∷ others) direct) h = omega arith

  -- the parenthesis of a declarator
  core-enclosed : (shape : Shape) (names : List Declared) (at : ℕ) → symbol_in source names at ≡ symbol.LeftParen → encloses shape (symbol_in source names (at + 1)) ≡ true
      → core source parts shape names at ≡ enclosed_from source names (parts.declarator shape names (at + 1))
  unfolding core
  core-enclosed shape names at p e = if-false _ _ _ (no-name-first shape names at p) ∙ if-true _ _ _ (both-tests _ _ (it-is _ symbol.LeftParen p) e)

  direct-grows : (shape : Shape) (direct : Direct) (names : List Declared) (at : ℕ) → IsDirect source names (of_a_parameter shape) at direct → HasShape shape (direct_name direct)
      → direct_height direct ≤ depth + 1 → direct_height direct ≤ greatest_height
      → Free source shape (direct_declares source direct ++ names) (direct_after at direct) → DirectGrows shape names at direct
  unfolding IsDirect direct_declares direct_height array_of function_of
  direct-grows shape tree.absent names at h s d l f = from-core shape names at tree.absent (nothing-read shape names at s f)
  direct-grows shape (tree.declared name) names at h s d l f =
      from-core shape names at (tree.declared name) (name-core shape names at name s h.1 ∙ ap (λ (place : ℕ). Some (tree.declared place)) (sym h.0))
  direct-grows shape (tree.enclosed declarator) names at h s d l f =
      let inside : Opens (declarator_name declarator) (symbol_in source names (at + 1)) =
      subst (λ (place : ℕ). Opens (declarator_name declarator) (symbol_in source names place)) h.2 (opens source declarator names (of_a_parameter shape) h.3 h.4) in
      let flat : 1 ≤ declarator_height declarator = not-flat declarator h.4 in
      from-core shape names at (tree.enclosed declarator)
      (core-enclosed shape names at h.0 (encloses-it shape (declarator_name declarator) _ s h.1 inside)
      ∙ ap (enclosed_from source names) (ap (parts.declarator shape names) (sym h.2)
      ∙ reads.declarator shape names declarator h.3 s (omega (arith, d, flat)) (omega (arith, d)) (omega (arith, l)) (ap follows_declarator h.5))
      ∙ holds _ _ (both-tests _ _ (ap not (not-empty declarator h.4)) (it-is _ symbol.RightParen h.5))
      ∙ fits _ _ l)
  direct-grows shape (tree.array direct) names at h s d l f =
      array-grows shape names at direct (tree.array direct)
      (direct-grows shape direct names at h.0 s (omega (arith, d)) (omega (arith, l))
      (free-of source shape _ _ (ap is_identifier h.1) (it-is-not _ symbol.LeftBracket symbol.LeftParen h.1 refl)))
      h.1 (if-true _ _ _ (it-is _ symbol.RightBracket h.2) ∙ fits _ _ l) (omega arith) l
  direct-grows shape (tree.sized direct length) names at h s d l f =
      array-grows shape names at direct (tree.sized direct length)
      (direct-grows shape direct names at h.0 s (omega (arith, d)) (omega (arith, l))
      (free-of source shape _ _ (ap is_identifier h.1) (it-is-not _ symbol.LeftBracket symbol.LeftParen h.1 refl)))
      h.1
      (if-false _ _ _ (ap (λ (place : ℕ). is (symbol_in source (direct_declares source direct ++ names) place) symbol.RightBracket) (sym h.2) ∙ front-no-bracket _ (fronts source _ length h.3))
      ∙ ap (sized_from source (direct_declares source direct ++ names) direct) (ap (parts.expr 2 (direct_declares source direct ++ names)) (sym h.2)
      ∙ reads.expr 2 (direct_declares source direct ++ names) length h.3 h.4 (omega (arith, d)) (omega (arith, l)) (stops-none 2 _ (ap suffix_kind h.5)))
      ∙ holds _ _ (it-is _ symbol.RightBracket h.5)
      ∙ fits _ _ l) (omega arith) l
  direct-grows shape (tree.function direct parameters) names at h s d l f =
      function-grows shape names at direct (tree.function direct parameters)
      (direct-grows shape direct names at h.0 s (omega (arith, d)) (omega (arith, l))
      (free-list source shape _ _ h.1 (list-begins source _ _ parameters h.2 h.3)))
      h.1
      (ap (function_from source (direct_declares source direct ++ names) (direct_after at direct + 1) direct)
      (parameters-read parameters (direct_declares source direct ++ names) (direct_after at direct + 1) h.2 (omega (arith, d)) (omega (arith, l)) h.3)
      ∙ holds _ _ (it-is _ symbol.RightParen h.3)
      ∙ fits _ _ l) (omega arith) l

  -- nothing more is read where neither `[` nor `(` stands
  suffixed-stops : (turns : ℕ) (names : List Declared) (at : ℕ) (direct : Direct)
      → is (symbol_in source (direct_declares source direct ++ names) (direct_after at direct)) symbol.LeftBracket ≡ false
      → is (symbol_in source (direct_declares source direct ++ names) (direct_after at direct)) symbol.LeftParen ≡ false
      → suffixed source parts names at turns direct ≡ Some direct
  unfolding suffixed
  suffixed-stops zero names at direct b p = if-false _ _ _ (neither-stands _ _ b p)
  suffixed-stops (suc turns) names at direct b p = if-false _ _ _ b ∙ if-false _ _ _ p

  -- A well-formed declarator is the one that is read.
  pub declarator-read : (shape : Shape) (names : List Declared) (it : Declarator) → IsDeclarator source names (of_a_parameter shape) it → HasShape shape (declarator_name it)
      → declarator_height it ≤ depth + 1 → declarator_height it ≤ greatest_height
      → follows_declarator (symbol_in source (declarator_declares source it ++ names) (declarator_span it).after) ≡ true
      → declarator_of source parts shape names (declarator_span it).first ≡ Some it
  unfolding IsDeclarator declarator_declares declarator_of DirectGrows
  declarator-read shape names (tree.shaped span stars direct) h s d l f =
      let follow : follows_declarator (symbol_in source (direct_declares source direct ++ names) (direct_after (pointers_after span.first stars) direct)) ≡ true =
      subst (λ (at : ℕ). follows_declarator (symbol_in source (direct_declares source direct ++ names) at) ≡ true) h.2 f in
      let grown : DirectGrows shape names (pointers_after span.first stars) direct =
      direct-grows shape direct names (pointers_after span.first stars) h.1 s (direct-low stars direct (depth + 1) span d) (direct-low stars direct greatest_height span l)
      (free-of source shape _ _ (declarator-no-name _ follow) (declarator-no-paren _ follow)) in
      ap (declarator_behind source parts shape names span.first)
      (pointers-read source stars (all_turns source) names span.first h.0 (omega arith)
      (direct-symbol source direct names (of_a_parameter shape) (pointers_after span.first stars) (λ (it : Symbol). is it symbol.Star ≡ false) h.1 (declarator-no-star _ follow) refl refl identifier-no-star)
      (direct-symbol source direct names (of_a_parameter shape) (pointers_after span.first stars) (λ (it : Symbol). is it symbol.Const ≡ false) h.1 (declarator-no-const _ follow) refl refl identifier-no-const))
      ∙ ap (declarator_with span.first stars) (grown.2
      ∙ suffixed-stops grown.0 names (pointers_after span.first stars) direct (declarator-no-bracket _ follow) (declarator-no-paren _ follow))
      ∙ ap (λ (after : ℕ). checked (declarator_height (tree.shaped (span_of span.first after) stars direct)) (tree.shaped (span_of span.first after) stars direct)) (sym h.2)
      ∙ fits _ _ l

  -- In front of a function's body, a well-formed declarator with a name is the one that is read.
  pub declarator-before-body : (names : List Declared) (it : Declarator) → IsDeclarator source names false it → IsSome (declarator_name it)
      → declarator_height it ≤ depth + 1 → declarator_height it ≤ greatest_height
      → symbol_in source (declarator_declares source it ++ names) (declarator_span it).after ≡ symbol.LeftBrace
      → declarator_of source parts named names (declarator_span it).first ≡ Some it
  unfolding IsDeclarator declarator_declares declarator_of DirectGrows
  declarator-before-body names (tree.shaped span stars direct) h s d l b =
      let brace : symbol_in source (direct_declares source direct ++ names) (direct_after (pointers_after span.first stars) direct) ≡ symbol.LeftBrace =
      subst (λ (at : ℕ). symbol_in source (direct_declares source direct ++ names) at ≡ symbol.LeftBrace) h.2 b in
      let grown : DirectGrows named names (pointers_after span.first stars) direct =
      direct-grows named direct names (pointers_after span.first stars) h.1 s (direct-low stars direct (depth + 1) span d) (direct-low stars direct greatest_height span l) tt in
      ap (declarator_behind source parts named names span.first)
      (pointers-read source stars (all_turns source) names span.first h.0 (omega arith)
      (direct-symbol source direct names false (pointers_after span.first stars) (λ (it : Symbol). is it symbol.Star ≡ false) h.1 (it-is-not _ symbol.LeftBrace symbol.Star brace refl) refl refl identifier-no-star)
      (direct-symbol source direct names false (pointers_after span.first stars) (λ (it : Symbol). is it symbol.Const ≡ false) h.1 (it-is-not _ symbol.LeftBrace symbol.Const brace refl) refl refl identifier-no-const))
      ∙ ap (declarator_with span.first stars) (grown.2
      ∙ suffixed-stops grown.0 names (pointers_after span.first stars) direct (it-is-not _ symbol.LeftBrace symbol.LeftBracket brace refl) (it-is-not _ symbol.LeftBrace symbol.LeftParen brace refl))
      ∙ ap (λ (after : ℕ). checked (declarator_height (tree.shaped (span_of span.first after) stars direct)) (tree.shaped (span_of span.first after) stars direct)) (sym h.2)
      ∙ fits _ _ l
