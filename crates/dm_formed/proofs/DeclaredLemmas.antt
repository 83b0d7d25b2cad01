-- What a tree declares depends on the tokens alone, and not on what names stand for where nothing declares them. So where two lists of
-- declarations say the same of every name, they do behind the tree too.
use Rattle.std.specs.Prelude.{◌≡◌, ℕ, Bool, false, ◌||◌, List, [], ◌∷◌, ◌++◌, Option, Some, None, bytes_eq, if◌then◌else◌, refl}
use Rattle.std.proofs.Common.{ap, ◌∙◌, subst}
use Rattle.dm_token.specs.declared.token.CToken.{CToken}
use Rattle.dm_syn.specs.declared.declared.Declared.{Declared}
use Rattle.dm_syn.specs.Sources.{Source, names_type, symbol_at, spelling_at}
use Rattle.dm_syn.specs.Trees.{Expr, Exprs, TypeName, Specifiers, Words, Specifier, Members, Member, Declarators, Enumerators, Enumerator, Declarator, Direct, Parameters, Parameter, Initialiser, Initialisers, Item, Declaration, ForStart, Stmt, BlockItem, SwitchItem, External}
use Rattle.dm_syn.specs.Trees as tree
use Rattle.dm_syn.specs.Scopes.{declarator_name, declaration_of, expr_declares, exprs_declares, type_name_declares, specifiers_declares, words_declares, specifier_declares, members_declares, member_declares, declarators_declares, enumerators_declares, enumerator_declares, declarator_declares, direct_declares, parameter_declares, parameters_declares, initialiser_declares, initialisers_declares, named_declares, item_declares, items_declares, is_typedef_symbol, has_typedef, defines_types, declaration_declares, optional_declares, start_declares, stmt_declares, block_item_declares, switch_item_declares, external_declares}
use Rattle.dm_syn.specs.Statements.{body_declares}

-- these tokens, where such names that nothing declares are types
abbrev pub source_of : List CToken → (List ℕ → Bool) → Source
source_of tokens outer = record { tokens = tokens; outer = outer }

-- ---- what is declared

module _ (tokens : List CToken) (one other : List ℕ → Bool) where
  abbrev here : Source
  here = source_of tokens one

  abbrev there : Source
  there = source_of tokens other

  entry-same : (is_type : Bool) (name : Option ℕ) → declaration_of here is_type name ≡ declaration_of there is_type name
  unfolding spelling_at
  entry-same is_type None = refl
  entry-same is_type (Some name) = refl

  mutual
    unfolding expr_declares

    expr-same : (it : Expr) → expr_declares here it ≡ expr_declares there it
    expr-same (tree.name span) = refl
    expr-same (tree.constant span) = refl
    expr-same (tree.literal span) = refl
    expr-same (tree.paren span inner) = expr-same inner
    expr-same (tree.index span left right) = λ i. expr-same right i ++ expr-same left i
    expr-same (tree.call span callee arguments) = λ i. exprs-same arguments i ++ expr-same callee i
    expr-same (tree.member span left name) = expr-same left
    expr-same (tree.arrow span left name) = expr-same left
    expr-same (tree.postfix span left operator) = expr-same left
    expr-same (tree.prefix span operator operand) = expr-same operand
    expr-same (tree.sizeof_expr span operand) = expr-same operand
    expr-same (tree.sizeof_name span name) = type-name-same name
    expr-same (tree.cast span name operand) = λ i. expr-same operand i ++ type-name-same name i
    expr-same (tree.binary span left operator right) = λ i. expr-same right i ++ expr-same left i
    expr-same (tree.conditional span first second third) = λ i. expr-same third i ++ (expr-same second i ++ expr-same first i)
    expr-same (tree.assign span left operator right) = λ i. expr-same right i ++ expr-same left i
    expr-same (tree.comma span parts) = exprs-same parts

    exprs-same : (all : Exprs) → exprs_declares here all ≡ exprs_declares there all
    exprs-same tree.no_exprs = refl
    exprs-same (tree.more_exprs first others) = λ i. exprs-same others i ++ expr-same first i

    type-name-same : (it : TypeName) → type_name_declares here it ≡ type_name_declares there it
    type-name-same (tree.type_name span specifiers declarator) = λ i. declarator-same declarator i ++ specifiers-same specifiers i

    specifiers-same : (it : Specifiers) → specifiers_declares here it ≡ specifiers_declares there it
    specifiers-same (tree.listed span words) = words-same words

    words-same : (all : Words) → words_declares here all ≡ words_declares there all
    words-same tree.no_words = refl
    words-same (tree.more_words first others) = λ i. words-same others i ++ specifier-same first i

    specifier-same : (it : Specifier) → specifier_declares here it ≡ specifier_declares there it
    specifier-same (tree.keyword at) = refl
    specifier-same (tree.typedef_name at) = refl
    specifier-same (tree.struct_only span tag) = refl
    specifier-same (tree.struct_with span tag members) = members-same members
    specifier-same (tree.enum_only span tag trailing) = refl
    specifier-same (tree.enum_with span tag enumerators trailing) = enumerators-same enumerators

    members-same : (all : Members) → members_declares here all ≡ members_declares there all
    members-same tree.no_members = refl
    members-same (tree.more_members first others) = λ i. members-same others i ++ member-same first i

    member-same : (it : Member) → member_declares here it ≡ member_declares there it
    member-same (tree.members span specifiers declarators) = λ i. declarators-same declarators i ++ specifiers-same specifiers i

    declarators-same : (all : Declarators) → declarators_declares here all ≡ declarators_declares there all
    declarators-same tree.no_declarators = refl
    declarators-same (tree.more_declarators first others) = λ i. declarators-same others i ++ declarator-same first i

    enumerators-same : (all : Enumerators) → enumerators_declares here all ≡ enumerators_declares there all
    enumerators-same tree.no_enumerators = refl
    enumerators-same (tree.more_enumerators first others) = λ i. enumerators-same others i ++ enumerator-same first i

    enumerator-same : (it : Enumerator) → enumerator_declares here it ≡ enumerator_declares there it
    enumerator-same (tree.bare span name) = entry-same false (Some name)
    enumerator-same (tree.valued span name value) = λ i. entry-same false (Some name) i ++ expr-same value i

    declarator-same : (it : Declarator) → declarator_declares here it ≡ declarator_declares there it
    declarator-same (tree.shaped span pointers direct) = direct-same direct

    direct-same : (it : Direct) → direct_declares here it ≡ direct_declares there it
    direct-same tree.absent = refl
    direct-same (tree.declared name) = refl
    direct-same (tree.enclosed declarator) = declarator-same declarator
    direct-same (tree.array direct) = direct-same direct
    direct-same (tree.sized direct length) = λ i. expr-same length i ++ direct-same direct i
    direct-same (tree.function direct _) = direct-same direct

  parameter-same : (it : Parameter) → parameter_declares here it ≡ parameter_declares there it
  parameter-same (tree.parameter span specifiers declarator) = λ i. entry-same false (declarator_name declarator) i ++ (declarator-same declarator i ++ specifiers-same specifiers i)

  parameters-same : (all : Parameters) → parameters_declares here all ≡ parameters_declares there all
  parameters-same tree.no_parameters = refl
  parameters-same (tree.more_parameters first others) = λ i. parameters-same others i ++ parameter-same first i

  body-same : (it : Option Parameters) → body_declares here it ≡ body_declares there it
  body-same None = refl
  body-same (Some parameters) = parameters-same parameters

  mutual
    unfolding initialiser_declares

    initialiser-same : (it : Initialiser) → initialiser_declares here it ≡ initialiser_declares there it
    initialiser-same (tree.value span expr) = expr-same expr
    initialiser-same (tree.braces span items trailing) = initialisers-same items

    initialisers-same : (all : Initialisers) → initialisers_declares here all ≡ initialisers_declares there all
    initialisers-same tree.no_initialisers = refl
    initialisers-same (tree.more_initialisers first others) = λ i. initialisers-same others i ++ initialiser-same first i

  named-same : (is_type : Bool) (it : Declarator) → named_declares here is_type it ≡ named_declares there is_type it
  named-same is_type it = λ i. entry-same is_type (declarator_name it) i ++ declarator-same it i

  item-same : (is_type : Bool) (it : Item) → item_declares here is_type it ≡ item_declares there is_type it
  unfolding item_declares
  item-same is_type (tree.plain span declarator) = named-same is_type declarator
  item-same is_type (tree.initialised span declarator initialiser) = λ i. initialiser-same initialiser i ++ named-same is_type declarator i

  items-same : (is_type : Bool) (it : List Item) → items_declares here is_type it ≡ items_declares there is_type it
  unfolding items_declares
  items-same is_type [] = refl
  items-same is_type (first ∷ others) = λ i. items-same is_type others i ++ item-same is_type first i

  typedef-same : (all : Words) → has_typedef here all ≡ has_typedef there all
  unfolding symbol_at
  typedef-same tree.no_words = refl
  typedef-same (tree.more_words (tree.keyword at) others) = ap (λ found. is_typedef_symbol (symbol_at here at) || found) (typedef-same others)
  typedef-same (tree.more_words _ others) = typedef-same others

  -- whether `typedef` stands among specifiers
  pub defines-same : (it : Specifiers) → defines_types here it ≡ defines_types there it
  defines-same (tree.listed span words) = typedef-same words

  -- what the declarators behind specifiers declare
  declared-same : (specifiers : Specifiers) (items : List Item) → items_declares here (defines_types here specifiers) items ≡ items_declares there (defines_types there specifiers) items
  declared-same specifiers items = items-same (defines_types here specifiers) items ∙ ap (λ is_type. items_declares there is_type items) (defines-same specifiers)

  definition-same : (specifiers : Specifiers) (it : Declarator) → named_declares here (defines_types here specifiers) it ≡ named_declares there (defines_types there specifiers) it
  definition-same specifiers it = named-same (defines_types here specifiers) it ∙ ap (λ is_type. named_declares there is_type it) (defines-same specifiers)

  declaration-same : (it : Declaration) → declaration_declares here it ≡ declaration_declares there it
  unfolding declaration_declares
  declaration-same (tree.declaring span specifiers items) = λ i. declared-same specifiers items i ++ specifiers-same specifiers i

  optional-same : (it : Option Expr) → optional_declares here it ≡ optional_declares there it
  optional-same None = refl
  optional-same (Some expr) = expr-same expr

  start-same : (it : ForStart) → start_declares here it ≡ start_declares there it
  start-same (tree.declares declaration) = declaration-same declaration
  start-same (tree.evaluates expr) = optional-same expr

  stmt-same : (it : Stmt) → stmt_declares here it ≡ stmt_declares there it
  unfolding stmt_declares
  stmt-same (tree.expression span expr) = optional-same expr
  stmt-same (tree.return span expr) = optional-same expr
  stmt-same _ = refl

  block-item-same : (it : BlockItem) → block_item_declares here it ≡ block_item_declares there it
  unfolding block_item_declares
  block-item-same (tree.declared_item declaration) = declaration-same declaration
  block-item-same (tree.stated_item stmt) = stmt-same stmt

  switch-item-same : (it : SwitchItem) → switch_item_declares here it ≡ switch_item_declares there it
  unfolding switch_item_declares
  switch-item-same (tree.case span label item) = λ i. switch-item-same item i ++ expr-same label i
  switch-item-same (tree.default span item) = switch-item-same item
  switch-item-same (tree.unlabelled span stmt) = stmt-same stmt

  external-same : (it : External) → external_declares here it ≡ external_declares there it
  unfolding external_declares
  external-same (tree.external span declaration) = declaration-same declaration
  external-same (tree.definition span specifiers declarator body) =
      λ i. definition-same specifiers declarator i ++ specifiers-same specifiers i

-- ---- what names stand for

-- With these two lists of declarations in scope every name stands for the same: a type in both, or in neither.
pub record Agree (tokens : List CToken) (one other : List ℕ → Bool) (names these : List Declared) : Type 0 where
  pub says : (name : List ℕ) → names_type (source_of tokens one) names name ≡ names_type (source_of tokens other) these name

module _ {tokens : List CToken} {one other : List ℕ → Bool} {names these : List Declared} (a : Agree tokens one other names these) where
  behind-more : (more : List Declared) (name : List ℕ) → names_type (source_of tokens one) (more ++ names) name ≡ names_type (source_of tokens other) (more ++ these) name
  unfolding names_type
  behind-more [] name = a.says name
  behind-more (latest ∷ others) name = λ i. if bytes_eq latest.name name then latest.is_type else behind-more others name i

  -- they still do behind what is declared besides
  pub behind : {more others : List Declared} → more ≡ others → Agree tokens one other (more ++ names) (others ++ these)
  behind {more = more} same = subst (λ last. Agree tokens one other (more ++ names) (last ++ these)) same (record { says = behind-more more })

  pub behind-expr : (it : Expr) → Agree tokens one other (expr_declares (source_of tokens one) it ++ names) (expr_declares (source_of tokens other) it ++ these)
  behind-expr it = behind (expr-same tokens one other it)

  pub behind-exprs : (it : Exprs) → Agree tokens one other (exprs_declares (source_of tokens one) it ++ names) (exprs_declares (source_of tokens other) it ++ these)
  behind-exprs it = behind (exprs-same tokens one other it)

  pub behind-type-name : (it : TypeName) → Agree tokens one other (type_name_declares (source_of tokens one) it ++ names) (type_name_declares (source_of tokens other) it ++ these)
  behind-type-name it = behind (type-name-same tokens one other it)

  pub behind-specifiers : (it : Specifiers) → Agree tokens one other (specifiers_declares (source_of tokens one) it ++ names) (specifiers_declares (source_of tokens other) it ++ these)
  behind-specifiers it = behind (specifiers-same tokens one other it)

  pub behind-specifier : (it : Specifier) → Agree tokens one other (specifier_declares (source_of tokens one) it ++ names) (specifier_declares (source_of tokens other) it ++ these)
  behind-specifier it = behind (specifier-same tokens one other it)

  pub behind-members : (it : Members) → Agree tokens one other (members_declares (source_of tokens one) it ++ names) (members_declares (source_of tokens other) it ++ these)
  behind-members it = behind (members-same tokens one other it)

  pub behind-member : (it : Member) → Agree tokens one other (member_declares (source_of tokens one) it ++ names) (member_declares (source_of tokens other) it ++ these)
  behind-member it = behind (member-same tokens one other it)

  pub behind-declarators : (it : Declarators) → Agree tokens one other (declarators_declares (source_of tokens one) it ++ names) (declarators_declares (source_of tokens other) it ++ these)
  behind-declarators it = behind (declarators-same tokens one other it)

  pub behind-enumerators : (it : Enumerators) → Agree tokens one other (enumerators_declares (source_of tokens one) it ++ names) (enumerators_declares (source_of tokens other) it ++ these)
  behind-enumerators it = behind (enumerators-same tokens one other it)

  pub behind-enumerator : (it : Enumerator) → Agree tokens one other (enumerator_declares (source_of tokens one) it ++ names) (enumerator_declares (source_of tokens other) it ++ these)
  behind-enumerator it = behind (enumerator-same tokens one other it)

  pub behind-declarator : (it : Declarator) → Agree tokens one other (declarator_declares (source_of tokens one) it ++ names) (declarator_declares (source_of tokens other) it ++ these)
  behind-declarator it = behind (declarator-same tokens one other it)

  pub behind-direct : (it : Direct) → Agree tokens one other (direct_declares (source_of tokens one) it ++ names) (direct_declares (source_of tokens other) it ++ these)
  behind-direct it = behind (direct-same tokens one other it)

  pub behind-parameter : (it : Parameter) → Agree tokens one other (parameter_declares (source_of tokens one) it ++ names) (parameter_declares (source_of tokens other) it ++ these)
  behind-parameter it = behind (parameter-same tokens one other it)

  pub behind-parameters : (it : Parameters) → Agree tokens one other (parameters_declares (source_of tokens one) it ++ names) (parameters_declares (source_of tokens other) it ++ these)
  behind-parameters it = behind (parameters-same tokens one other it)

  pub behind-initialiser : (it : Initialiser) → Agree tokens one other (initialiser_declares (source_of tokens one) it ++ names) (initialiser_declares (source_of tokens other) it ++ these)
  behind-initialiser it = behind (initialiser-same tokens one other it)

  pub behind-initialisers : (it : Initialisers) → Agree tokens one other (initialisers_declares (source_of tokens one) it ++ names) (initialisers_declares (source_of tokens other) it ++ these)
  behind-initialisers it = behind (initialisers-same tokens one other it)

  pub behind-optional : (it : Option Expr) → Agree tokens one other (optional_declares (source_of tokens one) it ++ names) (optional_declares (source_of tokens other) it ++ these)
  behind-optional it = behind (optional-same tokens one other it)

  pub behind-start : (it : ForStart) → Agree tokens one other (start_declares (source_of tokens one) it ++ names) (start_declares (source_of tokens other) it ++ these)
  behind-start it = behind (start-same tokens one other it)

  pub behind-block-item : (it : BlockItem) → Agree tokens one other (block_item_declares (source_of tokens one) it ++ names) (block_item_declares (source_of tokens other) it ++ these)
  behind-block-item it = behind (block-item-same tokens one other it)

  pub behind-switch-item : (it : SwitchItem) → Agree tokens one other (switch_item_declares (source_of tokens one) it ++ names) (switch_item_declares (source_of tokens other) it ++ these)
  behind-switch-item it = behind (switch-item-same tokens one other it)

  pub behind-external : (it : External) → Agree tokens one other (external_declares (source_of tokens one) it ++ names) (external_declares (source_of tokens other) it ++ these)
  behind-external it = behind (external-same tokens one other it)

  pub behind-body : (it : Option Parameters) → Agree tokens one other (body_declares (source_of tokens one) it ++ names) (body_declares (source_of tokens other) it ++ these)
  behind-body it = behind (body-same tokens one other it)

  pub behind-named : (is_type : Bool) (it : Declarator) → Agree tokens one other (named_declares (source_of tokens one) is_type it ++ names) (named_declares (source_of tokens other) is_type it ++ these)
  behind-named is_type it = behind (named-same tokens one other is_type it)

  pub behind-item : (is_type : Bool) (it : Item) → Agree tokens one other (item_declares (source_of tokens one) is_type it ++ names) (item_declares (source_of tokens other) is_type it ++ these)
  behind-item is_type it = behind (item-same tokens one other is_type it)

  pub behind-declared : (specifiers : Specifiers) (items : List Item)
      → Agree tokens one other (items_declares (source_of tokens one) (defines_types (source_of tokens one) specifiers) items ++ names)
      (items_declares (source_of tokens other) (defines_types (source_of tokens other) specifiers) items ++ these)
  behind-declared specifiers items = behind (declared-same tokens one other specifiers items)

  pub behind-definition : (specifiers : Specifiers) (it : Declarator)
      → Agree tokens one other (named_declares (source_of tokens one) (defines_types (source_of tokens one) specifiers) it ++ names)
      (named_declares (source_of tokens other) (defines_types (source_of tokens other) specifiers) it ++ these)
  behind-definition specifiers it = behind (definition-same tokens one other specifiers it)
