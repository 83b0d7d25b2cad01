-- What trees begin with, and what may stand behind them.
use Rattle.std.proofs.Common.{◌≡◌, ℕ, Bool, true, false, List, [], ◌∷◌, Some, None, IsSome, refl, sym, ap, ◌∙◌, arith, subst}
use Rattle.dm_syn.specs.declared.declared.Declared.{Declared}
use Rattle.dm_syn.specs.declared.symbol.Symbol.{Symbol}
use Rattle.dm_syn.specs.declared.symbol.Symbol.TheVariants as symbol
use Rattle.dm_syn.specs.Symbols.{is, is_identifier, begins_specifiers}
use Rattle.dm_syn.specs.Sources.{Source, symbol_at, symbol_in, seen_as, names_type, spelling_at}
use Rattle.dm_syn.specs.Trees.{Expr, Declarator, Direct, Initialiser, Declaration, Stmt, SwitchItem}
use Rattle.dm_syn.specs.Trees as tree
use Rattle.dm_syn.specs.Spans.{declarator_span, initialiser_span, declaration_span, stmt_span, switch_item_span}
use Rattle.dm_syn.specs.Scopes.{declarator_name, direct_name}
use Rattle.dm_syn.specs.Grammar.{IsDeclarator, IsDirect}
use Rattle.dm_syn.specs.Statements.{IsInitialiser, IsDeclaration, IsStmt, IsSwitchItem}
use Rattle.dm_pexpr.specs.Parsing.{front_kind, no_front, suffix_kind}
use Rattle.dm_pexpr.proofs.SymbolLemmas.{Stops, is-same}
use Rattle.dm_pexpr.proofs.SymbolTests.{is-it}
use Rattle.dm_pexpr.proofs.SpecifierSymbols.{follows_declarator}
use Rattle.dm_pexpr.proofs.Expressions.{fronts}
use Rattle.dm_pexpr.proofs.Declarators.{specifiers-begin, it-is-not}
use Rattle.dm_pexpr.proofs.TestLemmas.{unless}
use Rattle.dm_pstmt.specs.Parsing.{stands, evaluating, lead_kind}
use Rattle.dm_pstmt.proofs.Results.{in-symbol}

-- a symbol that is no identifier is seen where it stands, and no other
pub stands-there : (source : Source) (names : List Declared) (at : ℕ) (it : Symbol) → symbol_at source at ≡ it → is_identifier it ≡ false → stands source names at it ≡ true
stands-there source names at it h k = ap (λ (this : Symbol). is this it) (in-symbol source names at it h k) ∙ is-same it

pub stands-not : (source : Source) (names : List Declared) (at : ℕ) (it other : Symbol) → symbol_at source at ≡ it → is_identifier it ≡ false → is it other ≡ false → stands source names at other ≡ false
stands-not source names at it other h k d = ap (λ (this : Symbol). is this other) (in-symbol source names at it h k) ∙ d

-- a declarator with a name begins with `*`, `(` or an identifier
named-direct : (source : Source) (P : Symbol → Type 0) (names : List Declared) (flag : Bool) (at : ℕ) (it : Direct) → IsDirect source names flag at it → IsSome (direct_name it)
    → P symbol.LeftParen → ((this : Symbol) → is_identifier this ≡ true → P this) → P (symbol_in source names at)
unfolding IsDirect
named-direct source P names flag at tree.absent h n paren identifier = absurd (cc)
named-direct source P names flag at (tree.declared name) h n paren identifier = identifier _ h.1
named-direct source P names flag at (tree.enclosed declarator) h n paren identifier = subst P (sym h.0) paren
named-direct source P names flag at (tree.array direct) h n paren identifier = named-direct source P names flag at direct h.0 n paren identifier
named-direct source P names flag at (tree.sized direct length) h n paren identifier = named-direct source P names flag at direct h.0 n paren identifier
named-direct source P names flag at (tree.function direct parameters) h n paren identifier = named-direct source P names flag at direct h.0 n paren identifier

pub named-begins : (source : Source) (P : Symbol → Type 0) (names : List Declared) (flag : Bool) (it : Declarator) → IsDeclarator source names flag it → IsSome (declarator_name it)
    → P symbol.Star → P symbol.LeftParen → ((this : Symbol) → is_identifier this ≡ true → P this) → P (symbol_in source names (declarator_span it).first)
unfolding IsDeclarator
named-begins source P names flag (tree.shaped span [] direct) h n star paren identifier = named-direct source P names flag span.first direct h.1 n paren identifier
named-begins source P names flag (tree.shaped span (consts ∷ others) direct) h n star paren identifier = subst P (sym h.0.0) star

-- an identifier is no semicolon
pub identifier-no-semicolon : (it : Symbol) → is_identifier it ≡ true → is it symbol.Semicolon ≡ false
identifier-no-semicolon symbol.Identifier h = refl
identifier-no-semicolon symbol.TypedefName h = refl
identifier-no-semicolon _ h = cc

-- what stands behind an initialiser
abbrev pub ends_initialiser : Symbol → Bool
ends_initialiser symbol.Comma = true
ends_initialiser symbol.RightBrace = true
ends_initialiser symbol.Semicolon = true
ends_initialiser _ = false

-- what stands behind a declarator or its initialiser
abbrev pub ends_item : Symbol → Bool
ends_item symbol.Comma = true
ends_item symbol.Semicolon = true
ends_item _ = false

pub item-initialiser : (it : Symbol) → ends_item it ≡ true → ends_initialiser it ≡ true
item-initialiser symbol.Comma h = refl
item-initialiser symbol.Semicolon h = refl
item-initialiser _ h = absurd (cc)

pub item-declarator : (it : Symbol) → ends_item it ≡ true → follows_declarator it ≡ true
item-declarator symbol.Comma h = refl
item-declarator symbol.Semicolon h = refl
item-declarator _ h = absurd (cc)

pub item-no-equals : (it : Symbol) → ends_item it ≡ true → is it symbol.Equals ≡ false
item-no-equals symbol.Comma h = refl
item-no-equals symbol.Semicolon h = refl
item-no-equals _ h = absurd (cc)

pub item-no-brace : (it : Symbol) → ends_item it ≡ true → is it symbol.LeftBrace ≡ false
item-no-brace symbol.Comma h = refl
item-no-brace symbol.Semicolon h = refl
item-no-brace _ h = absurd (cc)

pub initialiser-stops : (it : Symbol) → ends_initialiser it ≡ true → Stops 1 (suffix_kind it)
initialiser-stops symbol.Comma h = omega arith
initialiser-stops symbol.RightBrace h = tt
initialiser-stops symbol.Semicolon h = tt
initialiser-stops _ h = absurd (cc)

ends-seen : (it : Symbol) (names : Bool) → ends_initialiser it ≡ true → seen_as it names ≡ it
ends-seen symbol.Identifier names h = cc
ends-seen _ names h = refl

pub ends-in : (source : Source) (names : List Declared) (at : ℕ) → ends_initialiser (symbol_at source at) ≡ true → symbol_in source names at ≡ symbol_at source at
unfolding symbol_in
ends-in source names at h = ends-seen (symbol_at source at) (names_type source names (spelling_at source at)) h

-- an expression begins with no brace
pub front-no-left-brace : (it : Symbol) → (front_kind it ≡ no_front → ⊥) → is it symbol.LeftBrace ≡ false
front-no-left-brace symbol.LeftBrace h = absurd (h refl)
front-no-left-brace _ h = refl

pub front-no-right-brace : (it : Symbol) → (front_kind it ≡ no_front → ⊥) → is it symbol.RightBrace ≡ false
front-no-right-brace symbol.RightBrace h = absurd (h refl)
front-no-right-brace _ h = refl

pub front-evaluates : (it : Symbol) → (front_kind it ≡ no_front → ⊥) → lead_kind it ≡ evaluating
front-evaluates symbol.LeftBrace h = absurd (h refl)
front-evaluates symbol.If h = absurd (h refl)
front-evaluates symbol.Switch h = absurd (h refl)
front-evaluates symbol.While h = absurd (h refl)
front-evaluates symbol.Do h = absurd (h refl)
front-evaluates symbol.For h = absurd (h refl)
front-evaluates symbol.Break h = absurd (h refl)
front-evaluates symbol.Continue h = absurd (h refl)
front-evaluates symbol.Return h = absurd (h refl)
front-evaluates _ h = refl

-- and with nothing that no expression begins with
pub front-not : (it other : Symbol) → (front_kind it ≡ no_front → ⊥) → front_kind other ≡ no_front → is it other ≡ false
front-not it other h n = unless (is it other) (λ same. h (ap front_kind (is-it it other same) ∙ n))

pub initialiser-begins : (source : Source) (names : List Declared) (it : Initialiser) → IsInitialiser source names it → is (symbol_in source names (initialiser_span it).first) symbol.RightBrace ≡ false
unfolding IsInitialiser
initialiser-begins source names (tree.value span expr) h =
    ap (λ (at : ℕ). is (symbol_in source names at) symbol.RightBrace) (sym h.0) ∙ front-no-right-brace _ (fronts source names expr h.1)
initialiser-begins source names (tree.braces span tree.no_initialisers trailing) h = absurd h
initialiser-begins source names (tree.braces span (tree.more_initialisers first others) trailing) h = it-is-not _ symbol.LeftBrace symbol.RightBrace h.0 refl

pub declaration-begins : (source : Source) (names : List Declared) (it : Declaration) → IsDeclaration source names it → begins_specifiers (symbol_in source names (declaration_span it).first) ≡ true
unfolding IsDeclaration
declaration-begins source names (tree.declaring span specifiers items) h =
    ap (λ (at : ℕ). begins_specifiers (symbol_in source names at)) (sym h.0) ∙ specifiers-begin source names specifiers h.1

-- what no statement begins with is all that declarations, labels and the end of a block begin with
abbrev pub begins_stmt : Symbol → Bool
begins_stmt symbol.RightBrace = false
begins_stmt symbol.Case = false
begins_stmt symbol.Default = false
begins_stmt symbol.TypedefName = false
begins_stmt symbol.Const = false
begins_stmt symbol.Typedef = false
begins_stmt symbol.Storage = false
begins_stmt symbol.TypeWord = false
begins_stmt symbol.Struct = false
begins_stmt symbol.Enum = false
begins_stmt _ = true

front-begins : (it : Symbol) → (front_kind it ≡ no_front → ⊥) → begins_stmt it ≡ true
front-begins symbol.RightBrace h = absurd (h refl)
front-begins symbol.Case h = absurd (h refl)
front-begins symbol.Default h = absurd (h refl)
front-begins symbol.TypedefName h = absurd (h refl)
front-begins symbol.Const h = absurd (h refl)
front-begins symbol.Typedef h = absurd (h refl)
front-begins symbol.Storage h = absurd (h refl)
front-begins symbol.TypeWord h = absurd (h refl)
front-begins symbol.Struct h = absurd (h refl)
front-begins symbol.Enum h = absurd (h refl)
front-begins _ h = refl

pub stmt-begins : (source : Source) (names : List Declared) (it : Stmt) → IsStmt source names it → begins_stmt (symbol_in source names (stmt_span it).first) ≡ true
unfolding IsStmt
stmt-begins source names (tree.block span items) h = ap begins_stmt h.0
stmt-begins source names (tree.expression span None) h = ap begins_stmt h.1
stmt-begins source names (tree.expression span (Some expr)) h =
    ap (λ (at : ℕ). begins_stmt (symbol_in source names at)) (sym h.0.0) ∙ front-begins _ (fronts source names expr h.0.1)
stmt-begins source names (tree.if_only span condition body) h = ap begins_stmt h.0
stmt-begins source names (tree.if_else span condition body other) h = ap begins_stmt h.0
stmt-begins source names (tree.switch span subject items) h = ap begins_stmt h.0
stmt-begins source names (tree.while span condition body) h = ap begins_stmt h.0
stmt-begins source names (tree.do_while span body condition) h = ap begins_stmt h.0
stmt-begins source names (tree.for_loop span start condition step body) h = ap begins_stmt h.0
stmt-begins source names (tree.break span) h = ap begins_stmt h.0
stmt-begins source names (tree.continue span) h = ap begins_stmt h.0
stmt-begins source names (tree.return span expr) h = ap begins_stmt h.0

pub stmt-no-right-brace : (it : Symbol) → begins_stmt it ≡ true → is it symbol.RightBrace ≡ false
stmt-no-right-brace symbol.RightBrace h = absurd (cc)
stmt-no-right-brace _ h = refl

pub stmt-no-case : (it : Symbol) → begins_stmt it ≡ true → is it symbol.Case ≡ false
stmt-no-case symbol.Case h = absurd (cc)
stmt-no-case _ h = refl

pub stmt-no-default : (it : Symbol) → begins_stmt it ≡ true → is it symbol.Default ≡ false
stmt-no-default symbol.Default h = absurd (cc)
stmt-no-default _ h = refl

pub stmt-no-specifier : (it : Symbol) → begins_stmt it ≡ true → begins_specifiers it ≡ false
stmt-no-specifier symbol.TypedefName h = absurd (cc)
stmt-no-specifier symbol.Const h = absurd (cc)
stmt-no-specifier symbol.Typedef h = absurd (cc)
stmt-no-specifier symbol.Storage h = absurd (cc)
stmt-no-specifier symbol.TypeWord h = absurd (cc)
stmt-no-specifier symbol.Struct h = absurd (cc)
stmt-no-specifier symbol.Enum h = absurd (cc)
stmt-no-specifier _ h = refl

pub labelled-begins : (source : Source) (names : List Declared) (it : SwitchItem) → IsSwitchItem source names it → is (symbol_in source names (switch_item_span it).first) symbol.RightBrace ≡ false
unfolding IsSwitchItem
labelled-begins source names (tree.case span label item) h = it-is-not _ symbol.Case symbol.RightBrace h.0 refl
labelled-begins source names (tree.default span item) h = it-is-not _ symbol.Default symbol.RightBrace h.0 refl
labelled-begins source names (tree.unlabelled span stmt) h =
    ap (λ (at : ℕ). is (symbol_in source names at) symbol.RightBrace) (sym h.0) ∙ stmt-no-right-brace _ (stmt-begins source names stmt h.1)
